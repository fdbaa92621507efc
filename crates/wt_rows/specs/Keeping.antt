-- What a change of a form keeps of its rows.
use Rattle.std.specs.Prelude.{Bool, true, false, List}
use Rattle.wt_bag.specs.Bags.{SameSums, SameElements}
use Rattle.wt_rows.specs.FormRows.{FormRow}

-- all rows as a bag at the top; inside a nested form, which rows occur
abbrev pub Keeps : Bool → List FormRow → List FormRow → Type 0
Keeps false xs ys = SameSums xs ys
Keeps true xs ys = SameElements xs ys
