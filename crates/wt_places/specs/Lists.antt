-- Lists inside a form, from lists of their elements.
use Rattle.std.specs.Prelude.{List, [], ◌∷◌}
use Rattle.wt_form.specs.Trees.{Ranges, no_ranges, range_then, FormRange, Conds, no_conds, cond_then, Cond}

abbrev pub conds_from : List Cond → Conds
conds_from [] = no_conds
conds_from (c ∷ cs) = cond_then c (conds_from cs)

abbrev pub ranges_from : List FormRange → Ranges
ranges_from [] = no_ranges
ranges_from (r ∷ rs) = range_then r (ranges_from rs)
