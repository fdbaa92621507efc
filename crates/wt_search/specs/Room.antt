-- What the code of steps asks of a form.
use Rattle.std.specs.Prelude.{◌<◌, ◌^◌}
use Rattle.wt_form.specs.Trees.{Form}
use Rattle.wt_form.specs.Closed.{VariablesExist}
use Rattle.wt_form.specs.Weights.{terms_size}

-- its expressions name variables of their own terms alone, and it is of a size below 2 to the 32
abbrev pub HasRoom : Form → Type 0
HasRoom f = VariablesExist f.terms × (terms_size f.terms < 2 ^ 32)
