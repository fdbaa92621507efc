-- The conjuncts of the program, without where their parts lie in memory.
use Rattle.std.specs.Prelude.{ℕ, nat_lt, Bool, not, List, map}
use Rattle.wt_pred.specs.Tree.{pred_tree}
use Rattle.wt_pred.specs.Columns.{columns}
use Rattle.wt_plan.specs.Tree.{plan_tree}
use Rattle.wt_query_plan.specs.Building.{Conjunct, keeps, is_in}
use Rattle.wt_conjunct.specs.declared.stack.Conjunct as program
use Rattle.wt_conjunct.specs.declared.stack.Conjunct.TheVariants.{Keeps, IsIn}
use Rattle.wt_conjunct.specs.declared.stack.Side.{Side}
use Rattle.wt_conjunct.specs.declared.stack.Side.TheVariants.{Left, Right}

abbrev pub conjunct_tree : program.Conjunct → Conjunct
conjunct_tree (Keeps pred) = keeps (pred_tree pred)
conjunct_tree (IsIn cols plan) = is_in cols (plan_tree plan)

abbrev pub conjunct_trees : List program.Conjunct → List Conjunct
conjunct_trees js = map conjunct_tree js

-- the columns of a conjunct; a predicate's each once
abbrev pub columns_once : Conjunct → List ℕ
columns_once (keeps p) = columns p
columns_once (is_in cols q) = cols

-- whether a column is one of an operand, the left one having n
abbrev pub is_on : Side → ℕ → ℕ → Bool
is_on Left n k = nat_lt k n
is_on Right n k = not (nat_lt k n)
