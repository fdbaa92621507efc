-- A condition of the program, without where its parts lie in memory.
use Rattle.std.specs.Prelude.{ℕ, nat_lt, Bool, not, List, map}
use Rattle.std.specs.List.{list_all}
use Rattle.wt_pred.specs.Tree.{pred_tree}
use Rattle.wt_plan.specs.Tree.{plan_tree}
use Rattle.wt_place.specs.declared.condition.Condition as program
use Rattle.wt_place.specs.declared.condition.Condition.TheVariants.{Test, Member}
use Rattle.wt_place.specs.declared.condition.Side.{Side}
use Rattle.wt_place.specs.declared.condition.Side.TheVariants.{Left, Right}
use Rattle.wt_place.specs.Placing.{Condition, test, member, over}

abbrev pub condition_tree : program.Condition → Condition
condition_tree (Test pred cols) = test (pred_tree pred) cols
condition_tree (Member cols plan) = member cols (plan_tree plan)

abbrev pub condition_trees : List program.Condition → List Condition
condition_trees cs = map condition_tree cs

-- whether all columns of a condition are those of one operand, the left one having n
abbrev pub all_of : Side → ℕ → Condition → Bool
all_of Left n c = list_all (λ k. nat_lt k n) (over c)
all_of Right n c = list_all (λ k. not (nat_lt k n)) (over c)
