-- The operands of a node of two, when another subplan is put at a node behind it.
use Rattle.std.specs.Prelude.{ℕ, ◌-◌, nat_lt, if◌then◌else◌}
use Rattle.wt_plan.specs.Tree.{PlanTree}
use Rattle.wt_plan.specs.Measures.{node_count}
use Rattle.wt_matching.specs.Nodes.{put}

abbrev pub put_left : PlanTree → ℕ → PlanTree → PlanTree
put_left l n new = if nat_lt n (node_count l) then put l n new else l

abbrev pub put_right : PlanTree → PlanTree → ℕ → PlanTree → PlanTree
put_right l r n new = if nat_lt n (node_count l) then r else put r (n - node_count l) new
