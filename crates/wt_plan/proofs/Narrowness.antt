-- The width of a plan whose nodes are narrow.
use Rattle.std.proofs.Common.{◌<◌, ◌^◌}
use Rattle.wt_plan.specs.Tree.{PlanTree, table, proj, filtered, inner_join, left_join, in_sub, dedup}
use Rattle.wt_plan.specs.Measures.{width}
use Rattle.wt_plan.specs.WellFormed.{Narrow}

pub narrow_width : (p : PlanTree) → Narrow p → width p < 2 ^ 32
narrow_width (table n w) h = h
narrow_width (proj cols p) h = h.0
narrow_width (filtered q cols p) h = narrow_width p h
narrow_width (inner_join a b l r) h = h.0
narrow_width (left_join a b l r) h = h.0
narrow_width (in_sub cols l r) h = narrow_width l h.0
narrow_width (dedup p) h = narrow_width p h
