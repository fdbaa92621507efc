-- Predicates that have a text: each And and each Or has two or more parts, and each IN list a constant or more.
use Rattle.std.specs.Prelude.{ℕ, ◌+◌, ◌<◌, ◌≤◌, length}
use Rattle.wt_pred.specs.Tree.{PredTree, PredTrees, compare, is_null, is_not_null, in_list, all_of, any_of, negated, no_preds, pred_then}
use Rattle.wt_plan.specs.Tree.{PlanTree, table, proj, filtered, inner_join, left_join, in_sub, dedup}

abbrev pub part_count : PredTrees → ℕ
part_count no_preds = 0
part_count (pred_then p ps) = 1 + part_count ps

abbrev mutual
  pub HasParts : PredTree → Type 0
  HasParts (compare sign a b) = Unit {0}
  HasParts (is_null k) = Unit {0}
  HasParts (is_not_null k) = Unit {0}
  HasParts (in_list k values) = 0 < length values
  HasParts (all_of parts) = (2 ≤ part_count parts) × AllHaveParts parts
  HasParts (any_of parts) = (2 ≤ part_count parts) × AllHaveParts parts
  HasParts (negated p) = HasParts p

  pub AllHaveParts : PredTrees → Type 0
  AllHaveParts no_preds = Unit {0}
  AllHaveParts (pred_then p ps) = HasParts p × AllHaveParts ps

-- those of a plan's filters
abbrev pub PlanParts : PlanTree → Type 0
PlanParts (table n w) = Unit {0}
PlanParts (proj cols p) = PlanParts p
PlanParts (filtered q cols p) = HasParts q × PlanParts p
PlanParts (inner_join a b l r) = PlanParts l × PlanParts r
PlanParts (left_join a b l r) = PlanParts l × PlanParts r
PlanParts (in_sub cols l r) = PlanParts l × PlanParts r
PlanParts (dedup p) = PlanParts p
