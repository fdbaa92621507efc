-- Regular plans, as a test.
use Rattle.std.specs.Prelude.{◌+◌, ◌^◌, ◌&&◌, ℕ, Bool, true, false, nat_lt, nat_le, Option, Some, None, List, [], ◌∷◌, length}
use Rattle.wt_schema.specs.declared.schema.ColKind.{ColKind}
use Rattle.wt_schema.specs.declared.schema.Table.{Table}
use Rattle.wt_plan.specs.Tree.{PlanTree, table, proj, filtered, inner_join, left_join, in_sub, dedup}
use Rattle.wt_plan.specs.Measures.{cost}
use Rattle.wt_plan.specs.Regular as regular
use Rattle.wt_plan.specs.Regular.{kinds_at, plan_kinds}
use Rattle.wt_regularity.specs.Widths.{is_narrow, fitting_width}
use Rattle.wt_regularity.specs.Kinds.{kind_same, all_same}
use Rattle.wt_regularity.specs.Predicates.{filter_fits}

abbrev pub kind_at : List ColKind → ℕ → ColKind
kind_at kinds column = regular.kind_at kinds column

abbrev pub has_kind : List ColKind → ℕ → ColKind → Bool
has_kind kinds place kind = nat_lt place (length kinds) && kind_same kind (kind_at kinds place)

abbrev pub ends_at : List ColKind → ℕ → Bool
ends_at kinds place = nat_le (length kinds) place

-- the columns of the left operand are of the right one's kinds, from a place on
abbrev pub matched_from : List ColKind → List ColKind → ℕ → List ℕ → Bool
matched_from left right place [] = ends_at right place
matched_from left right place (c ∷ cols) = has_kind right place (kind_at left c) && matched_from left right (place + 1) cols

abbrev pub kinds_fit : List Table → PlanTree → Bool
kinds_fit S (table number width) = true
kinds_fit S (proj cols p) = kinds_fit S p
kinds_fit S (filtered pred cols p) = filter_fits (plan_kinds S p) pred cols && kinds_fit S p
kinds_fit S (inner_join a b l r) = (all_same (kinds_at (plan_kinds S l) a) (kinds_at (plan_kinds S r) b) && kinds_fit S l) && kinds_fit S r
kinds_fit S (left_join a b l r) = (all_same (kinds_at (plan_kinds S l) a) (kinds_at (plan_kinds S r) b) && kinds_fit S l) && kinds_fit S r
kinds_fit S (in_sub cols l r) = (matched_from (plan_kinds S l) (plan_kinds S r) 0 cols && kinds_fit S l) && kinds_fit S r
kinds_fit S (dedup p) = kinds_fit S p

abbrev pub is_cheap : PlanTree → Bool
is_cheap p = nat_lt (cost p) (2 ^ 32)

-- a width that may be, of a plan that passes the other tests
abbrev pub passes : Option ℕ → Bool → Bool → Bool
passes (Some width) cheap kinds = (is_narrow width && cheap) && kinds
passes None cheap kinds = false

abbrev pub is_regular : List Table → PlanTree → Bool
is_regular S p = passes (fitting_width S p) (is_cheap p) (kinds_fit S p)
