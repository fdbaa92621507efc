-- Filters of a regular plan, as tests.
use Rattle.std.specs.Prelude.{◌&&◌, ◌==◌, ℕ, Bool, true, false, not, Option, Some, None, List, length}
use Rattle.std.specs.List.{list_all}
use Rattle.std.specs.Str.{is_utf8}
use Rattle.wt_value.specs.declared.value.Value.{Value}
use Rattle.wt_value.specs.declared.value.Value.TheVariants as values
use Rattle.wt_pred.specs.declared.tree.Operand.{Operand}
use Rattle.wt_pred.specs.declared.tree.Operand.TheVariants.{Column, Constant}
use Rattle.wt_pred.specs.Tree.{PredTree, PredTrees, compare, is_null, is_not_null, in_list, all_of, any_of, negated, no_preds, pred_then}
use Rattle.wt_schema.specs.declared.schema.ColKind.{ColKind}
use Rattle.wt_plan.specs.Regular.{kind_at, kinds_at, plan_kinds, value_kind, operand_kind}
use Rattle.wt_draft.specs.Roots.{any_tree}
use Rattle.wt_regularity.specs.declared.predicate.Listed.{Listed}
use Rattle.wt_regularity.specs.Kinds.{kind_same}
use Rattle.wt_regularity.specs.Order.{are_apart, after}

-- the kinds of the columns that a predicate is over
abbrev pub listed_kinds : Listed → List ColKind
listed_kinds l = kinds_at (plan_kinds l.tables.now (any_tree l.operand)) l.cols.now

abbrev pub is_text : List ℕ → Bool
is_text bytes = is_utf8 bytes

abbrev pub is_constant : Value → Bool
is_constant values.Null = false
is_constant (values.Int n) = true
is_constant (values.Text t) = is_text t

abbrev pub is_operand : Operand → Bool
is_operand (Column place) = true
is_operand (Constant value) = is_constant value

abbrev pub are_constants : ColKind → List Value → Bool
are_constants kind vs = list_all (λ v. kind_same kind (value_kind v) && is_constant v) vs

abbrev pub compares : List ColKind → Operand → Operand → Bool
compares kinds a b = (kind_same (operand_kind kinds a) (operand_kind kinds b) && is_operand a) && is_operand b

abbrev mutual
  pub is_typed : List ColKind → PredTree → Bool
  is_typed kinds (compare cmp a b) = compares kinds a b
  is_typed kinds (is_null place) = true
  is_typed kinds (is_not_null place) = true
  is_typed kinds (in_list place vs) = are_constants (kind_at kinds place) vs
  is_typed kinds (all_of parts) = are_typed kinds parts
  is_typed kinds (any_of parts) = are_typed kinds parts
  is_typed kinds (negated inner) = is_typed kinds inner

  pub are_typed : List ColKind → PredTrees → Bool
  are_typed kinds no_preds = true
  are_typed kinds (pred_then p rest) = is_typed kinds p && are_typed kinds rest

abbrev pub is_and : PredTree → Bool
is_and (compare cmp a b) = false
is_and (is_null place) = false
is_and (is_not_null place) = false
is_and (in_list place vs) = false
is_and (all_of parts) = true
is_and (any_of parts) = false
is_and (negated inner) = false

-- it is the number
abbrev pub is_number : Option ℕ → ℕ → Bool
is_number (Some m) n = m == n
is_number None n = false

abbrev pub uses_all : PredTree → List ℕ → Bool
uses_all pred cols = is_number (after pred 0) (length cols)

abbrev pub filter_fits : List ColKind → PredTree → List ℕ → Bool
filter_fits kinds pred cols = ((not (is_and pred) && uses_all pred cols) && are_apart cols) && is_typed (kinds_at kinds cols) pred
