-- Which plans are regular for a schema: well formed, typed by its tables, and in the form that statements give.
use Rattle.std.specs.Prelude.{◌≡◌, ℕ, zero, suc, ◌<◌, ◌≤◌, true, List, [], ◌∷◌, ◌++◌, length, map, get_or}
use Rattle.std.specs.Str.{is_utf8}
use Rattle.wt_bag.specs.Bags.{Each}
use Rattle.wt_bag.specs.Choices.{Apart}
use Rattle.wt_value.specs.declared.value.Value.{Value}
use Rattle.wt_value.specs.declared.value.Value.TheVariants as values
use Rattle.wt_pred.specs.declared.tree.Operand.{Operand}
use Rattle.wt_pred.specs.declared.tree.Operand.TheVariants.{Column, Constant}
use Rattle.wt_pred.specs.Tree.{PredTree, PredTrees, compare, is_null, is_not_null, in_list, all_of, any_of, negated, no_preds, pred_then}
use Rattle.wt_pred.specs.Columns.{columns}
use Rattle.wt_schema.specs.declared.schema.ColKind.{ColKind}
use Rattle.wt_schema.specs.declared.schema.ColKind.TheVariants.{Int, Text}
use Rattle.wt_schema.specs.declared.schema.Column as schema
use Rattle.wt_schema.specs.declared.schema.Table.{Table}
use Rattle.wt_schema.specs.Lawful.{width_of}
use Rattle.wt_plan.specs.Tree.{PlanTree, table, proj, filtered, inner_join, left_join, in_sub, dedup}
use Rattle.wt_plan.specs.Measures.{width}
use Rattle.wt_plan.specs.WellFormed.{WellFormed}

-- the numbers below n
abbrev pub upto : ℕ → List ℕ
upto zero = []
upto (suc n) = 0 ∷ map suc (upto n)

-- the kind at a place, and the kinds at the places of a list
abbrev pub kind_at : List ColKind → ℕ → ColKind
kind_at kinds k = get_or kinds k Int

abbrev pub kinds_at : List ColKind → List ℕ → List ColKind
kinds_at kinds cols = map (kind_at kinds) cols

-- the kinds of columns of a schema
abbrev pub column_kinds : List schema.Column → List ColKind
column_kinds columns = map (λ (c : schema.Column). c.kind) columns

-- the kinds of the columns of the table of a number, none where there is no such table
abbrev pub table_kinds : List Table → ℕ → List ColKind
table_kinds [] number = []
table_kinds (t ∷ ts) zero = column_kinds t.columns
table_kinds (t ∷ ts) (suc number) = table_kinds ts number

-- the kinds of a plan's columns: each has that of the table's column from which it comes
abbrev pub plan_kinds : List Table → PlanTree → List ColKind
plan_kinds S (table number columns) = table_kinds S number
plan_kinds S (proj cols p) = kinds_at (plan_kinds S p) cols
plan_kinds S (filtered pred cols p) = plan_kinds S p
plan_kinds S (inner_join a b l r) = plan_kinds S l ++ plan_kinds S r
plan_kinds S (left_join a b l r) = plan_kinds S l ++ plan_kinds S r
plan_kinds S (in_sub cols l r) = plan_kinds S l
plan_kinds S (dedup p) = plan_kinds S p

-- the kind of a constant
abbrev pub value_kind : Value → ColKind
value_kind values.Null = Int
value_kind (values.Int n) = Int
value_kind (values.Text t) = Text

abbrev pub operand_kind : List ColKind → Operand → ColKind
operand_kind kinds (Column k) = kind_at kinds k
operand_kind kinds (Constant v) = value_kind v

-- a constant is a number or a UTF-8 text
abbrev pub IsConstant : Value → Type 0
IsConstant values.Null = ⊥
IsConstant (values.Int n) = Unit {0}
IsConstant (values.Text t) = is_utf8 t ≡ true

abbrev pub ConstantOperand : Operand → Type 0
ConstantOperand (Column k) = Unit {0}
ConstantOperand (Constant v) = IsConstant v

-- The two operands of each comparison are of one kind, the constants of an IN list of its column's kind.
abbrev mutual
  pub Typed : List ColKind → PredTree → Type 0
  Typed kinds (compare cmp a b) = operand_kind kinds a ≡ operand_kind kinds b
  Typed kinds (is_null k) = Unit {0}
  Typed kinds (is_not_null k) = Unit {0}
  Typed kinds (in_list k vs) = Each (λ v. kind_at kinds k ≡ value_kind v) vs
  Typed kinds (all_of parts) = AllTyped kinds parts
  Typed kinds (any_of parts) = AllTyped kinds parts
  Typed kinds (negated inner) = Typed kinds inner

  pub AllTyped : List ColKind → PredTrees → Type 0
  AllTyped kinds no_preds = Unit {0}
  AllTyped kinds (pred_then p rest) = Typed kinds p × AllTyped kinds rest

-- Its constants are numbers or UTF-8 texts.
abbrev mutual
  pub HasConstants : PredTree → Type 0
  HasConstants (compare cmp a b) = ConstantOperand a × ConstantOperand b
  HasConstants (is_null k) = Unit {0}
  HasConstants (is_not_null k) = Unit {0}
  HasConstants (in_list k vs) = Each IsConstant vs
  HasConstants (all_of parts) = AllConstants parts
  HasConstants (any_of parts) = AllConstants parts
  HasConstants (negated inner) = HasConstants inner

  pub AllConstants : PredTrees → Type 0
  AllConstants no_preds = Unit {0}
  AllConstants (pred_then p rest) = HasConstants p × AllConstants rest

-- an And is as many conditions
abbrev pub IsNoAnd : PredTree → Type 0
IsNoAnd (compare cmp a b) = Unit {0}
IsNoAnd (is_null k) = Unit {0}
IsNoAnd (is_not_null k) = Unit {0}
IsNoAnd (in_list k vs) = Unit {0}
IsNoAnd (all_of parts) = ⊥
IsNoAnd (any_of parts) = Unit {0}
IsNoAnd (negated inner) = Unit {0}

-- a filter over columns of these kinds
pub record RegularFilter (kinds : List ColKind) (pred : PredTree) (cols : List ℕ) : Type 0 where
  -- no place twice
  pub apart : Apart cols
  -- the predicate uses each place of the list, in the order of first use
  pub in_order : columns pred ≡ upto (length cols)
  pub no_and : IsNoAnd pred
  pub typed : Typed (kinds_at kinds cols) pred
  pub constants : HasConstants pred

-- Each node is as the schema and the form ask; a Proj, a Dedup and the right operand of an InSub have at most 16,384 columns.
abbrev pub RegularNodes : List Table → PlanTree → Type 0
RegularNodes S (table number columns) = (number < length S) × (columns ≡ width_of S number)
RegularNodes S (proj cols p) = (length cols ≤ 16384) × RegularNodes S p
RegularNodes S (filtered pred cols p) = RegularFilter (plan_kinds S p) pred cols × RegularNodes S p
RegularNodes S (inner_join a b l r) = (kinds_at (plan_kinds S l) a ≡ kinds_at (plan_kinds S r) b) × RegularNodes S l × RegularNodes S r
RegularNodes S (left_join a b l r) = (kinds_at (plan_kinds S l) a ≡ kinds_at (plan_kinds S r) b) × RegularNodes S l × RegularNodes S r
RegularNodes S (in_sub cols l r) = (kinds_at (plan_kinds S l) cols ≡ plan_kinds S r) × (width r ≤ 16384) × RegularNodes S l × RegularNodes S r
RegularNodes S (dedup p) = (width p ≤ 16384) × RegularNodes S p

pub record Regular (S : List Table) (p : PlanTree) : Type 0 where
  pub well_formed : WellFormed p
  pub nodes : RegularNodes S p
  pub few_columns : width p ≤ 16384
