-- The first fault of a query that has no plan, in the order in which faults are told.
use Rattle.std.specs.Prelude.{ℕ, zero, suc, ◌+◌, nat_lt, nat_eq, Bool, true, false, ◌&&◌, ◌||◌, not, List, [], ◌∷◌, ◌++◌, map, filter, flat_map, length, get_or, if◌then◌else◌, Option, Some, None, is_some}
use Rattle.std.specs.List.{list_any, list_all}
use Rattle.std.specs.Option.{unwrap_or}
use Rattle.std.specs.Str.{bytes_eq}
use Rattle.wt_value.specs.declared.value.Value.{Value}
use Rattle.wt_value.specs.declared.value.Value.TheVariants as values
use Rattle.wt_pred.specs.declared.tree.Operand.{Operand}
use Rattle.wt_pred.specs.declared.tree.Operand.TheVariants as operands
use Rattle.wt_pred.specs.Columns.{occurring}
use Rattle.wt_plan.specs.Regular.{kind_at, kinds_at, value_kind, operand_kind}
use Rattle.wt_schema.specs.declared.schema.Table.{Table}
use Rattle.wt_schema.specs.declared.schema.Column as schema_columns
use Rattle.wt_schema.specs.declared.schema.ColKind.{ColKind}
use Rattle.wt_schema.specs.declared.schema.ColKind.TheVariants as kinds
use Rattle.wt_ast.specs.declared.tree.ColumnName.{ColumnName}
use Rattle.wt_ast.specs.declared.tree.Item.{Item}
use Rattle.wt_ast.specs.declared.tree.Item.TheVariants.{Star, AllOf, Column}
use Rattle.wt_ast.specs.declared.tree.Scalar.{Scalar}
use Rattle.wt_ast.specs.declared.tree.Scalar.TheVariants as scalars
use Rattle.wt_query_plan.specs.declared.fault.BuildFault.{BuildFault}
use Rattle.wt_ast.specs.Tree.{QueryTree, FilterTree, FromTree, CondTree, CondTrees, select, no_filter, filter_by, table, derived, inner_join, left_join, right_join, comma, compare, is_null, is_not_null, in_list, in_query, all_of, any_of, negated, no_conds, cond_then}
use Rattle.wt_query_rows.specs.declared.scope.ScopeColumn.{ScopeColumn}
use Rattle.wt_query_rows.specs.Scopes.{fits, is_of, columns_named, scope_of, output_names}
use Rattle.wt_query_plan.specs.Building.{kept_by, link, Conjunct, conjunct_columns, conjuncts, pair_of, place_of, operand_of, places_where, pred_of}
use Rattle.wt_query_plan.specs.declared.fault.BuildFault.TheVariants as faults

-- a fault with the offset of its token, if there is one
abbrev pub Fault : Type 0
Fault = Option (BuildFault × ℕ)

-- the first of two
abbrev pub first_of : Fault → Fault → Fault
first_of None other = other
first_of (Some f) other = Some f

abbrev pub fault_if : Bool → BuildFault → ℕ → Fault
fault_if true f at = Some (f, at)
fault_if false f at = None

-- a name that fits no column, one, or several; `outside` says that an enclosing query has a column that it fits
abbrev pub name_fault : ℕ → Bool → ℕ → Fault
name_fault zero true at = Some (faults.CorrelatedColumn, at)
name_fault zero false at = Some (faults.UnknownColumn, at)
name_fault (suc zero) outside at = None
name_fault (suc (suc n)) outside at = Some (faults.AmbiguousColumn, at)

abbrev pub column_fault : List ScopeColumn → List ScopeColumn → ColumnName → Fault
column_fault outer scope c = name_fault (length (filter (fits c) scope)) (list_any (fits c) outer) c.at

abbrev pub columns_fault : List ScopeColumn → List ScopeColumn → List ColumnName → Fault
columns_fault outer scope [] = None
columns_fault outer scope (c ∷ cs) = first_of (column_fault outer scope c) (columns_fault outer scope cs)

-- The kinds of the columns of a FROM clause, and of a query's output, in the order of the text.
abbrev pub item_kinds : List ScopeColumn → List ColKind → Item → List ColKind
item_kinds scope ks (Star at) = ks
item_kinds scope ks (AllOf alias at) = kinds_at ks (places_where (is_of alias) scope)
item_kinds scope ks (Column c output) = kinds_at ks (place_of scope c ∷ [])

abbrev mutual
  pub kinds_of : List Table → FromTree → List ColKind
  kinds_of S (table name alias at alias_at) = map (λ (c : schema_columns.Column). c.kind) (columns_named S name)
  kinds_of S (derived q alias columns at alias_at) = output_kinds S q
  kinds_of S (inner_join l r on at) = kinds_of S l ++ kinds_of S r
  kinds_of S (left_join l r on at) = kinds_of S l ++ kinds_of S r
  kinds_of S (right_join l r on at) = kinds_of S l ++ kinds_of S r
  kinds_of S (comma l r at) = kinds_of S l ++ kinds_of S r

  pub output_kinds : List Table → QueryTree → List ColKind
  output_kinds S (select distinct items from keep) = flat_map (item_kinds (scope_of S from) (kinds_of S from)) items

abbrev pub kind_same : ColKind → ColKind → Bool
kind_same kinds.Int kinds.Int = true
kind_same kinds.Text kinds.Text = true
kind_same _ _ = false

abbrev pub kinds_same : List ColKind → List ColKind → Bool
kinds_same [] [] = true
kinds_same (k ∷ ks) (m ∷ ms) = kind_same k m && kinds_same ks ms
kinds_same _ _ = false

abbrev pub column_kind : List ScopeColumn → List ColKind → ColumnName → ColKind
column_kind scope ks c = kind_at ks (place_of scope c)

abbrev pub scalar_fault : List ScopeColumn → List ScopeColumn → Scalar → Fault
scalar_fault outer scope (scalars.Column c) = column_fault outer scope c
scalar_fault outer scope (scalars.Literal v at) = None

abbrev pub compare_fault : List ScopeColumn → List ScopeColumn → List ColKind → Scalar → Scalar → ℕ → Fault
compare_fault outer scope ks a b at =
    first_of (scalar_fault outer scope a) (first_of (scalar_fault outer scope b) (fault_if (not (kind_same (operand_kind ks (operand_of scope a)) (operand_kind ks (operand_of scope b)))) faults.TypeMismatch at))

abbrev pub list_fault : List ScopeColumn → List ScopeColumn → List ColKind → ColumnName → List Value → ℕ → Fault
list_fault outer scope ks c vs at = first_of (column_fault outer scope c) (fault_if (not (list_all (λ v. kind_same (column_kind scope ks c) (value_kind v)) vs)) faults.TypeMismatch at)

-- A condition that has no subquery, over the columns in scope.
abbrev mutual
  pub test_fault : List ScopeColumn → List ScopeColumn → List ColKind → CondTree → Fault
  test_fault outer scope ks (compare at sign a b word_at) = compare_fault outer scope ks a b word_at
  test_fault outer scope ks (is_null at c) = column_fault outer scope c
  test_fault outer scope ks (is_not_null at c) = column_fault outer scope c
  test_fault outer scope ks (in_list at c vs word_at) = list_fault outer scope ks c vs word_at
  test_fault outer scope ks (in_query at cs q word_at) = None
  test_fault outer scope ks (all_of at cs) = tests_fault outer scope ks cs
  test_fault outer scope ks (any_of at cs) = tests_fault outer scope ks cs
  test_fault outer scope ks (negated at c) = test_fault outer scope ks c

  pub tests_fault : List ScopeColumn → List ScopeColumn → List ColKind → CondTrees → Fault
  tests_fault outer scope ks no_conds = None
  tests_fault outer scope ks (cond_then c cs) = first_of (test_fault outer scope ks c) (tests_fault outer scope ks cs)

abbrev pub is_empty : List ℕ → Bool
is_empty [] = true
is_empty (k ∷ ks) = false

abbrev pub conjunct_fault : List ScopeColumn → List ScopeColumn → List ColKind → ℕ → CondTree → Fault
conjunct_fault outer scope ks at c = first_of (test_fault outer scope ks c) (fault_if (is_empty (occurring (pred_of scope c))) faults.ConditionWithoutColumn at)

-- the offsets of the conjuncts
abbrev mutual
  pub conjunct_places : CondTree → List ℕ
  conjunct_places (all_of at cs) = all_places cs
  conjunct_places (compare at sign a b word_at) = at ∷ []
  conjunct_places (is_null at c) = at ∷ []
  conjunct_places (is_not_null at c) = at ∷ []
  conjunct_places (in_list at c vs word_at) = at ∷ []
  conjunct_places (in_query at cs q word_at) = at ∷ []
  conjunct_places (any_of at cs) = at ∷ []
  conjunct_places (negated at c) = at ∷ []

  pub all_places : CondTrees → List ℕ
  all_places no_conds = []
  all_places (cond_then c cs) = conjunct_places c ++ all_places cs

-- a conjunct that is no pair and not on columns of the padded operand alone, by the test 'padded'
abbrev pub outer_one : (ℕ → Bool) → ℕ → Conjunct → ℕ → Fault
outer_one padded n j at =
    fault_if (not (is_some (pair_of n j) || list_all padded (conjunct_columns j))) (if list_any padded (conjunct_columns j) then faults.OnMixedCondition else faults.OnLeftCondition) at

-- the first of them
abbrev pub outer_fault : (ℕ → Bool) → ℕ → List Conjunct → List ℕ → Fault
outer_fault padded n (j ∷ js) (at ∷ ats) = first_of (outer_one padded n j at) (outer_fault padded n js ats)
outer_fault padded n _ _ = None

abbrev pub unpaired : ℕ → List Conjunct → Bool
unpaired n js = not (list_any (λ j. is_some (pair_of n j)) js)

-- the aliases of a FROM clause
abbrev pub aliases_of : FromTree → List (List ℕ)
aliases_of (table name alias at alias_at) = unwrap_or alias name ∷ []
aliases_of (derived q alias columns at alias_at) = alias ∷ []
aliases_of (inner_join l r on at) = aliases_of l ++ aliases_of r
aliases_of (left_join l r on at) = aliases_of l ++ aliases_of r
aliases_of (right_join l r on at) = aliases_of l ++ aliases_of r
aliases_of (comma l r at) = aliases_of l ++ aliases_of r

abbrev pub alias_fault : List (List ℕ) → List ℕ → ℕ → Fault
alias_fault before alias at = fault_if (list_any (bytes_eq alias) before) faults.DuplicateAlias at

-- the items of a SELECT list behind n columns
abbrev pub item_fault : List ScopeColumn → List ScopeColumn → Item → Fault
item_fault outer scope (Star at) = None
item_fault outer scope (AllOf alias at) = fault_if (not (list_any (is_of alias) scope)) (if list_any (is_of alias) outer then faults.CorrelatedColumn else faults.UnknownColumn) at
item_fault outer scope (Column c output) = column_fault outer scope c

abbrev pub item_at : Item → ℕ
item_at (Star at) = at
item_at (AllOf alias at) = at
item_at (Column c output) = c.at

abbrev pub items_fault : List ScopeColumn → List ScopeColumn → List ColKind → ℕ → List Item → Fault
items_fault outer scope ks n [] = None
items_fault outer scope ks n (i ∷ items) =
    first_of (item_fault outer scope i) (first_of (fault_if (nat_lt 16384 (n + length (item_kinds scope ks i))) faults.TooWide (item_at i)) (items_fault outer scope ks (n + length (item_kinds scope ks i)) items))

-- the commas that no WHERE conjunct links, from left to right
abbrev pub commas_fault : List Table → List Conjunct → FromTree → Fault
commas_fault S ws (comma l r at) =
    first_of (commas_fault S ws l) (fault_if (not (list_any (link (length (scope_of S l)) (length (scope_of S l ++ scope_of S r))) ws)) faults.NoJoinEquality at)
commas_fault S ws (table name alias at alias_at) = None
commas_fault S ws (derived q alias columns at alias_at) = None
commas_fault S ws (inner_join l r on at) = None
commas_fault S ws (left_join l r on at) = None
commas_fault S ws (right_join l r on at) = None

-- Columns of enclosing queries stand in `outer`, those of the query in `block`, those that a condition sees in `scope`.
abbrev mutual
  pub query_fault : List Table → List ScopeColumn → QueryTree → Fault
  query_fault S outer (select distinct items from keep) =
      first_of (from_fault S outer [] from)
      (first_of (joins_fault S outer (scope_of S from) from)
      (first_of (filter_fault S outer (scope_of S from) (kinds_of S from) keep) (first_of (commas_fault S (kept_by S (scope_of S from) keep) from) (items_fault outer (scope_of S from) (kinds_of S from) 0 items))))

  pub from_fault : List Table → List ScopeColumn → List (List ℕ) → FromTree → Fault
  from_fault S outer before (table name alias at alias_at) =
      first_of (fault_if (not (list_any (λ (t : Table). bytes_eq t.name name) S)) faults.UnknownTable at) (alias_fault before (unwrap_or alias name) alias_at)
  from_fault S outer before (derived q alias columns at alias_at) =
      first_of (query_fault S outer q)
      (first_of (fault_if (not (nat_eq (length (unwrap_or columns (output_names S q))) (length (output_names S q)))) faults.ColumnListWidth alias_at) (alias_fault before alias alias_at))
  from_fault S outer before (inner_join l r on at) = first_of (from_fault S outer before l) (from_fault S outer (before ++ aliases_of l) r)
  from_fault S outer before (left_join l r on at) = first_of (from_fault S outer before l) (from_fault S outer (before ++ aliases_of l) r)
  from_fault S outer before (comma l r at) = first_of (from_fault S outer before l) (from_fault S outer (before ++ aliases_of l) r)
  from_fault S outer before (right_join l r on at) = first_of (from_fault S outer before l) (from_fault S outer (before ++ aliases_of l) r)

  pub joins_fault : List Table → List ScopeColumn → List ScopeColumn → FromTree → Fault
  joins_fault S outer block (table name alias at alias_at) = None
  joins_fault S outer block (derived q alias columns at alias_at) = None
  joins_fault S outer block (comma l r at) = first_of (joins_fault S outer block l) (joins_fault S outer block r)
  joins_fault S outer block (inner_join l r on at) =
      first_of (first_of (joins_fault S outer block l) (joins_fault S outer block r))
      (first_of (cond_fault S outer block (scope_of S l ++ scope_of S r) (kinds_of S l ++ kinds_of S r) on)
      (fault_if (unpaired (length (scope_of S l)) (conjuncts S (scope_of S l ++ scope_of S r) on)) faults.NoJoinEquality at))
  joins_fault S outer block (left_join l r on at) =
      first_of (first_of (joins_fault S outer block l) (joins_fault S outer block r))
      (first_of (cond_fault S outer block (scope_of S l ++ scope_of S r) (kinds_of S l ++ kinds_of S r) on)
      (first_of (outer_fault (λ k. not (nat_lt k (length (scope_of S l)))) (length (scope_of S l)) (conjuncts S (scope_of S l ++ scope_of S r) on) (conjunct_places on))
      (fault_if (unpaired (length (scope_of S l)) (conjuncts S (scope_of S l ++ scope_of S r) on)) faults.NoJoinEquality at)))
  joins_fault S outer block (right_join l r on at) =
      first_of (first_of (joins_fault S outer block l) (joins_fault S outer block r))
      (first_of (cond_fault S outer block (scope_of S l ++ scope_of S r) (kinds_of S l ++ kinds_of S r) on)
      (first_of (outer_fault (λ k. nat_lt k (length (scope_of S l))) (length (scope_of S l)) (conjuncts S (scope_of S l ++ scope_of S r) on) (conjunct_places on))
      (fault_if (unpaired (length (scope_of S l)) (conjuncts S (scope_of S l ++ scope_of S r) on)) faults.NoJoinEquality at)))

  pub filter_fault : List Table → List ScopeColumn → List ScopeColumn → List ColKind → FilterTree → Fault
  filter_fault S outer block ks no_filter = None
  filter_fault S outer block ks (filter_by c) = cond_fault S outer block block ks c

  pub cond_fault : List Table → List ScopeColumn → List ScopeColumn → List ScopeColumn → List ColKind → CondTree → Fault
  cond_fault S outer block scope ks (all_of at cs) = conds_fault S outer block scope ks cs
  cond_fault S outer block scope ks (in_query at cs q word_at) =
      first_of (columns_fault outer scope cs)
      (first_of (query_fault S (outer ++ block) q)
      (first_of (fault_if (not (nat_eq (length cs) (length (output_kinds S q)))) faults.InWidth word_at)
      (fault_if (not (kinds_same (map (column_kind scope ks) cs) (output_kinds S q))) faults.TypeMismatch word_at)))
  cond_fault S outer block scope ks (compare at sign a b word_at) = conjunct_fault outer scope ks at (compare at sign a b word_at)
  cond_fault S outer block scope ks (is_null at c) = conjunct_fault outer scope ks at (is_null at c)
  cond_fault S outer block scope ks (is_not_null at c) = conjunct_fault outer scope ks at (is_not_null at c)
  cond_fault S outer block scope ks (in_list at c vs word_at) = conjunct_fault outer scope ks at (in_list at c vs word_at)
  cond_fault S outer block scope ks (any_of at cs) = conjunct_fault outer scope ks at (any_of at cs)
  cond_fault S outer block scope ks (negated at c) = conjunct_fault outer scope ks at (negated at c)

  pub conds_fault : List Table → List ScopeColumn → List ScopeColumn → List ScopeColumn → List ColKind → CondTrees → Fault
  conds_fault S outer block scope ks no_conds = None
  conds_fault S outer block scope ks (cond_then c cs) = first_of (cond_fault S outer block scope ks c) (conds_fault S outer block scope ks cs)
