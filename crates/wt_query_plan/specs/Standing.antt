-- What the plan of a query needs of it; a query without a fault has it.
use Rattle.std.specs.Prelude.{◌≡◌, ◌<◌, ◌≤◌, ℕ, true, List, ◌++◌, length}
use Rattle.std.specs.List.{list_any}
use Rattle.std.specs.Option.{unwrap_or}
use Rattle.std.specs.Str.{bytes_eq}
use Rattle.wt_bag.specs.Bags.{Each}
use Rattle.wt_value.specs.Values.{Tuple}
use Rattle.wt_schema.specs.declared.schema.Table.{Table}
use Rattle.wt_ast.specs.Tree.{QueryTree, FilterTree, FromTree, CondTree, CondTrees, select, no_filter, filter_by, table, derived, inner_join, left_join, right_join, comma, in_query, all_of, no_conds, cond_then}
use Rattle.wt_query_rows.specs.Scopes.{scope_of, output_names, columns_named}
use Rattle.wt_query_rows.specs.Rows.{table_rows}
use Rattle.wt_query_plan.specs.Building.{Conjunct, conjunct_columns, conjuncts, others_of}

-- each table's rows have as many values as it has columns
abbrev pub RowsFit : List Table → List (List Tuple) → Type 0
RowsFit S base = (name : List ℕ) → Each (λ row. length row ≡ length (columns_named S name)) (table_rows S base name)

-- the conjuncts that are no pairs are on the left columns alone, or on the right columns alone
abbrev pub OnRight : ℕ → List Conjunct → Type 0
OnRight n js = Each (λ j. Each (λ k. n ≤ k) (conjunct_columns j)) (others_of n js)

abbrev pub OnLeft : ℕ → List Conjunct → Type 0
OnLeft n js = Each (λ j. Each (λ k. k < n) (conjunct_columns j)) (others_of n js)

abbrev mutual
  pub Stands : List Table → QueryTree → Type 0
  Stands S (select distinct items from keep) = FromStands S from × FilterStands S keep

  pub FilterStands : List Table → FilterTree → Type 0
  FilterStands S no_filter = Unit {0}
  FilterStands S (filter_by c) = CondStands S c

  pub FromStands : List Table → FromTree → Type 0
  FromStands S (table name alias at alias_at) = list_any (λ (t : Table). bytes_eq t.name name) S ≡ true
  FromStands S (derived q alias columns at alias_at) = Stands S q × (length (unwrap_or columns (output_names S q)) ≡ length (output_names S q))
  FromStands S (comma l r at) = FromStands S l × FromStands S r
  FromStands S (inner_join l r on at) = FromStands S l × FromStands S r × CondStands S on
  FromStands S (left_join l r on at) = FromStands S l × FromStands S r × CondStands S on × OnRight (length (scope_of S l)) (conjuncts S (scope_of S l ++ scope_of S r) on)
  FromStands S (right_join l r on at) = FromStands S l × FromStands S r × CondStands S on × OnLeft (length (scope_of S l)) (conjuncts S (scope_of S l ++ scope_of S r) on)

  pub CondStands : List Table → CondTree → Type 0
  CondStands S (in_query at cs q word_at) = Stands S q
  CondStands S (all_of at cs) = AllStand S cs
  CondStands S c = Unit {0}

  pub AllStand : List Table → CondTrees → Type 0
  AllStand S no_conds = Unit {0}
  AllStand S (cond_then c cs) = CondStands S c × AllStand S cs
