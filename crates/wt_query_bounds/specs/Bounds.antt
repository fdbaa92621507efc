-- How many FROM items a query has, and what holds of a FROM clause whose items have no fault.
use Rattle.std.specs.Prelude.{◌≡◌, ℕ, ◌+◌, length}
use Rattle.std.specs.Prelude.{List}
use Rattle.wt_ast.specs.Tree.{QueryTree, FilterTree, FromTree, CondTree, CondTrees, select, no_filter, filter_by, table, derived, inner_join, left_join, right_join, comma, compare, is_null, is_not_null, in_list, in_query, all_of, any_of, negated, no_conds, cond_then}
use Rattle.wt_schema.specs.declared.schema.Table.{Table}
use Rattle.wt_query_rows.specs.Scopes.{scope_of}
use Rattle.wt_query_plan.specs.Faults.{kinds_of}

-- the FROM items of a query and of all queries inside
abbrev mutual
  pub items_in : QueryTree → ℕ
  items_in (select distinct items from keep) = items_in_from from + items_in_filter keep

  pub items_in_filter : FilterTree → ℕ
  items_in_filter no_filter = 0
  items_in_filter (filter_by c) = items_in_cond c

  pub items_in_from : FromTree → ℕ
  items_in_from (table name alias at alias_at) = 1
  items_in_from (derived q alias columns at alias_at) = 1 + items_in q
  items_in_from (inner_join l r on at) = (items_in_from l + items_in_from r) + items_in_cond on
  items_in_from (left_join l r on at) = (items_in_from l + items_in_from r) + items_in_cond on
  items_in_from (right_join l r on at) = (items_in_from l + items_in_from r) + items_in_cond on
  items_in_from (comma l r at) = items_in_from l + items_in_from r

  pub items_in_cond : CondTree → ℕ
  items_in_cond (compare at sign a b word_at) = 0
  items_in_cond (is_null at c) = 0
  items_in_cond (is_not_null at c) = 0
  items_in_cond (in_list at c vs word_at) = 0
  items_in_cond (in_query at cs q word_at) = items_in q
  items_in_cond (all_of at cs) = items_in_conds cs
  items_in_cond (any_of at cs) = items_in_conds cs
  items_in_cond (negated at c) = items_in_cond c

  pub items_in_conds : CondTrees → ℕ
  items_in_conds no_conds = 0
  items_in_conds (cond_then c cs) = items_in_cond c + items_in_conds cs

-- each operand has a kind for each of its columns
abbrev pub Even : List Table → FromTree → Type 0
Even S (table name alias at alias_at) = length (kinds_of S (table name alias at alias_at)) ≡ length (scope_of S (table name alias at alias_at))
Even S (derived q alias columns at alias_at) = length (kinds_of S (derived q alias columns at alias_at)) ≡ length (scope_of S (derived q alias columns at alias_at))
Even S (inner_join l r on at) = Even S l × Even S r
Even S (left_join l r on at) = Even S l × Even S r
Even S (right_join l r on at) = Even S l × Even S r
Even S (comma l r at) = Even S l × Even S r

-- the conjuncts of a query and of all queries inside
abbrev mutual
  pub conjuncts_in : QueryTree → ℕ
  conjuncts_in (select distinct items from keep) = conjuncts_in_from from + conjuncts_in_filter keep

  pub conjuncts_in_filter : FilterTree → ℕ
  conjuncts_in_filter no_filter = 0
  conjuncts_in_filter (filter_by c) = conjuncts_in_cond c

  pub conjuncts_in_from : FromTree → ℕ
  conjuncts_in_from (table name alias at alias_at) = 0
  conjuncts_in_from (derived q alias columns at alias_at) = conjuncts_in q
  conjuncts_in_from (inner_join l r on at) = (conjuncts_in_from l + conjuncts_in_from r) + conjuncts_in_cond on
  conjuncts_in_from (left_join l r on at) = (conjuncts_in_from l + conjuncts_in_from r) + conjuncts_in_cond on
  conjuncts_in_from (right_join l r on at) = (conjuncts_in_from l + conjuncts_in_from r) + conjuncts_in_cond on
  conjuncts_in_from (comma l r at) = conjuncts_in_from l + conjuncts_in_from r

  pub conjuncts_in_cond : CondTree → ℕ
  conjuncts_in_cond (compare at sign a b word_at) = 1
  conjuncts_in_cond (is_null at c) = 1
  conjuncts_in_cond (is_not_null at c) = 1
  conjuncts_in_cond (in_list at c vs word_at) = 1
  conjuncts_in_cond (in_query at cs q word_at) = 1 + conjuncts_in q
  conjuncts_in_cond (all_of at cs) = conjuncts_in_conds cs
  conjuncts_in_cond (any_of at cs) = 1
  conjuncts_in_cond (negated at c) = 1

  pub conjuncts_in_conds : CondTrees → ℕ
  conjuncts_in_conds no_conds = 0
  conjuncts_in_conds (cond_then c cs) = conjuncts_in_cond c + conjuncts_in_conds cs
