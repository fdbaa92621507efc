-- How many levels of nesting are open at once where the text of a query is nested deepest: parentheses, and NOT before what
-- it negates.
use Rattle.std.specs.Prelude.{ℕ, suc, max, Bool, true, false}
use Rattle.wt_ast.specs.Tree.{QueryTree, FilterTree, FromTree, CondTree, CondTrees, select, no_filter, filter_by, table, derived, inner_join, left_join, right_join, comma, compare, is_null, is_not_null, in_list, in_query, all_of, any_of, negated, no_conds, cond_then}
use Rattle.wt_spelling.specs.Spelling.{stands_in_brackets, is_or, is_join}

-- one more in parentheses
abbrev pub deeper_if : Bool → ℕ → ℕ
deeper_if true n = suc n
deeper_if false n = n

abbrev mutual
  pub levels : QueryTree → ℕ
  levels (select distinct items from filter) = max (from_levels from) (filter_levels filter)

  pub filter_levels : FilterTree → ℕ
  filter_levels no_filter = 0
  filter_levels (filter_by c) = deeper_if (is_or c) (cond_levels true c)

  pub from_levels : FromTree → ℕ
  from_levels (table name alias at alias_at) = 0
  from_levels (derived query alias columns at alias_at) = suc (levels query)
  from_levels (inner_join left right on on_at) =
      max (from_levels left) (max (deeper_if (is_join right) (from_levels right)) (deeper_if (is_or on) (cond_levels true on)))
  from_levels (left_join left right on on_at) =
      max (from_levels left) (max (deeper_if (is_join right) (from_levels right)) (deeper_if (is_or on) (cond_levels true on)))
  from_levels (right_join left right on on_at) =
      max (from_levels left) (max (deeper_if (is_join right) (from_levels right)) (deeper_if (is_or on) (cond_levels true on)))
  from_levels (comma left right comma_at) = max (from_levels left) (from_levels right)

  -- the test says that the parts of an And are conjuncts
  pub cond_levels : Bool → CondTree → ℕ
  cond_levels top (compare at sign a b word_at) = 0
  cond_levels top (is_null at column) = 0
  cond_levels top (is_not_null at column) = 0
  cond_levels top (in_list at column values word_at) = 1
  cond_levels top (in_query at columns query word_at) = suc (levels query)
  cond_levels top (all_of at parts) = parts_levels top parts
  cond_levels top (any_of at parts) = parts_levels false parts
  cond_levels top (negated at c) = suc (deeper_if (stands_in_brackets false c) (cond_levels false c))

  pub parts_levels : Bool → CondTrees → ℕ
  parts_levels conjuncts no_conds = 0
  parts_levels conjuncts (cond_then c rest) =
      max (deeper_if (stands_in_brackets conjuncts c) (cond_levels false c)) (parts_levels conjuncts rest)
