-- What the limits of a query and the rule for `x IN (query)` speak of, and where it stands.
use Rattle.std.specs.Prelude.{ℕ, Bool, true, false, if◌then◌else◌, List, [], ◌∷◌, ◌++◌}
use Rattle.wt_ast.specs.declared.marks.Mark.{Mark}
use Rattle.wt_ast.specs.declared.marks.Marked.{Marked}
use Rattle.wt_ast.specs.declared.marks.Marked.TheVariants as marked
use Rattle.wt_ast.specs.Tree.{QueryTree, FilterTree, FromTree, CondTree, CondTrees, select, no_filter, filter_by, table, derived, inner_join, left_join, right_join, comma, compare, is_null, is_not_null, in_list, in_query, all_of, any_of, negated, no_conds, cond_then}

abbrev pub mark : Marked → ℕ → Mark
mark what at = record { what = what; at = at }

-- A condition that is no And is a conjunct, unless it stands below an Or or a Not of the same query: this is what the test
-- says.
abbrev pub conjunct_mark : Bool → ℕ → List Mark
conjunct_mark false at = mark marked.Conjunct at ∷ []
conjunct_mark true at = []

-- `x IN (query)` is a conjunct too, or is hidden, which is marked at its IN
abbrev pub in_mark : Bool → ℕ → ℕ → List Mark
in_mark false at word_at = mark marked.Conjunct at ∷ []
in_mark true at word_at = mark marked.HiddenIn word_at ∷ []

-- The marks of a query and of all queries inside, in the order of the text. A FROM item stands at its table's name or at its
-- query's parenthesis, before the items of that query. A conjunct stands at its first token, and `x IN (query)` before the
-- conjuncts of its query.
abbrev mutual
  pub marks : QueryTree → List Mark
  marks (select distinct items from filter) = marks_in_from from ++ marks_in_filter filter

  pub marks_in_filter : FilterTree → List Mark
  marks_in_filter no_filter = []
  marks_in_filter (filter_by c) = marks_in_cond false c

  pub marks_in_from : FromTree → List Mark
  marks_in_from (table name alias at alias_at) = mark marked.FromItem at ∷ []
  marks_in_from (derived query alias columns at alias_at) = mark marked.FromItem at ∷ marks query
  marks_in_from (inner_join left right on on_at) = marks_in_from left ++ (marks_in_from right ++ marks_in_cond false on)
  marks_in_from (left_join left right on on_at) = marks_in_from left ++ (marks_in_from right ++ marks_in_cond false on)
  marks_in_from (right_join left right on on_at) = marks_in_from left ++ (marks_in_from right ++ marks_in_cond false on)
  marks_in_from (comma left right comma_at) = marks_in_from left ++ marks_in_from right

  pub marks_in_cond : Bool → CondTree → List Mark
  marks_in_cond below (compare at c a b word_at) = conjunct_mark below at
  marks_in_cond below (is_null at column) = conjunct_mark below at
  marks_in_cond below (is_not_null at column) = conjunct_mark below at
  marks_in_cond below (in_list at column values word_at) = conjunct_mark below at
  marks_in_cond below (in_query at columns query word_at) = in_mark below at word_at ++ marks query
  marks_in_cond below (all_of at parts) = marks_in_conds below parts
  marks_in_cond below (any_of at parts) = conjunct_mark below at ++ marks_in_conds true parts
  marks_in_cond below (negated at c) = conjunct_mark below at ++ marks_in_cond true c

  pub marks_in_conds : Bool → CondTrees → List Mark
  marks_in_conds below no_conds = []
  marks_in_conds below (cond_then c rest) = marks_in_cond below c ++ marks_in_conds below rest

abbrev pub same : Marked → Marked → Bool
same marked.FromItem marked.FromItem = true
same marked.Conjunct marked.Conjunct = true
same marked.HiddenIn marked.HiddenIn = true
same _ _ = false

-- where the marks of one kind stand
abbrev pub places : Marked → List Mark → List ℕ
places what [] = []
places what (m ∷ ms) = if same m.what what then m.at ∷ places what ms else places what ms

-- the marks of conditions in order, above each of which AND alone stands
abbrev pub marks_of_each : List CondTree → List Mark
marks_of_each [] = []
marks_of_each (c ∷ cs) = marks_in_cond false c ++ marks_of_each cs
