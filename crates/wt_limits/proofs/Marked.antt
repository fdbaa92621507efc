-- Each FROM item and each conjunct of a query has a mark.
use Rattle.std.proofs.Common.{◌≡◌, ℕ, ◌+◌, ◌≤◌, Bool, true, false, cond, List, [], ◌∷◌, ◌++◌, length, refl, arith}
use Rattle.wt_ast.specs.Tree.{QueryTree, FilterTree, FromTree, CondTree, CondTrees, select, no_filter, filter_by, table, derived, inner_join, left_join, right_join, comma, compare, is_null, is_not_null, in_list, in_query, all_of, any_of, negated, no_conds, cond_then}
use Rattle.wt_ast.specs.declared.marks.Mark.{Mark}
use Rattle.wt_ast.specs.declared.marks.Marked.{Marked}
use Rattle.wt_ast.specs.declared.marks.Marked.TheVariants.{FromItem, Conjunct}
use Rattle.wt_ast.specs.Marks.{marks, marks_in_filter, marks_in_from, marks_in_cond, marks_in_conds, conjunct_mark, in_mark, same, places}
use Rattle.wt_query_bounds.specs.Bounds.{items_in, items_in_filter, items_in_from, items_in_cond, items_in_conds, conjuncts_in, conjuncts_in_filter, conjuncts_in_from, conjuncts_in_cond, conjuncts_in_conds}

counted : (what : Marked) (xs ys : List Mark) → length (places what (xs ++ ys)) ≡ length (places what xs) + length (places what ys)
counted what [] ys = omega arith
counted what (m ∷ ms) ys = here (same m.what what) (counted what ms ys)
  where
    here : (b : Bool) → length (places what (ms ++ ys)) ≡ length (places what ms) + length (places what ys)
        → length (cond b (m.at ∷ places what (ms ++ ys)) (places what (ms ++ ys))) ≡ length (cond b (m.at ∷ places what ms) (places what ms)) + length (places what ys)
    here true e = omega (arith, e)
    here false e = e

counted_thrice : (what : Marked) (xs ys zs : List Mark) → length (places what (xs ++ (ys ++ zs))) ≡ (length (places what xs) + length (places what ys)) + length (places what zs)
counted_thrice what xs ys zs = omega (arith, counted what xs (ys ++ zs), counted what ys zs)

-- the mark of a conjunct is that of no item
no_item : (below : Bool) (at : ℕ) → length (places FromItem (conjunct_mark below at)) ≡ 0
no_item true at = refl
no_item false at = refl

no_item_in : (below : Bool) (at word_at : ℕ) → length (places FromItem (in_mark below at word_at)) ≡ 0
no_item_in true at word_at = refl
no_item_in false at word_at = refl

mutual
  pub items_marked : (q : QueryTree) → items_in q ≡ length (places FromItem (marks q))
  items_marked (select distinct items from filter) = omega (arith, counted FromItem (marks_in_from from) (marks_in_filter filter), from_items from, filter_items filter)

  filter_items : (k : FilterTree) → items_in_filter k ≡ length (places FromItem (marks_in_filter k))
  filter_items no_filter = refl
  filter_items (filter_by c) = cond_items false c

  from_items : (f : FromTree) → items_in_from f ≡ length (places FromItem (marks_in_from f))
  from_items (table name alias at alias_at) = refl
  from_items (derived q alias columns at alias_at) = omega (arith, items_marked q)
  from_items (inner_join l r on at) = omega (arith, counted_thrice FromItem (marks_in_from l) (marks_in_from r) (marks_in_cond false on), from_items l, from_items r, cond_items false on)
  from_items (left_join l r on at) = omega (arith, counted_thrice FromItem (marks_in_from l) (marks_in_from r) (marks_in_cond false on), from_items l, from_items r, cond_items false on)
  from_items (right_join l r on at) = omega (arith, counted_thrice FromItem (marks_in_from l) (marks_in_from r) (marks_in_cond false on), from_items l, from_items r, cond_items false on)
  from_items (comma l r at) = omega (arith, counted FromItem (marks_in_from l) (marks_in_from r), from_items l, from_items r)

  cond_items : (below : Bool) (c : CondTree) → items_in_cond c ≡ length (places FromItem (marks_in_cond below c))
  cond_items below (compare at sign a b word_at) = omega (arith, no_item below at)
  cond_items below (is_null at c) = omega (arith, no_item below at)
  cond_items below (is_not_null at c) = omega (arith, no_item below at)
  cond_items below (in_list at c vs word_at) = omega (arith, no_item below at)
  cond_items below (in_query at cs q word_at) = omega (arith, counted FromItem (in_mark below at word_at) (marks q), no_item_in below at word_at, items_marked q)
  cond_items below (all_of at cs) = conds_items below cs
  cond_items below (any_of at cs) = omega (arith, counted FromItem (conjunct_mark below at) (marks_in_conds true cs), no_item below at, conds_items true cs)
  cond_items below (negated at c) = omega (arith, counted FromItem (conjunct_mark below at) (marks_in_cond true c), no_item below at, cond_items true c)

  conds_items : (below : Bool) (cs : CondTrees) → items_in_conds cs ≡ length (places FromItem (marks_in_conds below cs))
  conds_items below no_conds = refl
  conds_items below (cond_then c cs) = omega (arith, counted FromItem (marks_in_cond below c) (marks_in_conds below cs), cond_items below c, conds_items below cs)

mutual
  pub conjuncts_marked : (q : QueryTree) → conjuncts_in q ≤ length (places Conjunct (marks q))
  conjuncts_marked (select distinct items from filter) = omega (arith, counted Conjunct (marks_in_from from) (marks_in_filter filter), from_conjuncts from, filter_conjuncts filter)

  filter_conjuncts : (k : FilterTree) → conjuncts_in_filter k ≤ length (places Conjunct (marks_in_filter k))
  filter_conjuncts no_filter = omega arith
  filter_conjuncts (filter_by c) = cond_conjuncts c

  from_conjuncts : (f : FromTree) → conjuncts_in_from f ≤ length (places Conjunct (marks_in_from f))
  from_conjuncts (table name alias at alias_at) = omega arith
  from_conjuncts (derived q alias columns at alias_at) = conjuncts_marked q
  from_conjuncts (inner_join l r on at) = omega (arith, counted_thrice Conjunct (marks_in_from l) (marks_in_from r) (marks_in_cond false on), from_conjuncts l, from_conjuncts r, cond_conjuncts on)
  from_conjuncts (left_join l r on at) = omega (arith, counted_thrice Conjunct (marks_in_from l) (marks_in_from r) (marks_in_cond false on), from_conjuncts l, from_conjuncts r, cond_conjuncts on)
  from_conjuncts (right_join l r on at) = omega (arith, counted_thrice Conjunct (marks_in_from l) (marks_in_from r) (marks_in_cond false on), from_conjuncts l, from_conjuncts r, cond_conjuncts on)
  from_conjuncts (comma l r at) = omega (arith, counted Conjunct (marks_in_from l) (marks_in_from r), from_conjuncts l, from_conjuncts r)

  cond_conjuncts : (c : CondTree) → conjuncts_in_cond c ≤ length (places Conjunct (marks_in_cond false c))
  cond_conjuncts (compare at sign a b word_at) = omega arith
  cond_conjuncts (is_null at c) = omega arith
  cond_conjuncts (is_not_null at c) = omega arith
  cond_conjuncts (in_list at c vs word_at) = omega arith
  cond_conjuncts (in_query at cs q word_at) = omega (arith, conjuncts_marked q)
  cond_conjuncts (all_of at cs) = conds_conjuncts cs
  cond_conjuncts (any_of at cs) = omega arith
  cond_conjuncts (negated at c) = omega arith

  conds_conjuncts : (cs : CondTrees) → conjuncts_in_conds cs ≤ length (places Conjunct (marks_in_conds false cs))
  conds_conjuncts no_conds = omega arith
  conds_conjuncts (cond_then c cs) = omega (arith, counted Conjunct (marks_in_cond false c) (marks_in_conds false cs), cond_conjuncts c, conds_conjuncts cs)
