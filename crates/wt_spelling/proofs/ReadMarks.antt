-- What the limits count of a query does not depend on offsets.
use Rattle.std.proofs.Common.{◌≡◌, ℕ, zero, suc, ◌≤◌, Bool, true, false, List, [], ◌∷◌, ◌++◌, length, refl, ap, sym, ◌∙◌, arith, Option, Some, None}
use Rattle.std.specs.Prelude.{map, slice_get, if◌then◌else◌}
use Rattle.std.proofs.lemmas.List.{map-append}
use Rattle.std.proofs.lemmas.Option.{slice_get_past}
use Rattle.wt_ast.specs.declared.marks.Mark.{Mark}
use Rattle.wt_ast.specs.declared.marks.Marked.{Marked}
use Rattle.wt_ast.specs.declared.marks.Marked.TheVariants.{FromItem, Conjunct, HiddenIn}
use Rattle.wt_ast.specs.Marks.{mark, conjunct_mark, in_mark, marks, marks_in_filter, marks_in_from, marks_in_cond, marks_in_conds, same, places}
use Rattle.wt_ast.specs.Tree.{QueryTree, FilterTree, FromTree, CondTree, CondTrees, select, no_filter, filter_by, table, derived, inner_join, left_join, right_join, comma, compare, is_null, is_not_null, in_list, in_query, all_of, any_of, negated, no_conds, cond_then, without_places, filter_without_places, from_without_places, cond_without_places, conds_without_places}
use Rattle.wt_grammar.specs.declared.fault.QueryFault.{QueryFault}
use Rattle.wt_grammar.specs.Statements.{barred, earlier, too_many, hidden_or}

abbrev pub unplaced : Mark → Mark
unplaced m = mark m.what 0

both : (a b x y : List Mark) → x ≡ map unplaced a → y ≡ map unplaced b → x ++ y ≡ map unplaced (a ++ b)
both a b x y e f = (λ i. e i ++ f i) ∙ sym (map-append unplaced a b)

three : (a b c x y z : List Mark) → x ≡ map unplaced a → y ≡ map unplaced b → z ≡ map unplaced c → x ++ (y ++ z) ≡ map unplaced (a ++ (b ++ c))
three a b c x y z e f g = both a (b ++ c) x (y ++ z) e (both b c y z f g)

conjunct_same : (below : Bool) (at : ℕ) → conjunct_mark below 0 ≡ map unplaced (conjunct_mark below at)
conjunct_same false at = refl
conjunct_same true at = refl

in_same : (below : Bool) (at word_at : ℕ) → in_mark below 0 0 ≡ map unplaced (in_mark below at word_at)
in_same false at word_at = refl
in_same true at word_at = refl

mutual
  pub query_marks : (q : QueryTree) → marks (without_places q) ≡ map unplaced (marks q)
  query_marks (select d is from filter) =
      both (marks_in_from from) (marks_in_filter filter) (marks_in_from (from_without_places from)) (marks_in_filter (filter_without_places filter)) (from_marks from) (filter_marks filter)

  filter_marks : (w : FilterTree) → marks_in_filter (filter_without_places w) ≡ map unplaced (marks_in_filter w)
  filter_marks no_filter = refl
  filter_marks (filter_by c) = cond_marks false c

  from_marks : (t : FromTree) → marks_in_from (from_without_places t) ≡ map unplaced (marks_in_from t)
  from_marks (table name alias at alias_at) = refl
  from_marks (derived q alias columns at alias_at) = ap (λ ms. mark FromItem 0 ∷ ms) (query_marks q)
  from_marks (inner_join left right on on_at) = three (marks_in_from left) (marks_in_from right) (marks_in_cond false on) _ _ _ (from_marks left) (from_marks right) (cond_marks false on)
  from_marks (left_join left right on on_at) = three (marks_in_from left) (marks_in_from right) (marks_in_cond false on) _ _ _ (from_marks left) (from_marks right) (cond_marks false on)
  from_marks (right_join left right on on_at) = three (marks_in_from left) (marks_in_from right) (marks_in_cond false on) _ _ _ (from_marks left) (from_marks right) (cond_marks false on)
  from_marks (comma left right comma_at) = both (marks_in_from left) (marks_in_from right) _ _ (from_marks left) (from_marks right)

  cond_marks : (below : Bool) (c : CondTree) → marks_in_cond below (cond_without_places c) ≡ map unplaced (marks_in_cond below c)
  cond_marks below (compare at w a b word_at) = conjunct_same below at
  cond_marks below (is_null at column) = conjunct_same below at
  cond_marks below (is_not_null at column) = conjunct_same below at
  cond_marks below (in_list at column vs word_at) = conjunct_same below at
  cond_marks below (in_query at columns q word_at) = both (in_mark below at word_at) (marks q) _ _ (in_same below at word_at) (query_marks q)
  cond_marks below (all_of at parts) = conds_marks below parts
  cond_marks below (any_of at parts) = both (conjunct_mark below at) (marks_in_conds true parts) _ _ (conjunct_same below at) (conds_marks true parts)
  cond_marks below (negated at c) = both (conjunct_mark below at) (marks_in_cond true c) _ _ (conjunct_same below at) (cond_marks true c)

  conds_marks : (below : Bool) (cs : CondTrees) → marks_in_conds below (conds_without_places cs) ≡ map unplaced (marks_in_conds below cs)
  conds_marks below no_conds = refl
  conds_marks below (cond_then c cs) = both (marks_in_cond below c) (marks_in_conds below cs) _ _ (cond_marks below c) (conds_marks below cs)

-- ---- how many there are of each kind

many : (what : Marked) (ms : List Mark) → length (places what (map unplaced ms)) ≡ length (places what ms)
many what [] = refl
many what (m ∷ ms) = by (many what ms) (same m.what what)
  where
    by : length (places what (map unplaced ms)) ≡ length (places what ms) → (t : Bool)
        → length (if t then 0 ∷ places what (map unplaced ms) else places what (map unplaced ms)) ≡ length (if t then m.at ∷ places what ms else places what ms)
    by more true = omega (arith, more)
    by more false = more

few : (xs : List ℕ) (n : ℕ) → slice_get xs n ≡ None → length xs ≤ n
few [] n h = omega arith
few (x ∷ xs) zero h = absurd cc
few (x ∷ xs) (suc n) h = let less = few xs n h in omega (arith, less)

no_hidden : (h : Option ℕ) (o : Option (QueryFault × ℕ)) → hidden_or h o ≡ None → (h ≡ None) × (o ≡ None)
no_hidden None o e = (refl, e)
no_hidden (Some at) o e = absurd cc

not_many : (o : Option ℕ) → too_many o ≡ None → o ≡ None
not_many None e = refl
not_many (Some at) e = absurd cc

none_earlier : (a b : Option ℕ) → earlier a b ≡ None → (a ≡ None) × (b ≡ None)
none_earlier None b e = (refl, e)
none_earlier (Some a) None e = absurd cc
none_earlier (Some a) (Some b) e = absurd cc

-- what the limits count of marks
pub record Few (ms : List Mark) : Type 0 where
  pub hidden : length (places HiddenIn ms) ≤ 0
  pub items : length (places FromItem ms) ≤ 256
  pub conjuncts : length (places Conjunct ms) ≤ 256

are_few : (ms : List Mark) → barred ms ≡ None → Few ms
are_few ms h =
    let (hidden, crowd) = no_hidden _ _ h in
    let (items, conjuncts) = none_earlier _ _ (not_many _ crowd) in
    record {
      hidden = few (places HiddenIn ms) 0 hidden;
      items = few (places FromItem ms) 256 items;
      conjuncts = few (places Conjunct ms) 256 conjuncts;
    }

not_barred : (ms : List Mark) → Few ms → barred ms ≡ None
not_barred ms h =
    (λ i. hidden_or (slice_get_past (places HiddenIn ms) 0 h.hidden i) (too_many (earlier (slice_get_past (places FromItem ms) 256 h.items i) (slice_get_past (places Conjunct ms) 256 h.conjuncts i))))

-- Queries that are the same apart from offsets are both within the limits.
pub same_limits : (q r : QueryTree) → without_places q ≡ without_places r → barred (marks r) ≡ None → barred (marks q) ≡ None
same_limits q r e h =
    let alike : map unplaced (marks q) ≡ map unplaced (marks r) = sym (query_marks q) ∙ ap marks e ∙ query_marks r in
    let f = are_few (marks r) h in
    let as_many : (what : Marked) → length (places what (marks q)) ≡ length (places what (marks r)) =
    λ what. sym (many what (marks q)) ∙ ap (λ ms. length (places what ms)) alike ∙ many what (marks r) in
    not_barred (marks q) (record {
      hidden = omega (arith, f.hidden, as_many HiddenIn);
      items = omega (arith, f.items, as_many FromItem);
      conjuncts = omega (arith, f.conjuncts, as_many Conjunct);
    })
