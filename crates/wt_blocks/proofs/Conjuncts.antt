-- The conjuncts of a zone's conditions, and those of a join, over places.
use Rattle.std.proofs.Common.{◌≡◌, ℕ, ◌+◌, ◌-◌, ◌<◌, ◌≤◌, nat_lt, ◌&&◌, not, cond, List, [], ◌∷◌, ◌++◌, append-nil, append_assoc, map, length, length-append, get_or, Some, None, is_some, refl, sym, ap, subst, ◌∙◌, arith}
use Rattle.std.specs.Prelude.{flat_map}
use Rattle.std.proofs.lemmas.Bool.{lt-ltb, le-ltb}
use Rattle.std.proofs.lemmas.List.{get_or-map, get_or-append-add, get_or_append_left}
use Rattle.wt_bag.specs.Bags.{Each}
use Rattle.wt_bag.specs.Choices.{Apart}
use Rattle.wt_bag.proofs.EachLaws.{each_append, each_map, each_for, each_implies}
use Rattle.wt_pred.specs.declared.tree.Cmp.TheVariants as signs
use Rattle.wt_pred.specs.declared.tree.Operand.TheVariants as operands
use Rattle.wt_pred.specs.Tree.{PredTree}
use Rattle.wt_pred.specs.Tree as preds
use Rattle.wt_pred.specs.Columns.{occurring, columns, renumbered}
use Rattle.wt_schema.specs.declared.schema.Table.{Table}
use Rattle.wt_ast.specs.Tree.{CondTree, trees_of}
use Rattle.wt_query_rows.specs.declared.scope.ScopeColumn.{ScopeColumn}
use Rattle.wt_query_rows.specs.Scopes.{in_scope}
use Rattle.wt_plan.specs.Tree.{PlanTree}
use Rattle.wt_plan.specs.Tree as plans
use Rattle.wt_plan.specs.Regular.{upto, IsNoAnd}
use Rattle.wt_plan.proofs.Upto.{length_map}
use Rattle.wt_place.specs.Placing.{Condition, test, put, stand}
use Rattle.wt_place.specs.Placing as places
use Rattle.wt_place.proofs.Regularity.{apart_map}
use Rattle.wt_query_plan.specs.Building.{Conjunct, keeps, is_in, across, pair_of, pairs_of, others_of, on_right, at_place, above, stacked, firsts, seconds, pred_of, kept_by, conjuncts, all_conjuncts}
use Rattle.wt_query_plan.proofs.Lookup.{map_append}
use Rattle.wt_blocks.specs.Blocks.{Zone, table, derived, kept, member, inner_join, left_join}
use Rattle.wt_blocks.specs.Counting.{zone_width}
use Rattle.wt_blocks.specs.Printed.{test_tree, pair_trees, together, where_of}
use Rattle.wt_blocks.proofs.Rebuilt.{built, zone_conditions}
use Rattle.wt_blocks.proofs.Fitting.{ZoneFits}
use Rattle.wt_blocks.proofs.Naming.{AllDiffer, Stands}
use Rattle.wt_blocks.proofs.Numbering.{places_upto, columns_over, taken_back, renumbered_twice}
use Rattle.wt_blocks.proofs.Tested.{place_there}

-- a condition as a conjunct over the same columns
abbrev pub as_conjunct : Condition → Conjunct
as_conjunct (test q cols) = keeps (renumbered (λ k. get_or cols k 0) q)
as_conjunct (places.member cols r) = is_in cols r

flat_append : {X Y : Type 0} (f : X → List Y) (xs ys : List X) → flat_map f (xs ++ ys) ≡ flat_map f xs ++ flat_map f ys
flat_append f [] ys = refl
flat_append f (x ∷ xs) ys = ap (λ l. f x ++ l) (flat_append f xs ys) ∙ sym (append_assoc (f x) (flat_map f xs) (flat_map f ys))

-- ---- conditions joined by AND

module _ (S : List Table) (scope : List ScopeColumn) where
  abbrev pub all_of : List CondTree → List Conjunct
  all_of cs = flat_map (conjuncts S scope) cs

  conjuncts_trees : (cs : List CondTree) → all_conjuncts S scope (trees_of cs) ≡ all_of cs
  conjuncts_trees [] = refl
  conjuncts_trees (c ∷ cs) = ap (λ l. conjuncts S scope c ++ l) (conjuncts_trees cs)

  pub conjuncts_together : (cs : List CondTree) → conjuncts S scope (together cs) ≡ all_of cs
  conjuncts_together [] = refl
  conjuncts_together (c ∷ []) = sym (append-nil (conjuncts S scope c))
  conjuncts_together (c ∷ d ∷ cs) = conjuncts_trees (c ∷ d ∷ cs)

  pub conjuncts_where : (cs : List CondTree) → kept_by S scope (where_of cs) ≡ all_of cs
  conjuncts_where [] = refl
  conjuncts_where (c ∷ cs) = conjuncts_together (c ∷ cs)

  pub conjuncts_append : (cs ds : List CondTree) → all_of (cs ++ ds) ≡ all_of cs ++ all_of ds
  conjuncts_append cs ds = flat_append (conjuncts S scope) cs ds

  -- a test is one conjunct
  pub test_conjunct : (columns : List ScopeColumn) (cols : List ℕ) (q : PredTree) → IsNoAnd q → conjuncts S scope (test_tree columns cols q) ≡ keeps (pred_of scope (test_tree columns cols q)) ∷ []
  test_conjunct columns cols (preds.compare s a b) h = refl
  test_conjunct columns cols (preds.is_null k) h = refl
  test_conjunct columns cols (preds.is_not_null k) h = refl
  test_conjunct columns cols (preds.in_list k vs) h = refl
  test_conjunct columns cols (preds.all_of ps) h = absurd h
  test_conjunct columns cols (preds.any_of ps) h = refl
  test_conjunct columns cols (preds.negated q) h = refl

-- ---- a conjunct that stands above a plan

pub record TestStands (w : ℕ) (q : PredTree) (cols : List ℕ) : Type 0 where
  pub apart : Apart cols
  pub within : Each (λ k. k < w) cols
  pub there : Each (λ k. k < length cols) (occurring q)
  pub in_order : columns q ≡ upto (length cols)

abbrev pub CanStand : ℕ → Condition → Type 0
CanStand w (test q cols) = TestStands w q cols
CanStand w (places.member cols r) = Each (λ k. k < w) cols

above_again : (w : ℕ) (c : Condition) (p : PlanTree) → CanStand w c → above (upto w) (as_conjunct c) p ≡ put c p
above_again w (test q cols) p h =
    let cs = columns_over cols h.apart q h.there h.in_order in
    let back = taken_back cols h.apart q h.there h.in_order in
    λ i. plans.filtered (back i) ((ap (map (at_place (upto w))) cs ∙ places_upto w cols h.within) i) p
above_again w (places.member cols r) p h = ap (λ l. plans.in_sub l p r) (places_upto w cols h)

pub stacked_again : (w : ℕ) (cs : List Condition) → Each (CanStand w) cs → (p : PlanTree) → stacked (upto w) (map as_conjunct cs) p ≡ stand cs p
stacked_again w [] h p = refl
stacked_again w (c ∷ cs) h p = ap (stacked (upto w) (map as_conjunct cs)) (above_again w c p h.0) ∙ stacked_again w cs h.1 (put c p)

module _ (S : List Table) where
  -- the columns of a zone's conditions are there
  raised : (d n w : ℕ) → d + n ≤ w → (cols : List ℕ) → Each (λ k. k < n) cols → Each (λ k. k < w) (map (λ k. d + k) cols)
  raised d n w room cols h = each_map (λ k. k < w) (λ k. d + k) cols (each_implies (λ k. k < n) (λ k. d + k < w) cols (λ k l. omega (arith, l, room)) h)

  pub conditions_stand : (d w : ℕ) (z : Zone) → ZoneFits S z → d + zone_width z ≤ w → Each (CanStand w) (zone_conditions d z)
  conditions_stand d w (table n v) h room = tt
  conditions_stand d w (derived b) h room = tt
  conditions_stand d w (kept q cols z) h room =
      let n : length (map (λ k. d + k) cols) ≡ length cols = length_map (λ k. d + k) cols in
      each_append (CanStand w) (zone_conditions d z) (test q (map (λ k. d + k) cols) ∷ []) (conditions_stand d w z h.1 room) (
        record {
          apart = apart_map (λ k. d + k) (λ k. Unit {0}) (λ x y a b e. omega (arith, e)) cols (each_for cols (λ k. tt)) h.0.regular.apart;
          within = raised d (zone_width z) w room cols h.0.places.within;
          there = subst (λ m. Each (λ k. k < m) (occurring q)) (sym n) h.0.there;
          in_order = h.0.regular.in_order ∙ ap upto (sym n);
        },
        tt,
      )
  conditions_stand d w (member cols z b) h room =
      each_append (CanStand w) (zone_conditions d z) (places.member (map (λ k. d + k) cols) (built b) ∷ []) (conditions_stand d w z h.1 room) (raised d (zone_width z) w room cols h.0.places.within, tt)
  conditions_stand d w (inner_join a b l r) h room =
      each_append (CanStand w) (zone_conditions d l) (zone_conditions (d + zone_width l) r) (conditions_stand d w l h.1 (omega (arith, room))) (conditions_stand (d + zone_width l) w r h.2 (omega (arith, room)))
  conditions_stand d w (left_join a b l r) h room = conditions_stand d w l h.1 (omega (arith, room))

  -- ---- conditions on the right operand of a join whose left one has n columns

  lowered : (n d : ℕ) (cols : List ℕ) → map (λ k. k - n) (map (λ k. (n + d) + k) cols) ≡ map (λ k. d + k) cols
  lowered n d [] = refl
  lowered n d (k ∷ cols) = let e : ((n + d) + k) - n ≡ d + k = omega arith in λ i. e i ∷ lowered n d cols i

  pub lowered_again : (n d : ℕ) (z : Zone) → ZoneFits S z → map (on_right n) (map as_conjunct (zone_conditions (n + d) z)) ≡ map as_conjunct (zone_conditions d z)
  lowered_again n d (table m v) h = refl
  lowered_again n d (derived b) h = refl
  lowered_again n d (kept q cols z) h =
      let high = map (λ k. (n + d) + k) cols in
      let low = map (λ k. d + k) cols in
      let same : renumbered (λ k. k - n) (renumbered (λ k. get_or high k 0) q) ≡ renumbered (λ k. get_or low k 0) q =
      renumbered_twice (λ k. get_or high k 0) (λ k. k - n) (λ k. get_or low k 0) q
      (each_implies (λ k. k < length cols) (λ k. get_or high k 0 - n ≡ get_or low k 0) (occurring q)
      (λ k l. let e : ((n + d) + get_or cols k 0) - n ≡ d + get_or cols k 0 = omega arith in
      ap (λ j. j - n) (get_or-map (λ j. (n + d) + j) cols k 0 0 l) ∙ e ∙ sym (get_or-map (λ j. d + j) cols k 0 0 l)) h.0.there)
      in
      ap (map (on_right n)) (map_append as_conjunct (zone_conditions (n + d) z) (test q high ∷ []))
      ∙ map_append (on_right n) (map as_conjunct (zone_conditions (n + d) z)) (as_conjunct (test q high) ∷ [])
      ∙ (λ i. lowered_again n d z h.1 i ++ keeps (same i) ∷ [])
      ∙ sym (map_append as_conjunct (zone_conditions d z) (test q low ∷ []))
  lowered_again n d (member cols z b) h =
      let high = map (λ k. (n + d) + k) cols in
      ap (map (on_right n)) (map_append as_conjunct (zone_conditions (n + d) z) (places.member high (built b) ∷ []))
      ∙ map_append (on_right n) (map as_conjunct (zone_conditions (n + d) z)) (is_in high (built b) ∷ [])
      ∙ (λ i. lowered_again n d z h.1 i ++ is_in (lowered n d cols i) (built b) ∷ [])
      ∙ sym (map_append as_conjunct (zone_conditions d z) (places.member (map (λ k. d + k) cols) (built b) ∷ []))
  lowered_again n d (inner_join a b l r) h =
      let e : (n + d) + zone_width l ≡ n + (d + zone_width l) = omega arith in
      ap (map (on_right n)) (map_append as_conjunct (zone_conditions (n + d) l) (zone_conditions ((n + d) + zone_width l) r))
      ∙ map_append (on_right n) (map as_conjunct (zone_conditions (n + d) l)) (map as_conjunct (zone_conditions ((n + d) + zone_width l) r))
      ∙ (λ i. lowered_again n d l h.1 i ++ (ap (λ m. map (on_right n) (map as_conjunct (zone_conditions m r))) e ∙ lowered_again n (d + zone_width l) r h.2) i)
      ∙ sym (map_append as_conjunct (zone_conditions d l) (zone_conditions (d + zone_width l) r))
  lowered_again n d (left_join a b l r) h = lowered_again n d l h.1

  -- none of them is a pair
  both_high : (n x y : ℕ) → n ≤ x → n ≤ y → across n x y ≡ None
  both_high n x y l m = λ i. cond (le-ltb x n l i && not (nat_lt y n)) (Some (x, y - n)) (cond (le-ltb y n m i && not (nat_lt x n)) (Some (y, x - n)) None)

  no_pair : (n : ℕ) (f : ℕ → ℕ) (q : PredTree) → Each (λ k. n ≤ f k) (occurring q) → pair_of n (keeps (renumbered f q)) ≡ None
  no_pair n f (preds.compare signs.Eq (operands.Column x) (operands.Column y)) h = both_high n (f x) (f y) h.0 h.1.0
  no_pair n f (preds.compare signs.Eq (operands.Column x) (operands.Constant w)) h = refl
  no_pair n f (preds.compare signs.Eq (operands.Constant v) (operands.Column y)) h = refl
  no_pair n f (preds.compare signs.Eq (operands.Constant v) (operands.Constant w)) h = refl
  no_pair n f (preds.compare signs.Ne a b) h = refl
  no_pair n f (preds.compare signs.Lt a b) h = refl
  no_pair n f (preds.compare signs.Le a b) h = refl
  no_pair n f (preds.compare signs.Gt a b) h = refl
  no_pair n f (preds.compare signs.Ge a b) h = refl
  no_pair n f (preds.is_null k) h = refl
  no_pair n f (preds.is_not_null k) h = refl
  no_pair n f (preds.in_list k vs) h = refl
  no_pair n f (preds.all_of ps) h = refl
  no_pair n f (preds.any_of ps) h = refl
  no_pair n f (preds.negated q) h = refl

  pub none_pairs : (n d : ℕ) (z : Zone) → ZoneFits S z → n ≤ d → Each (λ j. pair_of n j ≡ None) (map as_conjunct (zone_conditions d z))
  none_pairs n d (table m v) h low = tt
  none_pairs n d (derived b) h low = tt
  none_pairs n d (kept q cols z) h low =
      subst (Each (λ j. pair_of n j ≡ None)) (sym (map_append as_conjunct (zone_conditions d z) (test q (map (λ k. d + k) cols) ∷ [])))
      (each_append (λ j. pair_of n j ≡ None) (map as_conjunct (zone_conditions d z)) (as_conjunct (test q (map (λ k. d + k) cols)) ∷ []) (none_pairs n d z h.1 low) (
        no_pair n (λ k. get_or (map (λ j. d + j) cols) k 0) q
            (each_implies (λ k. k < length cols) (λ k. n ≤ get_or (map (λ j. d + j) cols) k 0) (occurring q) (λ k l. let e = get_or-map (λ j. d + j) cols k 0 0 l in omega (arith, e, low)) h.0.there),
        tt,
      ))
  none_pairs n d (member cols z b) h low =
      subst (Each (λ j. pair_of n j ≡ None)) (sym (map_append as_conjunct (zone_conditions d z) (places.member (map (λ k. d + k) cols) (built b) ∷ [])))
      (each_append (λ j. pair_of n j ≡ None) (map as_conjunct (zone_conditions d z)) (is_in (map (λ k. d + k) cols) (built b) ∷ []) (none_pairs n d z h.1 low) (refl, tt))
  none_pairs n d (inner_join a b l r) h low =
      subst (Each (λ j. pair_of n j ≡ None)) (sym (map_append as_conjunct (zone_conditions d l) (zone_conditions (d + zone_width l) r)))
      (each_append (λ j. pair_of n j ≡ None) (map as_conjunct (zone_conditions d l)) (map as_conjunct (zone_conditions (d + zone_width l) r)) (none_pairs n d l h.1 low) (none_pairs n (d + zone_width l) r h.2 (omega (arith, low))))
  none_pairs n d (left_join a b l r) h low = none_pairs n d l h.1 low

-- ---- the pairs of a join

abbrev pub pair_conjuncts : ℕ → List ℕ → List ℕ → List Conjunct
pair_conjuncts n (x ∷ a) (y ∷ b) = keeps (preds.compare signs.Eq (operands.Column x) (operands.Column (n + y))) ∷ pair_conjuncts n a b
pair_conjuncts n _ _ = []

-- the columns of two operands
pub stands_first : (xs ys : List ScopeColumn) → Stands (xs ++ ys) 0 xs
stands_first xs ys = record {
  room = omega (arith, length-append xs ys);
  same = λ k l. let e : 0 + k ≡ k = omega arith in ap (λ n. get_or (xs ++ ys) n (in_scope [] [])) e ∙ get_or_append_left xs ys (in_scope [] []) k l;
}

pub stands_second : (xs ys : List ScopeColumn) → Stands (xs ++ ys) (length xs) ys
stands_second xs ys = record { room = omega (arith, length-append xs ys); same = λ k l. get_or-append-add xs ys k (in_scope [] []) }

pub pair_conjuncts_of : (S : List Table) (lefts rights : List ScopeColumn) → AllDiffer (lefts ++ rights) → (a b : List ℕ) → Each (λ k. k < length lefts) a → Each (λ k. k < length rights) b
    → all_of S (lefts ++ rights) (pair_trees lefts rights a b) ≡ pair_conjuncts (length lefts) a b
pair_conjuncts_of S lefts rights d [] b h k = refl
pair_conjuncts_of S lefts rights d (x ∷ a) [] h k = refl
pair_conjuncts_of S lefts rights d (x ∷ a) (y ∷ b) h k =
    let e : 0 + x ≡ x = omega arith in
    let first = place_there (lefts ++ rights) d 0 lefts (stands_first lefts rights) x h.0 ∙ e in
    let second = place_there (lefts ++ rights) d (length lefts) rights (stands_second lefts rights) y k.0 in
    λ i. keeps (preds.compare signs.Eq (operands.Column (first i)) (operands.Column (second i))) ∷ pair_conjuncts_of S lefts rights d a b h.1 k.1 i

pub one_pair : (n x y : ℕ) → x < n → across n x (n + y) ≡ Some (x, y)
one_pair n x y l =
    let e : (n + y) - n ≡ y = omega arith in
    (λ i. cond (lt-ltb x n l i && not (le-ltb (n + y) n (omega arith) i)) (Some (x, (n + y) - n)) (cond (nat_lt (n + y) n && not (nat_lt x n)) (Some (n + y, x - n)) None))
    ∙ ap (λ m. Some (x, m)) e

next_pair : (n : ℕ) (j : Conjunct) (js : List Conjunct) (p : ℕ × ℕ) → pair_of n j ≡ Some p → pairs_of n (j ∷ js) ≡ p ∷ pairs_of n js
next_pair n j js p e = rw e refl

next_other : (n : ℕ) (j : Conjunct) (js : List Conjunct) → pair_of n j ≡ None → pairs_of n (j ∷ js) ≡ pairs_of n js
next_other n j js e = rw e refl

no_pairs : (n : ℕ) (js : List Conjunct) → Each (λ j. pair_of n j ≡ None) js → pairs_of n js ≡ []
no_pairs n [] h = refl
no_pairs n (j ∷ js) h = next_other n j js h.0 ∙ no_pairs n js h.1

all_others : (n : ℕ) (js : List Conjunct) → Each (λ j. pair_of n j ≡ None) js → others_of n js ≡ js
all_others n [] h = refl
all_others n (j ∷ js) h = ap (λ o. cond (not (is_some o)) (j ∷ others_of n js) (others_of n js)) h.0 ∙ ap (λ l. j ∷ l) (all_others n js h.1)

-- the pairs and the other conjuncts of an ON
module _ (n : ℕ) (os : List Conjunct) (none : Each (λ j. pair_of n j ≡ None) os) where
  pub lefts_of : (a b : List ℕ) → length a ≡ length b → Each (λ k. k < n) a → firsts (pairs_of n (pair_conjuncts n a b ++ os)) ≡ a
  lefts_of [] b e h = ap firsts (no_pairs n os none)
  lefts_of (x ∷ a) [] e h = absurd (let bad : ⊥ = omega (arith, e) in bad)
  lefts_of (x ∷ a) (y ∷ b) e h =
      ap firsts (next_pair n (keeps (preds.compare signs.Eq (operands.Column x) (operands.Column (n + y)))) (pair_conjuncts n a b ++ os) (x, y) (one_pair n x y h.0))
      ∙ ap (λ l. x ∷ l) (lefts_of a b (omega (arith, e)) h.1)

  pub rights_of : (a b : List ℕ) → length a ≡ length b → Each (λ k. k < n) a → seconds (pairs_of n (pair_conjuncts n a b ++ os)) ≡ b
  rights_of [] [] e h = ap seconds (no_pairs n os none)
  rights_of [] (y ∷ b) e h = absurd (let bad : ⊥ = omega (arith, e) in bad)
  rights_of (x ∷ a) [] e h = absurd (let bad : ⊥ = omega (arith, e) in bad)
  rights_of (x ∷ a) (y ∷ b) e h =
      ap seconds (next_pair n (keeps (preds.compare signs.Eq (operands.Column x) (operands.Column (n + y)))) (pair_conjuncts n a b ++ os) (x, y) (one_pair n x y h.0))
      ∙ ap (λ l. y ∷ l) (rights_of a b (omega (arith, e)) h.1)

  pub others_left : (a b : List ℕ) → Each (λ k. k < n) a → others_of n (pair_conjuncts n a b ++ os) ≡ os
  others_left [] b h = all_others n os none
  others_left (x ∷ a) [] h = all_others n os none
  others_left (x ∷ a) (y ∷ b) h =
      let j = keeps (preds.compare signs.Eq (operands.Column x) (operands.Column (n + y))) in
      let js = pair_conjuncts n a b ++ os in
      ap (λ o. cond (not (is_some o)) (j ∷ others_of n js) (others_of n js)) (one_pair n x y h.0) ∙ others_left a b h.1
