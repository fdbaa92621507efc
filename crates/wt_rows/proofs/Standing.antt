-- On an instance of a lawful pair that meets a set, the lists of both sides stand.
use Rattle.std.proofs.Common.{ℕ, zero, suc, ◌<◌, Bool, true, false, ◌||◌, not, List, [], ◌∷◌, ◌++◌, ◌≡◌, refl, sym, ap, ◌∙◌, subst, arith, length, ◌⊎◌, inl, inr, eqb-true}
use Rattle.std.specs.Prelude.{nat_eq, slice_index_or, ◌==◌, ◌≢◌, if◌then◌else◌}
use Rattle.std.proofs.lemmas.Bool.{and_parts, and_from, false≢true, ne_eqb}
use Rattle.wt_bag.specs.Bags.{Each}
use Rattle.wt_bag.proofs.EachLaws.{each_append}
use Rattle.wt_symbol.specs.declared.head.Part.{Part}
use Rattle.wt_symbol.specs.Sides.{SideTree, input, proj, filtered, inner_join, left_join, in_sub, dedup, PairTree, leaves_of, lists_of, preds_of}
use Rattle.wt_symbol.specs.Lawful.{occurs, counts_up, all_different, all_in, is_numbered, uses_symbols_of, visible_leaves, sees, stands, IsLawful}
use Rattle.wt_symbol.specs.Heads.{anchor, head_of}
use Rattle.wt_symbol.proofs.SymbolLemmas.{EachBelow, counted_below, among_below, lawful_stands}
use Rattle.wt_instance.specs.declared.instance.Instance.{Instance}
use Rattle.wt_instance.specs.Instances.{numbers, IsInstance}
use Rattle.wt_instance.specs.Meeting.{comes_from, lists_come}
use Rattle.wt_rows.proofs.Reading.{AreFilled}
use Rattle.wt_rows.proofs.Holds.{all_among, parts3, parts4}
use Rattle.wt_rows.proofs.Naming.{ListStands}
use Rattle.wt_rows.proofs.SideFits.{SideStands}

occurs_left : (r : ℕ) (xs ys : List ℕ) → occurs r (xs ++ ys) ≡ false → occurs r xs ≡ false
occurs_left r [] ys h = refl
occurs_left r (x ∷ xs) ys h = go (nat_eq x r) h (occurs_left r xs ys)
  where
    go : (b : Bool) → (b || occurs r (xs ++ ys)) ≡ false → (occurs r (xs ++ ys) ≡ false → occurs r xs ≡ false) → (b || occurs r xs) ≡ false
    go true h f = h
    go false h f = f h

occurs_right : (r : ℕ) (xs ys : List ℕ) → occurs r (xs ++ ys) ≡ false → occurs r ys ≡ false
occurs_right r [] ys h = h
occurs_right r (x ∷ xs) ys h = go (nat_eq x r) h (occurs_right r xs ys)
  where
    go : (b : Bool) → (b || occurs r (xs ++ ys)) ≡ false → (occurs r (xs ++ ys) ≡ false → occurs r ys ≡ false) → occurs r ys ≡ false
    go true h f = absurd (false≢true (sym h))
    go false h f = f h

occurs_split : (r : ℕ) (xs ys : List ℕ) → occurs r (xs ++ ys) ≡ true → (occurs r xs ≡ true) ⊎ (occurs r ys ≡ true)
occurs_split r [] ys h = inr h
occurs_split r (x ∷ xs) ys h = go (nat_eq x r) h (occurs_split r xs ys)
  where
    go : (b : Bool) → (b || occurs r (xs ++ ys)) ≡ true → (occurs r (xs ++ ys) ≡ true → (occurs r xs ≡ true) ⊎ (occurs r ys ≡ true)) → ((b || occurs r xs) ≡ true) ⊎ (occurs r ys ≡ true)
    go true h f = inl refl
    go false h f = f h

occurs_put : (r : ℕ) (xs ys : List ℕ) → (occurs r xs ≡ true) ⊎ (occurs r ys ≡ true) → occurs r (xs ++ ys) ≡ true
occurs_put r [] ys (inl h) = absurd (false≢true h)
occurs_put r [] ys (inr h) = h
occurs_put r (x ∷ xs) ys h = go (nat_eq x r) h (occurs_put r xs ys)
  where
    go : (b : Bool) → ((b || occurs r xs) ≡ true) ⊎ (occurs r ys ≡ true) → ((occurs r xs ≡ true) ⊎ (occurs r ys ≡ true) → occurs r (xs ++ ys) ≡ true) → (b || occurs r (xs ++ ys)) ≡ true
    go true h f = refl
    go false h f = f h

not_true : (b : Bool) → not b ≡ true → b ≡ false
not_true true h = absurd (false≢true h)
not_true false h = refl

different_left : (xs ys : List ℕ) → all_different (xs ++ ys) ≡ true → all_different xs ≡ true
different_left [] ys h = refl
different_left (x ∷ xs) ys h =
    let p = and_parts (not (occurs x (xs ++ ys))) (all_different (xs ++ ys)) h in
    and_from (not (occurs x xs)) (all_different xs) (ap not (occurs_left x xs ys (not_true (occurs x (xs ++ ys)) p.0))) (different_left xs ys p.1)

different_right : (xs ys : List ℕ) → all_different (xs ++ ys) ≡ true → all_different ys ≡ true
different_right [] ys h = h
different_right (x ∷ xs) ys h = different_right xs ys (and_parts (not (occurs x (xs ++ ys))) (all_different (xs ++ ys)) h).1

occurs_at : (x r : ℕ) (ys : List ℕ) → nat_eq x r ≡ true → occurs x ys ≡ true → occurs r ys ≡ true
occurs_at x r ys e h = subst (λ z. occurs z ys ≡ true) (eqb-true x r e) h

-- no number stands in both of two parts
apart : (r : ℕ) (xs ys : List ℕ) → all_different (xs ++ ys) ≡ true → occurs r xs ≡ true → occurs r ys ≡ true → ⊥
apart r [] ys h p q = false≢true p
apart r (x ∷ xs) ys h p q =
    let here = and_parts (not (occurs x (xs ++ ys))) (all_different (xs ++ ys)) h in
    go (nat_eq x r) refl p here.0 (λ k. apart r xs ys here.1 k q)
  where
    go : (b : Bool) → nat_eq x r ≡ b → (b || occurs r xs) ≡ true → not (occurs x (xs ++ ys)) ≡ true → (occurs r xs ≡ true → ⊥) → ⊥
    go true e p' n f = false≢true (sym (occurs_right x xs ys (not_true (occurs x (xs ++ ys)) n)) ∙ subst (λ z. occurs z ys ≡ true) (sym (eqb-true x r e)) q)
    go false e p' n f = f p'

occurs_tells : (r : ℕ) (xs : List ℕ) → (occurs r xs ≡ true) ⊎ (occurs r xs ≡ false)
occurs_tells r xs = go (occurs r xs) refl
  where
    go : (b : Bool) → occurs r xs ≡ b → (occurs r xs ≡ true) ⊎ (occurs r xs ≡ false)
    go true e = inl e
    go false e = inr e

one_occurs : (x r : ℕ) → occurs r (x ∷ []) ≡ true → nat_eq x r ≡ true
one_occurs x r h = go (nat_eq x r) h
  where
    go : (b : Bool) → (b || false) ≡ true → b ≡ true
    go true h = refl
    go false h = h

either : {A B C D : Type 0} → A ⊎ B → (A → C) → (B → D) → C ⊎ D
either (inl a) f g = inl (f a)
either (inr b) f g = inr (g b)

-- what can be seen above a side is one of its leaves
visible_in : (s : SideTree) (A : List ℕ) (r : ℕ) → stands s A ≡ true → occurs r (visible_leaves s A) ≡ true → occurs r (leaves_of s) ≡ true
visible_in (input x) A r st h = h
visible_in (proj a s) A r st h =
    let p = and_parts (stands s A) (sees s A a) st in
    occurs_at (anchor A a) r (leaves_of s) (one_occurs (anchor A a) r h) (visible_in s A (anchor A a) p.0 p.1)
visible_in (filtered p a s) A r st h = visible_in s A r (and_parts (stands s A) (sees s A a) st).0 h
visible_in (inner_join a b s t) A r st h =
    let p = parts4 (stands s A) (stands t A) (sees s A a) (sees t A b) st in
    occurs_put r (leaves_of s) (leaves_of t) (either (occurs_split r (visible_leaves s A) (visible_leaves t A) h) (visible_in s A r p.0) (visible_in t A r p.1))
visible_in (left_join a b s t) A r st h =
    let p = parts4 (stands s A) (stands t A) (sees s A a) (sees t A b) st in
    occurs_put r (leaves_of s) (leaves_of t) (either (occurs_split r (visible_leaves s A) (visible_leaves t A) h) (visible_in s A r p.0) (visible_in t A r p.1))
visible_in (in_sub a s t) A r st h = occurs_put r (leaves_of s) (leaves_of t) (inl (visible_in s A r (parts3 (stands s A) (stands t A) (sees s A a) st).0 h))
visible_in (dedup s) A r st h = visible_in s A r st h

-- no part of the head is of a leaf that the side has not
none_of_head : (s : SideTree) (A : List ℕ) (r : ℕ) → stands s A ≡ true → occurs r (leaves_of s) ≡ false → Each (λ (k : Part). nat_eq k.leaf r ≡ false) (head_of s A)
none_of_head (input x) A r st h = (go (nat_eq x r) h, tt)
  where
    go : (b : Bool) → (b || false) ≡ false → b ≡ false
    go true h = h
    go false h = refl
none_of_head (proj a s) A r st h =
    let p = and_parts (stands s A) (sees s A a) st in
    (go (nat_eq (anchor A a) r) refl (visible_in s A (anchor A a) p.0 p.1), tt)
  where
    go : (b : Bool) → nat_eq (anchor A a) r ≡ b → occurs (anchor A a) (leaves_of s) ≡ true → b ≡ false
    go true e o = sym (occurs_at (anchor A a) r (leaves_of s) e o) ∙ h
    go false e o = refl
none_of_head (filtered p a s) A r st h = none_of_head s A r (and_parts (stands s A) (sees s A a) st).0 h
none_of_head (inner_join a b s t) A r st h =
    let p = parts4 (stands s A) (stands t A) (sees s A a) (sees t A b) st in
    each_append (λ (k : Part). nat_eq k.leaf r ≡ false) (head_of s A) (head_of t A) (none_of_head s A r p.0 (occurs_left r (leaves_of s) (leaves_of t) h)) (none_of_head t A r p.1 (occurs_right r (leaves_of s) (leaves_of t) h))
none_of_head (left_join a b s t) A r st h =
    let p = parts4 (stands s A) (stands t A) (sees s A a) (sees t A b) st in
    each_append (λ (k : Part). nat_eq k.leaf r ≡ false) (head_of s A) (head_of t A) (none_of_head s A r p.0 (occurs_left r (leaves_of s) (leaves_of t) h)) (none_of_head t A r p.1 (occurs_right r (leaves_of s) (leaves_of t) h))
none_of_head (in_sub a s t) A r st h = none_of_head s A r (parts3 (stands s A) (stands t A) (sees s A a) st).0 (occurs_left r (leaves_of s) (leaves_of t) h)
none_of_head (dedup s) A r st h = none_of_head s A r st h

stands_left : (I : Instance) (hs gs : List Part) (r a : ℕ) → ListStands I hs r a → Each (λ (k : Part). nat_eq k.leaf r ≡ false) gs → ListStands I (hs ++ gs) r a
stands_left I [] gs r a st n = absurd st
stands_left I (h ∷ hs) gs r a (inl st) n = inl (st.0, st.1, each_append (λ (k : Part). nat_eq k.leaf r ≡ false) hs gs st.2 n)
stands_left I (h ∷ hs) gs r a (inr st) n = inr (st.0, stands_left I hs gs r a st.1 n)

stands_right : (I : Instance) (hs gs : List Part) (r a : ℕ) → Each (λ (k : Part). nat_eq k.leaf r ≡ false) hs → ListStands I gs r a → ListStands I (hs ++ gs) r a
stands_right I [] gs r a n st = st
stands_right I (h ∷ hs) gs r a n st = inr (n.0, stands_right I hs gs r a n.1 st)

module _ (I : Instance) (A : List ℕ) where
  -- a list on one of two operands
  on_either : (s t : SideTree) (r a : ℕ) → stands s A ≡ true → stands t A ≡ true → all_different (leaves_of s ++ leaves_of t) ≡ true → occurs r (visible_leaves s A ++ visible_leaves t A) ≡ true →
      (if occurs r (leaves_of s) then comes_from s I r a else comes_from t I r a) ≡ true → (occurs r (visible_leaves s A) ≡ true → comes_from s I r a ≡ true → ListStands I (head_of s A) r a) →
      (occurs r (visible_leaves t A) ≡ true → comes_from t I r a ≡ true → ListStands I (head_of t A) r a) → ListStands I (head_of s A ++ head_of t A) r a
  on_either s t r a u v d o c left right = go (occurs_tells r (leaves_of s)) (occurs_split r (visible_leaves s A) (visible_leaves t A) o)
    where
      taken : (b : Bool) → occurs r (leaves_of s) ≡ b → (if b then comes_from s I r a else comes_from t I r a) ≡ true
      taken b e = subst (λ z. (if z then comes_from s I r a else comes_from t I r a) ≡ true) e c

      not_in_t : occurs r (leaves_of s) ≡ true → occurs r (leaves_of t) ≡ false
      not_in_t e = tells (occurs_tells r (leaves_of t))
        where
          tells : (occurs r (leaves_of t) ≡ true) ⊎ (occurs r (leaves_of t) ≡ false) → occurs r (leaves_of t) ≡ false
          tells (inl q) = absurd (apart r (leaves_of s) (leaves_of t) d e q)
          tells (inr q) = q

      go : (occurs r (leaves_of s) ≡ true) ⊎ (occurs r (leaves_of s) ≡ false) → (occurs r (visible_leaves s A) ≡ true) ⊎ (occurs r (visible_leaves t A) ≡ true) → ListStands I (head_of s A ++ head_of t A) r a
      go (inl e) (inl k) = stands_left I (head_of s A) (head_of t A) r a (left k (taken true e)) (none_of_head t A r v (not_in_t e))
      go (inl e) (inr k) = absurd (false≢true (sym (not_in_t e) ∙ visible_in t A r v k))
      go (inr e) (inl k) = absurd (false≢true (sym e ∙ visible_in s A r u k))
      go (inr e) (inr k) = stands_right I (head_of s A) (head_of t A) r a (none_of_head s A r u e) (right k (taken false e))

  list_stands : (s : SideTree) (r a : ℕ) → stands s A ≡ true → all_different (leaves_of s) ≡ true → occurs r (visible_leaves s A) ≡ true → comes_from s I r a ≡ true → ListStands I (head_of s A) r a
  list_stands (input x) r a st d o c = inl (one_occurs x r o, tt, tt)
  list_stands (proj b s) r a st d o c = inl (one_occurs (anchor A b) r o, all_among (numbers I a) (numbers I b) (and_parts (all_in (numbers I b) (numbers I a)) (comes_from s I r a) c).0, tt)
  list_stands (filtered p b s) r a st d o c = list_stands s r a (and_parts (stands s A) (sees s A b) st).0 d o c
  list_stands (inner_join b b' s t) r a st d o c =
      let p = parts4 (stands s A) (stands t A) (sees s A b) (sees t A b') st in
      on_either s t r a p.0 p.1 d o c (list_stands s r a p.0 (different_left (leaves_of s) (leaves_of t) d)) (list_stands t r a p.1 (different_right (leaves_of s) (leaves_of t) d))
  list_stands (left_join b b' s t) r a st d o c =
      let p = parts4 (stands s A) (stands t A) (sees s A b) (sees t A b') st in
      on_either s t r a p.0 p.1 d o c (list_stands s r a p.0 (different_left (leaves_of s) (leaves_of t) d)) (list_stands t r a p.1 (different_right (leaves_of s) (leaves_of t) d))
  list_stands (in_sub b s t) r a st d o c = list_stands s r a (parts3 (stands s A) (stands t A) (sees s A b) st).0 (different_left (leaves_of s) (leaves_of t) d) o c
  list_stands (dedup s) r a st d o c = list_stands s r a st d o c

  below_left : (m : ℕ) (xs ys : List ℕ) → EachBelow m (xs ++ ys) → EachBelow m xs
  below_left m [] ys h = tt
  below_left m (x ∷ xs) ys h = (h.0, below_left m xs ys h.1)

  below_right : (m : ℕ) (xs ys : List ℕ) → EachBelow m (xs ++ ys) → EachBelow m ys
  below_right m [] ys h = h
  below_right m (x ∷ xs) ys h = below_right m xs ys h.1

  pub side_lists_stand : (s : SideTree) → stands s A ≡ true → all_different (leaves_of s) ≡ true → lists_come s A I ≡ true → EachBelow (length I.tables) (leaves_of s) → EachBelow (length I.lists) (lists_of s) → EachBelow (length I.trues) (preds_of s) → SideStands I A s
  side_lists_stand (input r) st d c lv ls ps = lv.0
  side_lists_stand (proj a s) st d c lv ls ps =
      let p = and_parts (stands s A) (sees s A a) st in
      let q = and_parts (comes_from s I (anchor A a) a) (lists_come s A I) c in
      ((list_stands s (anchor A a) a p.0 d p.1 q.0, ls.0), side_lists_stand s p.0 d q.1 lv ls.1 ps)
  side_lists_stand (filtered x a s) st d c lv ls ps =
      let p = and_parts (stands s A) (sees s A a) st in
      let q = and_parts (comes_from s I (anchor A a) a) (lists_come s A I) c in
      ((list_stands s (anchor A a) a p.0 d p.1 q.0, ls.0), ps.0, side_lists_stand s p.0 d q.1 lv ls.1 ps.1)
  side_lists_stand (inner_join a b s t) st d c lv ls ps =
      let p = parts4 (stands s A) (stands t A) (sees s A a) (sees t A b) st in
      let q = parts4 (comes_from s I (anchor A a) a) (comes_from t I (anchor A b) b) (lists_come s A I) (lists_come t A I) c in
      let ds = different_left (leaves_of s) (leaves_of t) d in
      let dt = different_right (leaves_of s) (leaves_of t) d in (
        (list_stands s (anchor A a) a p.0 ds p.2 q.0, ls.0),
        (list_stands t (anchor A b) b p.1 dt p.3 q.1, ls.1.0),
        side_lists_stand s p.0 ds q.2 (below_left (length I.tables) (leaves_of s) (leaves_of t) lv) (below_left (length I.lists) (lists_of s) (lists_of t) ls.1.1) (below_left (length I.trues) (preds_of s) (preds_of t) ps),
        side_lists_stand t p.1 dt q.3 (below_right (length I.tables) (leaves_of s) (leaves_of t) lv) (below_right (length I.lists) (lists_of s) (lists_of t) ls.1.1) (below_right (length I.trues) (preds_of s) (preds_of t) ps),
      )
  side_lists_stand (left_join a b s t) st d c lv ls ps =
      let p = parts4 (stands s A) (stands t A) (sees s A a) (sees t A b) st in
      let q = parts4 (comes_from s I (anchor A a) a) (comes_from t I (anchor A b) b) (lists_come s A I) (lists_come t A I) c in
      let ds = different_left (leaves_of s) (leaves_of t) d in
      let dt = different_right (leaves_of s) (leaves_of t) d in (
        (list_stands s (anchor A a) a p.0 ds p.2 q.0, ls.0),
        (list_stands t (anchor A b) b p.1 dt p.3 q.1, ls.1.0),
        side_lists_stand s p.0 ds q.2 (below_left (length I.tables) (leaves_of s) (leaves_of t) lv) (below_left (length I.lists) (lists_of s) (lists_of t) ls.1.1) (below_left (length I.trues) (preds_of s) (preds_of t) ps),
        side_lists_stand t p.1 dt q.3 (below_right (length I.tables) (leaves_of s) (leaves_of t) lv) (below_right (length I.lists) (lists_of s) (lists_of t) ls.1.1) (below_right (length I.trues) (preds_of s) (preds_of t) ps),
      )
  side_lists_stand (in_sub a s t) st d c lv ls ps =
      let p = parts3 (stands s A) (stands t A) (sees s A a) st in
      let q = parts3 (comes_from s I (anchor A a) a) (lists_come s A I) (lists_come t A I) c in
      let ds = different_left (leaves_of s) (leaves_of t) d in
      let dt = different_right (leaves_of s) (leaves_of t) d in (
        (list_stands s (anchor A a) a p.0 ds p.2 q.0, ls.0),
        side_lists_stand s p.0 ds q.1 (below_left (length I.tables) (leaves_of s) (leaves_of t) lv) (below_left (length I.lists) (lists_of s) (lists_of t) ls.1) (below_left (length I.trues) (preds_of s) (preds_of t) ps),
        side_lists_stand t p.1 dt q.2 (below_right (length I.tables) (leaves_of s) (leaves_of t) lv) (below_right (length I.lists) (lists_of s) (lists_of t) ls.1) (below_right (length I.trues) (preds_of s) (preds_of t) ps),
      )
  side_lists_stand (dedup s) st d c lv ls ps = side_lists_stand s st d c lv ls ps

-- numbers that count up are all different
later_absent : (n m : ℕ) (xs : List ℕ) → counts_up m xs ≡ true → n < m → occurs n xs ≡ false
later_absent n m [] h l = refl
later_absent n m (x ∷ xs) h l =
    let p = and_parts (nat_eq x m) (counts_up (suc m) xs) h in
    let same : x ≡ m = eqb-true x m p.0 in
    ap (λ b. b || occurs n xs) (ne_eqb x n (λ e. let bad : ⊥ = omega (arith, e, same, l) in bad)) ∙ later_absent n (suc m) xs p.1 (omega (arith, l))

counted_different : (n : ℕ) (xs : List ℕ) → counts_up n xs ≡ true → all_different xs ≡ true
counted_different n [] h = refl
counted_different n (x ∷ xs) h =
    let p = and_parts (nat_eq x n) (counts_up (suc n) xs) h in
    let same : x ≡ n = eqb-true x n p.0 in
    and_from (not (occurs x xs)) (all_different xs) (ap not (later_absent x (suc n) xs p.1 (omega (arith, same)))) (counted_different (suc n) xs p.1)

pub each_filled : (xs : List (List ℕ)) → Each (λ list. list ≢ []) xs → (a : ℕ) → a < length xs → slice_index_or xs a [] ≢ []
each_filled [] h a l = let bad : ⊥ = omega (arith, l) in absurd bad
each_filled (x ∷ xs) h zero l = h.0
each_filled (x ∷ xs) h (suc a) l = each_filled xs h.1 a (omega (arith, l))

module _ (p : PairTree) (lawful : IsLawful p) (I : Instance) (is : IsInstance p I) where
  symbols : (is_numbered p.source ≡ true) × ((length p.anchors == length (lists_of p.source)) ≡ true) × (uses_symbols_of p.source p.dest ≡ true) × (all_different (leaves_of p.dest) ≡ true)
  symbols = parts4 (is_numbered p.source) (length p.anchors == length (lists_of p.source)) (uses_symbols_of p.source p.dest) (all_different (leaves_of p.dest)) lawful.symbols

  numbered : (counts_up 0 (leaves_of p.source) ≡ true) × (counts_up 0 (lists_of p.source) ≡ true) × (counts_up 0 (preds_of p.source) ≡ true)
  numbered = parts3 (counts_up 0 (leaves_of p.source)) (counts_up 0 (lists_of p.source)) (counts_up 0 (preds_of p.source)) symbols.0

  used : (all_in (leaves_of p.source) (leaves_of p.dest) ≡ true) × (all_in (lists_of p.source) (lists_of p.dest) ≡ true) × (all_in (preds_of p.source) (preds_of p.dest) ≡ true)
  used = parts3 (all_in (leaves_of p.source) (leaves_of p.dest)) (all_in (lists_of p.source) (lists_of p.dest)) (all_in (preds_of p.source) (preds_of p.dest)) symbols.2

  leaves : EachBelow (length I.tables) (leaves_of p.source)
  leaves = counted_below (length I.tables) 0 (leaves_of p.source) numbered.0 (omega (arith, is.parts.tables))

  lists : EachBelow (length I.lists) (lists_of p.source)
  lists = counted_below (length I.lists) 0 (lists_of p.source) numbered.1 (omega (arith, is.parts.lists))

  preds : EachBelow (length I.trues) (preds_of p.source)
  preds = counted_below (length I.trues) 0 (preds_of p.source) numbered.2 (omega (arith, is.parts.trues))

  pub source_stands : lists_come p.source p.anchors I ≡ true → SideStands I p.anchors p.source
  source_stands come = side_lists_stand I p.anchors p.source (lawful_stands p lawful).0 (counted_different 0 (leaves_of p.source) numbered.0) come leaves lists preds

  pub dest_stands : lists_come p.dest p.anchors I ≡ true → SideStands I p.anchors p.dest
  dest_stands come = side_lists_stand I p.anchors p.dest (lawful_stands p lawful).1 symbols.3 come
      (among_below (length I.tables) (leaves_of p.source) (leaves_of p.dest) leaves used.0) (among_below (length I.lists) (lists_of p.source) (lists_of p.dest) lists used.1) (among_below (length I.trues) (preds_of p.source) (preds_of p.dest) preds used.2)

  pub filled : AreFilled I
  filled a l = each_filled I.lists is.filled a l
