-- Numbers that have a place in an operand's output come from the list's anchor, and those that come from it have one.
use Rattle.std.proofs.Common.{◌≡◌, ◌≢◌, ℕ, zero, suc, ◌+◌, ◌<◌, ◌≤◌, Bool, true, false, List, [], ◌∷◌, ◌++◌, map, length, refl, sym, ap, ◌∙◌, subst, inl, inr, arith}
use Rattle.std.specs.Prelude.{◌⊎◌, ◌==◌, ◌&&◌, nat_lt, slice_index_or, if◌then◌else◌}
use Rattle.std.specs.List.{list_all}
use Rattle.std.proofs.lemmas.Bool.{false≢true}
use Rattle.std.proofs.lemmas.Grind.{common_steps}
use Rattle.wt_bag.specs.Bags.{Each}
use Rattle.wt_bag.specs.Choices.{Has}
use Rattle.wt_bag.proofs.EachLaws.{each_implies}
use Rattle.wt_bag.proofs.Counting.{each_from_list_all}
use Rattle.wt_bag.proofs.HasLaws.{has_left, has_right, has_split, has_map, has_from_map, has_list_any, list_any_has}
use Rattle.wt_bag.proofs.UniqueLists.{each_has}
use Rattle.wt_symbol.specs.Sides as sides
use Rattle.wt_symbol.specs.Sides.{SideTree, leaves_of}
use Rattle.wt_symbol.specs.Lawful.{occurs, all_in}
use Rattle.wt_symbol.specs.Heads.{anchor}
use Rattle.wt_instance.specs.declared.named.Column.{Column}
use Rattle.wt_instance.specs.Rows.{column, leaf_columns}
use Rattle.wt_instance.specs.Meeting.{comes_from}
use Rattle.wt_plan.specs.Measures.{width}
use Rattle.wt_matching.specs.Filling.{Assigned, shape, header, place}
use Rattle.wt_matching.specs.Filling.{list_of}
use Rattle.wt_matching.specs.Finding.{ArePlaced}
use Rattle.wt_known.proofs.Lists.{has_index}
use Rattle.wt_known.proofs.Agreeing.{and_parts, lt_true, eq_true}
use Rattle.wt_matching.proofs.FindLaws.{placed_column, number_itself}

-- the leaves that a side's output shows
abbrev pub seen_of : SideTree → List ℕ → List ℕ
seen_of (sides.input r) A = r ∷ []
seen_of (sides.proj a s) A = anchor A a ∷ []
seen_of (sides.filtered p a s) A = seen_of s A
seen_of (sides.inner_join a b s t) A = seen_of s A ++ seen_of t A
seen_of (sides.left_join a b s t) A = seen_of s A ++ seen_of t A
seen_of (sides.in_sub a s t) A = seen_of s A
seen_of (sides.dedup s) A = seen_of s A

abbrev pub HaveNone : List ℕ → List ℕ → Type 0
HaveNone xs ys = (r : ℕ) → Has r xs → Has r ys → ⊥

-- each Proj's anchor is seen at its operand, and the operands of a join have no leaf in common
abbrev pub IsLaid : SideTree → List ℕ → Type 0
IsLaid (sides.input r) A = Unit {0}
IsLaid (sides.proj a s) A = Has (anchor A a) (seen_of s A) × IsLaid s A
IsLaid (sides.filtered p a s) A = IsLaid s A
IsLaid (sides.inner_join a b s t) A = HaveNone (leaves_of s) (leaves_of t) × IsLaid s A × IsLaid t A
IsLaid (sides.left_join a b s t) A = HaveNone (leaves_of s) (leaves_of t) × IsLaid s A × IsLaid t A
IsLaid (sides.in_sub a s t) A = IsLaid s A × IsLaid t A
IsLaid (sides.dedup s) A = IsLaid s A

both_true : (b c : Bool) → b ≡ true → c ≡ true → (b && c) ≡ true
both_true b c e f = cc

pub from_has : (cs : List Column) (r n : ℕ) → Has (column r n) cs → place cs r n < length cs
from_has [] r n h = absurd h
from_has (c ∷ cs) r n h = here ((c.leaf == r) && (c.number == n)) refl h (from_has cs r n)
  where
    passes : (c : Column) → column r n ≡ c → ((c.leaf == r) && (c.number == n)) ≡ true
    passes c e = subst (λ (d : Column). ((d.leaf == r) && (d.number == n)) ≡ true) e (both_true (r == r) (n == n) (number_itself r) (number_itself n))

    here : (b : Bool) → ((c.leaf == r) && (c.number == n)) ≡ b → (column r n ≡ c) ⊎ Has (column r n) cs → (Has (column r n) cs → place cs r n < length cs) → (if b then 0 else suc (place cs r n)) < suc (length cs)
    here true e h ih = omega arith
    here false e (inl same) ih = absurd (false≢true (sym e ∙ passes c same))
    here false e (inr k) ih = let lt = ih k in omega (arith, lt)

pub to_has : (cs : List Column) (r n : ℕ) → place cs r n < length cs → Has (column r n) cs
to_has cs r n h = subst (λ c. Has c cs) (placed_column cs r n (column r n) h) (has_index cs (place cs r n) (column r n) h)

leaf_seen : (x k w : ℕ) (c : Column) → Has c (leaf_columns x k w) → c.leaf ≡ x
leaf_seen x k zero c h = absurd h
leaf_seen x k (suc w) c (inl e) = ap (λ (d : Column). d.leaf) e
leaf_seen x k (suc w) c (inr h) = leaf_seen x (suc k) w c h

leaf_number : (x k w : ℕ) (c : Column) → Has c (leaf_columns x k w) → c.number < k + w
leaf_number x k zero c h = absurd h
leaf_number x k (suc w) c (inl e) = let same = ap (λ (d : Column). d.number) e in omega (arith, same)
leaf_number x k (suc w) c (inr h) = let lt = leaf_number x (suc k) w c h in omega (arith, lt)

leaf_has : (x k w n : ℕ) → k ≤ n → n < k + w → Has (column x n) (leaf_columns x k w)
leaf_has x k zero n l h = absurd (omega (arith, l, h))
leaf_has x k (suc w) n l h = here (k == n) refl (λ g e. leaf_has x (suc k) w n g e)
  where
    differs : (k == n) ≡ false → k ≢ n
    differs e same = false≢true (sym e ∙ ap (λ z. k == z) (sym same) ∙ number_itself k)

    here : (b : Bool) → (k == n) ≡ b → (suc k ≤ n → n < suc k + w → Has (column x n) (leaf_columns x (suc k) w)) → Has (column x n) (column x k ∷ leaf_columns x (suc k) w)
    here true e f = inl (ap (column x) (sym (eq_true k n e)))
    here false e f = let other = differs e in inr (f (omega (arith, l, other)) (omega (arith, h)))

occurs_has : (r : ℕ) (xs : List ℕ) → occurs r xs ≡ true → Has r xs
occurs_has r xs h = let found = has_list_any (λ y. y == r) xs h in subst (λ z. Has z xs) (eq_true found.0 r found.2) found.1

has_occurs : (r : ℕ) (xs : List ℕ) → Has r xs → occurs r xs ≡ true
has_occurs r xs h = list_any_has (λ y. y == r) r xs h (number_itself r)

list_all_from : (p : ℕ → Bool) (xs : List ℕ) → Each (λ x. p x ≡ true) xs → list_all p xs ≡ true
list_all_from p [] h = refl
list_all_from p (x ∷ xs) h = both (p x) (list_all p xs) h.0 (list_all_from p xs h.1)
  where
    both : (b c : Bool) → b ≡ true → c ≡ true → (b && c) ≡ true
    both b c e f = cc

lt_is : (n w : ℕ) → n < w → nat_lt n w ≡ true
lt_is n w h = grind (arith, common_steps)

seen_leaves : (s : SideTree) (A : List ℕ) → IsLaid s A → (r : ℕ) → Has r (seen_of s A) → Has r (leaves_of s)
seen_leaves (sides.input x) A l r h = h
seen_leaves (sides.proj a s) A l r (inl e) = seen_leaves s A l.1 r (subst (λ z. Has z (seen_of s A)) (sym e) l.0)
seen_leaves (sides.proj a s) A l r (inr h) = absurd h
seen_leaves (sides.filtered p a s) A l r h = seen_leaves s A l r h
seen_leaves (sides.inner_join a b s t) A l r h = elim (has_split r (seen_of s A) (seen_of t A) h) [ inl k ↦ has_left r (leaves_of s) (leaves_of t) (seen_leaves s A l.1 r k) | inr k ↦ has_right r (leaves_of s) (leaves_of t) (seen_leaves t A l.2 r k) ]
seen_leaves (sides.left_join a b s t) A l r h = elim (has_split r (seen_of s A) (seen_of t A) h) [ inl k ↦ has_left r (leaves_of s) (leaves_of t) (seen_leaves s A l.1 r k) | inr k ↦ has_right r (leaves_of s) (leaves_of t) (seen_leaves t A l.2 r k) ]
seen_leaves (sides.in_sub a s t) A l r h = has_left r (leaves_of s) (leaves_of t) (seen_leaves s A l.0 r h)
seen_leaves (sides.dedup s) A l r h = seen_leaves s A l r h

module _ (A : List ℕ) (m : Assigned) where
  header_seen : (s : SideTree) (c : Column) → Has c (header s A m) → Has c.leaf (seen_of s A)
  header_seen (sides.input x) c h = inl (leaf_seen x 0 _ c h)
  header_seen (sides.proj a s) c h = let found = has_from_map c (column (anchor A a)) (list_of m a) h in inl (ap (λ (d : Column). d.leaf) found.2)
  header_seen (sides.filtered p a s) c h = header_seen s c h
  header_seen (sides.inner_join a b s t) c h = elim (has_split c (header s A m) (header t A m) h) [ inl k ↦ has_left c.leaf (seen_of s A) (seen_of t A) (header_seen s c k) | inr k ↦ has_right c.leaf (seen_of s A) (seen_of t A) (header_seen t c k) ]
  header_seen (sides.left_join a b s t) c h = elim (has_split c (header s A m) (header t A m) h) [ inl k ↦ has_left c.leaf (seen_of s A) (seen_of t A) (header_seen s c k) | inr k ↦ has_right c.leaf (seen_of s A) (seen_of t A) (header_seen t c k) ]
  header_seen (sides.in_sub a s t) c h = header_seen s c h
  header_seen (sides.dedup s) c h = header_seen s c h

  -- a join shows a column of a leaf of its left operand there alone, and any other in its right one
  in_left : (s t : SideTree) (r n : ℕ) → HaveNone (leaves_of s) (leaves_of t) → IsLaid t A → Has (column r n) (header s A m ++ header t A m) → occurs r (leaves_of s) ≡ true → Has (column r n) (header s A m)
  in_left s t r n apart lt h e = elim (has_split (column r n) (header s A m) (header t A m) h) [
    | inl k ↦ k
    | inr k ↦ absurd (apart r (occurs_has r (leaves_of s) e) (seen_leaves t A lt r (header_seen t (column r n) k)))
  ]

  in_right : (s t : SideTree) (r n : ℕ) → IsLaid s A → Has (column r n) (header s A m ++ header t A m) → occurs r (leaves_of s) ≡ false → Has (column r n) (header t A m)
  in_right s t r n ls h e = elim (has_split (column r n) (header s A m) (header t A m) h) [
    | inl k ↦ absurd (false≢true (sym e ∙ has_occurs r (leaves_of s) (seen_leaves s A ls r (header_seen s (column r n) k))))
    | inr k ↦ k
  ]

  join_comes : (s t : SideTree) (r a : ℕ) → HaveNone (leaves_of s) (leaves_of t) → IsLaid s A → IsLaid t A → Each (λ n. Has (column r n) (header s A m ++ header t A m)) (list_of m a) →
      (Each (λ n. Has (column r n) (header s A m)) (list_of m a) → comes_from s (shape m) r a ≡ true) → (Each (λ n. Has (column r n) (header t A m)) (list_of m a) → comes_from t (shape m) r a ≡ true) →
      (b : Bool) → occurs r (leaves_of s) ≡ b → (if b then comes_from s (shape m) r a else comes_from t (shape m) r a) ≡ true
  join_comes s t r a apart ls lt h f g true e = f (each_implies (λ n. Has (column r n) (header s A m ++ header t A m)) (λ n. Has (column r n) (header s A m)) (list_of m a) (λ n k. in_left s t r n apart lt k e) h)
  join_comes s t r a apart ls lt h f g false e = g (each_implies (λ n. Has (column r n) (header s A m ++ header t A m)) (λ n. Has (column r n) (header t A m)) (list_of m a) (λ n k. in_right s t r n ls k e) h)

  -- numbers with a column in the output come from its leaf
  pub comes : (s : SideTree) (r a : ℕ) → IsLaid s A → ArePlaced s A m → Each (λ n. Has (column r n) (header s A m)) (list_of m a) → comes_from s (shape m) r a ≡ true
  comes (sides.input x) r a l p h = list_all_from (λ n. nat_lt n (slice_index_or (map width m.leaves) r 0)) (list_of m a) (each_implies (λ n. Has (column r n) (leaf_columns x 0 (slice_index_or (map width m.leaves) x 0))) (λ n. nat_lt n (slice_index_or (map width m.leaves) r 0) ≡ true) (list_of m a)
      (λ n k. let lt = leaf_number x 0 (slice_index_or (map width m.leaves) x 0) (column r n) k in
      subst (λ z. nat_lt n (slice_index_or (map width m.leaves) z 0) ≡ true) (sym (leaf_seen x 0 (slice_index_or (map width m.leaves) x 0) (column r n) k)) (lt_is n (slice_index_or (map width m.leaves) x 0) (omega (arith, lt)))) h)
  comes (sides.proj b s) r a l p h =
      both _ _
      (list_all_from (λ n. occurs n (list_of m b)) (list_of m a) (each_implies (λ n. Has (column r n) (map (column (anchor A b)) (list_of m b))) (λ n. occurs n (list_of m b) ≡ true) (list_of m a)
      (λ n k. let found = has_from_map (column r n) (column (anchor A b)) (list_of m b) k in has_occurs n (list_of m b) (subst (λ z. Has z (list_of m b)) (sym (ap (λ (d : Column). d.number) found.2)) found.1)) h))
      (comes s r a l.1 p.1 (each_implies (λ n. Has (column r n) (map (column (anchor A b)) (list_of m b))) (λ n. Has (column r n) (header s A m)) (list_of m a)
      (λ n k. let found = has_from_map (column r n) (column (anchor A b)) (list_of m b) k in
      subst (λ c. Has c (header s A m)) (sym found.2) (to_has (header s A m) (anchor A b) found.0 (each_has (λ z. place (header s A m) (anchor A b) z < length (header s A m)) found.0 (list_of m b) p.0 found.1))) h))
    where
      both : (b c : Bool) → b ≡ true → c ≡ true → (b && c) ≡ true
      both b c e f = cc
  comes (sides.filtered q b s) r a l p h = comes s r a l p.1 h
  comes (sides.inner_join b c s t) r a l p h = join_comes s t r a l.0 l.1 l.2 h (λ k. comes s r a l.1 p.2 k) (λ k. comes t r a l.2 p.3 k) (occurs r (leaves_of s)) refl
  comes (sides.left_join b c s t) r a l p h = join_comes s t r a l.0 l.1 l.2 h (λ k. comes s r a l.1 p.2 k) (λ k. comes t r a l.2 p.3 k) (occurs r (leaves_of s)) refl
  comes (sides.in_sub b s t) r a l p h = comes s r a l.0 p.1 h
  comes (sides.dedup s) r a l p h = comes s r a l p h

  join_place : (s t : SideTree) (r a : ℕ) → HaveNone (leaves_of s) (leaves_of t) → IsLaid s A → IsLaid t A → Has r (seen_of s A ++ seen_of t A) →
      (Has r (seen_of s A) → comes_from s (shape m) r a ≡ true → Each (λ n. Has (column r n) (header s A m)) (list_of m a)) → (Has r (seen_of t A) → comes_from t (shape m) r a ≡ true → Each (λ n. Has (column r n) (header t A m)) (list_of m a)) →
      (b : Bool) → occurs r (leaves_of s) ≡ b → (if b then comes_from s (shape m) r a else comes_from t (shape m) r a) ≡ true → Each (λ n. Has (column r n) (header s A m ++ header t A m)) (list_of m a)
  join_place s t r a apart ls lt h f g true e k = elim (has_split r (seen_of s A) (seen_of t A) h) [
    | inl j ↦ each_implies (λ n. Has (column r n) (header s A m)) (λ n. Has (column r n) (header s A m ++ header t A m)) (list_of m a) (λ n i. has_left (column r n) (header s A m) (header t A m) i) (f j k)
    | inr j ↦ absurd (apart r (occurs_has r (leaves_of s) e) (seen_leaves t A lt r j))
  ]
  join_place s t r a apart ls lt h f g false e k = elim (has_split r (seen_of s A) (seen_of t A) h) [
    | inl j ↦ absurd (false≢true (sym e ∙ has_occurs r (leaves_of s) (seen_leaves s A ls r j)))
    | inr j ↦ each_implies (λ n. Has (column r n) (header t A m)) (λ n. Has (column r n) (header s A m ++ header t A m)) (list_of m a) (λ n i. has_right (column r n) (header s A m) (header t A m) i) (g j k)
  ]

  -- and back, where the leaf is seen
  pub has_place : (s : SideTree) (r a : ℕ) → IsLaid s A → Has r (seen_of s A) → comes_from s (shape m) r a ≡ true → Each (λ n. Has (column r n) (header s A m)) (list_of m a)
  has_place (sides.input x) r a l (inr h) e = absurd h
  has_place (sides.input x) r a l (inl same) e = each_from_list_all (λ n. nat_lt n (slice_index_or (map width m.leaves) r 0)) (λ n. Has (column r n) (leaf_columns x 0 (slice_index_or (map width m.leaves) x 0)))
      (λ n k. subst (λ z. Has (column r n) (leaf_columns z 0 (slice_index_or (map width m.leaves) z 0))) same (let lt = lt_true n (slice_index_or (map width m.leaves) r 0) k in leaf_has r 0 (slice_index_or (map width m.leaves) r 0) n (omega arith) (omega (arith, lt)))) (list_of m a) e
  has_place (sides.proj b s) r a l (inr h) e = absurd h
  has_place (sides.proj b s) r a l (inl same) e =
      let parts = and_parts (all_in (list_of m b) (list_of m a)) (comes_from s (shape m) r a) e in
      each_from_list_all _ (λ n. Has (column r n) (map (column (anchor A b)) (list_of m b)))
      (λ n k. subst (λ z. Has (column z n) (map (column (anchor A b)) (list_of m b))) (sym same) (has_map n (column (anchor A b)) (list_of m b) (occurs_has n (list_of m b) k))) (list_of m a) parts.0
  has_place (sides.filtered q b s) r a l h e = has_place s r a l h e
  has_place (sides.inner_join b c s t) r a l h e = join_place s t r a l.0 l.1 l.2 h (λ k f. has_place s r a l.1 k f) (λ k f. has_place t r a l.2 k f) (occurs r (leaves_of s)) refl e
  has_place (sides.left_join b c s t) r a l h e = join_place s t r a l.0 l.1 l.2 h (λ k f. has_place s r a l.1 k f) (λ k f. has_place t r a l.2 k f) (occurs r (leaves_of s)) refl e
  has_place (sides.in_sub b s t) r a l h e = has_place s r a l.0 h e
  has_place (sides.dedup s) r a l h e = has_place s r a l h e
