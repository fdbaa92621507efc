-- The sides of a lawful pair are laid out so that a list's numbers come from its anchor exactly where they have places.
use Rattle.std.proofs.Common.{◌≡◌, ◌≢◌, ℕ, suc, ◌<◌, ◌≤◌, Bool, true, List, [], ◌∷◌, ◌++◌, length, refl, sym, subst, inl, inr, arith}
use Rattle.std.specs.Prelude.{◌==◌, ◌&&◌}
use Rattle.wt_bag.specs.Bags.{Each}
use Rattle.wt_bag.specs.Choices.{Apart, Has}
use Rattle.wt_bag.proofs.EachLaws.{each_implies}
use Rattle.wt_bag.proofs.HasLaws.{has_list_any}
use Rattle.wt_bag.proofs.UniqueLists.{each_has}
use Rattle.wt_symbol.specs.Sides as sides
use Rattle.wt_symbol.specs.Sides.{SideTree, PairTree, leaves_of}
use Rattle.wt_symbol.specs.Lawful.{occurs, counts_up, visible_leaves, sees, stands, IsLawful}
use Rattle.wt_symbol.specs.Heads.{anchor}
use Rattle.wt_symbol.proofs.SymbolLemmas.{source_leaves, lawful_stands}
use Rattle.wt_instance.specs.Rows.{column}
use Rattle.wt_instance.specs.Meeting.{comes_from, lists_come}
use Rattle.wt_known.proofs.Agreeing.{and_parts, eq_true}
use Rattle.wt_matching.specs.Filling.{Assigned, list_of, shape, header, place}
use Rattle.wt_matching.specs.Finding.{IsPlaced, ArePlaced}
use Rattle.wt_matching.proofs.Lists.{both_parts}
use Rattle.wt_matching.proofs.SubAttrLaws.{seen_of, HaveNone, IsLaid, from_has, to_has, comes, has_place}
use Rattle.wt_matching.proofs.Premises.{dest_leaves_apart}

occurs_has : (r : ℕ) (xs : List ℕ) → occurs r xs ≡ true → Has r xs
occurs_has r xs h = let found = has_list_any (λ y. y == r) xs h in subst (λ z. Has z xs) (eq_true found.0 r found.2) found.1

seen_visible : (s : SideTree) (A : List ℕ) → seen_of s A ≡ visible_leaves s A
seen_visible (sides.input r) A = refl
seen_visible (sides.proj a s) A = refl
seen_visible (sides.filtered p a s) A = seen_visible s A
seen_visible (sides.inner_join a b s t) A = both_parts (seen_of s A) (seen_of t A) (visible_leaves s A) (visible_leaves t A) (seen_visible s A) (seen_visible t A)
seen_visible (sides.left_join a b s t) A = both_parts (seen_of s A) (seen_of t A) (visible_leaves s A) (visible_leaves t A) (seen_visible s A) (seen_visible t A)
seen_visible (sides.in_sub a s t) A = seen_visible s A
seen_visible (sides.dedup s) A = seen_visible s A

is_seen : (s : SideTree) (A : List ℕ) (a : ℕ) → sees s A a ≡ true → Has (anchor A a) (seen_of s A)
is_seen s A a h = subst (λ (l : List ℕ). Has (anchor A a) l) (sym (seen_visible s A)) (occurs_has (anchor A a) (visible_leaves s A) h)

-- lists that follow one another, with no number twice
apart_left : (xs ys : List ℕ) → Apart (xs ++ ys) → Apart xs
apart_left [] ys h = tt
apart_left (x ∷ xs) ys h = (each_left (λ y. x ≢ y) xs ys h.0, apart_left xs ys h.1)
  where
    each_left : (P : ℕ → Type 0) (xs ys : List ℕ) → Each P (xs ++ ys) → Each P xs
    each_left P [] ys h = tt
    each_left P (x ∷ xs) ys h = (h.0, each_left P xs ys h.1)

apart_right : (xs ys : List ℕ) → Apart (xs ++ ys) → Apart ys
apart_right [] ys h = h
apart_right (x ∷ xs) ys h = apart_right xs ys h.1

each_right : (P : ℕ → Type 0) (xs ys : List ℕ) → Each P (xs ++ ys) → Each P ys
each_right P [] ys h = h
each_right P (x ∷ xs) ys h = each_right P xs ys h.1

apart_none : (xs ys : List ℕ) → Apart (xs ++ ys) → HaveNone xs ys
apart_none [] ys h r f g = f
apart_none (x ∷ xs) ys h r (inl e) g = each_has (λ y. x ≢ y) r ys (each_right (λ y. x ≢ y) xs ys h.0) g (sym e)
apart_none (x ∷ xs) ys h r (inr f) g = apart_none xs ys h.1 r f g

counted_above : (n : ℕ) (ks : List ℕ) → counts_up n ks ≡ true → Each (λ k. n ≤ k) ks
counted_above n [] h = tt
counted_above n (k ∷ ks) h =
    let parts = and_parts (k == n) (counts_up (suc n) ks) h in
    (omega (arith, eq_true k n parts.0), each_implies (λ j. suc n ≤ j) (λ j. n ≤ j) ks (λ j g. omega (arith, g)) (counted_above (suc n) ks parts.1))

counted_apart : (n : ℕ) (ks : List ℕ) → counts_up n ks ≡ true → Apart ks
counted_apart n [] h = tt
counted_apart n (k ∷ ks) h =
    let parts = and_parts (k == n) (counts_up (suc n) ks) h in
    let own = eq_true k n parts.0 in
    (each_implies (λ j. suc n ≤ j) (λ j. k ≢ j) ks (λ j g e. absurd (omega (arith, g, e, own))) (counted_above (suc n) ks parts.1), counted_apart (suc n) ks parts.1)

-- the parts of a join that stands
join_stands : (s t : SideTree) (A : List ℕ) (a b : ℕ) → (stands s A && stands t A && sees s A a && sees t A b) ≡ true →
    (stands s A ≡ true) × (stands t A ≡ true) × (sees s A a ≡ true) × (sees t A b ≡ true)
join_stands s t A a b h =
    let three = and_parts (stands s A && stands t A && sees s A a) (sees t A b) h in
    let two = and_parts (stands s A && stands t A) (sees s A a) three.0 in
    let one = and_parts (stands s A) (stands t A) two.0 in
    (one.0, one.1, two.1, three.1)

member_stands : (s t : SideTree) (A : List ℕ) (a : ℕ) → (stands s A && stands t A && sees s A a) ≡ true → (stands s A ≡ true) × (stands t A ≡ true) × (sees s A a ≡ true)
member_stands s t A a h =
    let two = and_parts (stands s A && stands t A) (sees s A a) h in
    let one = and_parts (stands s A) (stands t A) two.0 in
    (one.0, one.1, two.1)

laid : (s : SideTree) (A : List ℕ) → stands s A ≡ true → Apart (leaves_of s) → IsLaid s A
laid (sides.input r) A st h = tt
laid (sides.proj a s) A st h = let parts = and_parts (stands s A) (sees s A a) st in (is_seen s A a parts.1, laid s A parts.0 h)
laid (sides.filtered p a s) A st h = laid s A (and_parts (stands s A) (sees s A a) st).0 h
laid (sides.inner_join a b s t) A st h = let parts = join_stands s t A a b st in (apart_none (leaves_of s) (leaves_of t) h, laid s A parts.0 (apart_left (leaves_of s) (leaves_of t) h), laid t A parts.1 (apart_right (leaves_of s) (leaves_of t) h))
laid (sides.left_join a b s t) A st h = let parts = join_stands s t A a b st in (apart_none (leaves_of s) (leaves_of t) h, laid s A parts.0 (apart_left (leaves_of s) (leaves_of t) h), laid t A parts.1 (apart_right (leaves_of s) (leaves_of t) h))
laid (sides.in_sub a s t) A st h = let parts = member_stands s t A a st in (laid s A parts.0 (apart_left (leaves_of s) (leaves_of t) h), laid t A parts.1 (apart_right (leaves_of s) (leaves_of t) h))
laid (sides.dedup s) A st h = laid s A st h

pub source_laid : (p : PairTree) → IsLawful p → IsLaid p.source p.anchors
source_laid p lawful = laid p.source p.anchors (lawful_stands p lawful).0 (counted_apart 0 (leaves_of p.source) (source_leaves p lawful.symbols))

pub dest_laid : (p : PairTree) → IsLawful p → IsLaid p.dest p.anchors
dest_laid p lawful = laid p.dest p.anchors (lawful_stands p lawful).1 (dest_leaves_apart p lawful)

both_true : (b c : Bool) → b ≡ true → c ≡ true → (b && c) ≡ true
both_true b c e f = cc

module _ (A : List ℕ) (m : Assigned) where
  one_comes : (s : SideTree) (a : ℕ) → IsLaid s A → ArePlaced s A m → IsPlaced s A m a → comes_from s (shape m) (anchor A a) a ≡ true
  one_comes s a l p h = comes A m s (anchor A a) a l p (each_implies (λ n. place (header s A m) (anchor A a) n < length (header s A m)) (λ n. Has (column (anchor A a) n) (header s A m)) (list_of m a) (λ n k. to_has (header s A m) (anchor A a) n k) h)

  pub lists_from_placed : (s : SideTree) → IsLaid s A → ArePlaced s A m → lists_come s A (shape m) ≡ true
  lists_from_placed (sides.input r) l p = refl
  lists_from_placed (sides.proj a s) l p = both_true _ _ (one_comes s a l.1 p.1 p.0) (lists_from_placed s l.1 p.1)
  lists_from_placed (sides.filtered q a s) l p = both_true _ _ (one_comes s a l p.1 p.0) (lists_from_placed s l p.1)
  lists_from_placed (sides.inner_join a b s t) l p = both_true _ _ (both_true _ _ (both_true _ _ (one_comes s a l.1 p.2 p.0) (one_comes t b l.2 p.3 p.1)) (lists_from_placed s l.1 p.2)) (lists_from_placed t l.2 p.3)
  lists_from_placed (sides.left_join a b s t) l p = both_true _ _ (both_true _ _ (both_true _ _ (one_comes s a l.1 p.2 p.0) (one_comes t b l.2 p.3 p.1)) (lists_from_placed s l.1 p.2)) (lists_from_placed t l.2 p.3)
  lists_from_placed (sides.in_sub a s t) l p = both_true _ _ (both_true _ _ (one_comes s a l.0 p.1 p.0) (lists_from_placed s l.0 p.1)) (lists_from_placed t l.1 p.2)
  lists_from_placed (sides.dedup s) l p = lists_from_placed s l p

  one_placed : (s : SideTree) (a : ℕ) → IsLaid s A → sees s A a ≡ true → comes_from s (shape m) (anchor A a) a ≡ true → IsPlaced s A m a
  one_placed s a l v h = each_implies (λ n. Has (column (anchor A a) n) (header s A m)) (λ n. place (header s A m) (anchor A a) n < length (header s A m)) (list_of m a) (λ n k. from_has (header s A m) (anchor A a) n k) (has_place A m s (anchor A a) a l (is_seen s A a v) h)

  joined_placed : (s t : SideTree) (a b : ℕ) → IsLaid s A → IsLaid t A → sees s A a ≡ true → sees t A b ≡ true →
      (comes_from s (shape m) (anchor A a) a && comes_from t (shape m) (anchor A b) b && lists_come s A (shape m) && lists_come t A (shape m)) ≡ true →
      (lists_come s A (shape m) ≡ true → ArePlaced s A m) → (lists_come t A (shape m) ≡ true → ArePlaced t A m) → IsPlaced s A m a × IsPlaced t A m b × ArePlaced s A m × ArePlaced t A m
  joined_placed s t a b ls lt vs vt h f g =
      let three = and_parts (comes_from s (shape m) (anchor A a) a && comes_from t (shape m) (anchor A b) b && lists_come s A (shape m)) (lists_come t A (shape m)) h in
      let two = and_parts (comes_from s (shape m) (anchor A a) a && comes_from t (shape m) (anchor A b) b) (lists_come s A (shape m)) three.0 in
      let one = and_parts (comes_from s (shape m) (anchor A a) a) (comes_from t (shape m) (anchor A b) b) two.0 in
      (one_placed s a ls vs one.0, one_placed t b lt vt one.1, f two.1, g three.1)

  pub placed_from_lists : (s : SideTree) → IsLaid s A → stands s A ≡ true → lists_come s A (shape m) ≡ true → ArePlaced s A m
  placed_from_lists (sides.input r) l st h = tt
  placed_from_lists (sides.proj a s) l st h =
      let parts = and_parts (comes_from s (shape m) (anchor A a) a) (lists_come s A (shape m)) h in
      let up = and_parts (stands s A) (sees s A a) st in
      (one_placed s a l.1 up.1 parts.0, placed_from_lists s l.1 up.0 parts.1)
  placed_from_lists (sides.filtered q a s) l st h =
      let parts = and_parts (comes_from s (shape m) (anchor A a) a) (lists_come s A (shape m)) h in
      let up = and_parts (stands s A) (sees s A a) st in
      (one_placed s a l up.1 parts.0, placed_from_lists s l up.0 parts.1)
  placed_from_lists (sides.inner_join a b s t) l st h =
      let up = join_stands s t A a b st in
      joined_placed s t a b l.1 l.2 up.2 up.3 h (placed_from_lists s l.1 up.0) (placed_from_lists t l.2 up.1)
  placed_from_lists (sides.left_join a b s t) l st h =
      let up = join_stands s t A a b st in
      joined_placed s t a b l.1 l.2 up.2 up.3 h (placed_from_lists s l.1 up.0) (placed_from_lists t l.2 up.1)
  placed_from_lists (sides.in_sub a s t) l st h =
      let up = member_stands s t A a st in
      let two = and_parts (comes_from s (shape m) (anchor A a) a && lists_come s A (shape m)) (lists_come t A (shape m)) h in
      let one = and_parts (comes_from s (shape m) (anchor A a) a) (lists_come s A (shape m)) two.0 in
      (one_placed s a l.0 up.2 one.0, placed_from_lists s l.0 up.0 one.1, placed_from_lists t l.1 up.1 two.1)
  placed_from_lists (sides.dedup s) l st h = placed_from_lists s l st h
