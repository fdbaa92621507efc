-- Lists in which no two elements match at a key: what matches a key is there at most once.
use Rattle.std.proofs.Common.{ℕ, zero, suc, ◌≡◌, ◌+◌, ◌≤◌, Bool, true, false, List, [], ◌∷◌, refl, sym, ap, ◌∙◌, subst, arith, inl, inr, Some}
use Rattle.std.specs.Prelude.{slice_get}
use Rattle.std.proofs.lemmas.Bool.{false≢true}
use Rattle.wt_bag.specs.Bags.{total, only, Each, AtMostOne, PassesEqualOnly}
use Rattle.wt_bag.specs.Choices.{EachLater, Has}

pub each_has : {X : Type 0} (P : X → Type 0) (x : X) (ys : List X) → Each P ys → Has x ys → P x
each_has P x [] k h = absurd h
each_has P x (y ∷ ys) k (inl e) = subst P (sym e) k.0
each_has P x (y ∷ ys) k (inr h) = each_has P x ys k.1 h

same_some : {X : Type 0} (x y : X) → slice_get (x ∷ []) 0 ≡ Some y → x ≡ y
same_some x y h = cc

pub each_get : {X : Type 0} (P : X → Type 0) (xs : List X) (j : ℕ) (y : X) → Each P xs → slice_get xs j ≡ Some y → P y
each_get P [] j y h q = cc
each_get P (x ∷ xs) zero y h q = subst P (same_some x y q) h.0
each_get P (x ∷ xs) (suc j) y h q = each_get P xs j y h.1 q

module _ {X K : Type 0} (matching : K → K → Bool) (law : PassesEqualOnly matching) (key : X → K) where
  -- no two elements match
  abbrev pub IsUniqueList : List X → Type 0
  IsUniqueList = EachLater (λ v w. matching (key v) (key w) ≡ false)

  -- what matches k in both matches each other
  match_both : (k a b : K) → matching k a ≡ true → matching k b ≡ true → matching a b ≡ true
  match_both k a b h j = subst (λ z. matching z b ≡ true) (law.equal k a h) j

  match_back : (a b : K) → matching a b ≡ true → matching b a ≡ true
  match_back a b h = subst (λ z. matching z a ≡ true) (law.equal a b h) (subst (λ z. matching a z ≡ true) (sym (law.equal a b h)) h)

  none_later : (k a : K) (g : X → ℕ) (ys : List X) → matching k a ≡ true → Each (λ y. matching a (key y) ≡ false) ys → total (λ y. only (matching k (key y)) (g y)) ys ≡ 0
  none_later k a g [] h each = refl
  none_later k a g (y ∷ ys) h each = here (matching k (key y)) refl (none_later k a g ys h each.1)
    where
      here : (b : Bool) → matching k (key y) ≡ b → total (λ z. only (matching k (key z)) (g z)) ys ≡ 0 → only b (g y) + total (λ z. only (matching k (key z)) (g z)) ys ≡ 0
      here true e ih = absurd (false≢true (sym each.0 ∙ match_both k a (key y) h e))
      here false e ih = omega (arith, ih)

  -- at most one element matches
  pub unique_once : (k : K) (xs : List X) → IsUniqueList xs → AtMostOne (λ y. matching k (key y)) xs
  unique_once k [] h = omega arith
  unique_once k (y ∷ ys) h = here (matching k (key y)) refl (unique_once k ys h.1)
    where
      here : (b : Bool) → matching k (key y) ≡ b → total (λ z. only (matching k (key z)) 1) ys ≤ 1 → only b 1 + total (λ z. only (matching k (key z)) 1) ys ≤ 1
      here true e ih = omega (arith, none_later k (key y) (λ _. 1) ys e h.0)
      here false e ih = omega (arith, ih)

  -- two places of the list that match are one
  pub unique_place : (xs : List X) (i j : ℕ) (x y : X) → IsUniqueList xs → slice_get xs i ≡ Some x → slice_get xs j ≡ Some y → matching (key x) (key y) ≡ true → i ≡ j
  unique_place [] i j x y u a b m = cc
  unique_place (z ∷ zs) zero zero x y u a b m = refl
  unique_place (z ∷ zs) zero (suc j) x y u a b m =
      absurd (false≢true (sym (each_get (λ w. matching (key z) (key w) ≡ false) zs j y u.0 b) ∙ ap (λ v. matching (key v) (key y)) (same_some z x a) ∙ m))
  unique_place (z ∷ zs) (suc i) zero x y u a b m =
      absurd (false≢true (sym (each_get (λ w. matching (key z) (key w) ≡ false) zs i x u.0 a) ∙ ap (λ v. matching (key v) (key x)) (same_some z y b) ∙ match_back (key x) (key y) m))
  unique_place (z ∷ zs) (suc i) (suc j) x y u a b m = ap suc (unique_place zs i j x y u.1 a b m)

  -- an element that matches itself is matched by itself alone
  pub diagonal : (g : X → ℕ) (x : X) (ys : List X) → IsUniqueList ys → Has x ys → matching (key x) (key x) ≡ true → total (λ y. only (matching (key x) (key y)) (g y)) ys ≡ g x
  diagonal g x [] u h m = absurd h
  diagonal g x (y ∷ ys) u (inl e) m =
      let own : matching (key x) (key y) ≡ true = ap (λ z. matching (key x) (key z)) (sym e) ∙ m in
      ap (λ b. only b (g y) + total (λ z. only (matching (key x) (key z)) (g z)) ys) own
      ∙ (let rest = none_later (key x) (key y) g ys own u.0 in let same : g y ≡ g x = ap g (sym e) in omega arith)
  diagonal g x (y ∷ ys) u (inr h) m = here (matching (key x) (key y)) refl (diagonal g x ys u.1 h m)
    where
      here : (b : Bool) → matching (key x) (key y) ≡ b → total (λ z. only (matching (key x) (key z)) (g z)) ys ≡ g x → only b (g y) + total (λ z. only (matching (key x) (key z)) (g z)) ys ≡ g x
      here true e ih = absurd (false≢true (sym (each_has (λ w. matching (key y) (key w) ≡ false) x ys u.0 h) ∙ match_back (key x) (key y) e))
      here false e ih = omega (arith, ih)
