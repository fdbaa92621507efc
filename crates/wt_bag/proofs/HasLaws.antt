-- What is among the elements of a list.
use Rattle.std.proofs.Common.{◌≡◌, Bool, true, false, not, ◌||◌, cond, List, [], ◌∷◌, ◌++◌, map, refl, sym, ap, ◌∙◌, subst, inl, inr, ◌⊎◌}
use Rattle.std.specs.Prelude.{filter, flat_map}
use Rattle.std.specs.List.{list_any}
use Rattle.std.proofs.lemmas.Bool.{false≢true}
use Rattle.wt_bag.specs.Bags.{DecidesEquality, Each, distinct}
use Rattle.wt_bag.specs.Choices.{Has}
use Rattle.wt_bag.proofs.EachLaws.{each_implies}

-- of two lists, one after the other
pub has_left : {X : Type 0} (x : X) (xs ys : List X) → Has x xs → Has x (xs ++ ys)
has_left x [] ys h = absurd h
has_left x (y ∷ xs) ys (inl e) = inl e
has_left x (y ∷ xs) ys (inr h) = inr (has_left x xs ys h)

pub has_right : {X : Type 0} (x : X) (xs ys : List X) → Has x ys → Has x (xs ++ ys)
has_right x [] ys h = h
has_right x (y ∷ xs) ys h = inr (has_right x xs ys h)

pub has_split : {X : Type 0} (x : X) (xs ys : List X) → Has x (xs ++ ys) → Has x xs ⊎ Has x ys
has_split x [] ys h = inr h
has_split x (y ∷ xs) ys (inl e) = inl (inl e)
has_split x (y ∷ xs) ys (inr h) = elim (has_split x xs ys h) [ inl k ↦ inl (inr k) | inr k ↦ inr k ]

-- of the mapped elements
pub has_map : {X Y : Type 0} (x : X) (f : X → Y) (xs : List X) → Has x xs → Has (f x) (map f xs)
has_map x f [] h = absurd h
has_map x f (y ∷ xs) (inl e) = inl (ap f e)
has_map x f (y ∷ xs) (inr h) = inr (has_map x f xs h)

pub has_from_map : {X Y : Type 0} (y : Y) (f : X → Y) (xs : List X) → Has y (map f xs) → (x : X) × Has x xs × (y ≡ f x)
has_from_map y f [] h = absurd h
has_from_map y f (x ∷ xs) (inl e) = (x, inl refl, e)
has_from_map y f (x ∷ xs) (inr h) = let r = has_from_map y f xs h in (r.0, inr r.1, r.2)

-- of the lists of the elements
pub has_flat_map : {X Y : Type 0} (x : X) (y : Y) (f : X → List Y) (xs : List X) → Has x xs → Has y (f x) → Has y (flat_map f xs)
has_flat_map x y f [] h k = absurd h
has_flat_map x y f (z ∷ xs) (inl e) k = has_left y (f z) (flat_map f xs) (subst (λ w. Has y (f w)) e k)
has_flat_map x y f (z ∷ xs) (inr h) k = has_right y (f z) (flat_map f xs) (has_flat_map x y f xs h k)

pub has_from_flat_map : {X Y : Type 0} (y : Y) (f : X → List Y) (xs : List X) → Has y (flat_map f xs) → (x : X) × Has x xs × Has y (f x)
has_from_flat_map y f [] h = absurd h
has_from_flat_map y f (x ∷ xs) h = elim (has_split y (f x) (flat_map f xs) h) [
  | inl k ↦ (x, inl refl, k)
  | inr k ↦ let r = has_from_flat_map y f xs k in (r.0, inr r.1, r.2)
]

-- a test that some element passes
pub list_any_has : {X : Type 0} (p : X → Bool) (x : X) (xs : List X) → Has x xs → p x ≡ true → list_any p xs ≡ true
list_any_has p x [] h t = absurd h
list_any_has p x (y ∷ xs) (inl e) t = ap (λ b. b || list_any p xs) (ap p (sym e) ∙ t)
list_any_has p x (y ∷ xs) (inr h) t = ap (λ b. p y || b) (list_any_has p x xs h t) ∙ or_true (p y)
  where
    or_true : (b : Bool) → (b || true) ≡ true
    or_true true = refl
    or_true false = refl

pub has_list_any : {X : Type 0} (p : X → Bool) (xs : List X) → list_any p xs ≡ true → (x : X) × Has x xs × (p x ≡ true)
has_list_any p [] t = absurd (false≢true t)
has_list_any {X = X} p (y ∷ xs) t = here (p y) refl t (has_list_any p xs)
  where
    here : (b : Bool) → p y ≡ b → (b || list_any p xs) ≡ true → (list_any p xs ≡ true → (x : X) × Has x xs × (p x ≡ true)) → (x : X) × Has x (y ∷ xs) × (p x ≡ true)
    here true e k rest = (y, inl refl, e)
    here false e k rest = let r = rest k in (r.0, inr r.1, r.2)

-- what passes is among those that pass
pub has_filter : {X : Type 0} (test : X → Bool) (y : X) (xs : List X) → Has y xs → test y ≡ true → Has y (filter test xs)
has_filter test y [] h t = absurd h
has_filter test y (x ∷ xs) h t = here (test x) refl h (λ k. has_filter test y xs k t)
  where
    here : (b : Bool) → test x ≡ b → (y ≡ x) ⊎ Has y xs → (Has y xs → Has y (filter test xs)) → Has y (cond b (x ∷ filter test xs) (filter test xs))
    here true e (inl same) rest = inl same
    here true e (inr k) rest = inr (rest k)
    here false e (inl same) rest = absurd (let bad : true ≡ false = sym t ∙ ap test same ∙ e in cc)
    here false e (inr k) rest = rest k

-- an element is among the distinct ones
pub has_distinct : {X : Type 0} (same : X → X → Bool) (decides : DecidesEquality same) (y : X) (xs : List X) → Has y xs → Has y (distinct same xs)
has_distinct same decides y [] h = h
has_distinct same decides y (x ∷ xs) (inl e) = inl e
has_distinct same decides y (x ∷ xs) (inr h) = here (same x y) refl (has_distinct same decides y xs h)
  where
    here : (b : Bool) → same x y ≡ b → Has y (distinct same xs) → Has y (x ∷ filter (λ z. not (same x z)) (distinct same xs))
    here true e k = inl (sym (decides.sound x y e))
    here false e k = inr (has_filter (λ z. not (same x z)) y (distinct same xs) k (ap not e))

-- each element is there
pub each_has_self : {X : Type 0} (xs : List X) → Each (λ x. Has x xs) xs
each_has_self [] = tt
each_has_self (x ∷ xs) = (inl refl, each_implies (λ y. Has y xs) (λ y. Has y (x ∷ xs)) xs (λ y h. inr h) (each_has_self xs))

-- what holds of whatever is there holds of each element
pub each_from_has : {X : Type 0} (P : X → Type 0) (xs : List X) → ((x : X) → Has x xs → P x) → Each P xs
each_from_has P [] h = tt
each_from_has P (x ∷ xs) h = (h x (inl refl), each_from_has P xs (λ y has. h y (inr has)))
