-- Lists: what is among the elements that pass, at a place, or mapped twice; what holds of each element and each later one.
use Rattle.std.proofs.Common.{◌≡◌, ℕ, zero, suc, ◌<◌, Bool, true, false, cond, List, [], ◌∷◌, ◌++◌, map, filter, length, refl, ap, ◌∙◌, subst, inl, inr, arith}
use Rattle.std.specs.Prelude.{flat_map, slice_index_or}
use Rattle.std.specs.List.{All, AllPairs, Any}
use Rattle.wt_bag.specs.Bags.{Each}
use Rattle.wt_bag.specs.Choices.{EachLater, Has}
use Rattle.wt_bag.proofs.EachLaws.{each_map, each_filter, each_append}
use Rattle.wt_bag.proofs.HasLaws.{each_from_has, has_from_flat_map}
use Rattle.wt_bag.proofs.UniqueLists.{each_has}

pub both_ends : {X : Type 0} (x y : X) (xs ys : List X) → x ≡ y → xs ≡ ys → x ∷ xs ≡ y ∷ ys
both_ends x y xs ys e f = cc

pub map_map : {X Y Z : Type 0} (f : X → Y) (g : Y → Z) (xs : List X) → map g (map f xs) ≡ map (λ x. g (f x)) xs
map_map f g [] = refl
map_map f g (x ∷ xs) = ap (λ (l : List _). g (f x) ∷ l) (map_map f g xs)

pub map_each : {X Y : Type 0} (f g : X → Y) (xs : List X) → Each (λ x. f x ≡ g x) xs → map f xs ≡ map g xs
map_each f g [] h = refl
map_each f g (x ∷ xs) h = both_ends (f x) (g x) (map f xs) (map g xs) h.0 (map_each f g xs h.1)

pub has_index : {X : Type 0} (xs : List X) (k : ℕ) (d : X) → k < length xs → Has (slice_index_or xs k d) xs
has_index [] k d h = absurd (omega (arith, h))
has_index (x ∷ xs) zero d h = inl refl
has_index (x ∷ xs) (suc k) d h = inr (has_index xs k d (omega (arith, h)))

pub from_filter : {X : Type 0} (q : X → Bool) (x : X) (xs : List X) → Has x (filter q xs) → Has x xs × (q x ≡ true)
from_filter q x [] h = absurd h
from_filter q x (y ∷ ys) h = here (q y) refl h (from_filter q x ys)
  where
    first : q y ≡ true → Has x (y ∷ filter q ys) → (Has x (filter q ys) → Has x ys × (q x ≡ true)) → Has x (y ∷ ys) × (q x ≡ true)
    first e (inl same) ih = (inl same, ap q same ∙ e)
    first e (inr k) ih = (inr (ih k).0, (ih k).1)

    here : (b : Bool) → q y ≡ b → Has x (cond b (y ∷ filter q ys) (filter q ys)) → (Has x (filter q ys) → Has x ys × (q x ≡ true)) → Has x (y ∷ ys) × (q x ≡ true)
    here true e k ih = first e k ih
    here false e k ih = (inr (ih k).0, (ih k).1)

pub each_from_all : {X : Type 0} (P : X → Type 0) (xs : List X) → All P xs → Each P xs
each_from_all P [] h = tt
each_from_all P (x ∷ xs) h = (h 0 x (omega arith), each_from_all P xs (λ k d lt. h (suc k) d (omega (arith, lt))))

pub later_from_pairs : {X : Type 0} (R : X → X → Type 0) (xs : List X) → AllPairs R xs → EachLater R xs
later_from_pairs R [] h = tt
later_from_pairs R (x ∷ xs) h = (each_from_all (R x) xs (λ k d lt. h 0 (suc k) d (omega arith) (omega (arith, lt))), later_from_pairs R xs (λ i j d l m. h (suc i) (suc j) d (omega (arith, l)) (omega (arith, m))))

pub any_has : {X : Type 0} (P : X → Type 0) (xs : List X) → Any P xs → (x : X) × Has x xs × P x
any_has P xs h = (h.1, subst (λ y. Has y xs) h.3 (has_index xs h.0 h.1 h.2), h.4)

-- Of each element and each later one.

pub later_implies : {X : Type 0} (R Q : X → X → Type 0) (xs : List X) → ((x y : X) → Has x xs → Has y xs → R x y → Q x y) → EachLater R xs → EachLater Q xs
later_implies R Q [] i h = tt
later_implies R Q (x ∷ xs) i h = (some_of_later xs (λ y k. inr k) h.0, later_implies R Q xs (λ y z k l r. i y z (inr k) (inr l) r) h.1)
  where
    some_of_later : (ys : List _) → ((y : _) → Has y ys → Has y (x ∷ xs)) → Each (R x) ys → Each (Q x) ys
    some_of_later [] sub h = tt
    some_of_later (y ∷ ys) sub h = (i x y (inl refl) (sub y (inl refl)) h.0, some_of_later ys (λ z k. sub z (inr k)) h.1)

pub later_filter : {X : Type 0} (R : X → X → Type 0) (p : X → Bool) (xs : List X) → EachLater R xs → EachLater R (filter p xs)
later_filter R p [] h = tt
later_filter R p (x ∷ xs) h = here (p x) (later_filter R p xs h.1)
  where
    here : (b : Bool) → EachLater R (filter p xs) → EachLater R (cond b (x ∷ filter p xs) (filter p xs))
    here true k = (each_filter (R x) p xs h.0, k)
    here false k = k

pub later_map : {X Y : Type 0} (R : Y → Y → Type 0) (f : X → Y) (xs : List X) → EachLater (λ x y. R (f x) (f y)) xs → EachLater R (map f xs)
later_map R f [] h = tt
later_map R f (x ∷ xs) h = (each_map (R (f x)) f xs h.0, later_map R f xs h.1)

later_append : {X : Type 0} (R : X → X → Type 0) (xs ys : List X) → EachLater R xs → EachLater R ys → ((x y : X) → Has x xs → Has y ys → R x y) → EachLater R (xs ++ ys)
later_append R [] ys h k c = k
later_append R (x ∷ xs) ys h k c = (each_append (R x) xs ys h.0 (each_from_has (R x) ys (λ y l. c x y (inl refl) l)), later_append R xs ys h.1 k (λ v y l n. c v y (inr l) n))

pub later_flat : {X Y : Type 0} (R : Y → Y → Type 0) (f : X → List Y) (xs : List X) → EachLater (λ x x'. (y y' : Y) → Has y (f x) → Has y' (f x') → R y y') xs → Each (λ x. EachLater R (f x)) xs → EachLater R (flat_map f xs)
later_flat R f [] h k = tt
later_flat R f (x ∷ xs) h k =
    later_append R (f x) (flat_map f xs) k.0 (later_flat R f xs h.1 k.1)
    (λ y z hy hz. let found = has_from_flat_map z f xs hz in each_has (λ x'. (y y' : _) → Has y (f x) → Has y' (f x') → R y y') found.0 xs h.0 found.1 y z hy found.2)
