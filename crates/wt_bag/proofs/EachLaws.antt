-- What holds of each element of a list.
use Rattle.std.proofs.Common.{ℕ, zero, suc, Bool, true, false, not, cond, List, [], ◌∷◌, ◌++◌, map, take, drop, ◌≡◌, refl, sym, ap, ◌∙◌, arith}
use Rattle.std.specs.Prelude.{All, filter, flat_map}
use Rattle.std.proofs.lemmas.Bool.{false≢true}
use Rattle.wt_bag.specs.Bags.{Each, distinct}

-- of each element of two lists, one after the other
pub each_append : {X : Type 0} (P : X → Type 0) (xs ys : List X) → Each P xs → Each P ys → Each P (xs ++ ys)
each_append P [] ys h k = k
each_append P (x ∷ xs) ys h k = (h.0, each_append P xs ys h.1 k)

pub each_append_left : {X : Type 0} (P : X → Type 0) (xs ys : List X) → Each P (xs ++ ys) → Each P xs
each_append_left P [] ys h = tt
each_append_left P (x ∷ xs) ys h = (h.0, each_append_left P xs ys h.1)

pub each_append_right : {X : Type 0} (P : X → Type 0) (xs ys : List X) → Each P (xs ++ ys) → Each P ys
each_append_right P [] ys h = h
each_append_right P (x ∷ xs) ys h = each_append_right P xs ys h.1

-- of each mapped element
pub each_map : {X Y : Type 0} (P : Y → Type 0) (f : X → Y) (xs : List X) → Each (λ x. P (f x)) xs → Each P (map f xs)
each_map P f [] h = tt
each_map P f (x ∷ xs) h = (h.0, each_map P f xs h.1)

pub each_of_map : {X Y : Type 0} (P : Y → Type 0) (f : X → Y) (xs : List X) → Each P (map f xs) → Each (λ x. P (f x)) xs
each_of_map P f [] h = tt
each_of_map P f (x ∷ xs) h = (h.0, each_of_map P f xs h.1)

-- of each element of the lists of the elements
pub each_flat_map : {X Y : Type 0} (P : Y → Type 0) (f : X → List Y) (xs : List X) → Each (λ x. Each P (f x)) xs → Each P (flat_map f xs)
each_flat_map P f [] h = tt
each_flat_map P f (x ∷ xs) h = each_append P (f x) (flat_map f xs) h.0 (each_flat_map P f xs h.1)

pub each_of_flat_map : {X Y : Type 0} (P : Y → Type 0) (f : X → List Y) (xs : List X) → Each P (flat_map f xs) → Each (λ x. Each P (f x)) xs
each_of_flat_map P f [] h = tt
each_of_flat_map P f (x ∷ xs) h = (each_append_left P (f x) (flat_map f xs) h, each_of_flat_map P f xs (each_append_right P (f x) (flat_map f xs) h))

-- what follows from it holds of each
pub each_implies : {X : Type 0} (P Q : X → Type 0) (xs : List X) → ((x : X) → P x → Q x) → Each P xs → Each Q xs
each_implies P Q [] i h = tt
each_implies P Q (x ∷ xs) i h = (i x h.0, each_implies P Q xs i h.1)

-- what follows from two facts holds of each
pub each_both : {X : Type 0} (P Q R : X → Type 0) (xs : List X) → ((x : X) → P x → Q x → R x) → Each P xs → Each Q xs → Each R xs
each_both P Q R [] i h k = tt
each_both P Q R (x ∷ xs) i h k = (i x h.0 k.0, each_both P Q R xs i h.1 k.1)

-- what holds of everything holds of each
pub each_for : {X : Type 0} {P : X → Type 0} (xs : List X) → ((x : X) → P x) → Each P xs
each_for [] h = tt
each_for (x ∷ xs) h = (h x, each_for xs h)

-- of each element that passes
pub each_filter : {X : Type 0} (P : X → Type 0) (p : X → Bool) (xs : List X) → Each P xs → Each P (filter p xs)
each_filter P p [] h = tt
each_filter P p (x ∷ xs) h = here (p x) (each_filter P p xs h.1)
  where
    here : (b : Bool) → Each P (filter p xs) → Each P (cond b (x ∷ filter p xs) (filter p xs))
    here true k = (h.0, k)
    here false k = k

-- of each mapped element that passes
pub each_filter_map : {X Y : Type 0} (P : Y → Type 0) (f : X → Y) (p : X → Bool) (xs : List X) → Each (λ x. p x ≡ true → P (f x)) xs → Each P (map f (filter p xs))
each_filter_map P f p [] h = tt
each_filter_map P f p (x ∷ xs) h = here (p x) refl (each_filter_map P f p xs h.1)
  where
    here : (b : Bool) → p x ≡ b → Each P (map f (filter p xs)) → Each P (map f (cond b (x ∷ filter p xs) (filter p xs)))
    here true e k = (h.0 e, k)
    here false e k = k

pub each_of_filter_map : {X Y : Type 0} (P : Y → Type 0) (f : X → Y) (p : X → Bool) (xs : List X) → Each P (map f (filter p xs)) → Each (λ x. p x ≡ true → P (f x)) xs
each_of_filter_map P f p [] h = tt
each_of_filter_map P f p (x ∷ xs) h = here (p x) refl h (each_of_filter_map P f p xs)
  where
    here : (b : Bool) → p x ≡ b → Each P (map f (cond b (x ∷ filter p xs) (filter p xs))) → (Each P (map f (filter p xs)) → Each (λ y. p y ≡ true → P (f y)) xs) → (p x ≡ true → P (f x)) × Each (λ y. p y ≡ true → P (f y)) xs
    here true e k ih = (λ _. k.0, ih k.1)
    here false e k ih = (λ t. absurd (false≢true (sym e ∙ t)), ih k)

-- of each distinct element
pub each_distinct : {X : Type 0} (P : X → Type 0) (same : X → X → Bool) (xs : List X) → Each P xs → Each P (distinct same xs)
each_distinct P same [] h = tt
each_distinct P same (x ∷ xs) h = (h.0, each_filter P (λ y. not (same x y)) (distinct same xs) (each_distinct P same xs h.1))

-- tests that agree at each element keep the same elements
pub filter_each : {X : Type 0} (p q : X → Bool) (xs : List X) → Each (λ x. p x ≡ q x) xs → filter p xs ≡ filter q xs
filter_each p q [] h = refl
filter_each p q (x ∷ xs) h = ap (λ b. cond b (x ∷ filter p xs) (filter p xs)) h.0 ∙ ap (λ l. cond (q x) (x ∷ l) l) (filter_each p q xs h.1)

-- of each of the first elements, and of each behind them
pub each_take : {X : Type 0} (P : X → Type 0) (n : ℕ) (xs : List X) → Each P xs → Each P (take n xs)
each_take P zero xs h = tt
each_take P (suc n) [] h = tt
each_take P (suc n) (x ∷ xs) h = (h.0, each_take P n xs h.1)

pub each_drop : {X : Type 0} (P : X → Type 0) (n : ℕ) (xs : List X) → Each P xs → Each P (drop n xs)
each_drop P zero xs h = h
each_drop P (suc n) [] h = tt
each_drop P (suc n) (x ∷ xs) h = each_drop P n xs h.1

-- what holds of each holds at each place
pub all_from_each : {X : Type 0} (P : X → Type 0) (xs : List X) → Each P xs → All P xs
all_from_each P [] h k d within = absurd (omega arith)
all_from_each P (x ∷ xs) h zero d within = h.0
all_from_each P (x ∷ xs) h (suc k) d within = all_from_each P xs h.1 k d (omega arith)
