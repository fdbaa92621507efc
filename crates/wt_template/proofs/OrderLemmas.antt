-- Elements and lengths of lists that are put together from even pieces, and of the order of trees.
use Rattle.std.proofs.Common.{◌≡◌, ℕ, zero, suc, ◌+◌, ◌-◌, ◌*◌, ◌≤◌, List, [], ◌∷◌, ◌++◌, map, length, Some, refl, ◌∙◌, arith, length-append, suc-add, add-suc, zero-add, add-zero, zero-mul}
use Rattle.std.proofs.Math.Nat.{sub-zero}
use Rattle.std.proofs.lemmas.List.{length-map}
use Rattle.std.specs.Prelude.{slice_get}
use Rattle.std.specs.List.{flat_map}
use Rattle.std.proofs.lemmas.Option.{slice_get-map}
use Rattle.wt_template.specs.Order.{Maker, of_one, of_two, splits_from, over_one, over_two, under_root, trees}
use Rattle.wt_template.specs.Places.{pairs_before}

-- ---- elements of lists joined end to end

pub get_left : {X : Type 0} (xs ys : List X) (k : ℕ) (x : X) → slice_get xs k ≡ Some x → slice_get (xs ++ ys) k ≡ Some x
get_left [] ys k x h = cc
get_left (y ∷ xs) ys zero x h = h
get_left (y ∷ xs) ys (suc k) x h = get_left xs ys k x h

pub get_right : {X : Type 0} (xs ys : List X) (n k : ℕ) → length xs ≡ n → slice_get (xs ++ ys) (n + k) ≡ slice_get ys k
get_right [] ys zero k h = rw zero-add refl
get_right [] ys (suc n) k h = absurd (omega arith)
get_right (y ∷ xs) ys zero k h = absurd (omega arith)
get_right (y ∷ xs) ys (suc n) k h = let e : length xs ≡ n = omega arith in rw suc-add (get_right xs ys n k e)

-- the same at a place p
pub get_past : {X : Type 0} (xs ys : List X) (n p k : ℕ) (x : X) → length xs ≡ n → p ≡ n + k → slice_get ys k ≡ Some x →
    slice_get (xs ++ ys) p ≡ Some x
get_past xs ys n p k x l e h = rw e (get_right xs ys n k l ∙ h)

-- ---- pieces of one length

pub get-flat_map : {X A : Type 0} (f : X → List A) (m : ℕ) (even : (x : X) → length (f x) ≡ m) (xs : List X) (i j : ℕ) (x : X) (a : A) →
    slice_get xs i ≡ Some x → slice_get (f x) j ≡ Some a → slice_get (flat_map f xs) (i * m + j) ≡ Some a
get-flat_map f m even [] i j x a h e = cc
get-flat_map f m even (y ∷ xs) zero j x a h e =
    let same : y ≡ x = cc in
    let here : slice_get (f y) j ≡ Some a = rw same e in
    rw (zero-mul, zero-add) (get_left (f y) (flat_map f xs) j a here)
get-flat_map f m even (y ∷ xs) (suc i) j x a h e =
    get_past (f y) (flat_map f xs) m _ (i * m + j) a (even y) (grind arith) (get-flat_map f m even xs i j x a h e)

pub length-flat_map_even : {X A : Type 0} (f : X → List A) (m : ℕ) (even : (x : X) → length (f x) ≡ m) (xs : List X) →
    length (flat_map f xs) ≡ length xs * m
length-flat_map_even f m even [] = grind arith
length-flat_map_even f m even (x ∷ xs) =
    grind (arith, length-append (f x) (flat_map f xs), even x, length-flat_map_even f m even xs)

-- ---- variants over operands

pub length-over_one : {X : Type 0} (vs : List (X → X)) (xs : List X) → length (over_one vs xs) ≡ length xs * length vs
length-over_one vs xs = length-flat_map_even (λ x. map (λ v. v x) vs) (length vs) (λ x. length-map vs (λ v. v x)) xs

pub get-over_one : {X : Type 0} (vs : List (X → X)) (xs : List X) (i j : ℕ) (v : X → X) (x : X) →
    slice_get xs i ≡ Some x → slice_get vs j ≡ Some v → slice_get (over_one vs xs) (i * length vs + j) ≡ Some (v x)
get-over_one vs xs i j v x at_i at_j =
    get-flat_map (λ x. map (λ v. v x) vs) (length vs) (λ x. length-map vs (λ v. v x)) xs i j x (v x) at_i
    (slice_get-map (λ v. v x) vs j ∙ rw at_j refl)

pub length-over_two : {X : Type 0} (vs : List (X → X → X)) (xs ys : List X) →
    length (over_two vs xs ys) ≡ length xs * length ys * length vs
length-over_two vs xs ys =
    let inner : (x : _) → length (flat_map (λ y. map (λ v. v x y) vs) ys) ≡ length ys * length vs =
    λ x. length-flat_map_even (λ y. map (λ v. v x y) vs) (length vs) (λ y. length-map vs (λ v. v x y)) ys in
    length-flat_map_even (λ x. flat_map (λ y. map (λ v. v x y) vs) ys) (length ys * length vs) inner xs
    ∙ grind arith

pub get-over_two : {X : Type 0} (vs : List (X → X → X)) (xs ys : List X) (i j k : ℕ) (v : X → X → X) (x y : X) →
    slice_get xs i ≡ Some x → slice_get ys j ≡ Some y → slice_get vs k ≡ Some v →
    slice_get (over_two vs xs ys) ((i * length ys + j) * length vs + k) ≡ Some (v x y)
get-over_two vs xs ys i j k v x y at_i at_j at_k =
    let inner : (x : _) → length (flat_map (λ y. map (λ v. v x y) vs) ys) ≡ length ys * length vs =
    λ x. length-flat_map_even (λ y. map (λ v. v x y) vs) (length vs) (λ y. length-map vs (λ v. v x y)) ys in
    let here : slice_get (flat_map (λ y. map (λ v. v x y) vs) ys) (j * length vs + k) ≡ Some (v x y) =
    get-flat_map (λ y. map (λ v. v x y) vs) (length vs) (λ y. length-map vs (λ v. v x y)) ys j k y (v x y) at_j
    (slice_get-map (λ v. v x y) vs k ∙ rw at_k refl) in
    let place : (i * length ys + j) * length vs + k ≡ i * (length ys * length vs) + (j * length vs + k) = grind arith in
    rw place
    (get-flat_map (λ x. flat_map (λ y. map (λ v. v x y) vs) ys) (length ys * length vs) inner xs i (j * length vs + k)
    x (v x y) at_i here)

-- ---- operands of sizes with one sum

pub get-splits : {A : Type 0} (g : ℕ × ℕ → List A) (c : ℕ → ℕ) (w : ℕ) (even : (i j : ℕ) → length (g (i, j)) ≡ c i * c j * w) (i j s k : ℕ) (a : A) →
    s ≤ j → slice_get (g (i + s, j - s)) k ≡ Some a → slice_get (flat_map g (splits_from i j)) (pairs_before c i j s * w + k) ≡ Some a
get-splits g c w even i zero zero k a h e =
    rw (zero-mul, zero-add) (get_left (g (i, 0)) [] k a (rw add-zero at e))
get-splits g c w even i zero (suc s) k a h e = absurd (omega arith)
get-splits g c w even i (suc j) zero k a h e =
    rw (zero-mul, zero-add) (get_left (g (i, suc j)) (flat_map g (splits_from (suc i) j)) k a (rw (add-zero, sub-zero) at e))
get-splits g c w even i (suc j) (suc s) k a h e =
    let rest : slice_get (g (suc i + s, j - s)) k ≡ Some a =
    let fewer : suc j - suc s ≡ j - s = omega arith in rw suc-add (rw (add-suc, fewer) at e) in
    get_past (g (i, suc j)) (flat_map g (splits_from (suc i) j)) (c i * c (suc j) * w) _ (pairs_before c (suc i) j s * w + k) a
    (even i (suc j)) (grind arith) (get-splits g c w even (suc i) j s k a (omega arith) rest)

pub length-splits : {A : Type 0} (g : ℕ × ℕ → List A) (c : ℕ → ℕ) (w : ℕ) (even : (i j : ℕ) → length (g (i, j)) ≡ c i * c j * w) (i j : ℕ) →
    length (flat_map g (splits_from i j)) ≡ pairs_before c i j (suc j) * w
length-splits g c w even i zero = grind (arith, length-append (g (i, 0)) [], even i 0)
length-splits g c w even i (suc j) =
    grind (arith, length-append (g (i, suc j)) (flat_map g (splits_from (suc i) j)), even i (suc j), length-splits g c w even (suc i) j)

-- ---- the trees of one size

pub flat_map-same : {X A : Type 0} (f g : X → List A) → ((x : X) → f x ≡ g x) → (xs : List X) → flat_map f xs ≡ flat_map g xs
flat_map-same f g same [] = refl
flat_map-same f g same (x ∷ xs) = rw (same x, flat_map-same f g same xs) refl

-- splits of n are read at numbers up to n alone
pub splits_agree : {A : Type 0} (g h : ℕ × ℕ → List A) (n : ℕ) → ((i j : ℕ) → i ≤ n → j ≤ n → g (i, j) ≡ h (i, j)) → (i j : ℕ) → i + j ≤ n →
    flat_map g (splits_from i j) ≡ flat_map h (splits_from i j)
splits_agree g h n same i zero within = rw (same i 0 (omega arith) (omega arith)) refl
splits_agree g h n same i (suc j) within =
    let here : g (i, suc j) ≡ h (i, suc j) = same i (suc j) (omega arith) (omega arith) in
    let later : flat_map g (splits_from (suc i) j) ≡ flat_map h (splits_from (suc i) j) = splits_agree g h n same (suc i) j (omega arith) in
    rw (here, later) refl

pub under_root-agree : {X : Type 0} (smaller smaller' : ℕ → List X) (n : ℕ) → ((i : ℕ) → i ≤ n → smaller i ≡ smaller' i) → (m : Maker X) →
    under_root smaller n m ≡ under_root smaller' n m
under_root-agree s s' n same (of_one vs) = let e : s n ≡ s' n = same n (omega arith) in rw e refl
under_root-agree s s' n same (of_two vs) =
    let both : (i j : ℕ) → i ≤ n → j ≤ n → over_two vs (s i) (s j) ≡ over_two vs (s' i) (s' j) =
    λ i j hi hj. let e : s i ≡ s' i = same i hi in let f : s j ≡ s' j = same j hj in rw (e, f) refl in
    splits_agree (λ p. over_two vs (s p.0) (s p.1)) (λ p. over_two vs (s' p.0) (s' p.1)) n both 0 n (omega arith)

-- the bound of the recursion does not matter
pub trees-bound : {X : Type 0} (leaves : List X) (makers : List (Maker X)) (b b' n : ℕ) → n ≤ b → n ≤ b' → trees leaves makers b n ≡ trees leaves makers b' n
trees-bound leaves makers b b' zero h h' = refl
trees-bound leaves makers zero b' (suc n) h h' = absurd (omega arith)
trees-bound leaves makers (suc b) zero (suc n) h h' = absurd (omega arith)
trees-bound leaves makers (suc b) (suc b') (suc n) h h' =
    flat_map-same (under_root (trees leaves makers b) n) (under_root (trees leaves makers b') n)
    (under_root-agree (trees leaves makers b) (trees leaves makers b') n
    (λ i within. trees-bound leaves makers b b' i (omega arith) (omega arith)))
    makers
