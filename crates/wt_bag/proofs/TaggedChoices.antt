-- Choices of elements that carry their places, so that no element comes twice.
use Rattle.std.proofs.Common.{ℕ, suc, ◌≡◌, ◌+◌, ◌<◌, ◌≤◌, Bool, true, List, [], ◌∷◌, map, refl, sym, ap, ◌∙◌, subst, arith, get_or, Some}
use Rattle.std.specs.Prelude.{◌≢◌, slice_get}
use Rattle.wt_bag.specs.Bags.{total, only, Each, AtMostOne}
use Rattle.wt_bag.specs.Choices.{choices, Apart, Fitting}
use Rattle.wt_bag.proofs.TotalLaws.{total_ext}
use Rattle.wt_bag.proofs.ChoiceLaws.{total-choices_cons, each_choice}
use Rattle.wt_bag.proofs.ApartLaws.{apart_choices, at_most_one_apart}

-- each element with its place, counted from k
abbrev pub tagged : {X : Type 0} → ℕ → List X → List (ℕ × X)
tagged k [] = []
tagged k (x ∷ xs) = (k, x) ∷ tagged (suc k) xs

abbrev pub untag : {X : Type 0} → List (ℕ × X) → List X
untag = map (λ p. p.1)

later_tags : {X : Type 0} (j k : ℕ) (x : X) (xs : List X) → j < k → Each (λ y. (j, x) ≢ y) (tagged k xs)
later_tags j k x [] l = tt
later_tags j k x (y ∷ ys) l = (λ q. let e : j ≡ k = ap (λ p. p.0) q in let bad : ⊥ = omega arith in bad, later_tags j (suc k) x ys (omega arith))

pub apart_tagged : {X : Type 0} (k : ℕ) (xs : List X) → Apart (tagged k xs)
apart_tagged k [] = tt
apart_tagged k (x ∷ xs) = (later_tags k (suc k) x xs (omega arith), apart_tagged (suc k) xs)

total-tagged : {X : Type 0} (g : X → ℕ) (k : ℕ) (xs : List X) → total g xs ≡ total (λ p. g p.1) (tagged k xs)
total-tagged g k [] = refl
total-tagged g k (x ∷ xs) = ap (λ n. g x + n) (total-tagged g (suc k) xs)

-- a sum over choices is one over choices of tagged elements
pub total-choices_tagged : {X : Type 0} (g : List X → ℕ) (rs : List (List X)) → total g (choices rs) ≡ total (λ e. g (untag e)) (choices (map (tagged 0) rs))
total-choices_tagged g [] = refl
total-choices_tagged g (r ∷ rs) =
    total-choices_cons g r rs
    ∙ total-tagged (λ c. total (λ e. g (c ∷ e)) (choices rs)) 0 r
    ∙ total_ext _ _ (tagged 0 r) (λ p. total-choices_tagged (λ e. g (p.1 ∷ e)) rs)
    ∙ sym (total-choices_cons (λ e. g (untag e)) (tagged 0 r) (map (tagged 0) rs))

apart_all : {X : Type 0} (rs : List (List X)) → Each Apart (map (tagged 0) rs)
apart_all [] = tt
apart_all (r ∷ rs) = (apart_tagged 0 r, apart_all rs)

-- the tagged element stands at its place
abbrev pub Stands : {X : Type 0} → List X → ℕ × X → Type 0
Stands xs p = slice_get xs p.0 ≡ Some p.1

stands_tagged : {X : Type 0} (all : List X) (k : ℕ) (xs : List X) → ((i : ℕ) → slice_get all (k + i) ≡ slice_get xs i) → Each (Stands all) (tagged k xs)
stands_tagged all k [] h = tt
stands_tagged all k (x ∷ xs) h =
    let here : k ≡ k + 0 = omega arith in
    (ap (slice_get all) here ∙ h 0, stands_tagged all (suc k) xs (λ i. let e : suc k + i ≡ k + suc i = omega arith in ap (slice_get all) e ∙ h (suc i)))

fitting_tagged : {X : Type 0} (rs : List (List X)) → Fitting (λ r ts. Each (Stands r) ts) rs (map (tagged 0) rs)
fitting_tagged [] = tt
fitting_tagged (r ∷ rs) = (stands_tagged r 0 r (λ i. let e : 0 + i ≡ i = omega arith in ap (slice_get r) e), fitting_tagged rs)

-- where two choices that pass are always one, at most one passes
pub at_most_one_choice : {X : Type 0} (P : List X → Bool) (rs : List (List X)) →
    ((e e' : List (ℕ × X)) → Fitting Stands rs e → Fitting Stands rs e' → P (untag e) ≡ true → P (untag e') ≡ true → e ≡ e') → AtMostOne P (choices rs)
at_most_one_choice P rs agree =
    subst (λ n. n ≤ 1) (sym (total-choices_tagged (λ e. only (P e) 1) rs))
    (at_most_one_apart (λ e. P (untag e)) (Fitting Stands rs) (choices (map (tagged 0) rs)) (apart_choices (map (tagged 0) rs) (apart_all rs)) (each_choice Stands rs (map (tagged 0) rs) (fitting_tagged rs)) agree)

-- determined from the start, or by a link to a determined one
pub data Determined (base : ℕ → Type 0) (link : ℕ → ℕ → Type 0) : ℕ → Type 0 where
  from_base : {u : ℕ} → base u → Determined base link u
  by_link : {u w : ℕ} → link u w → Determined base link w → Determined base link u

-- two choices that agree at the start, and along each link, agree at what is determined
pub determined_agrees : {X : Type 0} (base : ℕ → Type 0) (link : ℕ → ℕ → Type 0) (e e' : List X) (d : X) →
    ((u : ℕ) → base u → get_or e u d ≡ get_or e' u d) → ((u w : ℕ) → link u w → get_or e w d ≡ get_or e' w d → get_or e u d ≡ get_or e' u d) →
    (u : ℕ) → Determined base link u → get_or e u d ≡ get_or e' u d
determined_agrees base link e e' d b l u (from_base h) = b u h
determined_agrees base link e e' d b l u (by_link {w = w} h k) = l u w h (determined_agrees base link e e' d b l w k)
