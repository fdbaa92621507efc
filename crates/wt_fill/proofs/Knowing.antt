-- What is known of the elements of a list, one after the other.
use Rattle.std.proofs.Common.{◌≡◌, ℕ, zero, suc, ◌+◌, ◌<◌, ◌≤◌, List, [], ◌∷◌, length, get_or, take, subst, arith}
use Rattle.std.specs.Prelude.{slice_index_or}
use Rattle.wt_bag.specs.Bags.{Each}

more : {X : Type 0} (P : X → Type 0) (d : X) (xs : List X) (k : ℕ) → k < length xs → Each P (take k xs) → P (get_or xs k d) → Each P (take (suc k) xs)
more P d [] k lt h here = absurd (omega (arith, lt))
more P d (x ∷ xs) zero lt h here = (here, tt)
more P d (x ∷ xs) (suc k) lt h here = (h.0, more P d xs k (omega (arith, lt)) h.1 here)

pub each_more : {X : Type 0} (P : X → Type 0) (xs : List X) (k : ℕ) (d : X) → k < length xs → Each P (take k xs) → P (get_or xs k d) → Each P (take (k + 1) xs)
each_more P xs k d lt h here = subst (λ n. Each P (take n xs)) (next k) (more P d xs k lt h here)
  where
    next : (k : ℕ) → suc k ≡ k + 1
    next k = omega arith

pub each_whole : {X : Type 0} (P : X → Type 0) (xs : List X) (k : ℕ) → length xs ≤ k → Each P (take k xs) → Each P xs
each_whole P [] k le h = tt
each_whole P (x ∷ xs) zero le h = absurd (omega (arith, le))
each_whole P (x ∷ xs) (suc k) le h = (h.0, each_whole P xs k (omega (arith, le)) h.1)

-- what holds of each element, and of the other one past the end
pub each_or : {X : Type 0} (P : X → Type 0) (xs : List X) (k : ℕ) (d : X) → Each P xs → P d → P (slice_index_or xs k d)
each_or P [] k d h e = e
each_or P (x ∷ xs) zero d h e = h.0
each_or P (x ∷ xs) (suc k) d h e = each_or P xs k d h.1 e
