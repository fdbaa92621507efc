-- Pairs of operands before a size of the left one, one size more.
use Rattle.std.proofs.Common.{◌≡◌, ℕ, zero, suc, ◌+◌, ◌-◌, ◌*◌, ◌≤◌, arith, add-one, zero-add}
use Rattle.wt_template.specs.Places.{pairs_before}

pub pairs_before-more : (c : ℕ → ℕ) (i j s : ℕ) → s ≤ j →
    pairs_before c i j (suc s) ≡ pairs_before c i j s + c (i + s) * c (j - s)
pairs_before-more c i zero zero h = grind arith
pairs_before-more c i zero (suc s) h = absurd (omega arith)
pairs_before-more c i (suc j) zero h = grind arith
pairs_before-more c i (suc j) (suc s) h =
    grind (arith, pairs_before-more c (suc i) j s (omega arith))

-- a turn of the loop over the left operand's sizes: one size more is passed
pub size_passed : (c : ℕ → ℕ) (n s w rest after k : ℕ) → s ≤ n → rest + pairs_before c 0 n s * w ≡ k →
    after + c s * c (n - s) * w ≡ rest → after + pairs_before c 0 n (s + 1) * w ≡ k
size_passed c n s w rest after k h so_far passed =
    let more = rw zero-add at (pairs_before-more c 0 n s h) in
    let at_s : pairs_before c 0 n (s + 1) ≡ pairs_before c 0 n s + c s * c (n - s) =
    rw add-one more in
    grind (arith, at_s)

-- after the last size
pub sizes_passed : (c : ℕ → ℕ) (n s w rest k : ℕ) → s ≡ n + 1 → rest + pairs_before c 0 n s * w ≡ k →
    rest + pairs_before c 0 n (suc n) * w ≡ k
sizes_passed c n s w rest k h so_far = let e : s ≡ suc n = omega arith in rw e at so_far
