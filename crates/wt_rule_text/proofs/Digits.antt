-- Numbers read digit by digit.
use Rattle.std.proofs.Common.{◌≡◌, ℕ, suc, ◌+◌, ◌-◌, ◌*◌, ◌<◌, min, List, [], ◌∷◌, length, drop, get_or, refl, sym, ap, ◌∙◌, arith, add-one}
use Rattle.std.proofs.lemmas.List.{drop_more, drop_all}
use Rattle.std.specs.Prelude.{◌≤◌, true, false, if◌then◌else◌}
use Rattle.wt_rule_text.specs.Numbers.{is_digit, read_on}
use Rattle.wt_rule_text.specs.Reading.{leading}

-- a number past the type's end stays there
capped : (m n : ℕ) (ds : List ℕ) → min (read_on (min n m) ds) m ≡ min (read_on n ds) m
capped m n [] = omega arith
capped m n (d ∷ ds) =
    sym (capped m (10 * min n m + (d - 48)) ds) ∙ ap (λ x. min (read_on x ds) m) (let e : min (10 * min n m + (d - 48)) m ≡ min (10 * n + (d - 48)) m = omega arith in e) ∙ capped m (10 * n + (d - 48)) ds

-- one digit more is read
pub digit_read : (m n : ℕ) (ds : List ℕ) (i d x : ℕ) → i < length ds → d ≡ get_or ds i 0 → x ≡ min (min (n * 10) m + (d - 48)) m →
    min (read_on x (drop (i + 1) ds)) m ≡ min (read_on n (drop i ds)) m
digit_read m n ds i d x l is e =
    let next = drop_more ds i 0 l in
    let same : x ≡ min (10 * n + (d - 48)) m = omega arith in
    rw (next, same, ← is, add-one) (capped m (10 * n + (d - 48)) (drop (suc i) ds))

pub all_read : (m n : ℕ) (ds : List ℕ) (i : ℕ) → length ds ≤ i → min (read_on n (drop i ds)) m ≡ min n m
all_read m n ds i l = let none = drop_all i ds l in rw none refl

pub leading-le : (bs : List ℕ) → leading bs ≤ length bs
leading-le [] = omega arith
leading-le (b ∷ bs) = elim (is_digit b) as (λ y. (if y then suc (leading bs) else 0) ≤ length (b ∷ bs)) [ true ↦ omega (arith, leading-le bs) | false ↦ omega arith ]
