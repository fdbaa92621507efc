use Rattle.std.proofs.Common.{◌≡◌, ℕ, suc, zero, ◌+◌, ◌-◌, ◌*◌, ◌<◌, List, [], ◌∷◌, length, get_or, take, refl, arith, add-one}
use Rattle.wt_lex.specs.Fronts.{value, value_more}

more_next : (n : ℕ) (ds : List ℕ) (i : ℕ) → i < length ds → value_more n (take (suc i) ds) ≡ 10 * value_more n (take i ds) + (get_or ds i 0 - 48)
more_next n [] i h = absurd (omega arith)
more_next n (d ∷ ds) zero h = refl
more_next n (d ∷ ds) (suc i) h = more_next (10 * n + (d - 48)) ds i (omega arith)

pub value_next : (ds : List ℕ) (i : ℕ) → i < length ds → value (take (i + 1) ds) ≡ 10 * value (take i ds) + (get_or ds i 0 - 48)
value_next ds i h = rw add-one (more_next 0 ds i h)
