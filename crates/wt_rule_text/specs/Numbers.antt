-- Numbers of a line: decimal digits without a leading zero.
use Rattle.std.specs.Prelude.{ℕ, ◌+◌, ◌-◌, ◌*◌, ◌^◌, min, ◌==◌, nat_le, Bool, true, false, not, ◌&&◌, List, [], ◌∷◌}
use Rattle.std.specs.List.{list_all}

abbrev pub is_digit : ℕ → Bool
is_digit b = nat_le 48 b && nat_le b 57

-- there are some, and the first is no zero before others; 48 is `0`
abbrev pub is_plain : List ℕ → Bool
is_plain [] = false
is_plain (b ∷ []) = true
is_plain (b ∷ c ∷ bs) = not (b == 48)

abbrev pub is_number : List ℕ → Bool
is_number ds = list_all is_digit ds && is_plain ds

-- n with digits behind it
abbrev pub read_on : ℕ → List ℕ → ℕ
read_on n [] = n
read_on n (b ∷ bs) = read_on (10 * n + (b - 48)) bs

-- the number that digits write; from 2 ^ 64 on it counts as 2 ^ 64 - 1, which no line has so many symbols for
abbrev pub value : List ℕ → ℕ
value ds = min (read_on 0 ds) (2 ^ 64 - 1)
