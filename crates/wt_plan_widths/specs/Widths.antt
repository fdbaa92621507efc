-- A width as a number of 64 bits.
use Rattle.std.specs.Prelude.{◌≡◌, ℕ, ◌-◌, ◌^◌, min}

-- the number is the width, or the greatest one where the width is not below it
abbrev pub IsWidth : ℕ → ℕ → Type 0
IsWidth number width = number ≡ min (2 ^ 64 - 1) width
