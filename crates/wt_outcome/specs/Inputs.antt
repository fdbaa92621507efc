-- What a file holds, as far as the store tells it.
use Rattle.std.specs.Prelude.{◌≡◌, ℕ, ◌<◌, ◌≤◌, List, length, IfSome}
use Rattle.std.specs.declared.option.Option.{Option}
use Rattle.wt_outcome.specs.declared.input.Input.{Input}
use Rattle.wt_outcome.specs.declared.input.Input.TheVariants.{Whole, TooLong}

-- A file of at most 16,777,216 bytes is read whole, and a longer one is too long. A store that tells nothing may hold either.
abbrev pub IsInput : Option (List ℕ) → Input → Type 0
IsInput told (Whole bytes) = (length bytes ≤ 16777216) × IfSome told (λ all. bytes ≡ all)
IsInput told TooLong = IfSome told (λ all. 16777216 < length all)
