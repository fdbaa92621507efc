-- What a read gives of the bytes of a name.
use Rattle.std.specs.Prelude.{◌≡◌, ℕ, ◌+◌, ◌≤◌, List, ◌++◌, length, take, drop, ◌↔◌}

-- the n bytes from place `at` on are at the front of the buffer, and n is 0 exactly at or past the end
pub record IsPartAt (bytes : List ℕ) (at n : ℕ) (buf : List ℕ) : Type 0 where
  pub part : drop at bytes ≡ take n buf ++ drop (at + n) bytes
  pub end : (n ≡ 0) ↔ (length bytes ≤ at)
