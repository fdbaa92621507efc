-- What the look-up by name finds.
use Rattle.std.proofs.Common.{◌≡◌, ◌≢◌, ℕ, ◌<◌, Bool, true, false, List, length, get_or, refl, ap, sym, ◌∙◌, arith, Option, Some, None, cond}
use Rattle.std.specs.Prelude.{position, nat_lt, IfSome}
use Rattle.std.specs.List.{AllPairs, position_or_len}
use Rattle.std.specs.Str.{bytes_eq}
use Rattle.std.proofs.lemmas.Bool.Decides.{nat_tests}
use Rattle.std.proofs.lemmas.List.Quantifiers.{position-Some}
use Rattle.std.proofs.lemmas.List.Sums.{position_or_len_is}
use Rattle.std.proofs.lemmas.Slice.Eq.{bytes_eq-Decides}

module _ {X : Type 0} (name_of : X → List ℕ) where
  abbrev has_name : List ℕ → X → Bool
  has_name name x = bytes_eq (name_of x) name

  same : (x : X) (name : List ℕ) → has_name name x ≡ true → name_of x ≡ name
  same x name h = (bytes_eq-Decides (name_of x) name).0 h

  other : (x : X) (name : List ℕ) → name_of x ≢ name → has_name name x ≡ false
  other x name h = by (has_name name x) refl
    where
      by : (b : Bool) → has_name name x ≡ b → b ≡ false
      by false e = refl
      by true e = absurd (h (same x name e))

  -- what is found is there and has the name
  pub found : (xs : List X) (name : List ℕ) (n : ℕ) (d : X) → position (λ x. bytes_eq (name_of x) name) xs ≡ Some n → (n < length xs) × (name_of (get_or xs n d) ≡ name)
  found xs name n d e = let h = position-Some (has_name name) xs n d e in (h.0, same (get_or xs n d) name h.1)

  pub named : (xs : List X) (name : List ℕ) (d : X) (r : Option ℕ) → r ≡ position (λ x. bytes_eq (name_of x) name) xs → IfSome r (λ n. name_of (get_or xs n d) ≡ name)
  named xs name d (Some n) e = (found xs name n d (sym e)).1
  named xs name d None e = tt

  -- where names differ, what has the name is found
  pub only : (xs : List X) (name : List ℕ) (n : ℕ) (d : X) → AllPairs (λ a b. name_of a ≢ name_of b) xs → n < length xs → name_of (get_or xs n d) ≡ name
      → position (λ x. bytes_eq (name_of x) name) xs ≡ Some n
  only xs name n d differ within is =
      let first : position_or_len (has_name name) xs ≡ n =
      position_or_len_is (has_name name) xs n d (omega arith) (λ k l. other (get_or xs k d) name (λ e. differ k n d l within (e ∙ sym is)))
      (λ h. (bytes_eq-Decides (name_of (get_or xs n d)) name).1 is) in
      let there : nat_lt n (length xs) ≡ true = grind (arith, nat_tests) in
      (λ i. cond (nat_lt (first i) (length xs)) (Some (first i)) None) ∙ ap (λ b. cond b (Some n) None) there
