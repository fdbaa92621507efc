-- The place of a primary key, and the key there.
use Rattle.std.proofs.Common.{◌≡◌, ℕ, zero, suc, ◌<◌, ◌≤◌, Bool, true, false, List, [], ◌∷◌, length, get_or, refl, ap, sym, ◌∙◌, arith, Some, None, cond}
use Rattle.std.specs.Prelude.{position, nat_lt, slice_get}
use Rattle.std.specs.List.{find, position_or_len}
use Rattle.std.proofs.lemmas.Bool.Decides.{nat_tests}
use Rattle.std.proofs.lemmas.List.Folds.{find_at}
use Rattle.std.proofs.lemmas.List.Quantifiers.{position-Some}
use Rattle.wt_ddl.specs.declared.places.KeyPlaces.{KeyPlaces}
use Rattle.wt_ddl.specs.declared.table.TableRead.{TableRead}
use Rattle.wt_ddl.specs.Places.{primary_place, Placed}

get_some : {X : Type 0} (xs : List X) (n : ℕ) (d : X) → n < length xs → slice_get xs n ≡ Some (get_or xs n d)
get_some [] n d h = absurd (omega arith)
get_some (x ∷ xs) zero d h = refl
get_some (x ∷ xs) (suc n) d h = get_some xs n d (omega arith)

get_none : {X : Type 0} (xs : List X) (n : ℕ) → length xs ≤ n → slice_get xs n ≡ None
get_none [] n h = refl
get_none (x ∷ xs) zero h = absurd (omega arith)
get_none (x ∷ xs) (suc n) h = get_none xs n (omega arith)

module _ {X : Type 0} (p : X → Bool) where
  first_is : (xs : List X) (n : ℕ) → position p xs ≡ Some n → position_or_len p xs ≡ n
  first_is xs n = by (nat_lt (position_or_len p xs) (length xs)) refl
    where
      by : (b : Bool) → nat_lt (position_or_len p xs) (length xs) ≡ b → position p xs ≡ Some n → position_or_len p xs ≡ n
      by true e h = let f : Some (position_or_len p xs) ≡ Some n = ap (λ b. cond b (Some (position_or_len p xs)) None) (sym e) ∙ h in cc
      by false e h = let f : None ≡ Some n = ap (λ b. cond b (Some (position_or_len p xs)) None) (sym e) ∙ h in absurd cc

  pub place_found : (xs : List X) (n : ℕ) (d : X) → position p xs ≡ Some n → (n < length xs) × (find p xs ≡ Some (get_or xs n d))
  place_found xs n d h =
      let within = (position-Some p xs n d h).0 in
      (within, find_at p xs ∙ ap (slice_get xs) (first_is xs n h) ∙ get_some xs n d within)

  pub place_none : (xs : List X) → position p xs ≡ None → find p xs ≡ None
  place_none xs h = find_at p xs ∙ get_none xs (position_or_len p xs) (past (nat_lt (position_or_len p xs) (length xs)) refl)
    where
      past : (b : Bool) → nat_lt (position_or_len p xs) (length xs) ≡ b → length xs ≤ position_or_len p xs
      past true e = let f : Some (position_or_len p xs) ≡ None = ap (λ b. cond b (Some (position_or_len p xs)) None) (sym e) ∙ h in absurd cc
      past false e = grind (arith, nat_tests)

-- there are places for each table, and they are its own
pub placed_within : (tables : List TableRead) (places : List KeyPlaces) (n : ℕ) → Placed tables places → n < length tables → n < length places
placed_within [] places n h within = absurd (omega arith)
placed_within (x ∷ xs) [] n h within = absurd cc
placed_within (x ∷ xs) (q ∷ qs) zero h within = omega arith
placed_within (x ∷ xs) (q ∷ qs) (suc n) h within = let others : Placed xs qs = cc in let l : n < length qs = placed_within xs qs n others (omega arith) in omega arith

pub placed_at : (tables : List TableRead) (places : List KeyPlaces) (n : ℕ) (t : TableRead) (p : KeyPlaces) → Placed tables places → n < length tables
    → (get_or places n p).primary ≡ primary_place (get_or tables n t).keys
placed_at [] places n t p h within = absurd (omega arith)
placed_at (x ∷ xs) [] n t p h within = absurd cc
placed_at (x ∷ xs) (q ∷ qs) zero t p h within = cc
placed_at (x ∷ xs) (q ∷ qs) (suc n) t p h within = let others : Placed xs qs = cc in placed_at xs qs n t p others (omega arith)
