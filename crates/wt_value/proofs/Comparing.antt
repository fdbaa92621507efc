-- The tests of values and rows decide what they test.
use Rattle.std.proofs.Common.{◌≡◌, ◌≢◌, ◌↔◌, ℕ, zero, suc, ◌<◌, length, get_or, IsTrue, not, refl, sym, ap, ◌∙◌, [], ◌∷◌, Bool, true, false, arith}
use Rattle.std.specs.Bool.{Decides}
use Rattle.std.specs.List.{Any}
use Rattle.std.proofs.lemmas.Bool.{false≢true}
use Rattle.std.proofs.lemmas.Bool.Decides.{Decides-int_eq}
use Rattle.std.proofs.lemmas.Slice.Eq.{bytes_eq-Decides, slice_eq-Decides}
use Rattle.wt_bag.specs.Bags.{DecidesEquality, PassesEqualOnly}
use Rattle.wt_value.specs.declared.value.Value.{Value}
use Rattle.wt_value.specs.declared.value.Value.TheVariants.{Null, Int, Text}
use Rattle.wt_value.specs.Values.{Tuple, Matches, HasNoNull, value_same, value_matches, row_same, row_matches}

pub value_same-Decides : (a b : Value) → Decides (value_same a b) (a ≡ b)
value_same-Decides Null Null = (λ _. refl, λ _. refl)
value_same-Decides Null (Int y) = (λ h. cc, λ h. cc)
value_same-Decides Null (Text t) = (λ h. cc, λ h. cc)
value_same-Decides (Int x) Null = (λ h. cc, λ h. cc)
value_same-Decides (Int x) (Int y) = let d = Decides-int_eq x y in (λ h. ap Int (d.0 h), λ h. d.1 cc)
value_same-Decides (Int x) (Text t) = (λ h. cc, λ h. cc)
value_same-Decides (Text s) Null = (λ h. cc, λ h. cc)
value_same-Decides (Text s) (Int y) = (λ h. cc, λ h. cc)
value_same-Decides (Text s) (Text t) = let d = bytes_eq-Decides s t in (λ h. ap Text (d.0 h), λ h. d.1 cc)

pub row_same-Decides : (a b : Tuple) → Decides (row_same a b) (a ≡ b)
row_same-Decides a b = slice_eq-Decides value_same-Decides a b (row_same a b) refl

-- the test of rows decides equality
pub row_same_decides : DecidesEquality row_same
row_same_decides = record {
  sound = λ a b. (row_same-Decides a b).0;
  reflexive = λ a. (row_same-Decides a a).1 refl;
}

pub value_matches-Decides : (a b : Value) → Decides (value_matches a b) ((a ≡ b) × (a ≢ Null))
value_matches-Decides Null b = (λ h. absurd (false≢true h), λ h. absurd (h.1 refl))
value_matches-Decides (Int x) b = let d = value_same-Decides (Int x) b in (λ h. (d.0 h, λ e. cc), λ h. d.1 h.0)
value_matches-Decides (Text s) b = let d = value_same-Decides (Text s) b in (λ h. (d.0 h, λ e. cc), λ h. d.1 h.0)

pub row_matches-Decides : (a b : Tuple) → Decides (row_matches a b) (Matches a b)
row_matches-Decides [] [] = (λ h. (refl, tt), λ h. refl)
row_matches-Decides [] (y ∷ ys) = (λ h. absurd (false≢true h), λ h. cc)
row_matches-Decides (x ∷ xs) [] = (λ h. absurd (false≢true h), λ h. cc)
row_matches-Decides (x ∷ xs) (y ∷ ys) =
    let first = value_matches-Decides x y in
    let rest = row_matches-Decides xs ys in (
      λ h. let both : (value_matches x y ≡ true) × (row_matches xs ys ≡ true) = grind arith in
          let head = first.0 both.0 in
          let tail = rest.0 both.1 in
          (cc, (head.1, tail.1)),
      λ h. let heads : x ≡ y = cc in
          let tails : xs ≡ ys = cc in
          let head : value_matches x y ≡ true = first.1 (heads, h.1.0) in
          let tail : row_matches xs ys ≡ true = rest.1 (tails, h.1.1) in
          grind arith,
    )

-- two tests of one fact are one
pub test_is : {P : Type 0} (b t : Bool) → (IsTrue b ↔ P) → Decides t P → b ≡ t
test_is true true says decides = refl
test_is false false says decides = refl
test_is true false says decides = let bad : false ≡ true = decides.1 (says.0 refl) in cc
test_is false true says decides = let bad : false ≡ true = says.1 (decides.0 refl) in cc

no_null : (row : Tuple) → (Any (λ v. v ≡ Null) row → ⊥) → HasNoNull row
no_null [] none = tt
no_null (v ∷ vs) none = (λ e. none (0, v, omega arith, refl, e), no_null vs (λ some. none (suc some.0, some.1, omega (arith, some.2), some.3, some.4)))

some_null : (row : Tuple) (k : ℕ) (w : Value) → HasNoNull row → k < length row → get_or row k w ≡ w → w ≡ Null → ⊥
some_null [] k w each within at is = let bad : ⊥ = omega arith in bad
some_null (v ∷ vs) zero w each within at is = each.0 (at ∙ is)
some_null (v ∷ vs) (suc k) w each within at is = some_null vs k w each.1 (omega arith) at is

-- equal rows match where a test for NULL says no
pub equal_rows_match : (null : Bool) (a b : Tuple) → (IsTrue null ↔ Any (λ v. v ≡ Null) a) → a ≡ b → not null ≡ row_matches a b
equal_rows_match true a b says e = here (row_matches a b) refl
  where
    here : (t : Bool) → row_matches a b ≡ t → false ≡ t
    here false q = refl
    here true q = absurd (let some = says.0 refl in some_null a some.0 some.1 ((row_matches-Decides a b).0 q).1 some.2 some.3 some.4)
equal_rows_match false a b says e = sym ((row_matches-Decides a b).1 (e, no_null a (λ some. false≢true (says.1 some))))

-- rows that match are equal
pub row_matches_law : PassesEqualOnly row_matches
row_matches_law = record { equal = λ a b h. ((row_matches-Decides a b).0 h).0 }
