-- Lists of operands, and pairs at a comma.
use Rattle.std.proofs.Common.{◌≡◌, ℕ, ◌+◌, ◌<◌, ◌≤◌, ◌^◌, Bool, true, false, ◌&&◌, cond, List, [], ◌∷◌, map, length, length-append, filter, Option, Some, None, is_some, refl, sym, ap, ◌∙◌, arith}
use Rattle.std.specs.List.{All}
use Rattle.wt_query_plan.specs.Building as spec
use Rattle.wt_query_plan.specs.Building.{Conjunct}
use Rattle.wt_plan.proofs.Upto.{length_map}
use Rattle.wt_joins.specs.Parts.{PartTree, onward}
use Rattle.wt_joins.specs.declared.commas.Comma.{Comma}
use Rattle.wt_joins.specs.Commas.{free_at, comma_operand, list_operand, list_width}

-- where there is no comma, no conjunct links one
pub all_free : (cs : List Comma) (js : List Conjunct) → length cs ≡ 0 → free_at cs js ≡ js
all_free (c ∷ cs) js e = absurd (let bad : ⊥ = omega (arith, e) in bad)
all_free [] [] e = refl
all_free [] (j ∷ js) e = ap (λ l. j ∷ l) (all_free [] js e)

pub no_pair : (b : Bool) {o : Option (ℕ × ℕ)} → o ≡ None → None ≡ cond b o None
no_pair true e = sym e
no_pair false e = refl

pub pair_there : (b : Bool) (o : Option (ℕ × ℕ)) → is_some (cond b o None) ≡ (b && is_some o)
pair_there true o = refl
pair_there false o = refl

-- the pairs at a comma, one conjunct more
pub pairs_next : (n m : ℕ) (j : Conjunct) (js : List Conjunct) (p : ℕ × ℕ) → cond (spec.within m j) (spec.pair_of n j) None ≡ Some p
    → spec.pairs_of n (filter (spec.within m) (j ∷ js)) ≡ p ∷ spec.pairs_of n (filter (spec.within m) js)
pairs_next n m j js p e = here (spec.within m j) (spec.pair_of n j) refl refl e
  where
    here : (b : Bool) (o : Option (ℕ × ℕ)) → spec.within m j ≡ b → spec.pair_of n j ≡ o → cond b o None ≡ Some p → spec.pairs_of n (filter (spec.within m) (j ∷ js)) ≡ p ∷ spec.pairs_of n (filter (spec.within m) js)
    here true (Some q) f g e = rw (f, g) (let is : q ≡ p = cc in ap (λ r. r ∷ spec.pairs_of n (filter (spec.within m) js)) is)
    here true None f g e = cc
    here false o f g e = cc

pub pairs_same : (n m : ℕ) (j : Conjunct) (js : List Conjunct) → cond (spec.within m j) (spec.pair_of n j) None ≡ None
    → spec.pairs_of n (filter (spec.within m) (j ∷ js)) ≡ spec.pairs_of n (filter (spec.within m) js)
pairs_same n m j js e = here (spec.within m j) (spec.pair_of n j) refl refl e
  where
    here : (b : Bool) (o : Option (ℕ × ℕ)) → spec.within m j ≡ b → spec.pair_of n j ≡ o → cond b o None ≡ None → spec.pairs_of n (filter (spec.within m) (j ∷ js)) ≡ spec.pairs_of n (filter (spec.within m) js)
    here true (Some q) f g e = cc
    here true None f g e = rw (f, g) refl
    here false o f g e = rw f refl

abbrev pub places_in : PartTree → List ℕ
places_in p = p.places

pub length_onward : (lefts rights : List ℕ) → length (onward lefts rights) ≡ length lefts + length rights
length_onward lefts rights = length-append lefts (map (λ k. length lefts + k) rights) ∙ ap (λ n. length lefts + n) (length_map (λ k. length lefts + k) rights)

-- a list whose first two operands are joined is as wide
pub width_next : (js : List Conjunct) (l r : PartTree) (rs : List PartTree) → list_width (comma_operand js l r) rs ≡ list_width l (r ∷ rs)
width_next js l r [] = length_onward l.places r.places
width_next js l r (s ∷ rs) = omega (arith, length_onward l.places r.places)

pub first_width : (l : PartTree) (rs : List PartTree) → length l.places ≤ list_width l rs
first_width l [] = omega arith
first_width l (r ∷ rs) = omega arith

pub two_width : (l r : PartTree) (rs : List PartTree) → length l.places + length r.places ≤ list_width l (r ∷ rs)
two_width l r rs = omega (arith, first_width r rs)

pub places_width : (js : List Conjunct) (l : PartTree) (rs : List PartTree) → length (places_in (list_operand js l rs)) ≡ list_width l rs
places_width js l [] = refl
places_width js l (r ∷ rs) = places_width js (comma_operand js l r) rs ∙ width_next js l r rs

-- places of a row, as many further
pub far : (n m : ℕ) (xs : List ℕ) → All (λ k. k < m) xs → n + m < 2 ^ 32 → All (λ k. n + k < 2 ^ 32) xs
far n m xs h narrow = λ k d l. let one = h k d l in omega (arith, one, narrow)
