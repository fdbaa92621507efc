-- The parts of the pairs of bounds, one after another.
use Rattle.std.proofs.Common.{◌≡◌, ◌∙◌, ◌<◌, ◌≤◌, min, [], ◌++◌, length, take, drop, map, ap, ap₂, refl, sym, arith, length-take, length-drop, drop-drop}
use Rattle.std.specs.Prelude.{◌↔◌, Some, None, Ok, Err, IfOk, IfSome, IfNone, IsNone}
use Rattle.std.specs.declared.option.Option.{Option}
use Rattle.std.specs.declared.result.Result.{Result}
use Rattle.std.proofs.lemmas.List.{drop_all, length-map, take_min, take-append-drop}
use Rattle.wt_pair.specs.Candidates.{pairs_of}
use Rattle.wt_pair.specs.Lots.{AreNext}
use Rattle.wt_pair.specs.Walk.{Progress}
use Rattle.wt_pair.specs.declared.bounds.Bounds.{Bounds}
use Rattle.wt_pair.specs.declared.lot.Lot.{Lot}
use Rattle.wt_symbol.specs.Sides.{pair_of}
use Rattle.wt_sharing.specs.Parts.{Gives, IsNextPart, left}

module _ (old new : Progress) (part : Lot) (next : AreNext 512 old new part) where
  many : length part.pairs ≡ min 512 (length (left old))
  many = sym (length-map part.pairs pair_of) ∙ ap length next.pairs ∙ length-take 512 (left old)

  -- the pairs of a part and those behind it are those that were left before it
  with_part : new.bounds ≡ old.bounds → map pair_of part.pairs ++ left new ≡ left old
  with_part same =
      let front : map pair_of part.pairs ≡ take (length part.pairs) (left old) = next.pairs ∙ sym (ap (λ k. take k (left old)) many ∙ take_min 512 (left old)) in
      let back : left new ≡ drop (length part.pairs) (left old) = ap (λ b. drop new.first (pairs_of b)) same ∙ ap (λ k. drop k (pairs_of old.bounds)) next.next ∙ sym (drop-drop (length part.pairs) old.first (pairs_of old.bounds)) in
      ap₂ ◌++◌ front back ∙ take-append-drop (length part.pairs) (left old)

  is_next_part : new.bounds ≡ old.bounds → (length (pairs_of old.bounds) ≤ old.first → ⊥) → IsNextPart old new part
  is_next_part same more = record {
    bounds = next.bounds;
    together = with_part same;
    lawful = next.lawful;
    some = let before : old.first < length (pairs_of old.bounds) = omega (arith, more) in omega (arith, many, length-drop old.first (pairs_of old.bounds), before);
    few = omega (arith, many);
  }

-- at the beginning all are
pub all_left : (b : Bounds) (p : Progress) → p.bounds ≡ b → p.first ≡ 0 → left p ≡ pairs_of b
all_left b p same none = ap₂ (λ k x. drop k (pairs_of x)) none same

-- what is asked for is the next part, or none where no pair is left
given : (old new : Progress) (next : Option Lot) → new.bounds ≡ old.bounds → IfSome next (AreNext 512 old new) → (IsNone next ↔ (length (pairs_of old.bounds) ≤ old.first)) → IfNone next (new ≡ old) → Gives old new next
given old new None same some end none =
    let over : left old ≡ [] = drop_all old.first (pairs_of old.bounds) (end.0 refl) in
    (over, ap left none ∙ over)
given old new (Some part) same some end none = is_next_part old new part some same (λ past. let no = end.1 past in cc)

pub gives : {E : Type 0} (old new : Progress) (next : Result (Option Lot) E) → new.bounds ≡ old.bounds → IfOk next (λ n. IfSome n (AreNext 512 old new)) → IfOk next (λ n. IsNone n ↔ (length (pairs_of old.bounds) ≤ old.first)) → IfOk next (λ n. IfNone n (new ≡ old))
    → IfOk next (Gives old new)
gives old new (Ok next) same some end none = given old new next same some end none
gives old new (Err e) same some end none = tt
