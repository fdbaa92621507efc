-- A lot among the pairs of the bounds.
use Rattle.std.proofs.Common.{◌≡◌, ℕ, ◌+◌, ◌-◌, ◌^◌, ◌≤◌, min, Bool, true, false, List, [], ◌∷◌, ◌++◌, map, length, take, drop, Option, Some, None, inl, inr, refl, sym, ap, ◌∙◌, arith, length-append, length-drop, length-take, append_assoc}
use Rattle.std.proofs.lemmas.List.{append-nil, drop-drop, drop_at, take_at, take_all, take-append-drop, nil_from_length}
use Rattle.std.specs.Prelude.{All, filter, is_none, if◌then◌else◌}
use Rattle.std.proofs.lemmas.List.{length-map}
use Rattle.wt_bag.specs.Bags.{Each}
use Rattle.wt_bag.proofs.EachLaws.{all_from_each, each_drop, each_flat_map, each_for, each_implies, each_of_map, each_take}
use Rattle.wt_template.specs.Shapes.{templates}
use Rattle.wt_symbol.specs.declared.fault.PairFault.{PairFault}
use Rattle.wt_symbol.specs.Lawful.{IsLawful, fault_of}
use Rattle.wt_symbol.proofs.SymbolLemmas.{lawful_from_none}
use Rattle.wt_symbol.specs.Sides.{PairTree, pair_of}
use Rattle.wt_symbol.specs.declared.side.Pair.{Pair}
use Rattle.wt_pair.specs.declared.bounds.Bounds.{Bounds}
use Rattle.wt_pair.specs.declared.walk.Cursor.{Cursor}
use Rattle.wt_pair.specs.declared.lot.Lot.{Lot}
use Rattle.wt_pair.specs.Candidates.{leaf_count, list_count, source_of, destinations, anchorings, is_lawful, pairs_of_anchoring, pairs_of_template, pairs_of}
use Rattle.wt_pair.specs.Track.{IsOnTrack, given, rest_at}
use Rattle.wt_pair.specs.Lots.{AreNext}
use Rattle.wt_pair.specs.Walk.{Fills, Progress}

module _ (most : ℕ) (P had lot from rest : List PairTree) (f : ℕ) (none : had ≡ []) (begin : from ≡ drop f P) (filled : Fills most had lot from rest) where
  joined : lot ++ rest ≡ drop f P
  joined = let pairs = rw none at filled.pairs in pairs ∙ begin

  pub lot_pairs : lot ≡ take most (drop f P)
  lot_pairs =
      rw (← joined)
      (elim filled.full_or_done [
        | inl full ↦ sym (take_at lot rest most full)
        | inr done ↦ rw (done, append-nil) (sym (take_all most lot filled.within))
      ])

  pub lot_rest : rest ≡ drop (f + length lot) P
  lot_rest = sym (drop_at lot rest (length lot) refl) ∙ ap (drop (length lot)) joined ∙ drop-drop (length lot) f P

  module _ (within : f ≤ length P) where
    pub lot_within : f + length lot ≤ length P
    lot_within = omega (arith, length-append lot rest, ap length joined, length-drop f P)

    pub lot_together : take (f + length lot) P ≡ take f P ++ lot
    lot_together =
        let whole : (take f P ++ lot) ++ rest ≡ P = append_assoc (take f P) lot rest ∙ ap (λ ys. take f P ++ ys) joined ∙ take-append-drop f P in
        let many : length (take f P ++ lot) ≡ f + length lot = omega (arith, length-append (take f P) lot, length-take f P) in
        ap (take (f + length lot)) (sym whole) ∙ take_at (take f P ++ lot) rest (f + length lot) many

  pub not_ended : (lot ≡ [] → ⊥) → length P ≤ f → ⊥
  not_ended some past =
      let none : length lot ≡ 0 = omega (arith, length-append lot rest, ap length joined, length-drop f P) in
      some (nil_from_length lot none)

-- ---- every pair is lawful

filter_passes : {X : Type 0} (p : X → Bool) (xs : List X) → Each (λ x. p x ≡ true) (filter p xs)
filter_passes p [] = tt
filter_passes p (x ∷ xs) =
    elim (p x) as (λ b. p x ≡ b → Each (λ y. p y ≡ true) (if b then x ∷ filter p xs else filter p xs)) [
      | true ↦ λ e. (e, filter_passes p xs)
      | false ↦ λ e. filter_passes p xs
    ] refl

none_from : (f : Option PairFault) → is_none f ≡ true → f ≡ None
none_from None h = refl
none_from (Some f) h = cc

is_none_from : (p : PairTree) → is_lawful p ≡ true → IsLawful p
is_none_from p h = lawful_from_none p (none_from (fault_of p) h)

each_lawful : (b : Bounds) → Each IsLawful (pairs_of b)
each_lawful b =
    each_flat_map IsLawful (pairs_of_template b.ops.0 b.dst) (templates b.ops.0 b.src)
    (each_for (templates b.ops.0 b.src) (λ t.
    each_flat_map IsLawful (pairs_of_anchoring b.ops.0 b.dst t) (anchorings (leaf_count t) (list_count t))
    (each_for (anchorings (leaf_count t) (list_count t)) (λ anchors.
    each_implies (λ p. is_lawful p ≡ true) IsLawful (pairs_of_anchoring b.ops.0 b.dst t anchors) is_none_from
    (filter_passes is_lawful (map (λ d. record { source = source_of t; dest = d; anchors = anchors }) (destinations b.ops.0 b.dst t)))))))

pub lot_lawful : (most : ℕ) (b : Bounds) (f : ℕ) (pairs : List Pair) → map pair_of pairs ≡ take most (drop f (pairs_of b)) → All (λ p. IsLawful (pair_of p)) pairs
lot_lawful most b f pairs is =
    let each : Each IsLawful (map pair_of pairs) = rw is (each_take IsLawful most _ (each_drop IsLawful f _ (each_lawful b))) in
    all_from_each (λ p. IsLawful (pair_of p)) pairs (each_of_map IsLawful pair_of pairs each)

-- ---- a lot behind a place

module _ (most : ℕ) (b : Bounds) (old at : Cursor) (had : List PairTree) (pairs : List Pair) (none : had ≡ []) (filled : Fills most had (map pair_of pairs) (rest_at b old) (rest_at b at)) (first : ℕ) (track : IsOnTrack b old first) where
  abbrev lot : List PairTree
  lot = map pair_of pairs

  within : given b old ≤ length (pairs_of b)
  within = omega arith

  next_rest : rest_at b at ≡ drop (given b old + length lot) (pairs_of b)
  next_rest = lot_rest most (pairs_of b) had lot (rest_at b old) (rest_at b at) (given b old) none track.rest filled

  -- the pairs given before the next place are those given before, and the lot
  pub next_given : given b at ≡ given b old + length pairs
  next_given =
      let more = lot_within most (pairs_of b) had lot (rest_at b old) (rest_at b at) (given b old) none track.rest filled within in
      omega (arith, ap length next_rest, length-drop (given b old + length lot) (pairs_of b), more, length-map pairs pair_of)

  pub next_track : (n m : ℕ) → n ≡ min (first + m) (2 ^ 64 - 1) → m ≡ length pairs → IsOnTrack b at n
  next_track n m is many = record {
    limits = track.limits;
    rest = next_rest ∙ ap (λ k. drop k (pairs_of b)) (sym (next_given ∙ ap (λ k. given b old + k) (sym (length-map pairs pair_of))));
    counted = let next = next_given in let before = track.counted in omega arith;
  }

  pub lot_is : (before : Progress) (l : Lot) → record { bounds = b; first = given b old } ≡ before → l.pairs ≡ pairs → l.bounds ≡ b → l.first ≡ first →
      AreNext most before (record { bounds = b; first = given b at }) l
  lot_is before l is same_pairs same_bounds same_first =
      let many : length pairs ≡ length l.pairs = ap length (sym same_pairs) in
      let trees : map pair_of l.pairs ≡ lot = ap (map pair_of) same_pairs in
      let next = lot_pairs most (pairs_of b) had lot (rest_at b old) (rest_at b at) (given b old) none track.rest filled in
      let moved : given b at ≡ given b old + length lot = next_given ∙ ap (λ k. given b old + k) (sym (length-map pairs pair_of)) in
      rw (← is)
      (record {
        bounds = same_bounds;
        first = same_first ∙ track.counted;
        pairs = trees ∙ next;
        lawful = lot_lawful most b (given b old) l.pairs (trees ∙ next);
        next = next_given ∙ ap (λ k. given b old + k) many;
        together =
            ap (λ k. take k (pairs_of b)) moved
            ∙ lot_together most (pairs_of b) had lot (rest_at b old) (rest_at b at) (given b old) none track.rest filled within
            ∙ ap (λ ys. take (given b old) (pairs_of b) ++ ys) (sym trees);
      })

  pub not_over : (lot ≡ [] → ⊥) → length (pairs_of b) ≤ given b old → ⊥
  not_over = not_ended most (pairs_of b) had lot (rest_at b old) (rest_at b at) (given b old) none track.rest filled

pub not_empty : (pairs : List Pair) (empty : Bool) → empty ≡ false → (pairs ≡ [] → empty ≡ true) → map pair_of pairs ≡ [] → ⊥
not_empty pairs empty some full none =
    let zero_length : length pairs ≡ 0 = omega (arith, length-map pairs pair_of, ap length none) in
    let is_nil = full (nil_from_length pairs zero_length) in
    cc

pub not_the_end : (b : Bounds) (f : ℕ) (old : Progress) → record { bounds = b; first = f } ≡ old → (length (pairs_of b) ≤ f → ⊥) →
    (true ≡ false → length (pairs_of old.bounds) ≤ old.first) × (length (pairs_of old.bounds) ≤ old.first → true ≡ false)
not_the_end b f old is more = rw (← is) (λ h. cc, λ past. absurd (more past))
