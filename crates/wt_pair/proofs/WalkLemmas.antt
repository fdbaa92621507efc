-- Steps of the walks over destinations, anchorings and templates.
use Rattle.std.proofs.Common.{◌≡◌, ℕ, zero, suc, ◌+◌, ◌^◌, ◌<◌, ◌≤◌, ◌⊎◌, Bool, true, false, List, [], ◌∷◌, ◌++◌, length, drop, Option, Some, None, inl, inr, refl, sym, ap, ◌∙◌, arith, add-one, append_assoc}
use Rattle.std.specs.Prelude.{slice_get, is_none, if◌then◌else◌}
use Rattle.std.specs.List.{flat_map}
use Rattle.std.proofs.lemmas.List.{drop_all}
use Rattle.std.proofs.lemmas.Option.{slice_get_within}
use Rattle.wt_bag.proofs.UniqueLists.{each_get}
use Rattle.wt_template.specs.Shapes.{Shape, size_of, templates}
use Rattle.wt_symbol.specs.declared.fault.PairFault.{PairFault}
use Rattle.wt_symbol.specs.declared.fault.PairFault.TheVariants.{Symbol, Size, Anchor}
use Rattle.wt_symbol.specs.Lawful.{stands, has_lawful_symbols, has_lawful_sizes, has_lawful_anchors}
use Rattle.wt_symbol.specs.Sides.{SideTree, PairTree}
use Rattle.wt_pair.specs.declared.bounds.Bounds.{Bounds}
use Rattle.wt_pair.specs.declared.source.Symbols.{Symbols}
use Rattle.wt_pair.specs.Candidates.{leaf_count, list_count, source_of, anchorings, destinations_over, is_lawful, lawful_pairs, pairs_of_anchoring, pairs_of_template, pairs_of}
use Rattle.wt_pair.specs.Walk.{nth_anchoring, resumed, rest_of_anchoring, rest_of_source, rest_of_pairs, symbols_of, IsSmall, Fills}
use Rattle.wt_pair.proofs.AnchorLemmas.{get-anchorings, length-anchorings}
use Rattle.wt_pair.proofs.BoundLemmas.{destinations-le, templates-le, each_template, small_symbols}

-- ---- what is left of a list

pub get-drop : {X : Type 0} (xs : List X) (k : ℕ) (x : X) → slice_get xs k ≡ Some x → drop k xs ≡ x ∷ drop (k + 1) xs
get-drop [] k x h = cc
get-drop (y ∷ xs) zero x h = let same : y ≡ x = cc in rw same refl
get-drop (y ∷ xs) (suc k) x h = rw add-one (rw add-one at (get-drop xs k x h))

pub get-none : {X : Type 0} (xs : List X) (k : ℕ) → slice_get xs k ≡ None → drop k xs ≡ []
get-none [] zero h = refl
get-none [] (suc k) h = refl
get-none (x ∷ xs) zero h = cc
get-none (x ∷ xs) (suc k) h = get-none xs k h

-- ---- destinations

lawful-cons : (side : SideTree) (anchors : List ℕ) (d : SideTree) (ds : List SideTree) →
    lawful_pairs side anchors (d ∷ ds) ≡ lawful_pairs side anchors (d ∷ []) ++ lawful_pairs side anchors ds
lawful-cons side anchors d ds =
    elim (is_lawful (record { source = side; dest = d; anchors = anchors }))
    as (λ b. (if b then record { source = side; dest = d; anchors = anchors } ∷ lawful_pairs side anchors ds else lawful_pairs side anchors ds)
    ≡ (if b then record { source = side; dest = d; anchors = anchors } ∷ [] else []) ++ lawful_pairs side anchors ds) [ true ↦ refl | false ↦ refl ]

module _ (b : Bounds) (side : SideTree) (s : Symbols) (anchors : List ℕ) (k : ℕ) where
  pub dest_within : IsSmall s → b.dst ≤ 4 → (d : SideTree) → Some d ≡ slice_get (destinations_over b.ops.0 b.dst s.leaves s.lists s.preds) k →
      (k < length (destinations_over b.ops.0 b.dst s.leaves s.lists s.preds)) × (k + 1 < 2 ^ 64)
  dest_within small dst d found =
      let within = slice_get_within _ k d (sym found) in
      let few = destinations-le b.ops.0 b.dst s small dst in
      (within, omega (arith, within, few))

  pub dest_next : (d : SideTree) (has more had : List PairTree) → Some d ≡ slice_get (destinations_over b.ops.0 b.dst s.leaves s.lists s.preds) k →
      more ≡ has ++ lawful_pairs side anchors (d ∷ []) → has ++ rest_of_anchoring b side s k anchors ≡ had → more ++ rest_of_anchoring b side s (k + 1) anchors ≡ had
  dest_next d has more had found is so_far =
      let dests = destinations_over b.ops.0 b.dst s.leaves s.lists s.preds in
      let next : rest_of_anchoring b side s k anchors ≡ lawful_pairs side anchors (d ∷ []) ++ rest_of_anchoring b side s (k + 1) anchors =
      ap (lawful_pairs side anchors) (get-drop dests k d (sym found)) ∙ lawful-cons side anchors d (drop (k + 1) dests) in
      rw (is, append_assoc) (ap (λ xs. has ++ xs) (sym next) ∙ so_far)

  pub dests_done : None ≡ slice_get (destinations_over b.ops.0 b.dst s.leaves s.lists s.preds) k → rest_of_anchoring b side s k anchors ≡ []
  dests_done none = ap (lawful_pairs side anchors) (get-none _ k (sym none))

-- ---- anchorings

no_pair : (a b c : Bool) (rest : Option PairFault) → c ≡ false →
    is_none (if a then (if b then (if c then rest else Some Anchor) else Some Size) else Some Symbol) ≡ false
no_pair true true c rest h = rw h refl
no_pair true false c rest h = refl
no_pair false b c rest h = refl

not_lawful : (p : PairTree) → stands p.source p.anchors ≡ false → is_lawful p ≡ false
not_lawful p h = no_pair (has_lawful_symbols p) (has_lawful_sizes p) (has_lawful_anchors p) _ (rw h refl)

pub none_stand : (side : SideTree) (anchors : List ℕ) → stands side anchors ≡ false → (ds : List SideTree) → lawful_pairs side anchors ds ≡ []
none_stand side anchors h [] = refl
none_stand side anchors h (d ∷ ds) =
    let unlawful = not_lawful (record { source = side; dest = d; anchors = anchors }) h in rw unlawful (none_stand side anchors h ds)

resumed-same : {X Y : Type 0} (f g : X → List Y) → ((x : X) → f x ≡ g x) → (xs : List X) → resumed f g xs ≡ flat_map g xs
resumed-same f g same [] = refl
resumed-same f g same (x ∷ xs) = rw (same x) refl

-- one element of a resumed list is walked over
resumed_next : {X Y : Type 0} (part part' whole : X → List Y) (xs : List X) (k : ℕ) (x : X) (lot : ℕ) (has more had : List Y) → slice_get xs k ≡ Some x →
    more ++ part' x ≡ has ++ part x → has ++ resumed part whole (drop k xs) ≡ had → more ++ resumed part' whole (drop k xs) ≡ had
resumed_next part part' whole xs k x lot has more had at filled so_far =
    let first = get-drop xs k x at in
    let before : has ++ (part x ++ flat_map whole (drop (k + 1) xs)) ≡ had = rw first at so_far in
    rw first
    (sym (append_assoc more (part' x) (flat_map whole (drop (k + 1) xs)))
    ∙ ap (λ ys. ys ++ flat_map whole (drop (k + 1) xs)) filled
    ∙ append_assoc has (part x) (flat_map whole (drop (k + 1) xs)) ∙ before)

-- it is passed
resumed_passed : {X Y : Type 0} (part again whole : X → List Y) → ((x : X) → again x ≡ whole x) → (xs : List X) (k : ℕ) (x : X) (has had : List Y) → slice_get xs k ≡ Some x →
    part x ≡ [] → has ++ resumed part whole (drop k xs) ≡ had → has ++ resumed again whole (drop (k + 1) xs) ≡ had
resumed_passed part again whole same xs k x has had at done so_far =
    let first = get-drop xs k x at in
    let before : has ++ ([] ++ flat_map whole (drop (k + 1) xs)) ≡ had = rw done at (rw first at so_far) in
    ap (λ ys. has ++ ys) (resumed-same again whole same (drop (k + 1) xs)) ∙ before

module _ (b : Bounds) (side : SideTree) (s : Symbols) (a : ℕ) where
  pub anchoring_next : (most d e : ℕ) (has more had : List PairTree) → a < s.leaves ^ s.lists →
      Fills most has more (rest_of_anchoring b side s d (nth_anchoring s.leaves s.lists a)) (rest_of_anchoring b side s e (nth_anchoring s.leaves s.lists a)) →
      has ++ rest_of_source b side s a d ≡ had → more ++ rest_of_source b side s a e ≡ had
  anchoring_next most d e has more had within filled so_far =
      resumed_next (rest_of_anchoring b side s d) (rest_of_anchoring b side s e) (rest_of_anchoring b side s 0) (anchorings s.leaves s.lists) a
      (nth_anchoring s.leaves s.lists a) most has more had (get-anchorings s.leaves s.lists a within) filled.pairs so_far

  pub anchoring_passed : (e : ℕ) (has had : List PairTree) → a < s.leaves ^ s.lists → rest_of_anchoring b side s e (nth_anchoring s.leaves s.lists a) ≡ [] →
      has ++ rest_of_source b side s a e ≡ had → has ++ rest_of_source b side s (a + 1) 0 ≡ had
  anchoring_passed e has had within done so_far =
      resumed_passed (rest_of_anchoring b side s e) (rest_of_anchoring b side s 0) (rest_of_anchoring b side s 0) (λ x. refl) (anchorings s.leaves s.lists) a
      (nth_anchoring s.leaves s.lists a) has had (get-anchorings s.leaves s.lists a within) done so_far

  pub anchorings_done : (d : ℕ) → s.leaves ^ s.lists ≤ a → rest_of_source b side s a d ≡ []
  anchorings_done d h =
      let none = drop_all a (anchorings s.leaves s.lists) (omega (arith, length-anchorings s.leaves s.lists)) in rw none refl

-- what is not full is done
pub must_be_done : {X : Type 0} (lot n : ℕ) (has : List X) (rest : List PairTree) → length has ≡ n → (n ≡ lot → ⊥) → (n ≡ lot) ⊎ (rest ≡ []) → rest ≡ []
must_be_done lot n has rest e not_full h = elim h [ inl full ↦ absurd (not_full full) | inr done ↦ done ]

-- ---- templates

all_of_template : (b : Bounds) (t : Shape) → rest_of_source b (source_of t) (symbols_of t) 0 0 ≡ pairs_of_template b.ops.0 b.dst t
all_of_template b t = resumed-same (rest_of_anchoring b (source_of t) (symbols_of t) 0) (pairs_of_anchoring b.ops.0 b.dst t) (λ x. refl) (anchorings (leaf_count t) (list_count t))

module _ (b : Bounds) (n : ℕ) (t : Shape) (at : Some t ≡ slice_get (templates b.ops.0 b.src) n) where
  pub template_next : (most a d a' d' : ℕ) (has more had : List PairTree) →
      Fills most has more (rest_of_source b (source_of t) (symbols_of t) a d) (rest_of_source b (source_of t) (symbols_of t) a' d') →
      has ++ rest_of_pairs b n a d ≡ had → more ++ rest_of_pairs b n a' d' ≡ had
  template_next most a d a' d' has more had filled so_far =
      resumed_next (λ u. rest_of_source b (source_of u) (symbols_of u) a d) (λ u. rest_of_source b (source_of u) (symbols_of u) a' d') (pairs_of_template b.ops.0 b.dst)
      (templates b.ops.0 b.src) n t most has more had (sym at) filled.pairs so_far

  pub template_passed : (a d : ℕ) (has had : List PairTree) → rest_of_source b (source_of t) (symbols_of t) a d ≡ [] →
      has ++ rest_of_pairs b n a d ≡ had → has ++ rest_of_pairs b (n + 1) 0 0 ≡ had
  template_passed a d has had done so_far =
      resumed_passed (λ u. rest_of_source b (source_of u) (symbols_of u) a d) (λ u. rest_of_source b (source_of u) (symbols_of u) 0 0) (pairs_of_template b.ops.0 b.dst)
      (all_of_template b) (templates b.ops.0 b.src) n t has had (sym at) done so_far

  pub template_small : b.src ≤ 4 → IsSmall (symbols_of t) × (n < length (templates b.ops.0 b.src)) × (n + 1 < 2 ^ 64)
  template_small src =
      let size = each_get (λ u. size_of u ≤ b.src) (templates b.ops.0 b.src) n t (each_template b.ops.0 b.src) (sym at) in
      let within = slice_get_within (templates b.ops.0 b.src) n t (sym at) in
      let few = templates-le b.ops.0 b.src src in
      (small_symbols t (omega arith), within, omega (arith, within, few))

pub templates_done : (b : Bounds) (n a d : ℕ) → None ≡ slice_get (templates b.ops.0 b.src) n → rest_of_pairs b n a d ≡ []
templates_done b n a d none = let past = get-none (templates b.ops.0 b.src) n (sym none) in rw past refl

-- ---- lots

pub all_pairs : (b : Bounds) → rest_of_pairs b 0 0 0 ≡ pairs_of b
all_pairs b =
    resumed-same (λ u. rest_of_source b (source_of u) (symbols_of u) 0 0) (pairs_of_template b.ops.0 b.dst) (all_of_template b) (templates b.ops.0 b.src)
