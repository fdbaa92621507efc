-- Lawful symbols of small sides are bytes, so a pair's faults show in its bytes.
use Rattle.std.proofs.Common.{◌≡◌, ℕ, zero, suc, ◌+◌, ◌*◌, ◌<◌, ◌≤◌, Bool, true, false, List, [], ◌∷◌, ◌++◌, map, length, drop, get_or, Some, None, refl, sym, ap, ◌∙◌, subst, inl, inr, arith, length-append}
use Rattle.std.specs.Prelude.{◌⊎◌, ◌==◌, ◌&&◌, ◌||◌, slice_index, if◌then◌else◌}
use Rattle.std.proofs.lemmas.Grind.{common_steps}
use Rattle.std.proofs.lemmas.List.{drop_all, drop_more, map-append, length-map}
use Rattle.std.specs.declared.option.Option.{Option}
use Rattle.wt_symbol.specs.declared.fault.PairFault.{PairFault}
use Rattle.wt_symbol.specs.declared.fault.PairFault.TheVariants.{Symbol, Size, Anchor, Weight, Root}
use Rattle.wt_symbol.specs.Sides.{SideTree, input, proj, filtered, inner_join, left_join, in_sub, dedup, PairTree, leaves_of, lists_of, preds_of, size_of}
use Rattle.wt_symbol.specs.Lawful.{occurs, counts_up, all_in, has_lawful_symbols, has_lawful_sizes, has_lawful_anchors, has_lawful_weights, has_lawful_roots, visible_leaves, sees, stands, fault_of, IsLawful}
use Rattle.wt_symbol.specs.Sides.{tree_of, pair_of}
use Rattle.wt_symbol.specs.declared.side.Pair.{Pair}
use Rattle.wt_symbol.proofs.SymbolLemmas.{EachBelow, counted_below, among_below, length-leaves, lawful_from_none, lawful_sizes}
use Rattle.wt_rule_text.specs.Trees.{RuleText}
use Rattle.wt_rule_line.specs.Pairs.{in_byte, in_bytes, tree_of_text, anchors_of, pair_of_text}

below_append : (m : ℕ) (xs ys : List ℕ) → EachBelow m (xs ++ ys) → EachBelow m xs × EachBelow m ys
below_append m [] ys h = (tt, h)
below_append m (x ∷ xs) ys h = let rest = below_append m xs ys h.1 in ((h.0, rest.0), rest.1)

append_below : (m : ℕ) (xs ys : List ℕ) → EachBelow m xs → EachBelow m ys → EachBelow m (xs ++ ys)
append_below m [] ys h g = g
append_below m (x ∷ xs) ys h g = (h.0, append_below m xs ys h.1 g)

and_both : (b c : Bool) → (b && c) ≡ true → (b ≡ true) × (c ≡ true)
and_both true c h = (refl, h)
and_both false c h = absurd (cc)

and_same : (b b' c c' : Bool) → b' ≡ b → (b ≡ true → c' ≡ c) → (b' && c') ≡ (b && c)
and_same true b' c c' e f = ap (λ x. x && c') e ∙ f refl
and_same false b' c c' e f = ap (λ x. x && c') e

same_number : (x y : ℕ) → (x == y) ≡ true → x ≡ y
same_number x y h = grind (arith, common_steps)

same_byte : (n : ℕ) → n < 255 → in_byte n ≡ n
same_byte n h = omega arith

-- ---- sides

same_bytes : (t : SideTree) → EachBelow 255 (leaves_of t) → EachBelow 255 (lists_of t) → EachBelow 255 (preds_of t) → in_bytes t ≡ t
same_bytes (input r) l a p = ap input (same_byte r l.0)
same_bytes (proj b s) l a p = rw (same_byte b a.0, same_bytes s l a.1 p) refl
same_bytes (filtered q b s) l a p = rw (same_byte q p.0, same_byte b a.0, same_bytes s l a.1 p.1) refl
same_bytes (inner_join b c s t) l a p =
    let ls = below_append 255 (leaves_of s) (leaves_of t) l in
    let ks = below_append 255 (lists_of s) (lists_of t) a.1.1 in
    let ps = below_append 255 (preds_of s) (preds_of t) p in
    rw (same_byte b a.0, same_byte c a.1.0, same_bytes s ls.0 ks.0 ps.0, same_bytes t ls.1 ks.1 ps.1) refl
same_bytes (left_join b c s t) l a p =
    let ls = below_append 255 (leaves_of s) (leaves_of t) l in
    let ks = below_append 255 (lists_of s) (lists_of t) a.1.1 in
    let ps = below_append 255 (preds_of s) (preds_of t) p in
    rw (same_byte b a.0, same_byte c a.1.0, same_bytes s ls.0 ks.0 ps.0, same_bytes t ls.1 ks.1 ps.1) refl
same_bytes (in_sub b s t) l a p =
    let ls = below_append 255 (leaves_of s) (leaves_of t) l in
    let ks = below_append 255 (lists_of s) (lists_of t) a.1 in
    let ps = below_append 255 (preds_of s) (preds_of t) p in
    rw (same_byte b a.0, same_bytes s ls.0 ks.0 ps.0, same_bytes t ls.1 ks.1 ps.1) refl
same_bytes (dedup s) l a p = ap dedup (same_bytes s l a p)

length-lists : (s : SideTree) → length (lists_of s) ≤ 2 * size_of s
length-lists (input r) = omega arith
length-lists (proj a s) = omega (arith, length-lists s)
length-lists (filtered p a s) = omega (arith, length-lists s)
length-lists (inner_join a b s t) = omega (arith, length-lists s, length-lists t, length-append (lists_of s) (lists_of t))
length-lists (left_join a b s t) = omega (arith, length-lists s, length-lists t, length-append (lists_of s) (lists_of t))
length-lists (in_sub a s t) = omega (arith, length-lists s, length-lists t, length-append (lists_of s) (lists_of t))
length-lists (dedup s) = omega (arith, length-lists s)

length-preds : (s : SideTree) → length (preds_of s) ≤ size_of s
length-preds (input r) = omega arith
length-preds (proj a s) = omega (arith, length-preds s)
length-preds (filtered p a s) = omega (arith, length-preds s)
length-preds (inner_join a b s t) = omega (arith, length-preds s, length-preds t, length-append (preds_of s) (preds_of t))
length-preds (left_join a b s t) = omega (arith, length-preds s, length-preds t, length-append (preds_of s) (preds_of t))
length-preds (in_sub a s t) = omega (arith, length-preds s, length-preds t, length-append (preds_of s) (preds_of t))
length-preds (dedup s) = omega (arith, length-preds s)

-- ---- anchors

at_byte : (A : List ℕ) (a : ℕ) → slice_index (map in_byte A) a ≡ in_byte (slice_index A a)
at_byte [] a = refl
at_byte (x ∷ A) zero = refl
at_byte (x ∷ A) (suc a) = at_byte A a

same_test : (x y : ℕ) → y < 255 → (y == in_byte x) ≡ (y == x)
same_test x y h = grind (arith, common_steps)

same_occurs : (x : ℕ) (ys : List ℕ) → EachBelow 255 ys → occurs (in_byte x) ys ≡ occurs x ys
same_occurs x [] h = refl
same_occurs x (y ∷ ys) h = rw (same_test x y h.0, same_occurs x ys h.1) refl

occurs_below : (m x : ℕ) (ys : List ℕ) → EachBelow m ys → occurs x ys ≡ true → x < m
occurs_below m x [] h o = absurd (cc)
occurs_below m x (y ∷ ys) h o =
    elim (y == x) as (λ b. (y == x) ≡ b → (b || occurs x ys) ≡ true → x < m) [
      | true ↦ λ e g. let same : y ≡ x = grind (arith, common_steps) in omega (arith, h.0)
      | false ↦ λ e g. occurs_below m x ys h.1 g
    ] refl o

-- what is seen of a side under anchors is seen under their bytes
abbrev SeenAlike : SideTree → List ℕ → Type 0
SeenAlike s A = (stands s (map in_byte A) ≡ stands s A) × (stands s A ≡ true → (visible_leaves s (map in_byte A) ≡ visible_leaves s A) × EachBelow 255 (visible_leaves s A))

same_sees : (s : SideTree) (A : List ℕ) (a : ℕ) → (visible_leaves s (map in_byte A) ≡ visible_leaves s A) × EachBelow 255 (visible_leaves s A) → sees s (map in_byte A) a ≡ sees s A a
same_sees s A a seen = ap (λ v. occurs (slice_index (map in_byte A) a) v) seen.0 ∙ ap (λ x. occurs x (visible_leaves s A)) (at_byte A a) ∙ same_occurs (slice_index A a) (visible_leaves s A) seen.1

-- a list that stands is anchored below
stands_below : (s : SideTree) (A : List ℕ) (a : ℕ) → EachBelow 255 (visible_leaves s A) → sees s A a ≡ true → slice_index A a < 255
stands_below s A a seen h = occurs_below 255 (slice_index A a) (visible_leaves s A) seen h

joined : (a b : ℕ) (s t : SideTree) (A : List ℕ) → SeenAlike s A → SeenAlike t A → SeenAlike (inner_join a b s t) A
joined a b s t A (e, k) (f, m) = (
  and_same ((stands s A && stands t A) && sees s A a) _ (sees t A b) _
      (and_same (stands s A && stands t A) _ (sees s A a) _ (and_same (stands s A) _ (stands t A) _ e (λ h. f)) (λ h. same_sees s A a (k (and_both (stands s A) (stands t A) h).0)))
      (λ h. same_sees t A b (m (and_both (stands s A) (stands t A) (and_both (stands s A && stands t A) (sees s A a) h).0).1)),
  λ h.
      let both = and_both (stands s A) (stands t A) (and_both (stands s A && stands t A) (sees s A a) (and_both ((stands s A && stands t A) && sees s A a) (sees t A b) h).0).0 in
      let left = k both.0 in
      let right = m both.1 in
      (ap (λ v. v ++ visible_leaves t (map in_byte A)) left.0 ∙ ap (λ v. visible_leaves s A ++ v) right.0, append_below 255 (visible_leaves s A) (visible_leaves t A) left.1 right.1),
)

seen_alike : (s : SideTree) (A : List ℕ) → EachBelow 255 (leaves_of s) → SeenAlike s A
seen_alike (input r) A l = (refl, λ h. (refl, l))
seen_alike (proj a s) A l =
    let (e, k) = seen_alike s A l in (
      and_same (stands s A) _ (sees s A a) _ e (λ h. same_sees s A a (k h)),
      λ h. let both = and_both (stands s A) (sees s A a) h in let small = stands_below s A a (k both.0).1 both.1 in (ap (λ x. x ∷ []) (at_byte A a ∙ same_byte (slice_index A a) small), (small, tt)),
    )
seen_alike (filtered p a s) A l =
    let (e, k) = seen_alike s A l in
    (and_same (stands s A) _ (sees s A a) _ e (λ h. same_sees s A a (k h)), λ h. k (and_both (stands s A) (sees s A a) h).0)
seen_alike (inner_join a b s t) A l =
    let ls = below_append 255 (leaves_of s) (leaves_of t) l in
    joined a b s t A (seen_alike s A ls.0) (seen_alike t A ls.1)
seen_alike (left_join a b s t) A l =
    let ls = below_append 255 (leaves_of s) (leaves_of t) l in
    joined a b s t A (seen_alike s A ls.0) (seen_alike t A ls.1)
seen_alike (in_sub a s t) A l =
    let ls = below_append 255 (leaves_of s) (leaves_of t) l in
    let (e, k) = seen_alike s A ls.0 in
    let (f, m) = seen_alike t A ls.1 in (
      and_same (stands s A && stands t A) _ (sees s A a) _ (and_same (stands s A) _ (stands t A) _ e (λ h. f)) (λ h. same_sees s A a (k (and_both (stands s A) (stands t A) h).0)),
      λ h. k (and_both (stands s A) (stands t A) (and_both (stands s A && stands t A) (sees s A a) h).0).0,
    )
seen_alike (dedup s) A l = seen_alike s A l

-- ---- pairs

abbrev faults : Bool → Bool → Bool → Bool → Bool → Option PairFault
faults symbols sizes anchors weights roots =
    if symbols then (if sizes then (if anchors then (if weights then (if roots then None else Some Root) else Some Weight) else Some Anchor) else Some Size) else Some Symbol

module _ (p : PairTree) (symbols : has_lawful_symbols p ≡ true) (source : size_of p.source ≤ 4) (dest : size_of p.dest ≤ 4) where
  parts : (counts_up 0 (leaves_of p.source) ≡ true) × (counts_up 0 (lists_of p.source) ≡ true) × (counts_up 0 (preds_of p.source) ≡ true)
      × (all_in (leaves_of p.source) (leaves_of p.dest) ≡ true) × (all_in (lists_of p.source) (lists_of p.dest) ≡ true) × (all_in (preds_of p.source) (preds_of p.dest) ≡ true)
      × (length p.anchors ≡ length (lists_of p.source))
  parts =
      let h3 = and_both _ _ symbols in
      let h2 = and_both _ _ h3.0 in
      let h1 = and_both _ _ h2.0 in
      let n2 = and_both _ _ h1.0 in
      let n1 = and_both _ _ n2.0 in
      let u2 = and_both _ _ h2.1 in
      let u1 = and_both _ _ u2.0 in
      let count = same_number (length p.anchors) (length (lists_of p.source)) h1.1 in
      (n1.0, n1.1, n2.1, u1.0, u1.1, u2.1, count)

  leaves : EachBelow 255 (leaves_of p.source)
  leaves = counted_below 255 0 (leaves_of p.source) parts.0 (omega (arith, source, length-leaves p.source))

  lists : EachBelow 255 (lists_of p.source)
  lists = counted_below 255 0 (lists_of p.source) parts.1 (omega (arith, source, length-lists p.source))

  preds : EachBelow 255 (preds_of p.source)
  preds = counted_below 255 0 (preds_of p.source) parts.2 (omega (arith, source, length-preds p.source))

  dest_leaves : EachBelow 255 (leaves_of p.dest)
  dest_leaves = among_below 255 (leaves_of p.source) (leaves_of p.dest) leaves parts.3

  pub source_bytes : in_bytes p.source ≡ p.source
  source_bytes = same_bytes p.source leaves lists preds

  pub dest_bytes : in_bytes p.dest ≡ p.dest
  dest_bytes =
      same_bytes p.dest dest_leaves (among_below 255 (lists_of p.source) (lists_of p.dest) lists parts.4) (among_below 255 (preds_of p.source) (preds_of p.dest) preds parts.5)

  same_anchors : has_lawful_anchors (record { source = p.source; dest = p.dest; anchors = map in_byte p.anchors }) ≡ has_lawful_anchors p
  same_anchors = and_same (stands p.source p.anchors) _ (stands p.dest p.anchors) _ (seen_alike p.source p.anchors leaves).0 (λ h. (seen_alike p.dest p.anchors dest_leaves).0)

  same_symbols : has_lawful_symbols (record { source = p.source; dest = p.dest; anchors = map in_byte p.anchors }) ≡ true
  same_symbols = let n = length-map p.anchors in_byte in rw n symbols

  same_faults : fault_of (record { source = p.source; dest = p.dest; anchors = map in_byte p.anchors }) ≡ fault_of p
  same_faults =
      ap (λ b. faults b (has_lawful_sizes p) (has_lawful_anchors (record { source = p.source; dest = p.dest; anchors = map in_byte p.anchors })) (has_lawful_weights p) (has_lawful_roots p)) (same_symbols ∙ sym symbols)
      ∙ ap (λ b. faults (has_lawful_symbols p) (has_lawful_sizes p) b (has_lawful_weights p) (has_lawful_roots p)) same_anchors

  pub bytes_fault : fault_of (record { source = in_bytes p.source; dest = in_bytes p.dest; anchors = map in_byte p.anchors }) ≡ fault_of p
  bytes_fault = rw (source_bytes, dest_bytes) same_faults

-- each list of a side that stands is anchored below
anchored_below : (s : SideTree) (A : List ℕ) → EachBelow 255 (leaves_of s) → stands s A ≡ true → EachBelow 255 (map (slice_index A) (lists_of s))
anchored_below (input r) A l h = tt
anchored_below (proj a s) A l h =
    let both = and_both (stands s A) (sees s A a) h in
    (stands_below s A a ((seen_alike s A l).1 both.0).1 both.1, anchored_below s A l both.0)
anchored_below (filtered p a s) A l h =
    let both = and_both (stands s A) (sees s A a) h in
    (stands_below s A a ((seen_alike s A l).1 both.0).1 both.1, anchored_below s A l both.0)
anchored_below (inner_join a b s t) A l h =
    let ls = below_append 255 (leaves_of s) (leaves_of t) l in
    let h1 = and_both ((stands s A && stands t A) && sees s A a) (sees t A b) h in
    let h2 = and_both (stands s A && stands t A) (sees s A a) h1.0 in
    let h3 = and_both (stands s A) (stands t A) h2.0 in (
      stands_below s A a ((seen_alike s A ls.0).1 h3.0).1 h2.1,
      (
        stands_below t A b ((seen_alike t A ls.1).1 h3.1).1 h1.1,
        subst (EachBelow 255) (sym (map-append (slice_index A) (lists_of s) (lists_of t))) (append_below 255 _ _ (anchored_below s A ls.0 h3.0) (anchored_below t A ls.1 h3.1)),
      ),
    )
anchored_below (left_join a b s t) A l h =
    let ls = below_append 255 (leaves_of s) (leaves_of t) l in
    let h1 = and_both ((stands s A && stands t A) && sees s A a) (sees t A b) h in
    let h2 = and_both (stands s A && stands t A) (sees s A a) h1.0 in
    let h3 = and_both (stands s A) (stands t A) h2.0 in (
      stands_below s A a ((seen_alike s A ls.0).1 h3.0).1 h2.1,
      (
        stands_below t A b ((seen_alike t A ls.1).1 h3.1).1 h1.1,
        subst (EachBelow 255) (sym (map-append (slice_index A) (lists_of s) (lists_of t))) (append_below 255 _ _ (anchored_below s A ls.0 h3.0) (anchored_below t A ls.1 h3.1)),
      ),
    )
anchored_below (in_sub a s t) A l h =
    let ls = below_append 255 (leaves_of s) (leaves_of t) l in
    let h2 = and_both (stands s A && stands t A) (sees s A a) h in
    let h3 = and_both (stands s A) (stands t A) h2.0 in (
      stands_below s A a ((seen_alike s A ls.0).1 h3.0).1 h2.1,
      subst (EachBelow 255) (sym (map-append (slice_index A) (lists_of s) (lists_of t))) (append_below 255 _ _ (anchored_below s A ls.0 h3.0) (anchored_below t A ls.1 h3.1)),
    )
anchored_below (dedup s) A l h = anchored_below s A l h

by_number : (m k : ℕ) (xs A : List ℕ) → counts_up k xs ≡ true → length A ≡ k + length xs → EachBelow m (map (slice_index A) xs) → EachBelow m (drop k A)
by_number m k [] A up count below = subst (EachBelow m) (sym (drop_all k A (omega arith))) tt
by_number m k (x ∷ xs) A up count below =
    let both = and_both (x == k) (counts_up (suc k) xs) up in
    let here : x ≡ k = same_number x k both.0 in
    let next = drop_more A k 0 (omega arith) in
    let rest = by_number m (suc k) xs A both.1 (omega arith) below.1 in
    let first : get_or A k 0 < m = subst (λ y. slice_index A y < m) here below.0 in
    let one : EachBelow m (drop (k + 1) A) = subst (λ n. EachBelow m (drop n A)) (let e : suc k ≡ k + 1 = omega arith in e) rest in
    subst (EachBelow m) (sym next) (first, one)

same_list : (A : List ℕ) → EachBelow 255 A → map in_byte A ≡ A
same_list [] h = refl
same_list (x ∷ A) h = rw (same_byte x h.0, same_list A h.1) refl

pub anchor_bytes : (p : PairTree) → IsLawful p → size_of p.source ≤ 4 → size_of p.dest ≤ 4 → map in_byte p.anchors ≡ p.anchors
anchor_bytes p lawful source dest =
    let known = parts p lawful.symbols source dest in
    let small = leaves p lawful.symbols source dest in
    let stands_source = (and_both (stands p.source p.anchors) (stands p.dest p.anchors) lawful.anchors).0 in
    same_list p.anchors (by_number 255 0 (lists_of p.source) p.anchors known.1 (omega (arith, known.6)) (anchored_below p.source p.anchors small stands_source))

pub made_pair : (r : RuleText) (pair : Pair) → tree_of pair.source ≡ in_bytes (tree_of_text r.source) → tree_of pair.dest ≡ in_bytes (tree_of_text r.dest) → pair.anchors ≡ map in_byte (anchors_of r.source) →
    fault_of (pair_of_text r) ≡ None → IsLawful (pair_of_text r) × (pair_of pair ≡ pair_of_text r)
made_pair r pair source dest anchors none =
    let p = pair_of_text r in
    let lawful = lawful_from_none p none in
    let sizes = lawful_sizes p lawful in
    let is_source = source ∙ source_bytes p lawful.symbols sizes.0 sizes.1 in
    let is_dest = dest ∙ dest_bytes p lawful.symbols sizes.0 sizes.1 in
    let are_anchors = anchors ∙ anchor_bytes p lawful sizes.0 sizes.1 in (
      lawful,
      ap (λ s. record { source = s; dest = tree_of pair.dest; anchors = pair.anchors }) is_source
          ∙ ap (λ d. record { source = p.source; dest = d; anchors = pair.anchors }) is_dest ∙ ap (λ a. record { source = p.source; dest = p.dest; anchors = a }) are_anchors,
    )

pub same_fault : (r : RuleText) (pair : Pair) → tree_of pair.source ≡ in_bytes (tree_of_text r.source) → tree_of pair.dest ≡ in_bytes (tree_of_text r.dest) → pair.anchors ≡ map in_byte (anchors_of r.source) →
    has_lawful_symbols (pair_of_text r) ≡ true → size_of (tree_of_text r.source) ≤ 4 → size_of (tree_of_text r.dest) ≤ 4 →
    fault_of (record { source = tree_of pair.source; dest = tree_of pair.dest; anchors = pair.anchors }) ≡ fault_of (pair_of_text r)
same_fault r pair source dest anchors symbols small_source small_dest =
    ap (λ s. fault_of (record { source = s; dest = tree_of pair.dest; anchors = pair.anchors })) source
    ∙ ap (λ d. fault_of (record { source = in_bytes (tree_of_text r.source); dest = d; anchors = pair.anchors })) dest
    ∙ ap (λ a. fault_of (record { source = in_bytes (tree_of_text r.source); dest = in_bytes (tree_of_text r.dest); anchors = a })) anchors
    ∙ bytes_fault (pair_of_text r) symbols small_source small_dest

pub size_fault : (p : PairTree) → has_lawful_symbols p ≡ true → (4 < size_of p.source) ⊎ (4 < size_of p.dest) → Some Size ≡ fault_of p
size_fault p symbols large =
    let sizes : has_lawful_sizes p ≡ false = elim large [ inl h ↦ grind (arith, common_steps) | inr h ↦ grind (arith, common_steps) ] in
    sym (ap (λ b. faults b (has_lawful_sizes p) (has_lawful_anchors p) (has_lawful_weights p) (has_lawful_roots p)) symbols
    ∙ ap (λ b. faults true b (has_lawful_anchors p) (has_lawful_weights p) (has_lawful_roots p)) sizes)
