-- What the pages of a lot keep, as they catch up with the log and as the log grows.
use Rattle.std.proofs.Common.{◌≡◌, ◌≢◌, ℕ, zero, suc, ◌+◌, ◌-◌, ◌<◌, ◌≤◌, ◌⊎◌, inl, inr, Bool, true, false, true≢false, refl, sym, ap, ◌∙◌, subst, arith, nat_eq, eqb-true, add-one, List, [], ◌∷◌, ◌++◌, length, length-append, take, drop, get_or}
use Rattle.std.specs.Prelude.{Some, slice_get, slice_set, map}
use Rattle.std.proofs.Math.Seq.{take-suc}
use Rattle.std.proofs.lemmas.Bool.{cases_eq}
use Rattle.std.proofs.lemmas.List.{take_all, length-drop, take-append-drop, get_or-set_same, get_or-set_other, length-set}
use Rattle.std.proofs.lemmas.List.Folds.{list_any-append}
use Rattle.std.proofs.lemmas.Nat.Bits.{bit_at-zero}
use Rattle.wt_bag.specs.Bags.{Each}
use Rattle.wt_symbol.specs.declared.side.Pair.{Pair}
use Rattle.wt_symbol.specs.Lawful.{IsLawful}
use Rattle.wt_symbol.specs.Sides.{PairTree, pair_of}
use Rattle.wt_constraint.specs.declared.set.AtomSet.{AtomSet}
use Rattle.wt_constraint.specs.Sets.{HasAtom}
use Rattle.wt_cores.specs.Cores.{Within, all_atoms}
use Rattle.wt_board.specs.declared.words.Ticket.{Ticket}
use Rattle.wt_board.specs.declared.words.Entry.{Entry}
use Rattle.wt_board.specs.declared.nodes.Node.{Node}
use Rattle.wt_board.specs.Lots.{LotTree}
use Rattle.wt_board.specs.Knowledge.{cores_of, refused_of, lies_in, has_core, is_refused}
use Rattle.wt_board.specs.Machine.{Pending}
use Rattle.wt_board.specs.Covering.{Lore, knows, Covers, IsOpen, no_atoms}
use Rattle.wt_board.specs.Viewing.{lore_with}
use Rattle.wt_board.specs.Keeping.{PageTree, PageFits, lore_of, page_at, no_page, Keeps, at_work}
use Rattle.wt_board.proofs.Sets.{or_true, or_left, or_right, some_same, none_some}
use Rattle.wt_board.proofs.Findings.{cores_append, refused_append}

-- ---- pairs of a lot

pub pair_at : (pairs : List PairTree) (k : ℕ) → k < length pairs → (pair : PairTree) × (slice_get pairs k ≡ Some pair)
pair_at [] k l = absurd (let bad : ⊥ = omega (arith, l) in bad)
pair_at (p ∷ ps) zero l = (p, refl)
pair_at (p ∷ ps) (suc k) l = pair_at ps k (omega (arith, l))

pub pair_below : (pairs : List PairTree) (k : ℕ) (pair : PairTree) → slice_get pairs k ≡ Some pair → k < length pairs
pair_below [] k pair at = absurd (none_some pair at)
pair_below (p ∷ ps) zero pair at = omega arith
pair_below (p ∷ ps) (suc k) pair at = let l = pair_below ps k pair at in omega (arith, l)

pub lawful_read : (pairs : List Pair) (k : ℕ) (x : Pair) → Each IsLawful (map pair_of pairs) → k < length pairs → x ≡ get_or pairs k x → IsLawful (pair_of x)
lawful_read [] k x h l e = absurd (let bad : ⊥ = omega (arith, l) in bad)
lawful_read (p ∷ ps) zero x h l e = subst (λ y. IsLawful (pair_of y)) (sym e) h.0
lawful_read (p ∷ ps) (suc k) x h l e = lawful_read ps k x h.1 (omega (arith, l)) e

-- ---- more is known

known_more : (c r c' r' : List AtomSet) (s : AtomSet) → knows (record { cores = c; refused = r }) s ≡ true → knows (record { cores = c ++ c'; refused = r ++ r' }) s ≡ true
known_more c r c' r' s h = elim (or_true (has_core c s) (is_refused r s) h) [
  | inl k ↦ or_left (has_core (c ++ c') s) (is_refused (r ++ r') s) (list_any-append (λ x. lies_in x s) c c' ∙ or_left (has_core c s) (has_core c' s) k)
  | inr k ↦ or_right (has_core (c ++ c') s) (is_refused (r ++ r') s) (list_any-append (λ x. lies_in s x) r r' ∙ or_left (is_refused r s) (is_refused r' s) k)
]

unknown_before : (c r c' r' : List AtomSet) (s : AtomSet) → knows (record { cores = c ++ c'; refused = r ++ r' }) s ≡ false → knows (record { cores = c; refused = r }) s ≡ false
unknown_before c r c' r' s h = by (knows (record { cores = c; refused = r }) s) refl
  where
    by : (b : Bool) → knows (record { cores = c; refused = r }) s ≡ b → knows (record { cores = c; refused = r }) s ≡ false
    by true e = absurd (true≢false (sym (known_more c r c' r' s e) ∙ h))
    by false e = e

-- where more is known, less has to be covered
pub covers_more : (k : Lore) (c' r' : List AtomSet) (all : AtomSet) (nodes : List Node) → Covers k all nodes → Covers (record { cores = k.cores ++ c'; refused = k.refused ++ r' }) all nodes
covers_more k c' r' all nodes h s w u = h s w (unknown_before k.cores k.refused c' r' s u)

-- ---- a page catches up

pub taken_more : (log : List Entry) (k : ℕ) (e d : Entry) → k < length log → e ≡ get_or log k d → take (k + 1) log ≡ take k log ++ e ∷ []
taken_more log k e d l is = rw (add-one, take-suc log k d l) (rw (← is) refl)

abbrev lore_by : List AtomSet → List AtomSet → Lore
lore_by c r = record { cores = c; refused = r }

pub fits_more : (all : AtomSet) (p : ℕ) (log : List Entry) (page : PageTree) (e d : Entry) (c r : List AtomSet) → PageFits all p log page → page.seen < length log → e ≡ get_or log page.seen d
    → c ≡ page.lore.cores ++ cores_of p (e ∷ []) → r ≡ page.lore.refused ++ refused_of p (e ∷ [])
    → PageFits all p log (record { all = page.all; lore = record { cores = c; refused = r }; seen = page.seen + 1; nodes = page.nodes })
fits_more all p log page e d c r h l is cs rs =
    let longer = taken_more log page.seen e d l is in
    let told : lore_by (page.lore.cores ++ cores_of p (e ∷ [])) (page.lore.refused ++ refused_of p (e ∷ [])) ≡ lore_of p (take (page.seen + 1) log) =
    ap (λ (k : Lore). lore_by (k.cores ++ cores_of p (e ∷ [])) (k.refused ++ refused_of p (e ∷ []))) h.lore
    ∙ (λ i. lore_by (sym (cores_append p (take page.seen log) (e ∷ [])) i) (sym (refused_append p (take page.seen log) (e ∷ [])) i))
    ∙ ap (lore_of p) (sym longer) in
    let both : lore_by c r ≡ lore_by (page.lore.cores ++ cores_of p (e ∷ [])) (page.lore.refused ++ refused_of p (e ∷ [])) = λ i. lore_by (cs i) (rs i) in
    record {
      atoms = h.atoms;
      seen = let m : page.seen < length log = l in omega (arith, m);
      lore = both ∙ told;
      covers = subst (λ k. Covers k page.all page.nodes) (sym both) (covers_more page.lore (cores_of p (e ∷ [])) (refused_of p (e ∷ [])) page.all page.nodes h.covers);
      within = h.within;
    }

-- ---- the log grows

take_left : (xs ys : List Entry) (k : ℕ) → k ≤ length xs → take k (xs ++ ys) ≡ take k xs
take_left xs ys zero l = refl
take_left [] ys (suc k) l = absurd (let bad : ⊥ = omega (arith, l) in bad)
take_left (x ∷ xs) ys (suc k) l = ap (λ t. x ∷ t) (take_left xs ys k (omega (arith, l)))

fits_logged : (all : AtomSet) (p : ℕ) (log : List Entry) (e : Entry) (page : PageTree) → PageFits all p log page → PageFits all p (log ++ e ∷ []) page
fits_logged all p log e page h = record {
  atoms = h.atoms;
  seen = let a = h.seen in let b = length-append log (e ∷ []) in omega (arith, a, b);
  lore = h.lore ∙ ap (lore_of p) (sym (take_left log (e ∷ []) page.seen h.seen));
  covers = h.covers;
  within = h.within;
}

pub keeps_logged : (lot : LotTree) (log : List Entry) (e : Entry) (pages : List PageTree) → Keeps lot log pages → Keeps lot (log ++ e ∷ []) pages
keeps_logged lot log e pages h = record { many = h.many; each = λ p pair at. fits_logged (all_atoms pair) p log e (get_or pages p no_page) (h.each p pair at) }

-- ---- one page changes

pub keeps_page : (lot : LotTree) (log : List Entry) (pages : List PageTree) (p : ℕ) (page : PageTree) → Keeps lot log pages → p < length lot.pairs
    → ((pair : PairTree) → slice_get lot.pairs p ≡ Some pair → PageFits (all_atoms pair) p log page) → Keeps lot log (slice_set pages p page)
keeps_page lot log pages p page h l fits = record { many = length-set pages p page ∙ h.many; each = λ q pair at. by q pair at (cases_eq q p) }
  where
    by : (q : ℕ) (pair : PairTree) → slice_get lot.pairs q ≡ Some pair → (q ≡ p) ⊎ (q ≢ p) → PageFits (all_atoms pair) q log (get_or (slice_set pages p page) q no_page)
    by q pair at (inl e) =
        let m = h.many in
        let here : get_or (slice_set pages p page) p no_page ≡ page = get_or-set_same pages p page no_page (omega (arith, m, l)) in
        subst (λ j. PageFits (all_atoms pair) j log (get_or (slice_set pages p page) j no_page)) (sym e)
        (subst (PageFits (all_atoms pair) p log) (sym here) (fits pair (sym (ap (slice_get lot.pairs) e) ∙ at)))
    by q pair at (inr other) = subst (PageFits (all_atoms pair) q log) (sym (get_or-set_other pages p q page no_page other)) (h.each q pair at)

-- ---- the first pages

none_here : (s : AtomSet) → Within no_atoms s
none_here s i h = absurd (no_bit i h)
  where
    no_bit : (i : ℕ) → HasAtom no_atoms i → ⊥
    no_bit i h = let z = bit_at-zero i in let o = h.bit in omega (arith, z, o)

first_page : (pairs : List Pair) (k : ℕ) (pair : PairTree) → slice_get (map pair_of pairs) k ≡ Some pair → get_or (map (λ p. page_at (all_atoms (pair_of p))) pairs) k no_page ≡ page_at (all_atoms pair)
first_page [] k pair at = absurd (none_some pair at)
first_page (p ∷ ps) zero pair at = ap (λ q. page_at (all_atoms q)) (some_same (pair_of p) pair at)
first_page (p ∷ ps) (suc k) pair at = first_page ps k pair at

as_many : {X Y Z : Type 0} (f : X → Y) (g : X → Z) (xs : List X) → length (map f xs) ≡ length (map g xs)
as_many f g [] = refl
as_many f g (x ∷ xs) = ap suc (as_many f g xs)

pub keeps_first : (lot : LotTree) (pairs : List Pair) (pages : List PageTree) → lot.pairs ≡ map pair_of pairs → pages ≡ map (λ p. page_at (all_atoms (pair_of p))) pairs → Keeps lot [] pages
keeps_first lot pairs pages are first = record {
  many = ap length first ∙ as_many (λ p. page_at (all_atoms (pair_of p))) pair_of pairs ∙ ap length (sym are);
  each = λ k pair at. subst (PageFits (all_atoms pair) k []) (sym (ap (λ ps. get_or ps k no_page) first ∙ first_page pairs k pair (sym (ap (λ ps. slice_get ps k) are) ∙ at))) (fits (all_atoms pair) k);
}
  where
    fits : (all : AtomSet) (k : ℕ) → PageFits all k [] (page_at all)
    fits all k = record { atoms = refl; seen = omega arith; lore = refl; covers = λ s w e. inl (record { lower = none_here s; upper = w }); within = (none_here all, λ i h. h, tt) }

-- ---- what is pending

pub pending_is : (lot : LotTree) (out : List Ticket) (log : List Entry) (p : ℕ) (pair : PairTree) (s : AtomSet) → slice_get lot.pairs p ≡ Some pair → Within s (all_atoms pair) → IsOpen (lore_of p log) out p s → Pending lot (at_work out log) p s
pending_is lot out log p pair s at w o = record { pair = pair; at = at; within = w; unknown = o.unknown; not_out = o.not_out }

pub is_pending : (lot : LotTree) (out : List Ticket) (log : List Entry) (p : ℕ) (pair : PairTree) (s : AtomSet) → slice_get lot.pairs p ≡ Some pair → Pending lot (at_work out log) p s → Within s (all_atoms pair) × IsOpen (lore_of p log) out p s
is_pending lot out log p pair s at h =
    let same : h.pair ≡ pair = some_same h.pair pair (sym h.at ∙ at) in
    (subst (λ x. Within s (all_atoms x)) same h.within, record { unknown = h.unknown; not_out = h.not_out })

-- what a page and the rest of the log tell is what the log tells
pub lore_whole : (all : AtomSet) (p : ℕ) (log : List Entry) (page : PageTree) → PageFits all p log page → lore_with page.lore.cores page.lore.refused (drop page.seen log) p ≡ lore_of p log
lore_whole all p log page h =
    ap (λ (k : Lore). lore_by (k.cores ++ cores_of p (drop page.seen log)) (k.refused ++ refused_of p (drop page.seen log))) h.lore
    ∙ (λ i. lore_by (sym (cores_append p (take page.seen log) (drop page.seen log)) i) (sym (refused_append p (take page.seen log) (drop page.seen log)) i))
    ∙ ap (lore_of p) (take-append-drop page.seen log)

pub covers_whole : (all : AtomSet) (p : ℕ) (log : List Entry) (page : PageTree) → PageFits all p log page → Covers (lore_of p log) page.all page.nodes
covers_whole all p log page h =
    subst (λ k. Covers k page.all page.nodes) (lore_whole all p log page h) (covers_more page.lore (cores_of p (drop page.seen log)) (refused_of p (drop page.seen log)) page.all page.nodes h.covers)

-- the rest of a log, as a slice has it
pub rest_is : (log : List Entry) (k : ℕ) → take (length log - k) (drop k log) ≡ drop k log
rest_is log k = take_all (length log - k) (drop k log) (let e = length-drop k log in omega (arith, e))

-- a pair of a list of pairs
pub pair_read : (pairs : List Pair) (k : ℕ) (x : Pair) → k < length pairs → x ≡ get_or pairs k x → slice_get (map pair_of pairs) k ≡ Some (pair_of x)
pair_read [] k x l e = absurd (let bad : ⊥ = omega (arith, l) in bad)
pair_read (p ∷ ps) zero x l e = ap (λ y. Some (pair_of y)) (sym e)
pair_read (p ∷ ps) (suc k) x l e = pair_read ps k x (omega (arith, l)) e

pub taken_pair : (pairs : List Pair) (k : ℕ) (x : Pair) → k < length pairs → x ≡ get_or pairs k x → take (k + 1) (map pair_of pairs) ≡ take k (map pair_of pairs) ++ pair_of x ∷ []
taken_pair [] k x l e = absurd (let bad : ⊥ = omega (arith, l) in bad)
taken_pair (p ∷ ps) zero x l e = ap (λ y. pair_of y ∷ []) (sym e)
taken_pair (p ∷ ps) (suc k) x l e =
    let one_on : suc k + 1 ≡ suc (k + 1) = omega arith in
    ap (λ n. take n (map pair_of (p ∷ ps))) one_on ∙ ap (λ t. pair_of p ∷ t) (taken_pair ps k x (omega (arith, l)) e)

pub pending_next : (lot : LotTree) (m n : ℕ) (out : List Ticket) (log : List Entry) (p : ℕ) (s : AtomSet) → Pending lot (record { next = m; out = out; log = log }) p s → Pending lot (record { next = n; out = out; log = log }) p s
pending_next lot m n out log p s h = record { pair = h.pair; at = h.at; within = h.within; unknown = h.unknown; not_out = h.not_out }

pub nothing_out : (out : List Ticket) (empty : Bool) → empty ≡ nat_eq (length out) 0 → empty ≡ true → out ≡ []
nothing_out [] empty e t = refl
nothing_out (x ∷ xs) empty e t = let q = eqb-true (length (x ∷ xs)) 0 (sym e ∙ t) in absurd (let bad : ⊥ = omega (arith, q) in bad)
