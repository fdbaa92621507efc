-- What cores, refused sets and entries tell of a set.
use Rattle.std.proofs.Common.{◌≡◌, ℕ, zero, suc, ◌<◌, ◌+◌, ◌*◌, ◌^◌, ◌⊎◌, inl, inr, ◌↔◌, Bool, true, false, true≢false, refl, sym, ap, ◌∙◌, subst, arith, List, [], ◌∷◌, ◌++◌, length, drop, get_or}
use Rattle.std.specs.Prelude.{◌==◌, ◌||◌, Option, Some, None, is_some}
use Rattle.std.proofs.lemmas.List.Folds.{list_any-append}
use Rattle.wt_bag.specs.Choices.{Has}
use Rattle.wt_bag.proofs.HasLaws.{has_left, has_right, list_any_has}
use Rattle.wt_constraint.specs.declared.set.AtomSet.{AtomSet}
use Rattle.wt_constraint.specs.Sets.{HasAtom}
use Rattle.wt_form.specs.Relaxed.{LeavesOut}
use Rattle.wt_cores.specs.Cores.{Within}
use Rattle.wt_cores.proofs.Gaining.{less_leaves, leaves_one}
use Rattle.std.specs.Int.{bit_at}
use Rattle.wt_cores.proofs.Bits.{within_trans}
use Rattle.wt_board.specs.declared.words.Verdict.{Verdict}
use Rattle.wt_board.specs.declared.words.Verdict.TheVariants.{Proved, Refused}
use Rattle.wt_board.specs.declared.words.Entry.{Entry}
use Rattle.wt_board.specs.declared.nodes.Node.{Node}
use Rattle.wt_board.specs.Knowledge.{core_before, refused_before, cores_of, refused_of, lies_in, has_core, is_refused}
use Rattle.wt_board.specs.Covering.{Lore, knows, LiesIn, Refuses}
use Rattle.wt_board.specs.Viewing.{AreRefusedWithout}
use Rattle.wt_board.proofs.Sets.{or_left, or_right, or_neither, within_lies}
use Rattle.wt_board.proofs.Findings.{core_more}

-- ---- an entry more

or_none : (a b : Bool) → (a || b) ≡ ((a || false) || b)
or_none true b = refl
or_none false b = refl

pub core_step : (b : Bool) (v : Verdict) (cs : List AtomSet) (s : AtomSet) → has_core (core_before b v cs) s ≡ (has_core (core_before b v []) s || has_core cs s)
core_step true (Proved c) cs s = or_none (lies_in c s) (has_core cs s)
core_step true (Refused r) cs s = refl
core_step false v cs s = refl

pub refused_step : (b : Bool) (v : Verdict) (rs : List AtomSet) (s : AtomSet) → is_refused (refused_before b v rs) s ≡ (is_refused (refused_before b v []) s || is_refused rs s)
refused_step true (Proved c) rs s = refl
refused_step true (Refused r) rs s = or_none (lies_in s r) (is_refused rs s)
refused_step false v rs s = refl

step_on : (k : ℕ) → suc k + 1 ≡ suc (k + 1)
step_on k = omega arith

pub dropped : {X : Type 0} (xs : List X) (k : ℕ) (d : X) → k < length xs → drop k xs ≡ get_or xs k d ∷ drop (k + 1) xs
dropped [] k d l = absurd (let bad : ⊥ = omega (arith, l) in bad)
dropped (x ∷ xs) zero d l = refl
dropped (x ∷ xs) (suc k) d l = dropped xs k d (omega (arith, l)) ∙ ap (λ n. get_or xs k d ∷ drop n (x ∷ xs)) (sym (step_on k))

-- what the rest of the entries tells, where the next one tells nothing
pub core_later : (p : ℕ) (es : List Entry) (k : ℕ) (d : Entry) (s : AtomSet) (b : Bool) → k < length es → has_core (core_before ((get_or es k d).pair == p) (get_or es k d).verdict []) s ≡ b
    → has_core (cores_of p (drop k es)) s ≡ (b || has_core (cores_of p (drop (k + 1) es)) s)
core_later p es k d s b l none =
    ap (λ xs. has_core (cores_of p xs) s) (dropped es k d l)
    ∙ core_step ((get_or es k d).pair == p) (get_or es k d).verdict (cores_of p (drop (k + 1) es)) s
    ∙ ap (λ (c : Bool). c || has_core (cores_of p (drop (k + 1) es)) s) none

pub refused_later : (p : ℕ) (es : List Entry) (k : ℕ) (d : Entry) (s : AtomSet) → k < length es → is_refused (refused_before ((get_or es k d).pair == p) (get_or es k d).verdict []) s ≡ false
    → is_refused (refused_of p (drop k es)) s ≡ is_refused (refused_of p (drop (k + 1) es)) s
refused_later p es k d s l none =
    ap (λ xs. is_refused (refused_of p xs) s) (dropped es k d l)
    ∙ refused_step ((get_or es k d).pair == p) (get_or es k d).verdict (refused_of p (drop (k + 1) es)) s
    ∙ ap (λ (c : Bool). c || is_refused (refused_of p (drop (k + 1) es)) s) none

-- ---- a refused set

pub refuses_none : (rs : List AtomSet) (s : AtomSet) (o : Option AtomSet) → is_some o ≡ false → Refuses rs s o → is_refused rs s ≡ false
refuses_none rs s None e h = h
refuses_none rs s (Some r) e h = absurd (true≢false e)

before_has : (b : Bool) (v : Verdict) (rs : List AtomSet) (r : AtomSet) → Has r (refused_before b v []) → Has r (refused_before b v rs)
before_has true (Refused x) rs r (inl e) = inl e
before_has true (Refused x) rs r (inr h) = absurd h
before_has true (Proved x) rs r h = absurd h
before_has false v rs r h = absurd h

has_before : (b : Bool) (v : Verdict) (rs : List AtomSet) (r : AtomSet) → Has r rs → Has r (refused_before b v rs)
has_before true (Refused x) rs r h = inr h
has_before true (Proved x) rs r h = h
has_before false v rs r h = h

refused_there : (p : ℕ) (es : List Entry) (k : ℕ) (d : Entry) (r : AtomSet) → k < length es → Has r (refused_before ((get_or es k d).pair == p) (get_or es k d).verdict []) → Has r (refused_of p es)
refused_there p [] k d r l h = absurd (let bad : ⊥ = omega (arith, l) in bad)
refused_there p (e ∷ es) zero d r l h = before_has (e.pair == p) e.verdict (refused_of p es) r h
refused_there p (e ∷ es) (suc k) d r l h = has_before (e.pair == p) e.verdict (refused_of p es) r (refused_there p es k d r (omega (arith, l)) h)

pub refuses_there : (p : ℕ) (es : List Entry) (k : ℕ) (d : Entry) (s : AtomSet) (o : Option AtomSet) → k < length es → is_some o ≡ true
    → Refuses (refused_before ((get_or es k d).pair == p) (get_or es k d).verdict []) s o → Refuses (refused_of p es) s o
refuses_there p es k d s None l e h = absurd (true≢false (sym e))
refuses_there p es k d s (Some r) l e h = (h.0, refused_there p es k d r l h.1)

pub refuses_left : (xs ys : List AtomSet) (s : AtomSet) (o : Option AtomSet) → is_some o ≡ true → Refuses xs s o → Refuses (xs ++ ys) s o
refuses_left xs ys s None e h = absurd (true≢false (sym e))
refuses_left xs ys s (Some r) e h = (h.0, has_left r xs ys h.1)

pub refuses_right : (xs ys : List AtomSet) (s : AtomSet) (o : Option AtomSet) → is_refused xs s ≡ false → Refuses ys s o → Refuses (xs ++ ys) s o
refuses_right xs ys s None e h = list_any-append (λ r. lies_in s r) xs ys ∙ or_neither (is_refused xs s) (is_refused ys s) e h
refuses_right xs ys s (Some r) e h = (h.0, has_right r xs ys h.1)

-- one of the refused sets, at a place of the list
pub refuses_at : (rs : List AtomSet) (k : ℕ) (d s : AtomSet) → k < length rs → lies_in s (get_or rs k d) ≡ true → Refuses rs s (Some (get_or rs k d))
refuses_at rs k d s l h = (h, has_at rs k d l)
  where
    has_at : (xs : List AtomSet) (at : ℕ) (d : AtomSet) → at < length xs → Has (get_or xs at d) xs
    has_at [] at d l = absurd (let bad : ⊥ = omega (arith, l) in bad)
    has_at (x ∷ xs) zero d l = inl refl
    has_at (x ∷ xs) (suc at) d l = inr (has_at xs at d (omega (arith, l)))

-- ---- known or not

pub not_unknown : (k : Lore) (s : AtomSet) → has_core k.cores s ≡ true → knows k s ≡ true
not_unknown k s h = or_left (has_core k.cores s) (is_refused k.refused s) h

pub unknown_is : (k : Lore) (s : AtomSet) → has_core k.cores s ≡ false → Refuses k.refused s None → knows k s ≡ false
unknown_is k s h r = or_neither (has_core k.cores s) (is_refused k.refused s) h r

pub refused_is : (k : Lore) (s : AtomSet) (o : Option AtomSet) → is_some o ≡ true → Refuses k.refused s o → knows k s ≡ true
refused_is k s None e r = absurd (true≢false (sym e))
refused_is k s (Some x) e r = or_right (has_core k.cores s) (is_refused k.refused s) (list_any_has (λ t. lies_in s t) x k.refused r.1 r.0)

pub core_sees : (k : Lore) (n : Node) (s : AtomSet) → has_core k.cores n.must ≡ true → LiesIn n s → knows k s ≡ true
core_sees k n s h l = or_left (has_core k.cores s) (is_refused k.refused s) (core_more k.cores n.must s l.lower h)

pub refusal_sees : (k : Lore) (n : Node) (r s : AtomSet) → Has r k.refused → Within n.may r → LiesIn n s → knows k s ≡ true
refusal_sees k n r s h w l =
    or_right (has_core k.cores s) (is_refused k.refused s) (list_any_has (λ t. lies_in s t) r k.refused h (within_lies s r (within_trans s n.may r l.upper w)))

pub refused_yes : (rs : List AtomSet) (s : AtomSet) (o : Option AtomSet) → is_some o ≡ true → Refuses rs s o → is_refused rs s ≡ true
refused_yes rs s None e r = absurd (true≢false (sym e))
refused_yes rs s (Some x) e r = list_any_has (λ t. lies_in s t) x rs r.1 r.0

-- an atom more without which the set is refused
pub needed_more : (rs : List AtomSet) (set less : AtomSet) (i : ℕ) (atoms more : AtomSet) → AreRefusedWithout rs set atoms → ((j : ℕ) → HasAtom more j ↔ (HasAtom atoms j ⊎ (j ≡ i)))
    → HasAtom set i → less.0 + bit_at set.0 i * 2 ^ i ≡ set.0 → is_refused rs less ≡ true → AreRefusedWithout rs set more
needed_more rs set less i atoms more before are there number refused j t h leaves = elim ((are j).0 h) [
  | inl k ↦ before j t k leaves
  | inr e ↦
      let here : LeavesOut set i t = subst (λ m. LeavesOut set m t) e leaves in
      subst (λ x. is_refused rs x ≡ true) (sym (leaves_one set less t i (less_leaves set less i there number) here)) refused
]
