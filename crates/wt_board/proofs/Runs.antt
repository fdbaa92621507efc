-- What holds after every run.
use Rattle.std.proofs.Common.{◌≡◌, ℕ, ◌+◌, ◌≤◌, Bool, true, false, true≢false, refl, sym, ap, ◌∙◌, subst, arith, eqb-true, List, [], ◌∷◌, ◌++◌}
use Rattle.std.specs.Prelude.{Some, ◌&&◌, ◌==◌, if◌then◌else◌}
use Rattle.wt_bag.proofs.EachLaws.{each_append}
use Rattle.wt_symbol.specs.Sides.{PairTree}
use Rattle.wt_constraint.specs.declared.set.AtomSet.{AtomSet}
use Rattle.wt_board.specs.declared.words.Ticket.{Ticket}
use Rattle.wt_board.specs.declared.words.Verdict.{Verdict}
use Rattle.wt_board.specs.declared.words.Verdict.TheVariants.{Proved, Refused}
use Rattle.wt_board.specs.declared.words.Entry.{Entry}
use Rattle.wt_board.specs.declared.words.Event.{Event}
use Rattle.wt_board.specs.declared.words.Event.TheVariants.{Claimed, Posted, GivenBack}
use Rattle.wt_board.specs.Lots.{LotTree}
use Rattle.wt_board.specs.Knowledge.{core_before, refused_before, cores_of, refused_of, lies_in, has_core, is_refused, is_known}
use Rattle.wt_board.specs.Machine.{State, start, IsTrueOf, VerdictStands, LogStands, find_ticket, end_claim, is_out, Pending, entry_of, after, replay, MayBe, IsRun}
use Rattle.wt_board.specs.Counts.{one, times_out, times_logged}
use Rattle.wt_board.proofs.Sets.{or_false, and_true, some_same, none_some, set_same, within_lies}

-- the log is true, and no set is out or logged twice, nor both
pub record Kept (lot : LotTree) (st : State) : Type 0 where
  pub log : LogStands lot st.log
  pub once : (p : ℕ) (s : AtomSet) → times_out st.out p s + times_logged st.log p s ≤ 1

-- ---- counts

not_out : (ts : List Ticket) (p : ℕ) (s : AtomSet) → is_out ts p s ≡ false → times_out ts p s ≡ 0
not_out [] p s h = refl
not_out (t ∷ ts) p s h = let k = or_false (t.pair == p && t.set.0 == s.0) (is_out ts p s) h in omega (arith, ap one k.0, not_out ts p s k.1)

out_append : (ts : List Ticket) (t : Ticket) (p : ℕ) (s : AtomSet) → times_out (ts ++ t ∷ []) p s ≡ times_out ts p s + one (t.pair == p && t.set.0 == s.0)
out_append [] t p s = omega arith
out_append (x ∷ xs) t p s = omega (arith, out_append xs t p s)

logged_append : (es : List Entry) (e : Entry) (p : ℕ) (s : AtomSet) → times_logged (es ++ e ∷ []) p s ≡ times_logged es p s + one (e.pair == p && e.set.0 == s.0)
logged_append [] e p s = omega arith
logged_append (x ∷ xs) e p s = omega (arith, logged_append xs e p s)

ended : (n : ℕ) (ts : List Ticket) (t : Ticket) (p : ℕ) (s : AtomSet) → find_ticket n ts ≡ Some t → times_out ts p s ≡ times_out (end_claim n ts) p s + one (t.pair == p && t.set.0 == s.0)
ended n [] t p s h = absurd (none_some t h)
ended n (x ∷ xs) t p s h = by (x.number == n) refl (λ r. ended n xs t p s r)
  where
    by : (b : Bool) → (x.number == n) ≡ b → (find_ticket n xs ≡ Some t → times_out xs p s ≡ times_out (end_claim n xs) p s + one (t.pair == p && t.set.0 == s.0))
        → times_out (x ∷ xs) p s ≡ times_out (end_claim n (x ∷ xs)) p s + one (t.pair == p && t.set.0 == s.0)
    by true e again =
        let same : x ≡ t = some_same x t (sym (ap (λ (b : Bool). if b then Some x else find_ticket n xs) e) ∙ h) in
        let gone : end_claim n (x ∷ xs) ≡ xs = ap (λ (b : Bool). if b then xs else x ∷ end_claim n xs) e in
        omega (arith, ap (λ (l : List Ticket). times_out l p s) gone, ap (λ (y : Ticket). one (y.pair == p && y.set.0 == s.0)) same)
    by false e again =
        let rest : find_ticket n xs ≡ Some t = sym (ap (λ (b : Bool). if b then Some x else find_ticket n xs) e) ∙ h in
        let kept : end_claim n (x ∷ xs) ≡ x ∷ end_claim n xs = ap (λ (b : Bool). if b then xs else x ∷ end_claim n xs) e in
        omega (arith, ap (λ (l : List Ticket). times_out l p s) kept, again rest)

-- ---- a set that is not known is not logged

own : (v : Verdict) (pair : PairTree) (steps : ℕ) (s : AtomSet) (cs rs : List AtomSet) → IsTrueOf pair steps s v → has_core (core_before true v cs) s ≡ false → is_refused (refused_before true v rs) s ≡ false → ⊥
own (Proved c) pair steps s cs rs h k r = true≢false (sym (within_lies c s h.0) ∙ (or_false (lies_in c s) (has_core cs s) k).0)
own (Refused t) pair steps s cs rs h k r = true≢false (sym (within_lies s t h.0) ∙ (or_false (lies_in s t) (is_refused rs s) r).0)

less_core : (b : Bool) (v : Verdict) (cs : List AtomSet) (s : AtomSet) → has_core (core_before b v cs) s ≡ false → has_core cs s ≡ false
less_core true (Proved c) cs s h = (or_false (lies_in c s) (has_core cs s) h).1
less_core true (Refused r) cs s h = h
less_core false v cs s h = h

less_refused : (b : Bool) (v : Verdict) (rs : List AtomSet) (s : AtomSet) → is_refused (refused_before b v rs) s ≡ false → is_refused rs s ≡ false
less_refused true (Proved c) rs s h = h
less_refused true (Refused r) rs s h = (or_false (lies_in s r) (is_refused rs s) h).1
less_refused false v rs s h = h

pub not_logged : (lot : LotTree) (log : List Entry) (p : ℕ) (s : AtomSet) → LogStands lot log → has_core (cores_of p log) s ≡ false → is_refused (refused_of p log) s ≡ false → times_logged log p s ≡ 0
not_logged lot [] p s h k r = refl
not_logged lot (e ∷ es) p s h k r =
    let rest = not_logged lot es p s h.1 (less_core (e.pair == p) e.verdict (cores_of p es) s k) (less_refused (e.pair == p) e.verdict (refused_of p es) s r) in
    omega (arith, rest, here (e.pair == p) (e.set.0 == s.0) refl refl)
  where
    here : (b q : Bool) → (e.pair == p) ≡ b → (e.set.0 == s.0) ≡ q → one (e.pair == p && e.set.0 == s.0) ≡ 0
    here false q a f = ap (λ (c : Bool). one (c && e.set.0 == s.0)) a
    here true false a f = ap (λ (c : Bool). one (c && e.set.0 == s.0)) a ∙ ap one f
    here true true a f =
        let same : e.set ≡ s = set_same e.set s f in
        let k' : has_core (core_before true e.verdict (cores_of p es)) s ≡ false = subst (λ (c : Bool). has_core (core_before c e.verdict (cores_of p es)) s ≡ false) a k in
        let r' : is_refused (refused_before true e.verdict (refused_of p es)) s ≡ false = subst (λ (c : Bool). is_refused (refused_before c e.verdict (refused_of p es)) s ≡ false) a r in
        absurd (own e.verdict h.0.pair lot.bounds.steps s (cores_of p es) (refused_of p es) (subst (λ x. IsTrueOf h.0.pair lot.bounds.steps x e.verdict) same h.0.true_of) k' r')

-- ---- one event, and a run

one_le : (b : Bool) → one b ≤ 1
one_le true = omega arith
one_le false = omega arith

unknown_parts : (log : List Entry) (p : ℕ) (s : AtomSet) → is_known p log s ≡ false → (has_core (cores_of p log) s ≡ false) × (is_refused (refused_of p log) s ≡ false)
unknown_parts log p s h = or_false (has_core (cores_of p log) s) (is_refused (refused_of p log) s) h

claim_once : (lot : LotTree) (st : State) (t : Ticket) (p : ℕ) (s : AtomSet) → Kept lot st → Pending lot st t.pair t.set → times_out (st.out ++ t ∷ []) p s + times_logged st.log p s ≤ 1
claim_once lot st t p s k w = by (t.pair == p && t.set.0 == s.0) refl
  where
    by : (b : Bool) → (t.pair == p && t.set.0 == s.0) ≡ b → times_out (st.out ++ t ∷ []) p s + times_logged st.log p s ≤ 1
    by false e = omega (arith, out_append st.out t p s, ap one e, k.once p s)
    by true e =
        let z = and_true (t.pair == p) (t.set.0 == s.0) e in
        let a : t.pair ≡ p = eqb-true t.pair p z.0 in
        let b : t.set ≡ s = set_same t.set s z.1 in
        let P : ℕ × AtomSet → Type 0 = λ q. (times_out st.out q.0 q.1 ≡ 0) × (times_logged st.log q.0 q.1 ≡ 0) in
        let none : P (p, s) = subst P (λ i. (a i, b i)) (not_out st.out t.pair t.set w.not_out, not_logged lot st.log t.pair t.set k.log (unknown_parts st.log t.pair t.set w.unknown).0 (unknown_parts st.log t.pair t.set w.unknown).1) in
        omega (arith, out_append st.out t p s, none.0, none.1, one_le (t.pair == p && t.set.0 == s.0))

pub log_more : (lot : LotTree) (log : List Entry) (t : Ticket) (v : Verdict) → LogStands lot log → VerdictStands lot t.pair t.set v → LogStands lot (log ++ entry_of t v ∷ [])
log_more lot log t v h k = each_append (λ (e : Entry). VerdictStands lot e.pair e.set e.verdict) log (entry_of t v ∷ []) h (k, tt)

kept_after : (lot : LotTree) (st : State) (e : Event) → Kept lot st → MayBe lot st e → Kept lot (after st e)
kept_after lot st (Claimed t) k m = record { log = k.log; once = λ p s. claim_once lot st t p s k m.1 }
kept_after lot st (Posted t v) k m = record {
  log = log_more lot st.log t v k.log m.1;
  once = λ p s. omega (arith, ended t.number st.out t p s m.0, logged_append st.log (entry_of t v) p s, k.once p s);
}
kept_after lot st (GivenBack t) k m = record { log = k.log; once = λ p s. omega (arith, ended t.number st.out t p s m, k.once p s) }

kept_by_run : (lot : LotTree) (st : State) (es : List Event) → Kept lot st → IsRun lot st es → Kept lot (replay st es)
kept_by_run lot st [] k r = k
kept_by_run lot st (e ∷ es) k r = kept_by_run lot (after st e) es (kept_after lot st e k r.0) r.1

pub kept_always : (lot : LotTree) (es : List Event) → IsRun lot start es → Kept lot (replay start es)
kept_always lot es r = kept_by_run lot start es (record { log = tt; once = λ p s. omega arith }) r
