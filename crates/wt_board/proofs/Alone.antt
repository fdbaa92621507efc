-- Where at most one claim is out at each moment, no core of a pair is logged twice.
use Rattle.std.proofs.Common.{◌≡◌, ℕ, zero, suc, ◌+◌, ◌<◌, ◌≤◌, Bool, true, false, true≢false, refl, sym, ap, ◌∙◌, subst, arith, eqb-true, List, [], ◌∷◌, ◌++◌, length, length-append}
use Rattle.std.specs.Prelude.{Some, None, if◌then◌else◌, ◌&&◌, ◌==◌}
use Rattle.wt_symbol.specs.Sides.{PairTree}
use Rattle.wt_constraint.specs.declared.set.AtomSet.{AtomSet}
use Rattle.wt_cores.specs.Cores.{Within}
use Rattle.wt_board.specs.declared.words.Ticket.{Ticket}
use Rattle.wt_board.specs.declared.words.Verdict.{Verdict}
use Rattle.wt_board.specs.declared.words.Verdict.TheVariants.{Proved, Refused}
use Rattle.wt_board.specs.declared.words.Entry.{Entry}
use Rattle.wt_board.specs.declared.words.Event.{Event}
use Rattle.wt_board.specs.declared.words.Event.TheVariants.{Claimed, Posted, GivenBack}
use Rattle.wt_board.specs.Lots.{LotTree}
use Rattle.wt_board.specs.Knowledge.{core_before, cores_of, refused_of, lies_in, has_core, is_refused, is_known}
use Rattle.wt_board.specs.Machine.{State, start, IsTrueOf, find_ticket, end_claim, entry_of, after, replay, MayBe, IsRun}
use Rattle.wt_board.specs.Counts.{one, is_core, times_core, IsAlone}
use Rattle.wt_board.proofs.Sets.{or_left, or_right, and_true, some_same, none_some, set_same, within_lies}

-- no core is logged twice, and what is out is not known
record Apart (st : State) : Type 0 where
  pub once : (p : ℕ) (c : AtomSet) → times_core st.log p c ≤ 1
  pub unknown : (n : ℕ) (t : Ticket) → find_ticket n st.out ≡ Some t → is_known t.pair st.log t.set ≡ false

core_append : (es : List Entry) (e : Entry) (p : ℕ) (c : AtomSet) → times_core (es ++ e ∷ []) p c ≡ times_core es p c + one (e.pair == p && is_core e.verdict c)
core_append [] e p c = omega arith
core_append (x ∷ xs) e p c = omega (arith, core_append xs e p c)

-- a set that a logged core lies in is known
core_known : (es : List Entry) (p : ℕ) (c s : AtomSet) → 0 < times_core es p c → Within c s → has_core (cores_of p es) s ≡ true
core_known [] p c s h k = absurd (let bad : ⊥ = omega (arith, h) in bad)
core_known (e ∷ es) p c s h k = by (e.pair == p) e.verdict h (λ l. core_known es p c s l k)
  where
    by : (b : Bool) (v : Verdict) → 0 < one (b && is_core v c) + times_core es p c → (0 < times_core es p c → has_core (cores_of p es) s ≡ true) → has_core (core_before b v (cores_of p es)) s ≡ true
    by true (Proved d) l again = here (d.0 == c.0) refl
      where
        here : (q : Bool) → (d.0 == c.0) ≡ q → has_core (d ∷ cores_of p es) s ≡ true
        here true e = or_left (lies_in d s) (has_core (cores_of p es) s) (within_lies d s (subst (λ x. Within x s) (sym (set_same d c e)) k))
        here false e = or_right (lies_in d s) (has_core (cores_of p es) s) (again (let m : 0 < one false + times_core es p c = subst (λ (q : Bool). 0 < one q + times_core es p c) e l in omega (arith, m)))
    by true (Refused r) l again = again (omega (arith, l))
    by false v l again = again (omega (arith, l))

single : (n : ℕ) (ts : List Ticket) (t : Ticket) → length ts ≤ 1 → find_ticket n ts ≡ Some t → end_claim n ts ≡ []
single n [] t l f = absurd (none_some t f)
single n (x ∷ []) t l f = by (x.number == n) refl
  where
    by : (b : Bool) → (x.number == n) ≡ b → end_claim n (x ∷ []) ≡ []
    by true e = ap (λ (b : Bool). if b then [] else x ∷ []) e
    by false e = absurd (none_some t (sym (ap (λ (b : Bool). if b then Some x else None) e) ∙ f))
single n (x ∷ y ∷ ts) t l f = absurd (let bad : ⊥ = omega (arith, l) in bad)

only_one : (n : ℕ) (ts : List Ticket) (t u : Ticket) → length (ts ++ t ∷ []) ≤ 1 → find_ticket n (ts ++ t ∷ []) ≡ Some u → t ≡ u
only_one n [] t u l f = by (t.number == n) refl
  where
    by : (b : Bool) → (t.number == n) ≡ b → t ≡ u
    by true e = some_same t u (sym (ap (λ (b : Bool). if b then Some t else None) e) ∙ f)
    by false e = absurd (none_some u (sym (ap (λ (b : Bool). if b then Some t else None) e) ∙ f))
only_one n (x ∷ xs) t u l f = absurd (let bad : ⊥ = omega (arith, l, length-append xs (t ∷ [])) in bad)

core_within : (v : Verdict) (pair : PairTree) (steps : ℕ) (s c : AtomSet) → IsTrueOf pair steps s v → is_core v c ≡ true → Within c s
core_within (Proved d) pair steps s c h k = subst (λ x. Within x s) (set_same d c k) h.0
core_within (Refused r) pair steps s c h k = absurd (true≢false (sym k))

post_once : (lot : LotTree) (st : State) (t : Ticket) (v : Verdict) (p : ℕ) (c : AtomSet) → Apart st → MayBe lot st (Posted t v) → times_core (st.log ++ entry_of t v ∷ []) p c ≤ 1
post_once lot st t v p c h m = by (t.pair == p && is_core v c) refl
  where
    none_yet : (n : ℕ) → (0 < n → ⊥) → n ≡ 0
    none_yet zero f = refl
    none_yet (suc n) f = absurd (f (omega arith))

    one_le : (b : Bool) → one b ≤ 1
    one_le true = omega arith
    one_le false = omega arith

    by : (b : Bool) → (t.pair == p && is_core v c) ≡ b → times_core (st.log ++ entry_of t v ∷ []) p c ≤ 1
    by false e = omega (arith, core_append st.log (entry_of t v) p c, ap one e, h.once p c)
    by true e =
        let z = and_true (t.pair == p) (is_core v c) e in
        let k : times_core st.log t.pair c ≡ 0 =
        none_yet (times_core st.log t.pair c) (λ l. true≢false (sym (or_left (has_core (cores_of t.pair st.log) t.set) (is_refused (refused_of t.pair st.log) t.set)
        (core_known st.log t.pair c t.set l (core_within v m.1.pair lot.bounds.steps t.set c m.1.true_of z.1))) ∙ h.unknown t.number t m.0)) in
        let k' : times_core st.log p c ≡ 0 = sym (ap (λ n. times_core st.log n c) (eqb-true t.pair p z.0)) ∙ k in
        omega (arith, core_append st.log (entry_of t v) p c, k', one_le (t.pair == p && is_core v c))

-- what is out was not known when it was claimed, and nothing was logged since
apart_after : (lot : LotTree) (st : State) (e : Event) → Apart st → MayBe lot st e → length st.out ≤ 1 → length (after st e).out ≤ 1 → Apart (after st e)
apart_after lot st (Claimed t) h m k l = record {
  once = h.once;
  unknown = λ n u f. subst (λ (x : Ticket). is_known x.pair st.log x.set ≡ false) (only_one n st.out t u l f) m.1.unknown;
}
apart_after lot st (Posted t v) h m k l = record {
  once = λ p c. post_once lot st t v p c h m;
  unknown = λ n u f. absurd (none_some u (sym (ap (find_ticket n) (single t.number st.out t k m.0)) ∙ f));
}
apart_after lot st (GivenBack t) h m k l = record {
  once = h.once;
  unknown = λ n u f. absurd (none_some u (sym (ap (find_ticket n) (single t.number st.out t k m)) ∙ f));
}

head_alone : (st : State) (es : List Event) → IsAlone st es → length st.out ≤ 1
head_alone st [] h = h
head_alone st (e ∷ es) h = h.0

apart_by : (lot : LotTree) (st : State) (es : List Event) → Apart st → IsRun lot st es → IsAlone st es → Apart (replay st es)
apart_by lot st [] h r a = h
apart_by lot st (e ∷ es) h r a = apart_by lot (after st e) es (apart_after lot st e h r.0 a.0 (head_alone (after st e) es a.1)) r.1 a.1

pub no_core_twice : (lot : LotTree) (es : List Event) → IsRun lot start es → IsAlone start es → (p : ℕ) (c : AtomSet) → times_core (replay start es).log p c ≤ 1
no_core_twice lot es r a = (apart_by lot start es (record { once = λ p c. omega arith; unknown = λ n t f. absurd (none_some t f) }) r a).once
