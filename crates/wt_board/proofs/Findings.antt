-- What the findings of a log say of a pair's sets.
use Rattle.std.proofs.Common.{◌≡◌, ℕ, ◌⊎◌, inl, inr, Bool, true, false, refl, sym, ap, ◌∙◌, subst, eqb-true, List, [], ◌∷◌, ◌++◌}
use Rattle.std.specs.Prelude.{◌==◌, Some, slice_get}
use Rattle.wt_bag.specs.Choices.{Has}
use Rattle.wt_bag.proofs.HasLaws.{has_list_any, list_any_has}
use Rattle.wt_symbol.specs.Sides.{PairTree}
use Rattle.wt_constraint.specs.declared.set.AtomSet.{AtomSet}
use Rattle.wt_form.specs.Under.{Provable}
use Rattle.wt_cores.specs.Cores.{Within, IsCore, all_atoms}
use Rattle.wt_cores.proofs.Bits.{within_trans}
use Rattle.wt_cores.proofs.CoreLaws.{monotone}
use Rattle.wt_board.specs.declared.words.Verdict.{Verdict}
use Rattle.wt_board.specs.declared.words.Verdict.TheVariants.{Proved, Refused}
use Rattle.wt_board.specs.declared.words.Entry.{Entry}
use Rattle.wt_board.specs.Lots.{LotTree}
use Rattle.wt_board.specs.Knowledge.{core_before, refused_before, cores_of, refused_of, lies_in, has_core, is_refused}
use Rattle.wt_board.specs.Machine.{IsTrueOf, VerdictStands, LogStands}
use Rattle.wt_board.proofs.Sets.{some_same, lies_within, within_lies}

-- ---- what an entry adds

pub core_first : (b : Bool) (v : Verdict) (xs ys : List AtomSet) → core_before b v (xs ++ ys) ≡ core_before b v xs ++ ys
core_first true (Proved c) xs ys = refl
core_first true (Refused r) xs ys = refl
core_first false v xs ys = refl

pub refused_first : (b : Bool) (v : Verdict) (xs ys : List AtomSet) → refused_before b v (xs ++ ys) ≡ refused_before b v xs ++ ys
refused_first true (Proved c) xs ys = refl
refused_first true (Refused r) xs ys = refl
refused_first false v xs ys = refl

pub cores_append : (p : ℕ) (xs ys : List Entry) → cores_of p (xs ++ ys) ≡ cores_of p xs ++ cores_of p ys
cores_append p [] ys = refl
cores_append p (e ∷ xs) ys = ap (core_before (e.pair == p) e.verdict) (cores_append p xs ys) ∙ core_first (e.pair == p) e.verdict (cores_of p xs) (cores_of p ys)

pub refused_append : (p : ℕ) (xs ys : List Entry) → refused_of p (xs ++ ys) ≡ refused_of p xs ++ refused_of p ys
refused_append p [] ys = refl
refused_append p (e ∷ xs) ys = ap (refused_before (e.pair == p) e.verdict) (refused_append p xs ys) ∙ refused_first (e.pair == p) e.verdict (refused_of p xs) (refused_of p ys)

-- ---- larger and smaller sets

pub core_more : (cores : List AtomSet) (s u : AtomSet) → Within s u → has_core cores s ≡ true → has_core cores u ≡ true
core_more cores s u w h =
    let k = has_list_any (λ c. lies_in c s) cores h in
    list_any_has (λ c. lies_in c u) k.0 cores k.1 (within_lies k.0 u (within_trans k.0 s u (lies_within k.0 s k.2) w))

pub refused_less : (refused : List AtomSet) (s u : AtomSet) → Within u s → is_refused refused s ≡ true → is_refused refused u ≡ true
refused_less refused s u w h =
    let k = has_list_any (λ r. lies_in s r) refused h in
    list_any_has (λ r. lies_in u r) k.0 refused k.1 (within_lies u k.0 (within_trans u s k.0 w (lies_within s k.0 k.2)))

-- ---- true findings

module _ (lot : LotTree) (p : ℕ) (pair : PairTree) (at : slice_get lot.pairs p ≡ Some pair) where
  -- a verdict on a set of this pair stands for it
  verdict_of : (q : ℕ) (s : AtomSet) (v : Verdict) → VerdictStands lot q s v → q ≡ p → Within s (all_atoms pair) × IsTrueOf pair lot.bounds.steps s v
  verdict_of q s v h e =
      let same : h.pair ≡ pair = some_same h.pair pair (sym h.at ∙ ap (slice_get lot.pairs) e ∙ at) in
      subst (λ x. Within s (all_atoms x) × IsTrueOf x lot.bounds.steps s v) same (h.within, h.true_of)

  core_here : (b : Bool) (q : ℕ) (s : AtomSet) (v : Verdict) (cs : List AtomSet) (c : AtomSet) → (b ≡ true → q ≡ p) → VerdictStands lot q s v → Has c (core_before b v cs)
      → (IsCore pair lot.bounds.steps c × Within c (all_atoms pair)) ⊎ Has c cs
  core_here true q s (Proved d) cs c is h (inl e) =
      let k = verdict_of q s (Proved d) h (is refl) in
      inl (subst (λ x. IsCore pair lot.bounds.steps x × Within x (all_atoms pair)) (sym e) (k.1.1, within_trans d s (all_atoms pair) k.1.0 k.0))
  core_here true q s (Proved d) cs c is h (inr r) = inr r
  core_here true q s (Refused d) cs c is h r = inr r
  core_here false q s v cs c is h r = inr r

  -- what was logged as a core is one
  pub logged_core : (log : List Entry) → LogStands lot log → (c : AtomSet) → Has c (cores_of p log) → IsCore pair lot.bounds.steps c × Within c (all_atoms pair)
  logged_core [] h c r = absurd r
  logged_core (e ∷ es) h c r = elim (core_here (e.pair == p) e.pair e.set e.verdict (cores_of p es) c (λ q. eqb-true e.pair p q) h.0 r) [ inl k ↦ k | inr k ↦ logged_core es h.1 c k ]

  refusal_here : (b : Bool) (q : ℕ) (s : AtomSet) (v : Verdict) (rs : List AtomSet) (r : AtomSet) → (b ≡ true → q ≡ p) → VerdictStands lot q s v → Has r (refused_before b v rs)
      → (Provable pair r lot.bounds.steps → ⊥) ⊎ Has r rs
  refusal_here true q s (Refused d) rs r is h (inl e) = let k = verdict_of q s (Refused d) h (is refl) in inl (subst (λ x. Provable pair x lot.bounds.steps → ⊥) (sym e) k.1.1)
  refusal_here true q s (Refused d) rs r is h (inr k) = inr k
  refusal_here true q s (Proved d) rs r is h k = inr k
  refusal_here false q s v rs r is h k = inr k

  -- what was logged as refused is not provable
  pub logged_refusal : (log : List Entry) → LogStands lot log → (r : AtomSet) → Has r (refused_of p log) → Provable pair r lot.bounds.steps → ⊥
  logged_refusal [] h r k = absurd k
  logged_refusal (e ∷ es) h r k = elim (refusal_here (e.pair == p) e.pair e.set e.verdict (refused_of p es) r (λ q. eqb-true e.pair p q) h.0 k) [ inl n ↦ n | inr n ↦ logged_refusal es h.1 r n ]

  -- what is known proved has a core in it
  pub known_proved : (log : List Entry) → LogStands lot log → (s : AtomSet) → has_core (cores_of p log) s ≡ true → (c : AtomSet) × IsCore pair lot.bounds.steps c × Within c s × Has c (cores_of p log)
  known_proved log h s e = let k = has_list_any (λ c. lies_in c s) (cores_of p log) e in (k.0, (logged_core log h k.0 k.1).0, lies_within k.0 s k.2, k.1)

  -- what is known refused is not provable
  pub known_refused : (log : List Entry) → LogStands lot log → (s : AtomSet) → is_refused (refused_of p log) s ≡ true → Provable pair s lot.bounds.steps → ⊥
  known_refused log h s e proved =
      let k = has_list_any (λ r. lies_in s r) (refused_of p log) e in
      logged_refusal log h k.0 k.1 (monotone pair lot.bounds.steps s k.0 (lies_within s k.0 k.2) proved)
