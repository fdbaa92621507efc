-- Rules are cores, and what a set shrinks to is one.
use Rattle.std.proofs.Common.{ℕ, zero, suc, ◌≡◌, ◌<◌, ◌≤◌, ◌-◌, ◌^◌, ◌↔◌, ◌⊎◌, inl, inr, length, sym, ap, subst, arith}
use Rattle.std.proofs.lemmas.Bool.{cases_eq, cases_lt, cases_order}
use Rattle.std.proofs.Math.Pow.{ones_lt, pow-lt}
use Rattle.wt_symbol.specs.Sides.{PairTree}
use Rattle.wt_constraint.specs.declared.set.AtomSet.{AtomSet}
use Rattle.wt_constraint.specs.Atoms.{atoms_of_pair}
use Rattle.wt_constraint.specs.Sets.{HasAtom}
use Rattle.wt_form.specs.Under.{Provable}
use Rattle.wt_form.specs.Relaxed.{LeavesOut, Relaxed, IsRule}
use Rattle.wt_form.specs.Shrunk.{Shrunk, none_to_try, left_out, kept}
use Rattle.wt_form.proofs.SetsGrow.{provable_more}
use Rattle.wt_cores.specs.Cores.{Within, missing, IsCore, all_atoms, IsCoreWithin}
use Rattle.wt_cores.proofs.Orders.{set_is}
use Rattle.wt_cores.proofs.Bits.{same_atoms, within_trans, below_64, left_out_members, left_out_within, left_out_small, without_atom, with_atom, missing_self, some_missing, none_missing, missing_more}

module _ (p : PairTree) (k : ℕ) where
  -- what is provable stays so with more atoms
  pub monotone : (s t : AtomSet) → Within s t → Provable p s k → Provable p t k
  monotone s t into h = provable_more p s t into k h

  -- no set that lacks one atom from a number on is provable
  abbrev LeastFrom : ℕ → AtomSet → Type 0
  LeastFrom i s = (j : ℕ) (t : AtomSet) → i ≤ j → LeavesOut s j t → Provable p t k → ⊥

  shrunk_is : (i : ℕ) (s r : AtomSet) → Shrunk p k i s r → s.0 < 2 ^ 64 → Provable p s k → LeastFrom i s → IsCore p k r × Within r s
  shrunk_is zero s r (none_to_try) small h least = (record { small = small; provable = h; least = λ j t leaves. least j t (omega arith) leaves }, λ i has. has)
  shrunk_is (suc i) s r (left_out {t = t} leaves proved rest) small h least =
      let small' = left_out_small s i t small leaves in
      let within = left_out_within s i t small leaves in
      let ih = shrunk_is i t r rest small' proved (after t leaves) in
      (ih.0, within_trans r t s ih.1 within)
    where
      -- a set without an atom of t and without i lies in s without that atom
      after : (t : AtomSet) → LeavesOut s i t → LeastFrom i t
      after t leaves j u l out proved =
          let small' = left_out_small s i t small leaves in
          let members = (left_out_members s i t small leaves j).0 out.there in
          let whole = without_atom s j small members.0 in
          let more : suc i ≤ j = elim (cases_order i j) [
            | inl e ↦ absurd (members.1 (sym e))
            | inr (inl lt) ↦ omega (arith, lt)
            | inr (inr gt) ↦ let bad : ⊥ = omega (arith, l, gt) in absurd bad
          ] in
          least j whole.0 more whole.1 (monotone u whole.0 (λ m has.
          let of_t = (left_out_members t j u small' out m).0 has in
          (left_out_members s j whole.0 small whole.1 m).1 (((left_out_members s i t small leaves m).0 of_t.0).0, of_t.1)) proved)
  shrunk_is (suc i) s r (kept none rest) small h least = shrunk_is i s r rest small h from
    where
      from : LeastFrom i s
      from j t l leaves proved = elim (cases_eq i j) [
        | inl e ↦ none t (subst (λ m. LeavesOut s m t) (sym e) leaves) proved
        | inr ne ↦ least j t (omega (arith, l, ne)) leaves proved
      ]

  pub shrunk_core : (s r : AtomSet) → s.0 < 2 ^ 64 → Provable p s k → Shrunk p k 64 s r → IsCore p k r × Within r s
  shrunk_core s r small h shrunk = shrunk_is 64 s r shrunk small h (λ j t l leaves proved. let lt = below_64 s j small leaves.there in let bad : ⊥ = omega (arith, l, lt) in absurd bad)

  -- a core lies within another only as that one
  pub core_within : (w c : AtomSet) → IsCore p k w → IsCore p k c → Within c w → w ≡ c
  core_within w c core other within = elim (cases_lt 0 (missing 64 w c)) [
    | inl more ↦
        let lacks = some_missing 64 w c more in
        let less = without_atom w lacks.0 core.small lacks.2 in
        absurd (core.least lacks.0 less.0 less.1 (monotone c less.0 (λ m has. (left_out_members w lacks.0 less.0 core.small less.1 m).1 (within m has, λ e. lacks.3 (subst (HasAtom c) e has))) other.provable))
    | inr none ↦
        let zero_missing : missing 64 w c ≡ 0 = omega (arith, none) in
        same_atoms w c (λ i has. none_missing 64 w c zero_missing i (below_64 w i core.small has) has) within
  ]

  -- a core is a given one, or lacks one of its atoms
  pub core_or_lacks : (w c : AtomSet) → IsCore p k w → IsCore p k c → (w ≡ c) ⊎ ((i : ℕ) × HasAtom c i × (HasAtom w i → ⊥))
  core_or_lacks w c core other = elim (cases_lt 0 (missing 64 c w)) [
    | inl more ↦ let lacks = some_missing 64 c w more in inr (lacks.0, lacks.2, lacks.3)
    | inr none ↦
        let zero_missing : missing 64 c w ≡ 0 = omega (arith, none) in
        inl (core_within w c core other (λ i has. none_missing 64 c w zero_missing i (below_64 c i other.small has) has))
  ]

  module _ (few : length (atoms_of_pair p) ≤ 64) where
    all : AtomSet
    all = all_atoms p

    pub all_small : (all_atoms p).0 < 2 ^ 64
    all_small = elim (cases_eq (length (atoms_of_pair p)) 64) [
      | inl e ↦ subst (λ n. 2 ^ n - 1 < 2 ^ 64) (sym e) (ones_lt 64)
      | inr ne ↦
          let a = ones_lt (length (atoms_of_pair p)) in
          let b : 2 ^ length (atoms_of_pair p) < 2 ^ 64 = pow-lt {i = length (atoms_of_pair p)} {j = 64} (omega (arith, few, ne)) in
          omega (arith, a, b)
    ]

    relaxed_is : (depth : ℕ) (s : AtomSet) → Relaxed p k depth s → (s.0 < 2 ^ 64) × Provable p s k × Within s (all_atoms p) × (missing 64 (all_atoms p) s ≤ depth)
    relaxed_is zero s r =
        let e : s ≡ all_atoms p = set_is s (all_atoms p) r.0 in
        (subst (λ t. t.0 < 2 ^ 64) (sym e) all_small, r.1, subst (λ t. Within s t) e (λ i h. h), subst (λ t. missing 64 (all_atoms p) t ≤ 0) (sym e) (let z = missing_self 64 (all_atoms p) in omega (arith, z)))
    relaxed_is (suc depth) s (inl r) = let ih = relaxed_is depth s r in (ih.0, ih.1, ih.2, (let l = ih.3 in omega (arith, l)))
    relaxed_is (suc depth) s (inr r) =
        let t = r.0 in
        let ih = relaxed_is depth r.0 r.2 in
        let more = missing_more (all_atoms p) r.0 r.1 s ih.0 r.3 ih.2 64 (below_64 r.0 r.1 ih.0 r.3.there) in
        (left_out_small r.0 r.1 s ih.0 r.3, r.4, within_trans s r.0 (all_atoms p) (left_out_within r.0 r.1 s ih.0 r.3) ih.2, (let l = ih.3 in omega (arith, l, more)))

    is_relaxed : (depth : ℕ) (s : AtomSet) → s.0 < 2 ^ 64 → Within s (all_atoms p) → missing 64 (all_atoms p) s ≤ depth → Provable p s k → Relaxed p k depth s
    is_relaxed zero s small within l h =
        let none : missing 64 (all_atoms p) s ≡ 0 = omega (arith, l) in
        let e : s ≡ all_atoms p = same_atoms s (all_atoms p) within (λ i has. none_missing 64 (all_atoms p) s none i (below_64 (all_atoms p) i all_small has) has) in
        (ap (λ t. t.0) e, h)
    is_relaxed (suc depth) s small within l h = elim (cases_lt depth (missing 64 (all_atoms p) s)) [
      | inl more ↦ inr (next more (is_relaxed depth))
      | inr less ↦ inl (is_relaxed depth s small within less h)
    ]
      where
        next : depth < missing 64 (all_atoms p) s → ((t : AtomSet) → t.0 < 2 ^ 64 → Within t (all_atoms p) → missing 64 (all_atoms p) t ≤ depth → Provable p t k → Relaxed p k depth t) →
            (t : AtomSet) × (i : ℕ) × Relaxed p k depth t × LeavesOut t i s × Provable p s k
        next more ih =
            let lacks = some_missing 64 (all_atoms p) s (omega (arith, more)) in
            let larger = with_atom s lacks.0 lacks.1 small lacks.3 in
            let into : Within larger.0 (all_atoms p) = λ j has. elim (larger.3 j has) [ inl a ↦ within j a | inr e ↦ subst (HasAtom (all_atoms p)) (sym e) lacks.2 ] in
            let one = missing_more (all_atoms p) larger.0 lacks.0 s larger.1 larger.2 into 64 lacks.1 in
            (larger.0, lacks.0, ih larger.0 larger.1 into (omega (arith, one, l)) (monotone s larger.0 (left_out_within larger.0 lacks.0 s larger.1 larger.2) h), larger.2, h)

    -- the rules are the cores that leave out at most so many atoms
    pub rules_are_cores : (depth : ℕ) (s : AtomSet) → IsRule p k depth s ↔ IsCoreWithin p k depth s
    rules_are_cores depth s = (
      λ r. let is = relaxed_is depth s r.relaxed in record { core = record { small = is.0; provable = is.1; least = r.least }; within = is.2; few = is.3 },
      λ c. record { relaxed = is_relaxed depth s c.core.small c.within c.few c.core.provable; least = c.core.least },
    )
