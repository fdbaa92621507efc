-- The search for cores, from sets of few atoms up.
use Rattle.std.proofs.Common.{ℕ, ◌≡◌, ◌≢◌, ◌<◌, ◌≤◌, ◌+◌, ◌*◌, ◌%◌, ◌^◌, ◌↔◌, ◌⊎◌, inl, inr, Bool, true, false, Option, Some, None, IfSome, IfNone, List, [], ◌∷◌, ◌++◌, length, min, ◌-◌, bit_and, bit_or, refl, sym, ap, ◌∙◌, subst, arith}
use Rattle.std.specs.Int.{bit_at, w64}
use Rattle.std.specs.Prelude.{is_some}
use Rattle.std.proofs.lemmas.Bool.{cases_eq, false≢true}
use Rattle.std.proofs.lemmas.Nat.Bits.{bit_at-lt, bit_at-zero, bit_at_and, bit_at_set_same, bit_at_set_other}
use Rattle.wt_bag.specs.Choices.{Has}
use Rattle.wt_bag.proofs.HasLaws.{has_split}
use Rattle.wt_symbol.specs.Sides.{PairTree}
use Rattle.wt_constraint.specs.declared.atom.Atom.{Atom}
use Rattle.wt_constraint.specs.declared.set.AtomSet.{AtomSet}
use Rattle.wt_constraint.specs.Atoms.{atoms_of_pair}
use Rattle.wt_constraint.specs.Sets.{HasAtom}
use Rattle.wt_form.specs.Under.{Provable}
use Rattle.wt_form.specs.Relaxed.{LeavesOut, IsRule, IsLeast}
use Rattle.wt_cores.specs.SetLists.{Ascending, Gains}
use Rattle.wt_cores.specs.Cores.{Within, missing, IsCore, IsCoreWithin, all_atoms, AreFound, IsNeeded, AllBetween, AllWith, Given}
use Rattle.wt_cores.proofs.Orders.{set_is}
use Rattle.wt_cores.proofs.Bits.{has_or_not, same_atoms, below_64, without_atom, left_out_members, missing_more}
use Rattle.wt_cores.proofs.Gaining.{less_leaves, leaves_one}
use Rattle.wt_cores.proofs.CoreLaws.{monotone, core_within, rules_are_cores}

-- the atoms of a set with one more, and those that two sets share
pub with_bit : (n i : ℕ) → i < 64 → (j : ℕ) → HasAtom (record { 0 = bit_or n (1 * 2 ^ i % 18446744073709551616) }) j ↔ (HasAtom (record { 0 = n }) j ⊎ (j ≡ i))
with_bit n i below j = elim (cases_eq j i) [
  | inl e ↦ (λ h. inr e, λ m. record { bit = ap (bit_at (bit_or n (1 * 2 ^ i % 18446744073709551616))) e ∙ bit_at_set_same w64 n i below })
  | inr ne ↦
      let other = bit_at_set_other w64 n i below j ne in
      (λ h. inl (record { bit = sym other ∙ h.bit }), λ m. elim m [ inl h ↦ record { bit = other ∙ h.bit } | inr e ↦ absurd (ne e) ])
]

pub shared_bit : (a b j : ℕ) → HasAtom (record { 0 = bit_and a b }) j ↔ (HasAtom (record { 0 = a }) j × HasAtom (record { 0 = b }) j)
shared_bit a b j =
    let e = bit_at_and a b j in
    let x = bit_at-lt a j in
    let y = bit_at-lt b j in (
      λ h. let one = h.bit in (record { bit = omega (arith, e, x, y, one) }, record { bit = omega (arith, e, x, y, one) }),
      λ h. let one = h.0.bit in let two = h.1.bit in record { bit = omega (arith, e, one, two) },
    )

-- a set with an atom more leaves it out to become the set
pub with_leaves : (s u : AtomSet) (i : ℕ) → u.0 < 2 ^ 64 → ((j : ℕ) → HasAtom u j ↔ (HasAtom s j ⊎ (j ≡ i))) → (HasAtom s i → ⊥) → LeavesOut u i s
with_leaves s u i small are none =
    let w = without_atom u i small ((are i).1 (inr refl)) in
    let same : w.0 ≡ s = same_atoms w.0 s (into w.0 w.1) (from w.0 w.1) in
    subst (LeavesOut u i) same w.1
  where
    into : (w : AtomSet) → LeavesOut u i w → Within w s
    into w leaves j h = let m = (left_out_members u i w small leaves j).0 h in elim ((are j).0 m.0) [ inl k ↦ k | inr e ↦ absurd (m.1 e) ]

    from : (w : AtomSet) → LeavesOut u i w → Within s w
    from w leaves j h = (left_out_members u i w small leaves j).1 ((are j).1 (inl h), λ e. none (subst (HasAtom s) e h))

pub with_within : (set larger all : AtomSet) (i : ℕ) → ((j : ℕ) → HasAtom larger j ↔ (HasAtom set j ⊎ (j ≡ i))) → Within set all → HasAtom all i → Within larger all
with_within set larger all i are within there j h = elim ((are j).0 h) [ inl k ↦ within j k | inr e ↦ subst (HasAtom all) (sym e) there ]

-- a number more of which the property holds
pub one_more : (P : ℕ → Type 0) (i : ℕ) → ((j : ℕ) → j < i → P j) → P i → (j : ℕ) → j < i + 1 → P j
one_more P i below here j l = elim (cases_eq j i) [ inl e ↦ subst P (sym e) here | inr ne ↦ below j (omega (arith, l, ne)) ]

-- which of the free atoms are given
pub first_given : (free refused given : AtomSet) → ((j : ℕ) → HasAtom given j ↔ (HasAtom free j × HasAtom refused j)) → Given free refused 0 given
first_given free refused given are = record {
  within = λ j h. ((are j).0 h).0;
  all = λ j h w. elim w [ inl l ↦ (let bad : ⊥ = omega (arith, l) in absurd bad) | inr r ↦ (are j).1 (h, r) ];
}

pub none_given : (free refused given : AtomSet) (i : ℕ) → (HasAtom free i × (HasAtom refused i → ⊥) → ⊥) → Given free refused i given → Given free refused (i + 1) given
none_given free refused given i out g = record { within = g.within; all = λ j h w. elim w [ inl l ↦ at j h l (cases_eq j i) | inr r ↦ g.all j h (inr r) ] }
  where
    there : (j : ℕ) → j ≡ i → HasAtom free j → HasAtom refused j
    there j e h = elim (has_or_not refused j) [ inl r ↦ r | inr n ↦ absurd (out (subst (HasAtom free) e h, subst (λ z. HasAtom refused z → ⊥) e n)) ]

    at : (j : ℕ) → HasAtom free j → j < i + 1 → (j ≡ i) ⊎ (j ≢ i) → HasAtom given j
    at j h l (inl e) = g.all j h (inr (there j e h))
    at j h l (inr ne) = g.all j h (inl (omega (arith, l, ne)))

pub one_given : (free refused given next : AtomSet) (i : ℕ) → ((j : ℕ) → HasAtom next j ↔ (HasAtom given j ⊎ (j ≡ i))) → HasAtom free i → Given free refused i given → Given free refused (i + 1) next
one_given free refused given next i are there g = record {
  within = λ j h. elim ((are j).0 h) [ inl k ↦ g.within j k | inr e ↦ subst (HasAtom free) (sym e) there ];
  all = λ j h w. elim w [ inl l ↦ at j h l (cases_eq j i) | inr r ↦ (are j).1 (inl (g.all j h (inr r))) ];
}
  where
    at : (j : ℕ) → HasAtom free j → j < i + 1 → (j ≡ i) ⊎ (j ≢ i) → HasAtom next j
    at j h l (inl e) = (are j).1 (inr e)
    at j h l (inr ne) = (are j).1 (inl (g.all j h (inl (omega (arith, l, ne)))))

-- in the end all are
pub all_given : (free refused given : AtomSet) (i : ℕ) → free.0 < 2 ^ 64 → 64 ≤ i → Given free refused i given → Within free given
all_given free refused given i small l g j h = let b = below_64 free j small h in g.all j h (inl (omega (arith, b, l)))

-- fewer atoms may still be added
pub fewer_left : (all set larger : AtomSet) (i : ℕ) → larger.0 < 2 ^ 64 → i < 64 → ((j : ℕ) → HasAtom larger j ↔ (HasAtom set j ⊎ (j ≡ i))) → (HasAtom set i → ⊥) → Within set all → HasAtom all i → missing 64 all set ≡ missing 64 all larger + 1
fewer_left all set larger i small below are none within there =
    missing_more all larger i set small (with_leaves set larger i small are none) (with_within set larger all i are within there) 64 below

module _ (p : PairTree) (k : ℕ) where
  -- a set that lies in an unprovable one is not provable
  pub lies_in : (set other : AtomSet) → Within set other → (Provable p other k → ⊥) → Provable p set k → ⊥
  lies_in set other within none h = none (monotone p k set other within h)

  -- another set that is not provable is noted
  pub noted : (cores refused new : List AtomSet) (set : AtomSet) → new ≡ refused ++ set ∷ [] → (Provable p set k → ⊥) → AreFound p k cores refused → AreFound p k cores new
  noted cores refused new set e none found = record {
    are_cores = found.are_cores;
    within = found.within;
    ascending = found.ascending;
    unprovable = λ s h. elim (has_split s refused (set ∷ []) (subst (Has s) e h)) [
      | inl old ↦ found.unprovable s old
      | inr one ↦ elim one [ inl q ↦ λ proved. none (subst (λ t. Provable p t k) q proved) | inr nothing ↦ absurd nothing ]
    ];
  }

  -- an atom is needed where the set without it lies in an unprovable one, and not where that set is provable
  pub needed : (set less other : AtomSet) (i : ℕ) → HasAtom set i → less.0 + bit_at set.0 i * 2 ^ i ≡ set.0 → Within less other → (Provable p other k → ⊥) → IsNeeded p k set i
  needed set less other i there e within none t leaves h =
      none (monotone p k less other within (subst (λ u. Provable p u k) (leaves_one set less t i (less_leaves set less i there e) leaves) h))

  pub not_needed : (set less : AtomSet) (i : ℕ) → HasAtom set i → less.0 + bit_at set.0 i * 2 ^ i ≡ set.0 → Provable p less k → IsNeeded p k set i → ⊥
  not_needed set less i there e h need = need less (less_leaves set less i there e) h

  pub needed_if : (set less : AtomSet) (i : ℕ) (refused : Option AtomSet) (told : Bool) → told ≡ is_some refused → HasAtom set i → less.0 + bit_at set.0 i * 2 ^ i ≡ set.0 →
      IfSome refused (λ other. Within less other × (Provable p other k → ⊥)) → IfNone refused (Provable p less k) → ((told ≡ true) ↔ IsNeeded p k set i)
  needed_if set less i None told e there n a b = (λ y. absurd (false≢true (sym e ∙ y)), λ need. absurd (not_needed set less i there n b need))
  needed_if set less i (Some other) told e there n a b = (λ y. needed set less other i there n a.0 a.1, λ need. e)

  -- a part of a core has no provable set with one atom less
  pub part_is_least : (set c : AtomSet) → set.0 < 2 ^ 64 → IsCore p k c → Within set c → IsLeast p k set
  part_is_least set c small core within i t leaves h =
      let less = without_atom c i core.small (within i leaves.there) in
      core.least i less.0 less.1 (monotone p k t less.0 (λ j has.
      let m = (left_out_members set i t small leaves j).0 has in
      (left_out_members c i less.0 core.small less.1 j).1 (within j m.0, m.1)) h)

  -- a provable set of which no part is provable is the one core that has it
  pub alone : (set free : AtomSet) (cores cores' : List AtomSet) → IsCore p k set → Gains cores cores' (λ s. s ≡ set) → AllBetween p k set free cores'
  alone set free cores cores' is gains c core within parts = (gains c).1 (inr (core_within p k c set core is within))

  pub added : (set : AtomSet) (cores cores' refused : List AtomSet) → IsCore p k set → Within set (all_atoms p) → Gains cores cores' (λ s. s ≡ set) → Ascending cores' → AreFound p k cores refused → AreFound p k cores' refused
  added set cores cores' refused is within gains order found = record {
    are_cores = λ s h. elim ((gains s).0 h) [ inl old ↦ found.are_cores s old | inr e ↦ subst (IsCore p k) (sym e) is ];
    within = λ s h. elim ((gains s).0 h) [ inl old ↦ found.within s old | inr e ↦ subst (λ t. Within t (all_atoms p)) (sym e) within ];
    ascending = order;
    unprovable = found.unprovable;
  }

  -- where the set has a provable part, no core has it; else each core that has it is found from there
  pub none_with : (set larger free : AtomSet) (i : ℕ) (cores : List AtomSet) → larger.0 < 2 ^ 64 → ((j : ℕ) → HasAtom larger j ↔ (HasAtom set j ⊎ (j ≡ i))) → (IsLeast p k larger → ⊥) → AllWith p k set free i cores
  none_with set larger free i cores small are fails c core within there parts = absurd (fails (part_is_least larger c small core (with_within set larger c i are within there)))

  pub all_with : (set larger free : AtomSet) (i : ℕ) (cores : List AtomSet) → ((j : ℕ) → HasAtom larger j ↔ (HasAtom set j ⊎ (j ≡ i))) → AllBetween p k larger free cores → AllWith p k set free i cores
  all_with set larger free i cores are all c core within there parts =
      all c core (with_within set larger c i are within there) (λ j h. elim (parts j h) [
        | inl a ↦ inl ((are j).1 (inl a))
        | inr b ↦ elim b [ inl f ↦ inr f | inr e ↦ inl ((are j).1 (inr e)) ]
      ])

  -- no core lies in an unprovable set
  pub none_between : (set given refused : AtomSet) (cores : List AtomSet) → Within set refused → Within given refused → (Provable p refused k → ⊥) → AllBetween p k set given cores
  none_between set given refused cores within within' none c core has parts =
      absurd (none (monotone p k c refused (λ j h. elim (parts j h) [ inl a ↦ within j a | inr b ↦ within' j b ]) core.provable))

  -- one atom more is given
  pub between_more : (set given given' : AtomSet) (i : ℕ) (cores cores' : List AtomSet) → ((j : ℕ) → HasAtom given' j ↔ (HasAtom given j ⊎ (j ≡ i))) → ((s : AtomSet) → Has s cores → Has s cores') →
      AllBetween p k set given cores → AllWith p k set given i cores' → AllBetween p k set given' cores'
  between_more set given given' i cores cores' are kept all with c core within parts = elim (has_or_not c i) [
    | inl there ↦ with c core within there split
    | inr none ↦ kept c (all c core within (λ j h. elim (parts j h) [
      | inl a ↦ inl a
      | inr b ↦ elim ((are j).0 b) [ inl f ↦ inr f | inr e ↦ absurd (none (subst (HasAtom c) e h)) ]
    ]))
  ]
    where
      split : (j : ℕ) → HasAtom c j → HasAtom set j ⊎ HasAtom given j ⊎ (j ≡ i)
      split j h = elim (parts j h) [ inl a ↦ inl a | inr b ↦ inr ((are j).0 b) ]

  -- all the free atoms are given
  pub between_all : (set given free : AtomSet) (cores : List AtomSet) → Within free given → AllBetween p k set given cores → AllBetween p k set free cores
  between_all set given free cores into all c core within parts = all c core within (λ j h. elim (parts j h) [ inl a ↦ inl a | inr b ↦ inr (into j b) ])

  -- the set without atoms
  pub nothing_within : (set all : AtomSet) → set.0 ≡ 0 → Within set all
  nothing_within set all e j h = absurd (no_atom set e j h)
    where
      no_atom : (set : AtomSet) → set.0 ≡ 0 → (j : ℕ) → HasAtom set j → ⊥
      no_atom set e j h = let z = bit_at-zero j in let q = ap (λ n. bit_at n j) e in let one = h.bit in omega (arith, z, q, one)

  pub nothing_is_least : (set : AtomSet) → set.0 ≡ 0 → IsLeast p k set
  nothing_is_least set e i t leaves h = let z = bit_at-zero i in let q = ap (λ n. bit_at n i) e in let one = leaves.there.bit in let bad : ⊥ = omega (arith, z, q, one) in absurd bad

  -- every core has the atoms of the empty set, and others of the pair's alone
  pub cores_between : (set all : AtomSet) (cores : List AtomSet) → set.0 ≡ 0 → AllBetween p k set all cores → (s : AtomSet) → IsCore p k s → Within s all → Has s cores
  cores_between set all cores e between s core within = between s core (nothing_within set s e) (λ j h. inr (within j h))

  -- where all atoms together are not provable, nothing is
  pub no_cores : (all : AtomSet) (cores : List AtomSet) → (Provable p all k → ⊥) → (s : AtomSet) → IsCore p k s → Within s all → Has s cores
  no_cores all cores none s core within = absurd (none (monotone p k s all within core.provable))

  module _ (few : length (atoms_of_pair p) ≤ 64) where
    pub rules_found : (depth : ℕ) (cores refused rules : List AtomSet) → AreFound p k cores refused →
        ((s : AtomSet) → IsCoreWithin p k depth s → Has s cores) → ((s : AtomSet) → (Has s rules ↔ (Has s cores × (missing 64 (all_atoms p) s ≤ depth)))) →
        (s : AtomSet) → (Has s rules ↔ IsRule p k depth s)
    rules_found depth cores refused rules found all are s = (
      λ h. let q = (are s).0 h in (rules_are_cores p k few depth s).1 (record { core = found.are_cores s q.0; within = found.within s q.0; few = q.1 }),
      λ r. let c = (rules_are_cores p k few depth s).0 r in (are s).1 (all s c, c.few),
    )

    -- as the call has it: what it reads of the cores and takes for the set of all atoms
    pub rules_read : (all : AtomSet) (depth : ℕ) (cores refused read rules : List AtomSet) → all ≡ all_atoms p → read ≡ cores → AreFound p k cores refused →
        ((s : AtomSet) → IsCoreWithin p k depth s → Has s cores) → ((s : AtomSet) → (Has s rules ↔ (Has s read × (missing 64 all s ≤ depth)))) →
        (s : AtomSet) → (Has s rules ↔ IsRule p k depth s)
    rules_read all depth cores refused read rules whole same found wanted are =
        rules_found depth cores refused rules found wanted
        (subst (λ a. (s : AtomSet) → (Has s rules ↔ (Has s cores × (missing 64 a s ≤ depth)))) whole (subst (λ xs. (s : AtomSet) → (Has s rules ↔ (Has s xs × (missing 64 all s ≤ depth)))) same are))

  pub none_found : (cores refused : List AtomSet) → cores ≡ [] → refused ≡ [] → AreFound p k cores refused
  none_found cores refused e f = record {
    are_cores = λ s h. absurd (subst (Has s) e h);
    within = λ s h. absurd (subst (Has s) e h);
    ascending = subst Ascending (sym e) tt;
    unprovable = λ s h. absurd (subst (Has s) f h);
  }

-- the atoms of a pair as the call has them
pub few_of : (p : PairTree) (atoms : List Atom) → atoms ≡ atoms_of_pair p → length atoms ≤ 64 → length (atoms_of_pair p) ≤ 64
few_of p atoms e l = subst (λ xs. length xs ≤ 64) e l

pub whole_of : (p : PairTree) (atoms : List Atom) (all : AtomSet) → atoms ≡ atoms_of_pair p → length atoms ≤ 64 → all.0 ≡ 2 ^ min (length atoms) 64 - 1 → all ≡ all_atoms p
whole_of p atoms all e l number = set_is all (all_atoms p) (number ∙ ap (λ n. 2 ^ n - 1) (least (length atoms) l ∙ ap length e))
  where
    least : (n : ℕ) → n ≤ 64 → min n 64 ≡ n
    least n l = omega (arith, l)
