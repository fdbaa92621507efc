-- Nodes: what a log says of them, and what is covered as they are split and dropped.
use Rattle.std.proofs.Common.{◌≡◌, ◌≢◌, ℕ, zero, suc, ◌+◌, ◌-◌, ◌*◌, ◌<◌, ◌≤◌, ◌^◌, ◌⊎◌, ◌↔◌, inl, inr, refl, sym, ap, ◌∙◌, subst, arith, List, [], ◌∷◌, length, insert, get_or}
use Rattle.std.specs.Prelude.{slice_set}
use Rattle.std.specs.List.{remove}
use Rattle.std.specs.Int.{bit_at}
use Rattle.std.proofs.lemmas.Bool.{cases_eq, cases_order}
use Rattle.std.proofs.lemmas.List.Sums.{sum_by-set, sum_by-remove, sum_by-insert}
use Rattle.std.proofs.lemmas.Nat.Bits.{bit_at-lt}
use Rattle.std.proofs.Math.Nat.{pow-suc}
use Rattle.wt_constraint.specs.declared.set.AtomSet.{AtomSet}
use Rattle.wt_constraint.specs.Sets.{HasAtom}
use Rattle.wt_cores.specs.Cores.{Within, missing}
use Rattle.wt_cores.proofs.Bits.{has_or_not, bits_same}
use Rattle.wt_board.specs.declared.nodes.Node.{Node}
use Rattle.wt_board.specs.Covering.{LiesIn, IsCovered, EachWithin, turns, turns_left, no_node}

-- ---- lists of nodes

at_suc : (k : ℕ) → k + 1 ≡ suc k
at_suc k = omega arith

splits : (xs : List Node) (k : ℕ) (s : AtomSet) (more less : Node) → k < length xs → (LiesIn (get_or xs k no_node) s → LiesIn more s ⊎ LiesIn less s) → IsCovered xs s → IsCovered (slice_set (insert xs (suc k) more) k less) s
splits [] k s more less l f h = absurd h
splits (x ∷ xs) zero s more less l f (inl h) = elim (f h) [ inl m ↦ inr (inl m) | inr m ↦ inl m ]
splits (x ∷ xs) zero s more less l f (inr h) = inr (inr h)
splits (x ∷ xs) (suc k) s more less l f (inl h) = inl h
splits (x ∷ xs) (suc k) s more less l f (inr h) = inr (splits xs k s more less (omega (arith, l)) f h)

pub inserted_covers : (xs : List Node) (k : ℕ) (n : Node) (s : AtomSet) → IsCovered xs s → IsCovered (insert xs k n) s
inserted_covers xs zero n s h = inr h
inserted_covers [] (suc k) n s h = absurd h
inserted_covers (x ∷ xs) (suc k) n s (inl h) = inl h
inserted_covers (x ∷ xs) (suc k) n s (inr h) = inr (inserted_covers xs k n s h)

pub removed_covers : (xs : List Node) (k : ℕ) (s : AtomSet) → k < length xs → (LiesIn (get_or xs k no_node) s → ⊥) → IsCovered xs s → IsCovered (remove xs k) s
removed_covers [] k s l f h = absurd h
removed_covers (x ∷ xs) zero s l f (inl h) = absurd (f h)
removed_covers (x ∷ xs) zero s l f (inr h) = h
removed_covers (x ∷ xs) (suc k) s l f (inl h) = inl h
removed_covers (x ∷ xs) (suc k) s l f (inr h) = inr (removed_covers xs k s (omega (arith, l)) f h)

-- the nodes are of the atoms still
pub inserted_within : (all : AtomSet) (xs : List Node) (k : ℕ) (n : Node) → Within n.must n.may → Within n.may all → EachWithin all xs → EachWithin all (insert xs k n)
inserted_within all xs zero n a b h = (a, b, h)
inserted_within all [] (suc k) n a b h = (a, b, tt)
inserted_within all (x ∷ xs) (suc k) n a b h = (h.0, h.1, inserted_within all xs k n a b h.2)

pub removed_within : (all : AtomSet) (xs : List Node) (k : ℕ) → EachWithin all xs → EachWithin all (remove xs k)
removed_within all [] zero h = h
removed_within all [] (suc k) h = h
removed_within all (x ∷ xs) zero h = h.2
removed_within all (x ∷ xs) (suc k) h = (h.0, h.1, removed_within all xs k h.2)

pub put_within : (all : AtomSet) (xs : List Node) (k : ℕ) (n : Node) → Within n.must n.may → Within n.may all → EachWithin all xs → EachWithin all (slice_set xs k n)
put_within all [] k n a b h = h
put_within all (x ∷ xs) zero n a b h = (a, b, h.2)
put_within all (x ∷ xs) (suc k) n a b h = (h.0, h.1, put_within all xs k n a b h.2)

pub within_at : (all : AtomSet) (xs : List Node) (k : ℕ) (d : Node) → k < length xs → EachWithin all xs → Within (get_or xs k d).must (get_or xs k d).may × Within (get_or xs k d).may all
within_at all [] k d l h = absurd (let bad : ⊥ = omega (arith, l) in bad)
within_at all (x ∷ xs) zero d l h = (h.0, h.1)
within_at all (x ∷ xs) (suc k) d l h = within_at all xs k d (omega (arith, l)) h.2

-- a set of a node has the atom or has it not
pub parted : (n more less : Node) (i : ℕ) (s : AtomSet) → ((j : ℕ) → HasAtom more.must j ↔ (HasAtom n.must j ⊎ (j ≡ i))) → more.may ≡ n.may → less.must ≡ n.must → ((j : ℕ) → HasAtom less.may j ↔ (HasAtom n.may j × (j ≢ i)))
    → LiesIn n s → LiesIn more s ⊎ LiesIn less s
parted n more less i s with same same' without l = elim (has_or_not s i) [
  | inl h ↦ inl (record {
    lower = λ j m. elim ((with j).0 m) [ inl k ↦ l.lower j k | inr e ↦ subst (HasAtom s) (sym e) h ];
    upper = λ j m. subst (λ (x : AtomSet). HasAtom x j) (sym same) (l.upper j m);
  })
  | inr none ↦ inr (record {
    lower = λ j m. l.lower j (subst (λ (x : AtomSet). HasAtom x j) same' m);
    upper = λ j m. (without j).1 (l.upper j m, λ e. none (subst (HasAtom s) e m));
  })
]

pub split_covers : (xs : List Node) (k : ℕ) (s : AtomSet) (more less : Node) → k < length xs → (LiesIn (get_or xs k no_node) s → LiesIn more s ⊎ LiesIn less s) → IsCovered xs s → IsCovered (slice_set (insert xs (k + 1) more) k less) s
split_covers xs k s more less l f h = subst (λ m. IsCovered (slice_set (insert xs m more) k less) s) (sym (at_suc k)) (splits xs k s more less l f h)

-- ---- turns

-- two pairs of sets of which the first has one atom more that is missing
module _ (t s t' s' : AtomSet) (i : ℕ) (same : (j : ℕ) → j ≢ i → bit_at t.0 j - bit_at s.0 j ≡ bit_at t'.0 j - bit_at s'.0 j) (one : bit_at t.0 i - bit_at s.0 i ≡ 1) (none : bit_at t'.0 i - bit_at s'.0 i ≡ 0) where
  fewer_before : (n : ℕ) → n ≤ i → missing n t s ≡ missing n t' s'
  unfolding missing
  fewer_before zero l = refl
  fewer_before (suc n) l = omega (arith, fewer_before n (omega (arith, l)), same n (λ e. let bad : ⊥ = omega (arith, l, e) in bad))

  pub fewer_missing : (n : ℕ) → i < n → missing n t s ≡ missing n t' s' + 1
  unfolding missing
  fewer_missing zero l = let bad : ⊥ = omega (arith, l) in absurd bad
  fewer_missing (suc n) l = elim (cases_order i n) [
    | inl e ↦
        let a : bit_at t.0 n - bit_at s.0 n ≡ 1 = subst (λ m. bit_at t.0 m - bit_at s.0 m ≡ 1) e one in
        let b : bit_at t'.0 n - bit_at s'.0 n ≡ 0 = subst (λ m. bit_at t'.0 m - bit_at s'.0 m ≡ 0) e none in
        omega (arith, fewer_before n (omega (arith, e)), a, b)
    | inr (inl lt) ↦ omega (arith, fewer_missing n lt, same n (λ e. let bad : ⊥ = omega (arith, lt, e) in bad))
    | inr (inr gt) ↦ let bad : ⊥ = omega (arith, l, gt) in absurd bad
  ]

no_bit : (s : AtomSet) (i : ℕ) → (HasAtom s i → ⊥) → bit_at s.0 i ≡ 0
no_bit s i none = elim (cases_eq (bit_at s.0 i) 1) [
  | inl e ↦ absurd (none (record { bit = e }))
  | inr ne ↦ omega (arith, bit_at-lt s.0 i, ne)
]

pow_suc : (n : ℕ) → 2 ^ (n + 1) ≡ 2 * 2 ^ n
pow_suc n = ap (λ m. 2 ^ m) (at_suc n) ∙ pow-suc 2 n ∙ twice (2 ^ n)
  where
    twice : (m : ℕ) → m * 2 ≡ 2 * m
    twice m = omega arith

pow_some : (n : ℕ) → 0 < 2 ^ n
pow_some zero = omega arith
pow_some (suc n) = let h = pow_some n in let e = pow_suc n in let s : suc n ≡ n + 1 = omega arith in subst (λ m. 0 < 2 ^ m) (sym s) (omega (arith, h, e))

module _ (n more less : Node) (i : ℕ) (below : i < 64) (may : HasAtom n.may i) (must : HasAtom n.must i → ⊥) (with : (j : ℕ) → HasAtom more.must j ↔ (HasAtom n.must j ⊎ (j ≡ i))) (same : more.may ≡ n.may)
    (same' : less.must ≡ n.must) (without : (j : ℕ) → HasAtom less.may j ↔ (HasAtom n.may j × (j ≢ i))) where
  one_there : bit_at n.may.0 i - bit_at n.must.0 i ≡ 1
  one_there = omega (arith, may.bit, no_bit n.must i must)

  more_missing : missing 64 n.may n.must ≡ missing 64 more.may more.must + 1
  more_missing = fewer_missing n.may n.must more.may more.must i other one_there gone 64 below
    where
      other : (j : ℕ) → j ≢ i → bit_at n.may.0 j - bit_at n.must.0 j ≡ bit_at more.may.0 j - bit_at more.must.0 j
      other j ne =
          let a : bit_at more.must.0 j ≡ bit_at n.must.0 j = bits_same more.must n.must j (λ h. elim ((with j).0 h) [ inl k ↦ k | inr e ↦ absurd (ne e) ]) (λ h. (with j).1 (inl h)) in
          let b : bit_at more.may.0 j ≡ bit_at n.may.0 j = ap (λ (x : AtomSet). bit_at x.0 j) same in
          omega (arith, a, b)

      gone : bit_at more.may.0 i - bit_at more.must.0 i ≡ 0
      gone = omega (arith, bit_at-lt more.may.0 i, ((with i).1 (inr refl)).bit)

  less_missing : missing 64 n.may n.must ≡ missing 64 less.may less.must + 1
  less_missing = fewer_missing n.may n.must less.may less.must i other one_there gone 64 below
    where
      other : (j : ℕ) → j ≢ i → bit_at n.may.0 j - bit_at n.must.0 j ≡ bit_at less.may.0 j - bit_at less.must.0 j
      other j ne =
          let a : bit_at less.may.0 j ≡ bit_at n.may.0 j = bits_same less.may n.may j (λ h. ((without j).0 h).0) (λ h. (without j).1 (h, ne)) in
          let b : bit_at less.must.0 j ≡ bit_at n.must.0 j = ap (λ (x : AtomSet). bit_at x.0 j) same' in
          omega (arith, a, b)

      gone : bit_at less.may.0 i - bit_at less.must.0 i ≡ 0
      gone = omega (arith, no_bit less.may i (λ h. ((without i).0 h).1 refl))

  pub turns_less : turns more + turns less < turns n
  turns_less =
      let m = missing 64 more.may more.must in
      let a : turns less ≡ turns more = ap (λ k. 2 ^ (k + 1) - 1) (let x = more_missing in let y = less_missing in omega (arith, x, y)) in
      let b : turns n ≡ 2 ^ (missing 64 more.may more.must + 1 + 1) - 1 = ap (λ k. 2 ^ (k + 1) - 1) more_missing in
      omega (arith, a, b, pow_suc (missing 64 more.may more.must + 1), pow_some (missing 64 more.may more.must + 1))

pub split_less : (xs : List Node) (k : ℕ) (n more less : Node) → k < length xs → get_or xs k no_node ≡ n → turns more + turns less < turns n → turns_left (slice_set (insert xs (k + 1) more) k less) < turns_left xs
split_less xs k n more less l is h =
    let ys = insert xs (k + 1) more in
    let a = sum_by-insert turns xs (k + 1) more in
    let b = sum_by-set turns ys k less no_node (inserted_longer xs k more l) in
    let c : turns (get_or ys k no_node) ≡ turns n = ap turns (inserted_before xs k more l ∙ is) in
    omega (arith, a, b, c, h)
  where
    longer : (xs : List Node) (k : ℕ) (m : Node) → k < length xs → k < length (insert xs (suc k) m)
    longer [] k m l = absurd (let bad : ⊥ = omega (arith, l) in bad)
    longer (x ∷ xs) zero m l = omega arith
    longer (x ∷ xs) (suc k) m l = let h = longer xs k m (omega (arith, l)) in omega (arith, h)

    inserted_longer : (xs : List Node) (k : ℕ) (m : Node) → k < length xs → k < length (insert xs (k + 1) m)
    inserted_longer xs k m l = subst (λ j. k < length (insert xs j m)) (sym (at_suc k)) (longer xs k m l)

    before : (xs : List Node) (k : ℕ) (m : Node) → k < length xs → get_or (insert xs (suc k) m) k no_node ≡ get_or xs k no_node
    before [] k m l = absurd (let bad : ⊥ = omega (arith, l) in bad)
    before (x ∷ xs) zero m l = refl
    before (x ∷ xs) (suc k) m l = before xs k m (omega (arith, l))

    inserted_before : (xs : List Node) (k : ℕ) (m : Node) → k < length xs → get_or (insert xs (k + 1) m) k no_node ≡ get_or xs k no_node
    inserted_before xs k m l = ap (λ j. get_or (insert xs j m) k no_node) (at_suc k) ∙ before xs k m l

pub turns_some : (n : Node) → 0 < turns n
turns_some n = omega (arith, pow_suc (missing 64 n.may n.must), pow_some (missing 64 n.may n.must))

pub removed_less : (xs : List Node) (k : ℕ) → k < length xs → turns_left (remove xs k) < turns_left xs
removed_less xs k l = omega (arith, sum_by-remove turns xs k no_node l, turns_some (get_or xs k no_node))
