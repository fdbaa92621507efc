-- What is left of a provable set is a core.
use Rattle.std.proofs.Common.{◌≡◌, ℕ, ◌+◌, ◌*◌, ◌^◌, ◌<◌, ◌≤◌, inl, inr, sym, subst, arith}
use Rattle.std.specs.Int.{bit_at}
use Rattle.std.proofs.lemmas.Bool.{cases_eq}
use Rattle.wt_symbol.specs.Sides.{PairTree}
use Rattle.wt_constraint.specs.declared.set.AtomSet.{AtomSet}
use Rattle.wt_constraint.specs.Sets.{HasAtom}
use Rattle.wt_form.specs.Under.{Provable}
use Rattle.wt_cores.specs.Cores.{Within, IsCore}
use Rattle.wt_cores.proofs.Bits.{within_trans, below_64, left_out_members, without_atom}
use Rattle.wt_cores.proofs.Gaining.{less_leaves, leaves_one}
use Rattle.wt_cores.proofs.CoreLaws.{monotone}
use Rattle.wt_workers.specs.Shrinking.{IsTight, Shrinks, ShrinksBelow}

module _ (pair : PairTree) (steps : ℕ) where
  -- an atom that a set needs is needed by the sets in it that have it
  pub tight_within : (s t : AtomSet) (i : ℕ) → s.0 < 2 ^ 64 → t.0 < 2 ^ 64 → Within t s → (HasAtom s i → IsTight pair steps s i) → IsTight pair steps t i
  tight_within s t i small less w h u leaves proved =
      let there : HasAtom s i = w i leaves.there in
      let without = without_atom s i small there in
      let into : Within u without.0 = λ j m. let k = (left_out_members t i u less leaves j).0 m in (left_out_members s i without.0 small without.1 j).1 (w j k.0, k.1) in
      h there without.0 without.1 (monotone pair steps u without.0 into proved)

  pub not_there : (s : AtomSet) (i : ℕ) → (HasAtom s i → ⊥) → IsTight pair steps s i
  not_there s i none t leaves proved = none leaves.there

  pub not_without : (s less : AtomSet) (i : ℕ) → HasAtom s i → less.0 + bit_at s.0 i * 2 ^ i ≡ s.0 → (Provable pair less steps → ⊥) → IsTight pair steps s i
  not_without s less i there number none t leaves proved = none (subst (λ x. Provable pair x steps) (leaves_one s less t i (less_leaves s less i there number) leaves) proved)

  pub shrinks_more : (s left next : AtomSet) (i : ℕ) → s.0 < 2 ^ 64 → ShrinksBelow pair steps i s left → Shrinks pair steps i left next → ShrinksBelow pair steps (i + 1) s next
  shrinks_more s left next i small before now = record {
    within = within_trans next left s now.within before.within;
    less = let a = now.less in let b = before.less in omega (arith, a, b);
    provable = now.provable;
    tight = λ j l. elim (cases_eq j i) [
      | inl e ↦ subst (IsTight pair steps next) (sym e) now.tight
      | inr ne ↦
          let below : j < i = omega (arith, l, ne) in
          let left_small : left.0 < 2 ^ 64 = let b = before.less in omega (arith, b, small) in
          let next_small : next.0 < 2 ^ 64 = let a = now.less in let b = before.less in omega (arith, a, b, small) in
          tight_within left next j left_small next_small now.within (λ there. before.tight j below)
    ];
  }

  pub shrunk_core : (s left : AtomSet) (n : ℕ) → s.0 < 2 ^ 64 → 64 ≤ n → ShrinksBelow pair steps n s left → IsCore pair steps left
  shrunk_core s left n small all h =
      let left_small : left.0 < 2 ^ 64 = let b = h.less in omega (arith, b, small) in
      record {
        small = left_small;
        provable = h.provable;
        least = λ i t leaves. h.tight i (let b = below_64 left i left_small leaves.there in omega (arith, b, all)) t leaves;
      }
