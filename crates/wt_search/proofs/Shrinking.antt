-- What a set shrinks to.
use Rattle.std.proofs.Common.{ℕ, suc, ◌≡◌, ◌+◌, ◌*◌, ◌^◌, sym, ap, ◌∙◌, subst, arith}
use Rattle.std.specs.Int.{bit_at}
use Rattle.wt_symbol.specs.Sides.{PairTree}
use Rattle.wt_constraint.specs.declared.set.AtomSet.{AtomSet}
use Rattle.wt_constraint.specs.Sets.{HasAtom}
use Rattle.wt_form.specs.Under.{Provable}
use Rattle.wt_form.specs.Relaxed.{LeavesOut}
use Rattle.wt_form.specs.Shrunk.{Shrunk, none_to_try, left_out, kept}

less_leaves : (set less : AtomSet) (i : ℕ) → HasAtom set i → less.0 + bit_at set.0 i * 2 ^ i ≡ set.0 → LeavesOut set i less
less_leaves set less i there e = record { there = there; number = ap (λ b. less.0 + b) (one (bit_at set.0 i) (2 ^ i) there.bit) ∙ e }
  where
    one : (b n : ℕ) → b ≡ 1 → n ≡ b * n
    one b n h = omega (arith, ap (λ x. x * n) h)

set_is : (s t : AtomSet) → s.0 ≡ t.0 → s ≡ t
set_is s t e = λ i. record { 0 = e i }

leaves_one : (set less s : AtomSet) (i : ℕ) → LeavesOut set i less → LeavesOut set i s → s ≡ less
leaves_one set less s i a b = let p = a.number in let q = b.number in set_is s less (omega (arith, p, q))

pub nothing_to_try : (p : PairTree) (k below : ℕ) (set : AtomSet) → below ≡ 0 → Shrunk p k below set set
nothing_to_try p k below set e = subst (λ n. Shrunk p k n set set) (sym e) none_to_try

-- the highest atom left out, kept since it is needed, and absent
pub drops : (p : PairTree) (k below i : ℕ) (set less left : AtomSet) → below ≡ suc i → HasAtom set i → less.0 + bit_at set.0 i * 2 ^ i ≡ set.0 → Provable p less k → Shrunk p k i less left → Shrunk p k below set left
drops p k below i set less left e there n proved rest = subst (λ m. Shrunk p k m set left) (sym e) (left_out (less_leaves set less i there n) proved rest)

pub needs : (p : PairTree) (k below i : ℕ) (set less left : AtomSet) → below ≡ suc i → HasAtom set i → less.0 + bit_at set.0 i * 2 ^ i ≡ set.0 → (Provable p less k → ⊥) → Shrunk p k i set left → Shrunk p k below set left
needs p k below i set less left e there n fails rest =
    subst (λ m. Shrunk p k m set left) (sym e) (kept (λ t leaves proved. fails (subst (λ z. Provable p z k) (leaves_one set less t i (less_leaves set less i there n) leaves) proved)) rest)

pub lacks : (p : PairTree) (k below i : ℕ) (set left : AtomSet) → below ≡ suc i → (HasAtom set i → ⊥) → Shrunk p k i set left → Shrunk p k below set left
lacks p k below i set left e absent rest = subst (λ m. Shrunk p k m set left) (sym e) (kept (λ t leaves proved. absent leaves.there) rest)
