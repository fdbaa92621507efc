use Rattle.std.proofs.Common.{ℕ, ◌≡◌, ◌+◌, ◌⊎◌, inl, inr, sym, ◌∙◌, ap, arith}
use Rattle.std.proofs.lemmas.Bool.{false≢true}
use Rattle.wt_constraint.specs.declared.set.AtomSet.{AtomSet}
use Rattle.wt_constraint.specs.Sets.{HasAtom}
use Rattle.wt_cores.specs.Cores.{missing}
use Rattle.wt_cores.proofs.Bits.{has_or_not, missing_first, missing_there, missing_none}
use Rattle.wt_board.proofs.near.left_out.Goals as goal
use Rattle.wt_board.proofs.near.left_out.Goals.{then-lacks, else-lacks}

pub loop-i-init : goal.loop-i-init
loop-i-init c = record { counted = sym (missing_first c.args.all c.args.set); few = omega arith }

-- one more is counted where an atom is lacked, and none else
more : (all set : AtomSet) (i count next : ℕ) → HasAtom all i × (HasAtom set i → ⊥) → next ≡ count + 1 → count ≡ missing i all set → next ≡ missing (i + 1) all set
more all set i count next lacks e counted = let m = missing_there i all set lacks.0 lacks.1 in e ∙ ap (λ n. n + 1) counted ∙ sym m

no_more : (all set : AtomSet) (i count next : ℕ) → (HasAtom all i × (HasAtom set i → ⊥) → ⊥) → next ≡ count → count ≡ missing i all set → next ≡ missing (i + 1) all set
no_more all set i count next has e counted = e ∙ counted ∙ sym (missing_none i all set (here (has_or_not all i) (has_or_not set i)))
  where
    here : HasAtom all i ⊎ (HasAtom all i → ⊥) → HasAtom set i ⊎ (HasAtom set i → ⊥) → (HasAtom all i → ⊥) ⊎ HasAtom set i
    here (inr none) q = inl none
    here (inl h) (inl k) = inr k
    here (inl h) (inr none) = absurd (has (h, none))

pub loop-i-preserved : goal.loop-i-preserved
loop-i-preserved c = record {
  counted = elim c.if-lacks.branch [
    | then-lacks w ↦ more c.args.all c.args.set c.loop-i.i c.loop-i.count c.if-lacks.count (c.lacks.ensures.0 w.if-lacks.true) w.count-is c.loop-i.invariant.counted
    | else-lacks w ↦ no_more c.args.all c.args.set c.loop-i.i c.loop-i.count c.if-lacks.count (λ q. false≢true (sym w.if-lacks.false ∙ c.lacks.ensures.1 q)) w.count-is c.loop-i.invariant.counted
  ];
  few = elim c.if-lacks.branch [
    | then-lacks w ↦ let e = w.count-is in let f = c.loop-i.invariant.few in omega (arith, e, f)
    | else-lacks w ↦ let e = w.count-is in let f = c.loop-i.invariant.few in omega (arith, e, f)
  ];
}
