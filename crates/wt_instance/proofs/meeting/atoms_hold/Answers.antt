use Rattle.std.proofs.Common.{refl, arith}
use Rattle.std.proofs.lemmas.Bool.{false≢true}
use Rattle.wt_instance.proofs.Meetings.{hold_more, hold_all, hold_from_64, holds_here}
use Rattle.wt_instance.proofs.meeting.atoms_hold.Goals as goal

pub returns-then-k-ge64 : goal.returns-then-k-ge64
returns-then-k-ge64 c = (
  λ h. hold_from_64 c.args.anchors.now c.args.instance.now c.args.set _ _ c.as_slice-atom-items.ensures c.loop-k.k (omega arith) (omega arith) c.loop-k.invariant,
  λ h. refl,
)

pub returns-then-not-atom_passes : goal.returns-then-not-atom_passes
returns-then-not-atom_passes c = (
  λ h. absurd (false≢true h),
  λ all. c.if-not-atom_passes.ensures.1 (holds_here c.args.anchors.now c.args.instance.now c.args.set _ _ c.as_slice-atom-items.ensures c.loop-k.k _ c.loop-k-test.true all),
)

pub loop-k-preserved : goal.loop-k-preserved
loop-k-preserved c = hold_more c.args.anchors.now c.args.instance.now c.args.set _ _ c.as_slice-atom-items.ensures c.loop-k.k _ c.loop-k-test.true c.loop-k.invariant (c.if-not-atom_passes.ensures.0 refl)

pub returns : goal.returns
returns c = (
  λ h. hold_all c.args.anchors.now c.args.instance.now c.args.set _ _ c.as_slice-atom-items.ensures c.loop-k.k (omega arith) c.loop-k.invariant,
  λ h. refl,
)
