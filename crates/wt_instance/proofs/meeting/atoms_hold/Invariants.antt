use Rattle.std.proofs.Common.{◌≡◌, ℕ, ◌<◌, Some}
use Rattle.std.specs.Prelude.{slice_get}
use Rattle.wt_constraint.specs.declared.atom.Atom.{Atom}
use Rattle.wt_constraint.specs.Sets.{HasAtom}
use Rattle.wt_instance.specs.Meeting.{Holds}
use Rattle.wt_instance.proofs.meeting.atoms_hold.Given as goal

abbrev pub invariant-loop-k : goal.invariant-loop-k
invariant-loop-k l = (j : ℕ) (x : Atom) → j < l.k → HasAtom l.set j → slice_get l.atoms j ≡ Some x → Holds l.anchors l.instance x
