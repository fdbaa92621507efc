use Rattle.std.proofs.Common.{min, length, arith}
use Rattle.wt_constraint.proofs.SetLemmas.{ones_members, ones_below, all_ones}
use Rattle.wt_constraint.proofs.set.full.Goals as goal

pub returns-then-len-lt64-clause-members : goal.returns-then-len-lt64-clause-members
returns-then-len-lt64-clause-members c =
    ones_members _ (min (length c.args.atoms.now) 64)
    (ones_below c.len-then-len-lt64.result (length c.args.atoms.now) c.len-then-len-lt64.ensures (omega arith))

pub returns-else-len-lt64-clause-members : goal.returns-else-len-lt64-clause-members
returns-else-len-lt64-clause-members c =
    ones_members _ (min (length c.args.atoms.now) 64) (all_ones c.len.result (length c.args.atoms.now) c.len.ensures (omega arith))
