use Rattle.std.proofs.Common.{arith}
use Rattle.wt_constraint.proofs.SetLemmas.{without_members, without_number}
use Rattle.wt_constraint.proofs.set.without.Goals as goal

pub returns-clause-members : goal.returns-clause-members
returns-clause-members c = without_members c.args.set.0 c.args.i (omega arith) (omega arith)

pub returns-clause-number : goal.returns-clause-number
returns-clause-number c = without_number c.args.set.0 c.args.i (omega arith) (omega arith)
