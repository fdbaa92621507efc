use Rattle.std.proofs.Common.{arith}
use Rattle.wt_ddl.proofs.Linked.{kind_at_within, kind_at_past}
use Rattle.wt_ddl.proofs.linking.kind_at.Goals as goal

pub returns-then-place-columns : goal.returns-then-place-columns
returns-then-place-columns c = kind_at_within c.args.columns.now c.args.number c.index-columns-place.result (omega arith)

pub returns-else-place-columns : goal.returns-else-place-columns
returns-else-place-columns c = kind_at_past c.args.columns.now c.args.number (omega arith)
