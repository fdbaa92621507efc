use Rattle.std.proofs.Common.{rules, arith}
use Rattle.wt_found.proofs.Reading.{leaf_preserved}
use Rattle.wt_found.proofs.columns.leaf_columns.Goals as goal

pub loop-number-preserved : goal.loop-number-preserved
loop-number-preserved c = leaf_preserved c.args.leaf c.loop-number.number c.args.width c.loop-number.columns.items c.push.new.self.items _ (omega arith) (search rules) c.loop-number.invariant
