use Rattle.std.proofs.Common.{arith}
use Rattle.wt_cores.proofs.Searching.{with_bit}
use Rattle.wt_board.proofs.nodes.with.Goals as goal

pub returns : goal.returns
returns c j = with_bit c.args.set.0 c.args.i (omega arith) j
