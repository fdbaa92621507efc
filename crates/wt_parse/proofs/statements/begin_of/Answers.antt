use Rattle.std.proofs.Common.{sym}
use Rattle.wt_parse.proofs.Answering.{begins}
use Rattle.wt_parse.proofs.statements.begin_of.Goals as goal

pub returns : goal.returns
returns c = sym (begins c.args.tokens.now c.args.piece c.get.result c.requires.0 c.get.ensures)
