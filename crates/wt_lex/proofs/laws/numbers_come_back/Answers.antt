use Rattle.std.proofs.Common.{arith}
use Rattle.wt_lex.proofs.Returning.{decimal_item}
use Rattle.wt_lex.proofs.laws.numbers_come_back.Goals as goal

pub returns : goal.returns
returns c n rest h = decimal_item n rest (omega arith)
