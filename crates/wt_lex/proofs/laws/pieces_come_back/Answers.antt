use Rattle.wt_lex.proofs.Falling.{joined_fall}
use Rattle.wt_lex.proofs.laws.pieces_come_back.Goals as goal

pub returns : goal.returns
returns c = joined_fall
