use Rattle.wt_lex.proofs.Falling.{tokens_fall}
use Rattle.wt_lex.proofs.laws.tokens_are_spelled.Goals as goal

pub returns : goal.returns
returns c = tokens_fall
