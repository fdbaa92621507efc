use Rattle.wt_lex.proofs.Falling.{falls_have}
use Rattle.wt_lex.proofs.laws.what_is_spelled_is_cut.Goals as goal

pub returns : goal.returns
returns c = falls_have
