use Rattle.wt_lex.proofs.Returning.{quoted_text}
use Rattle.wt_lex.proofs.laws.texts_come_back.Goals as goal

pub returns : goal.returns
returns c = quoted_text
