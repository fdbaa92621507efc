use Rattle.wt_lex.proofs.Returning.{quoted_name}
use Rattle.wt_lex.proofs.laws.quoted_names_come_back.Goals as goal

pub returns : goal.returns
returns c = quoted_name
