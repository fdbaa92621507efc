use Rattle.wt_lex.proofs.Falling.{open_refused, refused_open}
use Rattle.wt_lex.proofs.laws.what_is_open_is_refused.Goals as goal

pub returns-clause-refused : goal.returns-clause-refused
returns-clause-refused c = open_refused

pub returns-clause-open : goal.returns-clause-open
returns-clause-open c = refused_open
