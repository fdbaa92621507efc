use Rattle.wt_lex.proofs.Returning.{bare_item, bare_name, bare_free}
use Rattle.wt_lex.proofs.laws.bare_names_come_back.Goals as goal

pub returns-clause-word : goal.returns-clause-word
returns-clause-word c = bare_item

pub returns-clause-name : goal.returns-clause-name
returns-clause-name c = bare_name

pub returns-clause-free : goal.returns-clause-free
returns-clause-free c = bare_free
