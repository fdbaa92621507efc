use Rattle.wt_sentence.proofs.LawfulFiles.{statement_is_lawful}
use Rattle.wt_sentence.proofs.a_statement_that_is_read_is_lawful.Goals as goal

pub returns : goal.returns
returns c = statement_is_lawful
