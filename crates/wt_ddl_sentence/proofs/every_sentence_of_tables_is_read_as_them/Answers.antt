use Rattle.wt_ddl_sentence.proofs.Texts.{read_as}
use Rattle.wt_ddl_sentence.proofs.every_sentence_of_tables_is_read_as_them.Goals as goal

pub returns : goal.returns
returns c = read_as
