use Rattle.wt_ddl_sentence.proofs.Texts.{read_or_names}
use Rattle.wt_ddl_sentence.proofs.every_sentence_is_read_or_refused_for_names.Goals as goal

pub returns : goal.returns
returns c = read_or_names
