use Rattle.wt_sentence.proofs.Complete.{complete}
use Rattle.wt_sentence.proofs.every_sentence_is_read.Goals as goal

pub returns : goal.returns
returns c = complete
