use Rattle.wt_spelling.proofs.ReadBack.{reads_back}
use Rattle.wt_spelling.proofs.texts_read_back.Goals as goal

pub returns : goal.returns
returns c = reads_back
