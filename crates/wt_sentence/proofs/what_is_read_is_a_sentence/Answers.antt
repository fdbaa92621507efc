use Rattle.wt_sentence.proofs.Sound.{sound}
use Rattle.wt_sentence.proofs.what_is_read_is_a_sentence.Goals as goal

pub returns : goal.returns
returns c = sound
