use Rattle.wt_refusal.proofs.Ends.{refusal_ends}
use Rattle.wt_refusal.proofs.no_sentence_goes_on_with_a_refusal.Goals as goal

pub returns : goal.returns
returns c = refusal_ends
