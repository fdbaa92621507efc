use Rattle.wt_viable.proofs.BeginsStatements.{refusal_begins}
use Rattle.wt_viable.proofs.what_stands_before_a_refusal_begins_a_sentence.Goals as goal

pub returns : goal.returns
returns c = refusal_begins
