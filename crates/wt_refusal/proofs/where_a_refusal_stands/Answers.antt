use Rattle.wt_refusal.proofs.Stands.{refusal_stands}
use Rattle.wt_refusal.proofs.where_a_refusal_stands.Goals as goal

pub returns : goal.returns
returns c = refusal_stands
