use Rattle.wt_instance.proofs.SideBags.{left_join_bag}
use Rattle.wt_instance.proofs.laws.left_join_adds_unmatched_rows.Goals as goal

pub returns : goal.returns
returns c = λ I A a b s t. left_join_bag A I a b s t
