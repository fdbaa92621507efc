use Rattle.wt_blocks.proofs.Formed.{printed_formed}
use Rattle.wt_blocks.proofs.laws.printed_tree_is_formed.Goals as goal

pub returns : goal.returns
returns c = printed_formed
