use Rattle.wt_blocks.proofs.Root.{printed_fine, printed_plan, printed_names}
use Rattle.wt_blocks.proofs.laws.printed_tree_is_built_again.Goals as goal

pub returns : goal.returns
returns c = record {
  accepted = λ S schema p regular names many. printed_fine S schema p regular names many _;
  plan = printed_plan;
  names = printed_names;
}
