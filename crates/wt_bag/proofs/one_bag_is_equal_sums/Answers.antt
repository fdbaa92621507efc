use Rattle.wt_bag.proofs.BagLaws.{one_bag, same_sums}
use Rattle.wt_bag.proofs.one_bag_is_equal_sums.Goals as goal

pub returns : goal.returns
returns c = λ _ same decides xs ys. (same_sums same decides xs ys, one_bag same xs ys)
