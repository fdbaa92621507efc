use Rattle.wt_bag.proofs.BagLaws.{one_bag, same_sums}
use Rattle.wt_value.specs.Values.{row_same}
use Rattle.wt_value.proofs.Comparing.{row_same_decides}
use Rattle.wt_value.proofs.one_bag_is_equal_sums.Goals as goal

pub returns : goal.returns
returns c = λ xs ys. (same_sums row_same row_same_decides xs ys, one_bag row_same xs ys)
