-- The columns of a predicate are there in what `columns` gives.
use Rattle.std.proofs.Common.{◌≡◌, ℕ, nat_eq, List, ◌++◌, sym, subst}
use Rattle.wt_bag.specs.Bags.{Each}
use Rattle.wt_bag.specs.Choices.{Has}
use Rattle.wt_bag.proofs.EachLaws.{each_implies}
use Rattle.wt_bag.proofs.HasLaws.{has_right, has_distinct, each_has_self}
use Rattle.wt_pred.specs.Tree.{PredTree}
use Rattle.wt_pred.specs.Columns.{occurring, columns}
use Rattle.wt_pred.proofs.Inserting.{numbers_decide}

-- each column that a predicate names is among its columns, whatever stands before them
pub columns_there : (before cols : List ℕ) (p : PredTree) → cols ≡ before ++ columns p → Each (λ c. Has c cols) (occurring p)
columns_there before cols p e =
    let used = occurring p in
    each_implies (λ c. Has c used) (λ c. Has c cols) used
    (λ c h. subst (Has c) (sym e) (has_right c before (columns p) (has_distinct nat_eq numbers_decide c used h))) (each_has_self used)
