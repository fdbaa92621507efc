use Rattle.std.proofs.Common.{[], ap, sym, subst}
use Rattle.wt_bag.specs.Bags.{Each}
use Rattle.wt_bag.specs.Choices.{Has}
use Rattle.wt_pred.specs.Columns.{occurring}
use Rattle.wt_pred.specs.Tree.{pred_tree}
use Rattle.wt_pred.proofs.Using.{columns_there}
use Rattle.wt_conjunct.proofs.stack.kept.Goals as goal

pub filtered-requires : goal.filtered-requires
filtered-requires c = record { there = columns_there [] _ (pred_tree c.args.pred) c.in_ok-cols.ensures.exact }
