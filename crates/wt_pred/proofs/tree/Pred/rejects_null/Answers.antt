use Rattle.std.proofs.Common.{◌∙◌, sym}
use Rattle.wt_pred.specs.Tree.{pred_tree}
use Rattle.wt_pred.proofs.NullLaws.{rejects}
use Rattle.wt_pred.proofs.tree.Pred.rejects_null.Goals as goal

pub returns-clause-law : goal.returns-clause-law
returns-clause-law c = λ h. rejects c.args.pos (pred_tree c.args.self.now) (sym c.is_never_true.ensures ∙ h)
