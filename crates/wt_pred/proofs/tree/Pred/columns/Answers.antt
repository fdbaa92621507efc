use Rattle.std.proofs.Common.{sym, subst}
use Rattle.std.specs.Prelude.{Result, Ok, Err, IfOk, ◌≡◌, ℕ, List}
use Rattle.wt_pred.specs.Tree.{PredTree, pred_tree}
use Rattle.wt_pred.specs.Columns.{columns}
use Rattle.wt_pred.specs.Laws.{DependsOn}
use Rattle.wt_pred.proofs.TruthLaws.{depends_on_columns}
use Rattle.wt_pred.proofs.tree.Pred.columns.Goals as goal

-- the columns of a predicate are all that its truth depends on
law : {E : Type 0} (tree : PredTree) (r : Result (List ℕ) E) → IfOk r (λ cols. cols ≡ columns tree) → IfOk r (λ cols. DependsOn cols tree)
law tree (Ok cols) is = subst (λ cols. DependsOn cols tree) (sym is) (depends_on_columns tree)
law tree (Err e) is = tt

pub returns-clause-law : goal.returns-clause-law
returns-clause-law c = law (pred_tree c.args.self.now) c.columns_of.result c.columns_of.ensures
