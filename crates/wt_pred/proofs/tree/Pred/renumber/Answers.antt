use Rattle.std.proofs.Common.{◌≡◌, IfOk, Result, Ok, Err, subst, sym}
use Rattle.wt_pred.specs.declared.tree.Pred.{Pred}
use Rattle.wt_pred.specs.Tree.{PredTree, pred_tree}
use Rattle.wt_pred.specs.Columns.{occurring, renumbered, place_in}
use Rattle.wt_pred.specs.Laws.{KeepsTruth}
use Rattle.wt_pred.specs.Places.{number_by}
use Rattle.wt_pred.proofs.Numbering.{has_all, numbers_places, renumbered_alike}
use Rattle.wt_pred.proofs.TruthLaws.{keeps_truth}
use Rattle.wt_pred.proofs.tree.Pred.renumber.Goals as goal

pub renumber_by-requires : goal.renumber_by-requires
renumber_by-requires c = has_all c.in_ok-places.places c.args.cols.now c.in_ok-places.ensures (occurring (pred_tree c.args.self.now)) c.requires.there

-- what holds of a tree holds of the predicate that has it
of_tree : {E : Type 0} (P : PredTree → Type 0) (tree : PredTree) (r : Result Pred E) → P tree → IfOk r (λ p. pred_tree p ≡ tree) → IfOk r (λ p. P (pred_tree p))
of_tree P tree (Ok p) h e = subst P (sym e) h
of_tree P tree (Err f) h e = e

pub returns : goal.returns
returns c =
    let places = c.in_ok-places.places in
    let tree = pred_tree c.args.self.now in
    let cols = c.args.cols.now in
    let exact : IfOk c.renumber_by.result (λ p. pred_tree p ≡ renumbered (place_in cols) tree) =
    subst (λ t. IfOk c.renumber_by.result (λ p. pred_tree p ≡ t))
    (renumbered_alike (number_by places) (place_in cols) tree (numbers_places places cols c.in_ok-places.ensures (occurring tree) c.requires.there))
    c.renumber_by.ensures in
    record {
      exact = exact;
      law = of_tree (KeepsTruth cols tree) (renumbered (place_in cols) tree) c.renumber_by.result (keeps_truth cols tree c.requires.there) exact;
    }
