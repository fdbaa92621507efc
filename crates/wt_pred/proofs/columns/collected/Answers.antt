use Rattle.std.proofs.Common.{◌≡◌, ◌∙◌, ap, nat_eq}
use Rattle.indexmap.specs.IndexSet.{insert_all}
use Rattle.wt_pred.specs.Tree.{pred_tree}
use Rattle.wt_pred.specs.Columns.{occurring}
use Rattle.wt_pred.proofs.Inserting.{inserted}
use Rattle.wt_pred.proofs.columns.collected.Goals as goal

pub returns : goal.returns
returns c =
    let used = occurring (pred_tree c.args.pred.now) in
    c.from_vec.ensures ∙ c.in_ok-from_slice.ensures.items ∙ c.as_slice.ensures.keys ∙ c.in_ok-add_columns.ensures
    ∙ ap (λ keys. insert_all nat_eq keys used) c.new-seen.ensures.empty ∙ inserted used
