use Rattle.std.proofs.Common.{◌≡◌, ◌∙◌, ◌++◌, arith}
use Rattle.wt_pred.specs.Tree.{pred_tree}
use Rattle.wt_pred.specs.Columns.{columns}
use Rattle.wt_pred.proofs.Using.{columns_there}
use Rattle.wt_value_tests.proofs.tests.by_columns_behind.Goals as goal

pub renumber-requires : goal.renumber-requires
renumber-requires c =
    let front = c.args.front.now in
    let own = columns (pred_tree c.args.p.now) in
    let joined : c.from_vec-cols.result ≡ front ++ own =
    c.from_vec-cols.ensures ∙ c.in_ok-extend_from_slice.ensures.items ∙ (λ i. c.in_ok-cols.ensures.items i ++ (c.as_slice.ensures ∙ c.in_ok-own.ensures.exact) i) in
    record { few = omega (arith, c.len.ensures, c.if-len-gt65536.false); there = columns_there front c.from_vec-cols.result (pred_tree c.args.p.now) joined }
