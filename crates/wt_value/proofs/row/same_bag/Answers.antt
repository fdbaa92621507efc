use Rattle.std.proofs.Common.{◌≡◌, ◌∙◌, sym, true, false}
use Rattle.wt_bag.proofs.Counting.{both_alike, alike}
use Rattle.wt_value.specs.Values.{row_same}
use Rattle.wt_value.proofs.Comparing.{row_same_decides}
use Rattle.wt_value.proofs.row.same_bag.Goals as goal

pub returns-then-all_alike : goal.returns-then-all_alike
returns-then-all_alike c =
    let first : alike row_same row_same_decides c.args.a.now c.args.b.now c.args.a.now ≡ true = sym c.all_alike.ensures ∙ c.if-all_alike.true in
    rw c.all_alike-then-all_alike.ensures (rw first at (both_alike row_same row_same_decides c.args.a.now c.args.b.now))

pub returns-else-all_alike : goal.returns-else-all_alike
returns-else-all_alike c =
    let first : alike row_same row_same_decides c.args.a.now c.args.b.now c.args.a.now ≡ false = sym c.all_alike.ensures ∙ c.if-all_alike.false in
    rw c.if-all_alike.false (rw first at (both_alike row_same row_same_decides c.args.a.now c.args.b.now))
