use Rattle.std.proofs.Common.{◌≡◌, rules}
use Rattle.wt_value.specs.Values.{row_same}
use Rattle.wt_value.proofs.Comparing.{row_same-Decides}
use Rattle.wt_value.proofs.row.same_row.Goals as goal

pub returns-clause-same : goal.returns-clause-same
returns-clause-same c =
    let test : c.eq.result ≡ row_same c.args.a.now c.args.b.now = search rules in
    rw test (row_same-Decides c.args.a.now c.args.b.now)
