use Rattle.std.proofs.Common.{◌↔◌, IsTrue, rules}
use Rattle.wt_value.specs.Values.{Matches}
use Rattle.wt_value.proofs.Comparing.{row_matches-Decides, equal_rows_match, test_is}
use Rattle.wt_value.proofs.row.matches.Goals as goal

pub returns-then-same_row-clause-test : goal.returns-then-same_row-clause-test
returns-then-same_row-clause-test c = equal_rows_match _ _ _ c.has_null.ensures (c.same_row.ensures.same.0 c.if-same_row.true)

pub returns-else-same_row-clause-test : goal.returns-else-same_row-clause-test
returns-else-same_row-clause-test c =
    let says : IsTrue c.same_row.result ↔ Matches c.args.a.now c.args.b.now = search rules in
    test_is _ _ says (row_matches-Decides c.args.a.now c.args.b.now)
