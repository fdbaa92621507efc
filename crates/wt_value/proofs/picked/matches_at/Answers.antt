use Rattle.std.proofs.Common.{◌↔◌, IsTrue, rules}
use Rattle.wt_value.specs.Values.{Matches, pick}
use Rattle.wt_value.proofs.Comparing.{row_matches-Decides, test_is}
use Rattle.wt_value.proofs.picked.matches_at.Goals as goal

pub returns-clause-test : goal.returns-clause-test
returns-clause-test c =
    let says : IsTrue c.agree_at.result ↔ Matches (pick c.args.places.now c.args.a.now) (pick c.args.others.now c.args.b.now) = search rules in
    test_is _ _ says (row_matches-Decides _ _)
