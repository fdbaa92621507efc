use Rattle.std.proofs.Common.{IsTrue, rules}
use Rattle.wt_search.proofs.pieces.cannot_meet.Goals as goal

pub returns : goal.returns
returns c told =
    let yes : IsTrue c.differ.result = search (rules, c.if-not-differ.false) in
    (c.differ.ensures yes, λ h m e. search (rules, told, c.some_is_empty.ensures h m e))
