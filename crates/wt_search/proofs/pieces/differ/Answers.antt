use Rattle.std.proofs.Common.{IsTrue, rules}
use Rattle.wt_search.proofs.pieces.differ.Goals as goal

pub returns : goal.returns
returns c told =
    let yes : IsTrue c.have_pieces.result = search (rules, c.if-not-have_pieces.false) in
    record { first = c.first_pieces-n.result; second = c.first_pieces-m.result; differ = c.if-n-m.false; have = c.have_pieces.ensures yes; others_have = c.have_pieces-2.ensures told }
