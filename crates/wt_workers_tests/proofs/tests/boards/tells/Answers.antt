use Rattle.std.proofs.Common.{◌≡◌, true, rules}
use Rattle.wt_board.specs.Lots.{lot_tree}
use Rattle.wt_board.proofs.Settling.{settled_settles}
use Rattle.wt_workers_tests.proofs.tests.boards.tells.Goals as goal

pub rules-requires : goal.rules-requires
rules-requires c =
    let told : c.is_settled.result ≡ true = search rules in
    record { settles = settled_settles (lot_tree c.args.board.now.lot) c.args.board.now.state (c.is_settled.ensures.0 told) }
