use Rattle.std.proofs.Common.{sym, subst}
use Rattle.wt_board.specs.Lots.{lot_tree}
use Rattle.wt_board.specs.Machine.{Settles}
use Rattle.wt_workers.specs.Desks.{DeskTree}
use Rattle.wt_workers.proofs.desk.Desk.rules.Goals as goal

pub rules-requires : goal.rules-requires
rules-requires g c = let S : DeskTree → Type 0 = λ d. Settles (lot_tree d.board.lot) d.board.state.log in record { settles = subst S (sym c.self.view_is) c.requires.settles }
