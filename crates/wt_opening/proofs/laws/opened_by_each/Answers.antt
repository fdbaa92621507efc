use Rattle.std.proofs.Common.{sym, subst}
use Rattle.wt_form.specs.Opening.{CondsOpened, PiecesOpened}
use Rattle.wt_opening.proofs.OpenedLaws.{conds_to, conds_from_can, pieces_to, pieces_from_can}
use Rattle.wt_opening.proofs.laws.opened_by_each.Goals as goal

pub returns-clause-conds : goal.returns-clause-conds
returns-clause-conds c = λ o cs ds. (conds_to o cs ds, λ h. subst (CondsOpened o cs) (sym h.1) (conds_from_can o cs h.0))

pub returns-clause-pieces : goal.returns-clause-pieces
returns-clause-pieces c = λ o xs ys. (pieces_to o xs ys, λ h. subst (PiecesOpened o xs) (sym h.1) (pieces_from_can o xs h.0))
