use Rattle.std.proofs.Common.{◌≡◌, ◌⊎◌, ◌^◌, List, [], ◌∷◌, ◌++◌, refl, ap, ◌∙◌, subst, arith}
use Rattle.wt_board.specs.declared.words.Event.{Event}
use Rattle.wt_board.specs.declared.words.Event.TheVariants.{Claimed}
use Rattle.wt_board.specs.Lots.{lot_tree}
use Rattle.wt_board.specs.Boards.{NonePending}
use Rattle.wt_workers.specs.Desks.{DeskTree}
use Rattle.wt_workers.proofs.Desks.{kept_one, out_claimed}
use Rattle.wt_workers.proofs.desk.Desk.claim.Goals as goal

pub invariant_of-self-in-Some : goal.invariant_of-self-in-Some
invariant_of-self-in-Some g c =
    let says = rw c.in-Some.is at c.in_ok-ticket.ensures in (
      kept_one (record { board = c.self.inside.board; events = c.self.inside.events.items; amount = c.self.inside.share.amount })
          (record { board = c.claim.new.self; events = c.push_reserved.new.self.items; amount = c.self.inside.share.amount })
          (Claimed c.in-Some.ticket) 0 c.self.invariant.0
          (record { board = says.3; events = c.push_reserved.ensures.items ∙ ap (λ (es : List Event). es ++ Claimed c.in-Some.ticket ∷ []) c.reserve.ensures.items; amount = omega arith })
          (omega arith),
      c.self.invariant.1,
      omega (arith, c.self.invariant.2, out_claimed c.self.inside.board c.claim.new.self c.in-Some.ticket says.3, c.push_reserved.ensures.len, c.push_reserved.ensures.capacity, c.in_ok-reserve.ensures.ok, c.reserve.ensures.len, c.claims_out.ensures),
    )

pub returns-in-None : goal.returns-in-None
returns-in-None g c =
    let says = rw c.in-None.is at c.in_ok-ticket.ensures in
    let P : DeskTree → Type 0 = λ d. (d.board.state.next ≡ 2 ^ 63) ⊎ NonePending (lot_tree d.board.lot) d.board.state in (
      (λ i. record { board = says.0 i; events = c.reserve.ensures.items i; amount = c.self.inside.share.amount }) ∙ c.self.view_is,
      (refl, subst P c.self.view_is says.1),
    )
