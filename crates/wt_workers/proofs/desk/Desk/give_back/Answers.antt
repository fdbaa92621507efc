use Rattle.std.proofs.Common.{arith}
use Rattle.wt_board.specs.declared.words.Event.TheVariants.{GivenBack}
use Rattle.wt_workers.proofs.Desks.{kept_one, out_given_back}
use Rattle.wt_workers.proofs.desk.Desk.give_back.Goals as goal

pub invariant_of-self-2 : goal.invariant_of-self-2
invariant_of-self-2 g c =
    let says = c.in_ok-give_back.ensures in (
      kept_one (record { board = c.self.inside.board; events = c.self.inside.events.items; amount = c.self.inside.share.amount })
          (record { board = c.give_back.new.self; events = c.push_reserved.new.self.items; amount = c.self.inside.share.amount })
          (GivenBack c.args.ticket) 0 c.self.invariant.0 (record { board = says.1; events = c.push_reserved.ensures.items; amount = omega arith }) (omega arith),
      c.self.invariant.1,
      omega (arith, c.self.invariant.2, out_given_back c.self.inside.board c.give_back.new.self c.args.ticket says.0 says.1, c.push_reserved.ensures.len, c.push_reserved.ensures.capacity),
    )
