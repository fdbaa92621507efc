use Rattle.std.proofs.Common.{arith, ◌∙◌}
use Rattle.wt_board.specs.declared.words.Event.TheVariants.{Posted}
use Rattle.wt_workers.proofs.Desks.{kept_one, out_posted, log_posted}
use Rattle.wt_workers.proofs.desk.Desk.post.Goals as goal

pub invariant_of-self : goal.invariant_of-self
invariant_of-self g c =
    let says = c.in-Ok.ensures in (
      kept_one (record { board = c.self.inside.board; events = c.self.inside.events.items; amount = c.self.inside.share.amount })
          (record { board = c.post.new.self; events = c.push_reserved.new.self.items; amount = c.post-2.new.board.amount })
          (Posted c.args.ticket c.args.verdict) 1 c.self.invariant.0 (record { board = says.1; events = c.push_reserved.ensures.items; amount = c.post-2.ensures.board.0 })
          (log_posted c.self.inside.board c.args.ticket c.args.verdict),
      c.post-2.ensures.board.1 ∙ c.self.invariant.1,
      omega (arith, c.self.invariant.2, out_posted c.self.inside.board c.post.new.self c.args.ticket c.args.verdict says.0 says.1, c.push_reserved.ensures.len, c.push_reserved.ensures.capacity),
    )
