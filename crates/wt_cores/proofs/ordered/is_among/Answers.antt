use Rattle.wt_cores.proofs.Orders.{among_tells}
use Rattle.wt_cores.proofs.ordered.is_among.Goals as goal

pub returns : goal.returns
returns c = among_tells c.args.sets.now c.args.set c.has_number.result c.has_number.ensures
