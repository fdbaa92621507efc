use Rattle.std.proofs.Common.{arith}
use Rattle.wt_pair.proofs.AnchorLemmas.{small_power}
use Rattle.wt_pair.proofs.anchoring.count_anchorings.Goals as goal

pub pow-requires : goal.pow-requires
pow-requires c =
    rw (c.from.ensures, c.from-2.ensures) (omega (arith, small_power c.args.leaves c.args.lists c.requires.leaves c.requires.lists))
