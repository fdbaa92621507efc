use Rattle.std.proofs.Common.{◌<◌, ◌^◌, arith}
use Rattle.wt_cores.proofs.Bits.{below_64}
use Rattle.wt_board.proofs.near.first_outside.Goals as goal

pub returns : goal.returns
returns c j h =
    let small : c.args.set.0 < 2 ^ 64 = omega arith in
    let below = below_64 c.args.set j small h in
    let end = c.loop-i-test.false in
    c.loop-i.invariant j (omega (arith, below, end)) h
