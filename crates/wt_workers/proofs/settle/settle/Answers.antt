use Rattle.std.proofs.Common.{◌+◌, ◌<◌, ◌^◌, rules, arith}
use Rattle.wt_workers.proofs.settle.settle.Goals as goal

pub overflow_add-drained : goal.overflow_add-drained
overflow_add-drained g c =
    let booked = c.if-book.ensures.amount in
    let kept = c.loop.invariant.drained in
    let enough = c.requires.drained in
    let l : c.loop.drained + 1 < 2 ^ 64 = omega (arith, booked.0, booked.1, kept, enough) in
    search (rules, arith, l)
