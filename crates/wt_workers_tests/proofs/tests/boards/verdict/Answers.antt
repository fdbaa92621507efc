use Rattle.std.proofs.Common.{◌<◌, ◌^◌, rules, arith}
use Rattle.wt_form.specs.Under.{Provable}
use Rattle.wt_symbol.specs.Sides.{pair_of}
use Rattle.wt_cores.proofs.CoreLaws.{shrunk_core}
use Rattle.wt_workers_tests.proofs.tests.boards.verdict.Goals as goal

pub returns : goal.returns
returns g c =
    let provable : Provable (pair_of c.args.pair.now) c.args.set c.args.steps = search rules in
    let small : c.args.set.0 < 2 ^ 64 = search (rules, arith) in
    let law = shrunk_core (pair_of c.args.pair.now) c.args.steps c.args.set c.in_ok-core.core small provable c.in_ok-core.ensures.left in
    (law.1, law.0)
