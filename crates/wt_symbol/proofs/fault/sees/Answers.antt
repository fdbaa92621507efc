use Rattle.std.proofs.Common.{◌≡◌, ◌<◌, ◌≤◌, false, nat_lt, arith, ◌∙◌}
use Rattle.std.proofs.lemmas.Grind.{common_steps}
use Rattle.wt_symbol.proofs.MaskLemmas.{not_above}
use Rattle.wt_symbol.proofs.fault.sees.Goals as goal

pub returns-else-anchor-lt8-clause-seen : goal.returns-else-anchor-lt8-clause-seen
returns-else-anchor-lt8-clause-seen c leaves h =
    let above : 8 ≤ c.args.anchor = omega arith in
    let small : c.args.mask < 256 = omega arith in
    let test : nat_lt c.args.anchor 8 ≡ false = grind (arith, common_steps) in
    test ∙ not_above c.args.mask c.args.anchor leaves small above h
