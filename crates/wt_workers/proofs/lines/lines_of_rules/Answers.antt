use Rattle.std.proofs.Common.{◌≡◌, ◌-◌, ◌^◌, ◌≤◌, ◌∙◌, refl, length, rules, arith}
use Rattle.std.specs.List.{flat_map}
use Rattle.wt_workers.specs.LineOf.{line_of_rule}
use Rattle.wt_workers.proofs.RuleLines.{counted_rules}
use Rattle.wt_workers.proofs.lines.lines_of_rules.Goals as goal

pub returns-clause-counted : goal.returns-clause-counted
returns-clause-counted c =
    λ steps depth pairs are.
    let text : c.from_vec.result ≡ flat_map line_of_rule c.args.rules.now = c.from_vec.ensures ∙ c.in_ok-text.ensures in
    let few : length c.args.rules.now ≤ 2 ^ 64 - 1 = search (rules, arith) in
    counted_rules steps depth pairs c.args.rules.now c.from_vec.result (length c.args.rules.now) are text refl few
