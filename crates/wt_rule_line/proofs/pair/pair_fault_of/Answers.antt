use Rattle.std.proofs.Common.{◌≡◌, true, IfOk, subst, rules, arith}
use Rattle.wt_symbol.specs.Lawful.{has_lawful_symbols}
use Rattle.wt_rule_text.specs.Trees.{rule_of}
use Rattle.wt_rule_line.specs.Pairs.{pair_of_text}
use Rattle.wt_rule_line.proofs.Bytes.{same_fault}
use Rattle.wt_rule_line.proofs.pair.pair_fault_of.Goals as goal

pub returns : goal.returns
returns c =
    let passed : has_lawful_symbols (pair_of_text (rule_of c.args.rule.now)) ≡ true = search rules in
    subst (λ f. IfOk c.first_fault.result (λ fault. fault ≡ f))
    (same_fault (rule_of c.args.rule.now) c.args.pair.now c.requires.source c.requires.dest c.requires.anchors passed (omega arith) (omega arith))
    c.first_fault.ensures
