use Rattle.std.proofs.Common.{◌≡◌, None, rules}
use Rattle.wt_symbol.specs.Lawful.{fault_of}
use Rattle.wt_rule_text.specs.Trees.{rule_of}
use Rattle.wt_rule_line.specs.Pairs.{pair_of_text}
use Rattle.wt_rule_line.proofs.Bytes.{made_pair}
use Rattle.wt_rule_line.proofs.pair.lawful_pair.Goals as goal

pub returns-in-None : goal.returns-in-None
returns-in-None c =
    let none : fault_of (pair_of_text (rule_of c.args.rule.now)) ≡ None = search rules in
    made_pair (rule_of c.args.rule.now) c.in_ok-pair.pair c.in_ok-pair.ensures.source c.in_ok-pair.ensures.dest c.in_ok-pair.ensures.anchors none
