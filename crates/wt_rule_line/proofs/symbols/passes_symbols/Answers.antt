use Rattle.wt_rule_text.specs.Trees.{rule_of}
use Rattle.wt_rule_line.specs.Pairs.{pair_of_text}
use Rattle.wt_rule_line.proofs.symbols.passes_symbols.Goals as goal

pub returns : goal.returns
returns c =
    let of = c.in_ok-of.ensures in
    let used = c.in_ok-used.ensures in
    c.are_lawful.ensures (pair_of_text (rule_of c.args.rule.now)) of.leaves of.lists of.preds of.anchors used.leaves used.lists used.preds
