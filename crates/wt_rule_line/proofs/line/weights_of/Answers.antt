use Rattle.std.proofs.Common.{◌∙◌}
use Rattle.wt_symbol.specs.Sides.{pair_of}
use Rattle.wt_rule.proofs.TextLemmas.{whole_weights}
use Rattle.wt_rule_line.proofs.line.weights_of.Goals as goal

pub returns-clause-source : goal.returns-clause-source
returns-clause-source c = c.from.ensures ∙ c.weight.ensures ∙ (whole_weights (pair_of c.args.pair.now) c.requires.lawful).0

pub returns-clause-dest : goal.returns-clause-dest
returns-clause-dest c = c.from-2.ensures ∙ c.weight-2.ensures ∙ (whole_weights (pair_of c.args.pair.now) c.requires.lawful).1
