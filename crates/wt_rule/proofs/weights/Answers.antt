use Rattle.wt_symbol.specs.Sides.{pair_of}
use Rattle.wt_rule.proofs.TextLemmas.{whole_weights}
use Rattle.wt_rule.proofs.weights.Goals as goal

pub returns : goal.returns
returns c =
    let whole = whole_weights (pair_of c.args.pair.now) c.requires in
    rw (c.weight.ensures, c.weight-2.ensures, whole.0, whole.1) at c.two_weights.ensures
