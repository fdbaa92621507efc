use Rattle.wt_rule.proofs.TextLemmas.{chosen_more}
use Rattle.wt_rule.proofs.chosen_atoms.Goals as goal

pub loop-k-preserved : goal.loop-k-preserved
loop-k-preserved c =
    chosen_more c.args.atoms.now c.as_slice-atom-items.result.now c.loop-k.kept c.push_if.new.kept c.args.set c.loop-k.k c.has.result _
    c.as_slice-atom-items.ensures c.loop-k-test.true c.has.ensures c.in_ok-push_if.ensures c.loop-k.invariant
