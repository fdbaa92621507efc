use Rattle.std.proofs.Common.{refl}
use Rattle.wt_symbol.specs.Sides.{pair_of}
use Rattle.wt_rule.proofs.TextLemmas.{all_anchored, rule_built}
use Rattle.wt_rule.proofs.push_rule.Goals as goal

pub push_atoms-requires : goal.push_atoms-requires
push_atoms-requires c =
    rw (c.as_slice.ensures, c.in_ok-atoms.ensures, c.in_ok-all.ensures.atoms, c.as_slice-anchors.ensures)
    (all_anchored (pair_of c.args.rule.now.pair) c.requires c.args.rule.now.set)

pub returns : goal.returns
returns c =
    rule_built (pair_of c.args.rule.now.pair) c.requires c.args.rule.now.set _ _ _ c.in_ok-atoms.atoms _ c.in_ok-all.all _ _ _ _ _
    c.as_slice-anchors.ensures refl c.in_ok-all.ensures.atoms c.in_ok-atoms.ensures c.as_slice.ensures
    c.in_ok-push_side.ensures c.in_ok-push_text.ensures c.in_ok-push_side-2.ensures c.in_ok-push_text-2.ensures c.in_ok-push_atoms.ensures
