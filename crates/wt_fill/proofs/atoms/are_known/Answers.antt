use Rattle.std.proofs.Common.{rules}
use Rattle.wt_constraint.specs.declared.atom.Atom.TheVariants.{RelEq}
use Rattle.wt_matching.specs.Matching.{AtomKnown}
use Rattle.wt_found.specs.Seen.{assigned_in}
use Rattle.wt_fill.proofs.Knowing.{each_more, each_whole}
use Rattle.wt_fill.proofs.atoms.are_known.Goals as goal

pub loop-atom-preserved : goal.loop-atom-preserved
loop-atom-preserved g c =
    each_more (AtomKnown (g.F.Facts.tables c.args.facts.now) c.args.given.now.anchors.now (assigned_in c.args.given.now.found.now)) c.args.atoms.now c.loop-atom.atom-index (RelEq 0 0) c.loop-atom-test.true
    c.loop-atom.invariant (c.in_ok-is_known.ensures.0 (search rules))

pub returns : goal.returns
returns g c = record {
  exact = (λ _. each_whole (AtomKnown (g.F.Facts.tables c.args.facts.now) c.args.given.now.anchors.now (assigned_in c.args.given.now.found.now)) c.args.atoms.now c.loop-atom.atom-index c.loop-atom-test.false c.loop-atom.invariant, λ _. search rules);
}
