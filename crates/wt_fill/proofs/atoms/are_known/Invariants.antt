use Rattle.std.proofs.Common.{take}
use Rattle.wt_bag.specs.Bags.{Each}
use Rattle.wt_matching.specs.Matching.{AtomKnown}
use Rattle.wt_found.specs.Seen.{assigned_in}
use Rattle.wt_fill.proofs.atoms.are_known.Given as goal

abbrev pub invariant-loop-atom : goal.invariant-loop-atom
invariant-loop-atom g l = Each (AtomKnown (g.F.Facts.tables l.facts) l.given.anchors.now (assigned_in l.given.found.now)) (take l.atom-index l.atoms)
