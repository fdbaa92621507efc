use Rattle.wt_form.specs.Parts.{ranges_list}
use Rattle.wt_form.specs.Views.{ranges_seen}
use Rattle.wt_facts.specs.Facts.{known_of}
use Rattle.wt_drops.proofs.TruthLaws.{same_tells}
use Rattle.wt_drops.proofs.truths.leaf_is_same.Goals as goal

pub returns-in-Some : goal.returns-in-Some
returns-in-Some c = same_tells (known_of c.args.facts.now) (ranges_list (ranges_seen c.args.ranges.now)) c.args.y c.args.s c.in-Some.r c.same_leaf.result c.in-Some.ensures c.same_leaf.ensures
