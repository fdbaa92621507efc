use Rattle.wt_form.specs.Parts.{ranges_list}
use Rattle.wt_form.specs.Views.{ranges_seen}
use Rattle.wt_facts.specs.Facts.{known_of}
use Rattle.wt_joining.proofs.OneLaws.{stand_tells}
use Rattle.wt_joining.proofs.to_one.stand_together.Goals as goal

pub returns-in-Some-leaf_at : goal.returns-in-Some-leaf_at
returns-in-Some-leaf_at c = stand_tells (known_of c.args.facts.now) (ranges_list (ranges_seen c.args.ranges.now)) c.args.x c.args.y c.args.b c.in-Some.r c.in-Some-leaf_at.s c.are_keyed.result c.in-Some.ensures c.in-Some-leaf_at.ensures c.are_keyed.ensures
