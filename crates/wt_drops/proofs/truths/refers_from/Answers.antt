use Rattle.wt_form.specs.Parts.{ranges_list}
use Rattle.wt_form.specs.Views.{ranges_seen}
use Rattle.wt_facts.specs.Facts.{known_of}
use Rattle.wt_drops.proofs.TruthLaws.{refers_tells}
use Rattle.wt_drops.proofs.truths.refers_from.Goals as goal

pub returns-in-Some : goal.returns-in-Some
returns-in-Some c = refers_tells (known_of c.args.facts.now) (ranges_list (ranges_seen c.args.ranges.now)) c.args.x c.args.a c.args.rows.leaf c.args.rows.list c.in-Some.r c.refers.result c.in-Some.ensures c.refers.ensures
