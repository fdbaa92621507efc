use Rattle.wt_form.specs.Parts.{ranges_list}
use Rattle.wt_form.specs.Views.{ranges_seen}
use Rattle.wt_facts.specs.Facts.{known_of}
use Rattle.wt_drops.proofs.TruthLaws.{side_tells}
use Rattle.wt_drops.proofs.truths.side_joins.Goals as goal

pub returns-in-Some : goal.returns-in-Some
returns-in-Some c = side_tells (known_of c.args.facts.now) c.args.ks.now (ranges_list (ranges_seen c.args.ranges.now)) c.args.e c.args.rows.leaf c.args.rows.list c.args.x c.args.y _ _ c.are_of_rows.result c.in-Some.ensures c.are_of_rows.ensures
