use Rattle.std.proofs.Common.{map}
use Rattle.wt_form.specs.Parts.{ranges_list}
use Rattle.wt_form.specs.Views.{ranges_seen}
use Rattle.wt_facts.specs.Facts.{known_of}
use Rattle.wt_congruent.specs.Refs.{cond_behind}
use Rattle.wt_drops.proofs.TruthLaws.{reference_tells}
use Rattle.wt_drops.proofs.truths.by_reference.Goals as goal

pub returns-in-Some : goal.returns-in-Some
returns-in-Some c = reference_tells (known_of c.args.facts.now) (ranges_list (ranges_seen c.args.ranges.now)) (map cond_behind c.args.others.now) c.args.e c.args.rows.leaf c.args.rows.list _ _ c.refers_without_null.result c.in-Some.ensures c.refers_without_null.ensures
