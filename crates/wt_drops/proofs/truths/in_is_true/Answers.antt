use Rattle.std.proofs.Common.{map}
use Rattle.wt_form.specs.Parts.{ranges_list}
use Rattle.wt_form.specs.Views.{ranges_seen, terms_seen}
use Rattle.wt_facts.specs.Facts.{known_of}
use Rattle.wt_congruent.specs.Refs.{cond_behind}
use Rattle.wt_drops.proofs.TruthLaws.{in_tells}
use Rattle.wt_drops.proofs.truths.in_is_true.Goals as goal

pub returns-in-Some : goal.returns-in-Some
returns-in-Some c = in_tells (known_of c.args.facts.now) c.args.ks.now (ranges_list (ranges_seen c.args.ranges.now)) (map cond_behind c.args.others.now) c.args.e (terms_seen c.args.terms.now) c.in-Some.rows.leaf c.in-Some.rows.list c.is_true_by_rows.result c.in-Some.ensures c.is_true_by_rows.ensures
