use Rattle.wt_form.specs.Parts.{ranges_list}
use Rattle.wt_form.specs.Views.{ranges_seen}
use Rattle.wt_not_null.proofs.Nulls.{relation_tells}
use Rattle.wt_not_null.proofs.exprs.by_relation.Goals as goal

pub returns-in-Some : goal.returns-in-Some
returns-in-Some c = relation_tells c.args.facts.now (ranges_list (ranges_seen c.args.ranges.now)) c.args.v c.args.c c.in-Some.r c.is_covered.result c.in-Some.ensures c.is_covered.ensures
