use Rattle.std.proofs.Common.{map}
use Rattle.wt_form.specs.Parts.{ranges_list}
use Rattle.wt_form.specs.Facts.{NotNull}
use Rattle.wt_form.specs.Views.{ranges_seen}
use Rattle.wt_facts.specs.Facts.{known_of}
use Rattle.wt_congruent.specs.Refs.{cond_behind}
use Rattle.wt_not_null.specs.NeverNull.{ByRelation, ByCondition}
use Rattle.wt_not_null.proofs.Nulls.{either_way, first_yes, second_yes}
use Rattle.wt_not_null.proofs.exprs.is_not_null.Goals as goal

pub returns-then-by_relation : goal.returns-then-by_relation
returns-then-by_relation c =
    let rs = ranges_list (ranges_seen c.args.ranges.now) in
    let cs = map cond_behind c.args.conds.now in
    first_yes c.by_relation.result (ByRelation (known_of c.args.facts.now) rs c.args.v c.args.c) (ByCondition (known_of c.args.facts.now) cs c.args.v c.args.i c.args.c) (NotNull (known_of c.args.facts.now) rs cs c.args.v c.args.i c.args.c)
    (either_way (known_of c.args.facts.now) rs cs c.args.v c.args.i c.args.c) c.by_relation.ensures c.if-by_relation.true

pub returns-else-by_relation : goal.returns-else-by_relation
returns-else-by_relation c =
    let rs = ranges_list (ranges_seen c.args.ranges.now) in
    let cs = map cond_behind c.args.conds.now in
    second_yes c.by_relation.result c.by_condition.result (ByRelation (known_of c.args.facts.now) rs c.args.v c.args.c) (ByCondition (known_of c.args.facts.now) cs c.args.v c.args.i c.args.c) (NotNull (known_of c.args.facts.now) rs cs c.args.v c.args.i c.args.c)
    (either_way (known_of c.args.facts.now) rs cs c.args.v c.args.i c.args.c) c.by_relation.ensures c.if-by_relation.false c.by_condition.ensures
