use Rattle.std.proofs.Common.{map}
use Rattle.wt_form.specs.Parts.{ranges_list}
use Rattle.wt_form.specs.Views.{ranges_seen}
use Rattle.wt_facts.specs.Facts.{known_of}
use Rattle.wt_congruent.specs.Refs.{cond_behind}
use Rattle.wt_determined.proofs.LinkLaws.{linked_tells}
use Rattle.wt_determined.proofs.linked.is_linked.Goals as goal

pub returns-in-Some : goal.returns-in-Some
returns-in-Some c = linked_tells (known_of c.args.facts.now) (ranges_list (ranges_seen c.args.ranges.now)) (map cond_behind c.args.conds.now) c.args.vars.now c.args.u c.in-Some.r c.some_links.result c.in-Some.ensures c.some_links.ensures
