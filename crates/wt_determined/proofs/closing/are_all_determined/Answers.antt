use Rattle.std.proofs.Common.{map, ap, ◌∙◌}
use Rattle.wt_form.specs.Views.{ranges_seen, conds_seen}
use Rattle.wt_facts.specs.Facts.{known_of}
use Rattle.wt_congruent.specs.Refs.{cond_behind}
use Rattle.wt_determined.proofs.LinkLaws.{all_tells}
use Rattle.wt_determined.proofs.closing.are_all_determined.Goals as goal

pub returns : goal.returns
returns c = record {
  exact = all_tells (known_of c.args.facts.now) (ranges_seen c.args.term.now.ranges) (conds_seen c.args.term.now.conds) c.args.term.now.pieces c.as_slice.result.now (map cond_behind c.deref.result.now) c.in_ok-vars.vars.items c.deref-2.result.now c.range_count.result c.are_all_among.result
      c.range_count.ensures (ap (map cond_behind) c.deref.ensures.value ∙ c.in_ok-conds.ensures) c.as_slice.ensures c.deref-2.ensures.value c.in_ok-vars.ensures.exact c.are_all_among.ensures;
}
