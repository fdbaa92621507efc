use Rattle.std.proofs.Common.{map, ap, ◌∙◌}
use Rattle.wt_form.specs.Views.{terms_seen, ranges_seen, conds_seen}
use Rattle.wt_facts.specs.Facts.{known_of}
use Rattle.wt_congruent.specs.Refs.{cond_behind}
use Rattle.wt_drops.proofs.DropLaws.{drops_turn}
use Rattle.wt_drops.proofs.dropping.drops.Goals as goal

pub returns : goal.returns
returns c = record {
  exact = λ us. drops_turn (known_of c.args.facts.now) (ranges_seen c.args.term.now.ranges) (conds_seen c.args.term.now.conds) c.args.term.now.pieces cond_behind c.deref.result.now c.deref-3.result.now c.deref-2.result.now c.deref-4.result.now
      _ _ _ (ap (map terms_seen) c.new-out.ensures.items) (c.deref.ensures.value ∙ c.in_ok-ks.ensures) (ap (map cond_behind) c.deref-2.ensures.value ∙ c.in_ok-refs.ensures)
      (c.deref-3.ensures.value ∙ c.in_ok-ks.ensures) (ap (map cond_behind) c.deref-4.ensures.value ∙ c.in_ok-refs.ensures)
      c.in_ok-push_all_dropped.ensures c.in_ok-push_all_fallen.ensures us;
}
