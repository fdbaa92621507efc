use Rattle.std.proofs.Common.{map, sym, ap, ◌∙◌}
use Rattle.std.proofs.lemmas.Bool.{false≢true}
use Rattle.wt_form.specs.Parts.{ranges_list}
use Rattle.wt_form.specs.Views.{terms_seen, ranges_seen}
use Rattle.wt_facts.specs.Facts.{known_of}
use Rattle.wt_congruent.specs.Refs.{cond_behind}
use Rattle.wt_places.proofs.GainedLaws.{pushed}
use Rattle.wt_drops.proofs.DropLaws.{gained_fallen, absent_fallen}
use Rattle.wt_drops.proofs.dropping.push_fallen.Goals as goal
use Rattle.wt_drops.proofs.dropping.push_fallen.Goals.{then-branch+in_ok-push, else-branch}

pub returns : goal.returns
returns c =
    elim c.if-branch.branch [
      | then-branch+in_ok-push w ↦ gained_fallen (known_of c.args.facts.now) c.args.ks.now (ranges_list (ranges_seen c.args.term.now.ranges)) cond_behind c.args.refs.now c.deref.result.now c.args.j _ _ _
          (ap (λ o. map terms_seen o.items) w.out-is ∙ pushed terms_seen _ _ _ w.in_ok-push.ensures.items) c.requires c.index-refs-j.is (c.deref.ensures.value ∙ c.in_ok-others.ensures) (c.in_ok-cond_is_false.ensures.0 w.if-branch.true)
      | else-branch w ↦ absent_fallen (known_of c.args.facts.now) c.args.ks.now (ranges_list (ranges_seen c.args.term.now.ranges)) cond_behind c.args.refs.now c.deref.result.now c.args.j _ _ _
          (ap (λ o. map terms_seen o.items) w.out-is) c.index-refs-j.is (c.deref.ensures.value ∙ c.in_ok-others.ensures) (λ g. absurd (false≢true (sym w.if-branch.false ∙ c.in_ok-cond_is_false.ensures.1 g)))
    ]
