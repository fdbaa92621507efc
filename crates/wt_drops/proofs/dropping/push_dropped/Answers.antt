use Rattle.std.proofs.Common.{map, take, sym, ap, refl, ◌∙◌}
use Rattle.std.proofs.lemmas.Bool.{false≢true}
use Rattle.wt_form.specs.Parts.{one_term, ranges_list}
use Rattle.wt_form.specs.Views.{terms_seen, ranges_seen, term_seen}
use Rattle.wt_facts.specs.Facts.{known_of}
use Rattle.wt_congruent.specs.Refs.{cond_behind}
use Rattle.wt_places.specs.Lists.{conds_from}
use Rattle.wt_places.proofs.GainedLaws.{gained_without, absent_without}
use Rattle.wt_drops.specs.Drops.{Goes}
use Rattle.wt_drops.proofs.TruthLaws.{goes_there, goes_back}
use Rattle.wt_drops.proofs.dropping.push_dropped.Goals as goal
use Rattle.wt_drops.proofs.dropping.push_dropped.Goals.{then-branch+in_ok-push_without, else-branch}

pub returns : goal.returns
returns c =
    elim c.if-branch.branch [
      | then-branch+in_ok-push_without w ↦ gained_without (Goes (known_of c.args.facts.now) c.args.ks.now (ranges_list (ranges_seen c.args.term.now.ranges)) (map cond_behind c.args.refs.now)) (term_seen c.args.term.now) cond_behind c.args.refs.now c.in_ok-others.others.items c.args.j _ _ _ _
          (ap (λ o. map terms_seen o.items) w.out-is ∙ w.in_ok-push_without.ensures) c.requires c.index-refs-j.is
          (goes_there (known_of c.args.facts.now) c.args.ks.now (ranges_list (ranges_seen c.args.term.now.ranges)) cond_behind c.args.refs.now c.deref.result.now (take c.args.j c.args.refs.now) c.args.j _ (c.deref.ensures.value ∙ c.in_ok-others.ensures) refl (c.in_ok-goes.ensures.0 w.if-branch.true)) c.in_ok-others.ensures
          (ap (λ z. one_term (ranges_seen c.args.term.now.ranges) (conds_from (map cond_behind z)) c.args.term.now.pieces) w.deref-then-branch.ensures.value)
      | else-branch w ↦ absent_without (Goes (known_of c.args.facts.now) c.args.ks.now (ranges_list (ranges_seen c.args.term.now.ranges)) (map cond_behind c.args.refs.now)) (term_seen c.args.term.now) cond_behind c.args.refs.now c.args.j _ _ _ (ap (λ o. map terms_seen o.items) w.out-is) c.index-refs-j.is
          (λ g. absurd (false≢true (sym w.if-branch.false ∙ c.in_ok-goes.ensures.1 (goes_back (known_of c.args.facts.now) c.args.ks.now (ranges_list (ranges_seen c.args.term.now.ranges)) cond_behind c.args.refs.now c.deref.result.now (take c.args.j c.args.refs.now) c.args.j _ (c.deref.ensures.value ∙ c.in_ok-others.ensures) refl g))))
    ]
