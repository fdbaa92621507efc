use Rattle.std.proofs.Common.{rules, map, ap, sym, ◌∙◌, ◌++◌, ◌∷◌, []}
use Rattle.std.proofs.lemmas.Bool.{false≢true}
use Rattle.wt_form.specs.Views.{terms_seen, ranges_seen, conds_seen, cond_seen}
use Rattle.wt_congruent.specs.Refs.{cond_behind}
use Rattle.wt_places.proofs.GainedLaws.{gained_none}
use Rattle.wt_joining.proofs.Lists.{same_term, on_ok}
use Rattle.wt_joining.proofs.WritingLaws.{gained_written}
use Rattle.wt_joining.specs.Writing.{WrittenBy}
use Rattle.std.proofs.Common.{refl}
use Rattle.wt_joining.proofs.writing.push_written.Goals as goal

pub returns-then-are_of_term : goal.returns-then-are_of_term
returns-then-are_of_term c =
    let h = c.are_of_term.ensures.0 c.if-are_of_term.true in
    gained_none (map terms_seen c.args.out.now.items) _ (WrittenBy (ranges_seen c.args.term.now.ranges) (conds_seen c.args.term.now.conds) c.args.term.now.pieces (map cond_behind c.args.before.now) (cond_seen c.args.join.now) (map cond_behind c.args.after.now) c.args.e c.args.old)
    refl (λ us p. p.1 (sym c.in_ok-conds.ensures ∙ h.0, sym c.in_ok-pieces.ensures ∙ h.1))

pub returns : goal.returns
returns c =
    on_ok c.push_term.result _ _
    (λ n. gained_written (ranges_seen c.args.term.now.ranges) (conds_seen c.args.term.now.conds) c.args.term.now.pieces (map cond_behind c.args.before.now) (cond_seen c.args.join.now) (map cond_behind c.args.after.now) c.args.e c.args.old (map terms_seen c.args.out.now.items) _
    (n ∙ ap (λ z. map terms_seen c.args.out.now.items ++ z ∷ []) (same_term _ _ _ _ _ _ c.in_ok-copy.ensures c.in_ok-conds.ensures c.in_ok-pieces.ensures))
    (search (rules, c.if-not-is_before.false, c.is_before.ensures))
    (λ h. absurd (false≢true (sym c.if-are_of_term.false ∙ c.are_of_term.ensures.1 (c.in_ok-conds.ensures ∙ h.0, c.in_ok-pieces.ensures ∙ h.1)))))
    c.push_term.ensures
