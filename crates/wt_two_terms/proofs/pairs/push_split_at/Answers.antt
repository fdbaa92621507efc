use Rattle.std.proofs.Common.{map, ap, sym, ◌∙◌, ◌++◌, ◌∷◌, []}
use Rattle.std.proofs.lemmas.Bool.{false≢true}
use Rattle.wt_form.specs.Trees.{term_then}
use Rattle.wt_form.specs.Views.{terms_seen, ranges_seen, conds_seen, cond_seen, term_seen, terms_from}
use Rattle.wt_facts.specs.Facts.{known_of}
use Rattle.wt_congruent.specs.Refs.{term_behind, cond_behind}
use Rattle.wt_two_terms.proofs.PairLaws.{gained_inner, absent_inner}
use Rattle.wt_two_terms.proofs.pairs.push_split_at.Goals as goal
use Rattle.wt_two_terms.proofs.pairs.push_split_at.Goals.{then-branch+in_ok-copy+in_ok-push_before, else-branch}

pub returns : goal.returns
returns c =
    elim c.if-branch.branch [
      | then-branch+in_ok-copy+in_ok-push_before w ↦ gained_inner (known_of c.args.facts.now) (term_seen c.args.term.now) (cond_seen c.args.c.now) (conds_seen c.args.conds.now) (term_seen c.args.other.now) (terms_from (map term_behind c.args.rest.now)) cond_behind c.args.refs.now c.deref.result.now c.args.j _ (map terms_seen c.args.out.now.items) _
          (ap (λ o. map terms_seen o.items) w.out-is ∙ w.in_ok-push_before.ensures ∙ ap (λ z. map terms_seen c.args.out.now.items ++ term_then (ranges_seen c.args.term.now.ranges) z c.args.term.now.pieces (terms_from (map term_behind c.args.rest.now)) ∷ []) w.in_ok-copy.ensures)
          c.requires c.index-refs-j.is (c.deref.ensures.value ∙ c.in_ok-left.ensures) (c.in_ok-are_split.ensures.0 w.if-branch.true)
      | else-branch w ↦ absent_inner (known_of c.args.facts.now) (term_seen c.args.term.now) (cond_seen c.args.c.now) (conds_seen c.args.conds.now) (term_seen c.args.other.now) (terms_from (map term_behind c.args.rest.now)) cond_behind c.args.refs.now c.deref.result.now c.args.j _ (map terms_seen c.args.out.now.items) _
          (ap (λ o. map terms_seen o.items) w.out-is) c.index-refs-j.is (c.deref.ensures.value ∙ c.in_ok-left.ensures) (λ g. absurd (false≢true (sym w.if-branch.false ∙ c.in_ok-are_split.ensures.1 g)))
    ]
