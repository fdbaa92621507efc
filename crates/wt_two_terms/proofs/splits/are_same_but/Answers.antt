use Rattle.std.proofs.Common.{map, ap, sym, subst, ◌∙◌, ◌≡◌, true, arith, refl}
use Rattle.std.proofs.lemmas.Bool.{false≢true}
use Rattle.wt_form.specs.Congruent.{CondsSame, expr_same, pieces_same}
use Rattle.wt_form.specs.Views.{conds_seen, term_seen}
use Rattle.wt_facts.specs.Facts.{known_of}
use Rattle.wt_congruent.specs.Refs.{cond_behind, range_behind}
use Rattle.wt_congruent.proofs.Pairing.{no_way}
use Rattle.wt_two_terms.proofs.SplitLaws.{but_hit, but_none}
use Rattle.wt_two_terms.proofs.splits.are_same_but.Goals as goal
use Rattle.wt_two_terms.proofs.splits.are_same_but.Goals.{then-fit+in_ok-same_conds+else-branch, else-fit}

pub returns-then-branch : goal.returns-then-branch
returns-then-branch c = (
  λ u. but_hit (known_of c.args.facts.now) (term_seen c.args.term.now) (term_seen c.args.other.now) (conds_seen c.args.conds.now) (map cond_behind c.args.left.now) c.args.e c.args.f c.in_ok-ways.ways.items c.loop-i.i c.index.result.now c.as_slice-ks.result.now c.as_slice-ks.result.now _ _ (omega arith) c.index.ensures
      c.as_slice-ks.ensures c.as_slice-ks.ensures (ap (map range_behind) c.as_slice.ensures.value) c.in_ok-ranges.ensures c.in_ok-ways.ensures (c.in_ok-same_conds.ensures.0 c.if-branch.true)
      (let h = c.fit.ensures.0 c.if-fit.true in
      (h.0, subst (λ z. pieces_same (known_of c.args.facts.now) c.as_slice-ks.result.now c.args.term.now.pieces z ≡ true) c.as_slice-in-loop-i-2.ensures (subst (λ z. pieces_same (known_of c.args.facts.now) c.as_slice-ks.result.now z c.as_slice-in-loop-i-2.result.now ≡ true) c.as_slice-in-loop-i.ensures h.1))),
  λ u. refl,
)

pub loop-i-preserved : goal.loop-i-preserved
loop-i-preserved c =
    no_way (λ ks. CondsSame (known_of c.args.facts.now) ks (conds_seen c.args.conds.now) (map cond_behind c.args.left.now) × (expr_same (known_of c.args.facts.now) ks c.args.e c.args.f ≡ true) × (pieces_same (known_of c.args.facts.now) ks c.args.term.now.pieces c.args.other.now.pieces ≡ true)) c.in_ok-ways.ways.items c.loop-i.i c.index.result.now (omega arith) c.index.ensures
    (elim c.if-fit.branch [
      | then-fit+in_ok-same_conds+else-branch w ↦ λ p. absurd (false≢true (sym w.if-branch.false ∙ w.in_ok-same_conds.ensures.1 (subst (λ z. CondsSame (known_of c.args.facts.now) z (conds_seen c.args.conds.now) (map cond_behind c.args.left.now)) (sym c.as_slice-ks.ensures) p.0)))
      | else-fit w ↦ λ p. absurd (false≢true (sym w.if-fit.false ∙ c.fit.ensures.1 (
        subst (λ z. expr_same (known_of c.args.facts.now) z c.args.e c.args.f ≡ true) (sym c.as_slice-ks.ensures) p.1,
        subst (λ z. pieces_same (known_of c.args.facts.now) c.as_slice-ks.result.now z c.as_slice-in-loop-i-2.result.now ≡ true) (sym c.as_slice-in-loop-i.ensures) (subst (λ z. pieces_same (known_of c.args.facts.now) c.as_slice-ks.result.now c.args.term.now.pieces z ≡ true) (sym c.as_slice-in-loop-i-2.ensures) (subst (λ z. pieces_same (known_of c.args.facts.now) z c.args.term.now.pieces c.args.other.now.pieces ≡ true) (sym c.as_slice-ks.ensures) p.2)),
      )))
    ]) c.loop-i.invariant

pub returns : goal.returns
returns c = (
  λ u. absurd (false≢true u),
  λ h. absurd (but_none (known_of c.args.facts.now) (term_seen c.args.term.now) (term_seen c.args.other.now) (conds_seen c.args.conds.now) (map cond_behind c.args.left.now) c.args.e c.args.f c.in_ok-ways.ways.items c.loop-i.i _ _ (omega arith) (ap (map range_behind) c.as_slice.ensures.value) c.in_ok-ranges.ensures c.in_ok-ways.ensures c.loop-i.invariant h),
)
