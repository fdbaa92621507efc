use Rattle.std.proofs.Common.{rules, ◌∙◌, ap, sym, subst, arith, refl, map, ◌↔◌, ◌≡◌, ◌++◌, ◌∷◌, [], ◌^◌, ◌-◌, true}
use Rattle.wt_bag.specs.Choices.{At, drop_at}
use Rattle.wt_form.specs.Congruent.{TermsSame, RangeSame, CondsSame, CondSame, pieces_same}
use Rattle.wt_form.specs.Views.{terms_seen, ranges_seen, range_seen, conds_seen, cond_seen, terms_list, terms_from, term_seen}
use Rattle.wt_facts.specs.Facts.{known_of}
use Rattle.wt_congruent.specs.Refs.{term_behind, range_behind, cond_behind, TermIs}
use Rattle.wt_congruent.proofs.Pairing.{at_within, hit, miss_first, miss_rest, one_more, terms_hit, terms_taken, at_get, whole_in, whole_not_in, whole_distinct, no_terms_left, empty_is}
use Rattle.wt_congruent.specs.Early.{GoesOn}
use Rattle.wt_congruent.proofs.Begins.{goes_by, goes_there, shorter}
use Rattle.wt_congruent.proofs.Shares.{unlike_term}
use Rattle.wt_congruent.proofs.same.+same.Goals as goal
use Rattle.wt_congruent.proofs.same.+same.Goals.{can_go_on-then-may_go_on+in_ok-same_range-in-More+then-branch+in_ok-fewer-in-More+in_ok-can_go_on-in-More+else-branch-2, can_go_on-else-may_go_on, can_go_on-else-may_go_on-via-then-may_go_on+in_ok-same_range-in-More+else-branch, can_go_on-else-may_go_on-via-else-may_go_on}
use Rattle.wt_congruent.proofs.same.+same.Goals.{same_conds-then-branch+in_ok-fewer-in-More+in_ok-same_conds-in-More+else-branch-2, same_conds-else-branch}
use Rattle.wt_congruent.proofs.same.+same.Goals.{same_terms-then-branch+in_ok-fewer-in-More+in_ok-same_terms-in-More+else-branch-2, same_terms-else-branch}

pub same_cond-returns-in_ok-same-in-In-d : goal.same_cond-returns-in_ok-same-in-In-d
same_cond-returns-in_ok-same-in-In-d t c =
    whole_in (known_of c.args.facts.now) c.args.ks.now c.in_ok-same-in-In-d.same (cond_seen c.args.c.now) (cond_seen c.args.d.now) c.in-In.x c.in-In-d.y c.in-In.f.value.head c.in-In-d.g.value.head (terms_seen c.in-In.f.value.terms) _ (terms_seen c.in-In-d.g.value.terms) _ _
    (ap cond_seen c.in-In.is) (ap cond_seen c.in-In-d.is) (search (rules, c.if-not-same_expr.false, c.same_expr-in-In-d.ensures)) (ap (map term_behind) c.as_slice.ensures.value) (c.in_ok-left-in-In-d.ensures ∙ ap (λ z. terms_list (terms_seen z.terms)) c.deref.ensures)
    (ap (λ z. terms_seen z.terms) c.deref-in-In-d.ensures) c.in_ok-same-in-In-d.ensures

pub same_cond-returns-in_ok-same-in-NotIn-d : goal.same_cond-returns-in_ok-same-in-NotIn-d
same_cond-returns-in_ok-same-in-NotIn-d t c =
    whole_not_in (known_of c.args.facts.now) c.args.ks.now c.in_ok-same-in-NotIn-d.same (cond_seen c.args.c.now) (cond_seen c.args.d.now) c.in-NotIn.x c.in-NotIn-d.y c.in-NotIn.f.value.head c.in-NotIn-d.g.value.head (terms_seen c.in-NotIn.f.value.terms) _ (terms_seen c.in-NotIn-d.g.value.terms) _ _
    (ap cond_seen c.in-NotIn.is) (ap cond_seen c.in-NotIn-d.is) (search (rules, c.if-not-same_expr-2.false, c.same_expr-in-NotIn-d.ensures)) (ap (map term_behind) c.as_slice-in-NotIn-d.ensures.value) (c.in_ok-left-in-NotIn-d.ensures ∙ ap (λ z. terms_list (terms_seen z.terms)) c.deref-in-NotIn-d.ensures)
    (ap (λ z. terms_seen z.terms) c.deref-in-NotIn-d-2.ensures) c.in_ok-same-in-NotIn-d.ensures

pub same_range-returns-in_ok-same-in-Distinct-other-2 : goal.same_range-returns-in_ok-same-in-Distinct-other-2
same_range-returns-in_ok-same-in-Distinct-other-2 t c =
    whole_distinct (known_of c.args.facts.now) c.in_ok-same-in-Distinct-other-2.same (range_seen c.args.range.now) (range_seen c.args.other.now) c.in-Distinct.f.value.head c.in-Distinct-other-2.g.value.head (terms_seen c.in-Distinct.f.value.terms) _ (terms_seen c.in-Distinct-other-2.g.value.terms) _ _
    (ap range_seen c.in-Distinct.is) (ap range_seen c.in-Distinct-other-2.is) (search (rules, c.if-not-same_head.false, c.same_head.ensures, c.as_slice.ensures, c.as_slice-in-Distinct-other-2.ensures, c.deref.ensures, c.deref-in-Distinct-other-2.ensures)) (ap (map term_behind) c.as_slice-in-Distinct-other-2-2.ensures.value) (c.in_ok-left-in-Distinct-other-2.ensures ∙ ap (λ z. terms_list (terms_seen z.terms)) c.deref-in-Distinct-other-2-2.ensures)
    (ap (λ z. terms_seen z.terms) c.deref-in-Distinct-other-2-3.ensures) c.in_ok-same-in-Distinct-other-2.ensures

pub same_conds-returns-then-branch-2 : goal.same_conds-returns-then-branch-2
same_conds-returns-then-branch-2 t c = (
  λ u. subst (λ z. CondsSame (known_of c.args.facts.now) c.args.ks.now (conds_seen z) (map cond_behind c.args.left.now)) (sym c.in-More.is)
      (hit (CondSame (known_of c.args.facts.now) c.args.ks.now (cond_seen c.in-More.c)) (λ z. CondsSame (known_of c.args.facts.now) c.args.ks.now (conds_seen z)) cond_behind c.args.left.now _ c.loop-j.j _ c.in-More.rest.value _ c.deref.ensures (omega arith) c.index-left-j.is
      (c.as_slice.ensures.value ∙ c.in_ok-fewer-in-More.ensures) (c.in_ok-same_cond-in-More.ensures.0 c.if-branch.true) (c.in_ok-same_conds-in-More.ensures.0 c.if-branch-2.true)),
  λ u. refl,
)

pub same_conds-loop-j-preserved : goal.same_conds-loop-j-preserved
same_conds-loop-j-preserved t c =
    one_more (λ i. At (CondSame (known_of c.args.facts.now) c.args.ks.now (cond_seen c.in-More.c)) i (map cond_behind c.args.left.now) × CondsSame (known_of c.args.facts.now) c.args.ks.now (conds_seen c.in-More.rest.value) (drop_at i (map cond_behind c.args.left.now))) c.loop-j.j c.loop-j.invariant
    (elim c.if-branch.branch [
      | same_conds-then-branch+in_ok-fewer-in-More+in_ok-same_conds-in-More+else-branch-2 w ↦ miss_rest (CondSame (known_of c.args.facts.now) c.args.ks.now (cond_seen c.in-More.c)) (λ z. CondsSame (known_of c.args.facts.now) c.args.ks.now (conds_seen z)) cond_behind c.args.left.now _ c.loop-j.j c.in-More.rest.value _ w.deref.ensures (w.as_slice.ensures.value ∙ w.in_ok-fewer-in-More.ensures) (λ q. search (rules, w.if-branch-2.false, w.in_ok-same_conds-in-More.ensures.1 q))
      | same_conds-else-branch w ↦ miss_first (CondSame (known_of c.args.facts.now) c.args.ks.now (cond_seen c.in-More.c)) (CondsSame (known_of c.args.facts.now) c.args.ks.now (conds_seen c.in-More.rest.value)) cond_behind c.args.left.now c.loop-j.j _ c.index-left-j.is (λ p. search (rules, w.if-branch.false, c.in_ok-same_cond-in-More.ensures.1 p))
    ])

pub same_conds-returns-after-loop-j : goal.same_conds-returns-after-loop-j
same_conds-returns-after-loop-j t c = (
  λ u. cc,
  λ p.
      let h = subst (λ z. CondsSame (known_of c.args.facts.now) c.args.ks.now (conds_seen z) (map cond_behind c.args.left.now)) c.in-More.is p in
      let l = at_within _ cond_behind c.args.left.now h.0 h.1 in
      absurd (c.loop-j.invariant h.0 (omega (arith, l)) (h.1, h.2)),
)

pub can_go_on-returns-then-branch-2 : goal.can_go_on-returns-then-branch-2
can_go_on-returns-then-branch-2 t c = (
  λ u. subst (λ z. GoesOn (known_of c.args.facts.now) c.args.ks.now (ranges_seen z) (map range_behind c.args.left.now) (conds_seen c.args.conds.now) c.args.pieces.now (map cond_behind c.args.others.now) c.args.values.now) (sym c.in-More.is)
      (goes_by (known_of c.args.facts.now) range_behind c.args.left.now _ c.loop-j.j _ c.args.ks.now _ (range_seen c.in-More.range) (ranges_seen c.in-More.rest.value) _ (conds_seen c.args.conds.now) c.args.pieces.now (map cond_behind c.args.others.now) c.args.values.now (ap ranges_seen c.deref.ensures) (omega arith) c.index-left-j.is
      (c.as_slice-fewer.ensures.value ∙ c.in_ok-fewer-in-More.ensures) (c.as_slice-ks.ensures ∙ c.in_ok-longer-in-More.ensures) (c.in_ok-same_range-in-More.ensures.0 c.if-branch.true) (c.in_ok-can_go_on-in-More.ensures.0 c.if-branch-2.true)),
  λ u. refl,
)

pub can_go_on-loop-j-preserved : goal.can_go_on-loop-j-preserved
can_go_on-loop-j-preserved t c =
    one_more (λ i. At (RangeSame (known_of c.args.facts.now) (range_seen c.in-More.range)) i (map range_behind c.args.left.now) × GoesOn (known_of c.args.facts.now) (c.args.ks.now ++ i ∷ []) (ranges_seen c.in-More.rest.value) (drop_at i (map range_behind c.args.left.now)) (conds_seen c.args.conds.now) c.args.pieces.now (map cond_behind c.args.others.now) c.args.values.now) c.loop-j.j c.loop-j.invariant
    (elim c.if-may_go_on.branch [
      | can_go_on-then-may_go_on+in_ok-same_range-in-More+then-branch+in_ok-fewer-in-More+in_ok-can_go_on-in-More+else-branch-2 w ↦ λ p. search (
        rules,
        w.if-branch-2.false,
        w.in_ok-can_go_on-in-More.ensures.1 (goes_there (known_of c.args.facts.now) range_behind c.args.left.now _ c.loop-j.j c.args.ks.now _ (ranges_seen c.in-More.rest.value) _ (conds_seen c.args.conds.now) c.args.pieces.now (map cond_behind c.args.others.now) c.args.values.now (ap ranges_seen w.deref.ensures) (w.as_slice-fewer.ensures.value ∙ w.in_ok-fewer-in-More.ensures) (c.as_slice-ks.ensures ∙ c.in_ok-longer-in-More.ensures) p.1),
      )
      | can_go_on-else-may_go_on w ↦ elim w.else-may_go_on.branch [
        | can_go_on-else-may_go_on-via-then-may_go_on+in_ok-same_range-in-More+else-branch v ↦ λ p. search (rules, v.if-branch.false, v.in_ok-same_range-in-More.ensures.1 (at_get (RangeSame (known_of c.args.facts.now) (range_seen c.in-More.range)) range_behind c.args.left.now c.loop-j.j _ v.index-left-j.is p.0))
        | can_go_on-else-may_go_on-via-else-may_go_on v ↦ λ p. search (
          rules,
          v.if-may_go_on.false,
          c.may_go_on.ensures p.1.0 (subst (λ z. CondsSame (known_of c.args.facts.now) (z ++ p.1.0) (conds_seen c.args.conds.now) (map cond_behind c.args.others.now)) (sym (c.as_slice-ks.ensures ∙ c.in_ok-longer-in-More.ensures)) p.1.2)
              (subst (λ z. pieces_same (known_of c.args.facts.now) (z ++ p.1.0) c.args.pieces.now c.args.values.now ≡ true) (sym (c.as_slice-ks.ensures ∙ c.in_ok-longer-in-More.ensures)) p.1.3),
        )
      ]
    ])

pub can_go_on-returns-after-loop-j : goal.can_go_on-returns-after-loop-j
can_go_on-returns-after-loop-j t c = (
  λ u. cc,
  λ p.
      let h = shorter (known_of c.args.facts.now) c.args.ks.now (range_seen c.in-More.range) (ranges_seen c.in-More.rest.value) (map range_behind c.args.left.now) (conds_seen c.args.conds.now) c.args.pieces.now (map cond_behind c.args.others.now) c.args.values.now (subst (λ z. GoesOn (known_of c.args.facts.now) c.args.ks.now (ranges_seen z) (map range_behind c.args.left.now) (conds_seen c.args.conds.now) c.args.pieces.now (map cond_behind c.args.others.now) c.args.values.now) c.in-More.is p) in
      let l = at_within _ range_behind c.args.left.now h.0 h.1 in
      absurd (c.loop-j.invariant h.0 (omega (arith, l)) (h.1, h.2)),
)

pub same_term-returns-then-term_print : goal.same_term-returns-then-term_print
same_term-returns-then-term_print t c = (
  λ u. cc,
  λ h. absurd (unlike_term c.args.facts.now (term_seen c.args.term.now) (term_seen c.args.other.now) _ _ (2 ^ 64 - 1) c.term_print.ensures c.term_print-2.ensures c.if-term_print.true h),
)

pub same_terms-returns-in-Empty : goal.same_terms-returns-in-Empty
same_terms-returns-in-Empty t c =
    subst (λ z. (c.is_empty.result ≡ true) ↔ TermsSame (known_of c.args.facts.now) (terms_seen z) (terms_from (map term_behind c.args.left.now))) (sym c.in-Empty.is) (no_terms_left c.is_empty.result (map term_behind c.args.left.now) (empty_is term_behind c.args.left.now c.is_empty.result c.is_empty.ensures))

pub same_terms-returns-then-branch-2 : goal.same_terms-returns-then-branch-2
same_terms-returns-then-branch-2 t c = (
  λ u. subst (λ z. TermsSame (known_of c.args.facts.now) (terms_seen z) (terms_from (map term_behind c.args.left.now))) (sym c.in-More.is)
      (terms_hit (known_of c.args.facts.now) (term_seen c.in-More.term.value) (terms_seen c.in-More.rest.value) (map term_behind c.args.left.now) (hit (TermIs (known_of c.args.facts.now) (term_seen c.in-More.term.value)) (λ z us. TermsSame (known_of c.args.facts.now) (terms_seen z) (terms_from us)) term_behind c.args.left.now _ c.loop-k.k _ c.in-More.rest.value _ c.deref-then-branch.ensures (omega arith) c.index-left-k.is
      (c.as_slice.ensures.value ∙ c.in_ok-fewer-in-More.ensures) (subst (λ z. TermIs (known_of c.args.facts.now) (term_seen z) (term_behind c.index-left-k.result)) c.deref.ensures (c.in_ok-same_term-in-More.ensures.0 c.if-branch.true)) (c.in_ok-same_terms-in-More.ensures.0 c.if-branch-2.true))),
  λ u. refl,
)

pub same_terms-loop-k-preserved : goal.same_terms-loop-k-preserved
same_terms-loop-k-preserved t c =
    one_more (λ i. At (TermIs (known_of c.args.facts.now) (term_seen c.in-More.term.value)) i (map term_behind c.args.left.now) × TermsSame (known_of c.args.facts.now) (terms_seen c.in-More.rest.value) (terms_from (drop_at i (map term_behind c.args.left.now)))) c.loop-k.k c.loop-k.invariant
    (elim c.if-branch.branch [
      | same_terms-then-branch+in_ok-fewer-in-More+in_ok-same_terms-in-More+else-branch-2 w ↦ miss_rest (TermIs (known_of c.args.facts.now) (term_seen c.in-More.term.value)) (λ z us. TermsSame (known_of c.args.facts.now) (terms_seen z) (terms_from us)) term_behind c.args.left.now _ c.loop-k.k c.in-More.rest.value _ w.deref-then-branch.ensures (w.as_slice.ensures.value ∙ w.in_ok-fewer-in-More.ensures) (λ q. search (rules, w.if-branch-2.false, w.in_ok-same_terms-in-More.ensures.1 q))
      | same_terms-else-branch w ↦ miss_first (TermIs (known_of c.args.facts.now) (term_seen c.in-More.term.value)) (λ us. TermsSame (known_of c.args.facts.now) (terms_seen c.in-More.rest.value) (terms_from us)) term_behind c.args.left.now c.loop-k.k _ c.index-left-k.is (λ p. search (rules, w.if-branch.false, c.in_ok-same_term-in-More.ensures.1 (subst (λ z. TermIs (known_of c.args.facts.now) (term_seen z) (term_behind c.index-left-k.result)) (sym c.deref.ensures) p)))
    ])

pub same_terms-returns-after-loop-k : goal.same_terms-returns-after-loop-k
same_terms-returns-after-loop-k t c = (
  λ u. cc,
  λ p.
      let h = terms_taken (known_of c.args.facts.now) (term_seen c.in-More.term.value) (terms_seen c.in-More.rest.value) (map term_behind c.args.left.now) (subst (λ z. TermsSame (known_of c.args.facts.now) (terms_seen z) (terms_from (map term_behind c.args.left.now))) c.in-More.is p) in
      let l = at_within _ term_behind c.args.left.now h.0 h.1 in
      absurd (c.loop-k.invariant h.0 (omega (arith, l)) (h.1, h.2)),
)
