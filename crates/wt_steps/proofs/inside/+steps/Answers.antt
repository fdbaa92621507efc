use Rattle.std.proofs.Common.{ap, map, subst, sym, ◌≡◌, ◌↔◌, ◌++◌, true}
use Rattle.wt_bag.specs.Choices.{Has}
use Rattle.wt_form.specs.Trees.{Terms, Ranges, Conds, term_then, range_then, cond_then, distinct_of, is_in, not_in}
use Rattle.wt_form.specs.Parts.{terms_append}
use Rattle.wt_form.specs.Steps.{Row, PairRow, TermsStep, RangesStep, CondsStep}
use Rattle.wt_form.specs.Views.{terms_seen, ranges_seen, range_seen, conds_seen, cond_seen}
use Rattle.wt_facts.specs.Facts.{known_of}
use Rattle.wt_two_terms.specs.Pairs.{TwoStep}
use Rattle.wt_steps.specs.Inside.{RangeStep, CondStep}
use Rattle.wt_steps.proofs.PlaceSteps.{steps_of, ranges_steps_of, conds_steps_of, wrapped, sub_both, sub_form}
use Rattle.wt_steps.proofs.inside.+steps.Goals as goal

pub steps_of_terms-returns-in_ok-put_conds-in-More : goal.steps_of_terms-returns-in_ok-put_conds-in-More
steps_of_terms-returns-in_ok-put_conds-in-More t c us =
    subst (λ z. Has us (map terms_seen c.put_conds.new.out.items) ↔ TermsStep (Row (known_of c.args.facts.now)) (PairRow (known_of c.args.facts.now)) c.args.nested (terms_seen z) us) (sym c.in-More.is)
    (steps_of (known_of c.args.facts.now) c.args.nested (ranges_seen c.in-More.term.value.ranges) (conds_seen c.in-More.term.value.conds) c.in-More.term.value.pieces (terms_seen c.in-More.rest.value) (map terms_seen c.in_ok-here-in-More.here.items) (map terms_seen c.in_ok-later-in-More.later.items) (map terms_seen c.in_ok-out-in-More.out.items) (map terms_seen c.put_before.new.out.items) (map terms_seen c.put_after.new.out.items) (map terms_seen c.put_ranges.new.out.items) (map terms_seen c.put_conds.new.out.items) (map ranges_seen c.in_ok-ranges-in-More.ranges.items) (map conds_seen c.in_ok-conds-in-More.conds.items)
    (sub_both (λ t r. (us : Terms) → (Has us (map terms_seen c.in_ok-out-in-More.out.items) ↔ TwoStep (known_of c.args.facts.now) c.args.nested (ranges_seen t.ranges) (conds_seen t.conds) t.pieces (terms_seen r) us)) c.deref.ensures c.deref-in-More.ensures c.in_ok-out-in-More.ensures)
    (sub_both (λ t r. (map terms_seen c.put_before.new.out.items) ≡ (map terms_seen c.in_ok-out-in-More.out.items) ++ map (λ us. terms_append us (terms_seen r)) (map terms_seen c.in_ok-here-in-More.here.items)) c.deref.ensures c.deref-in-More-3.ensures c.in_ok-put_before-in-More.ensures)
    (sub_both (λ t r. (us : Terms) → (Has us (map terms_seen c.in_ok-here-in-More.here.items) ↔ Row (known_of c.args.facts.now) c.args.nested (ranges_seen t.ranges) (conds_seen t.conds) t.pieces us)) c.deref-in-More-2.ensures c.deref-in-More.ensures c.in_ok-here-in-More.ensures)
    (sub_both (λ t r. (map terms_seen c.put_after.new.out.items) ≡ (map terms_seen c.put_before.new.out.items) ++ map (term_then (ranges_seen t.ranges) (conds_seen t.conds) t.pieces) (map terms_seen c.in_ok-later-in-More.later.items)) c.deref-in-More-5.ensures c.deref-in-More.ensures c.in_ok-put_after-in-More.ensures)
    (sub_both (λ t r. (us : Terms) → (Has us (map terms_seen c.in_ok-later-in-More.later.items) ↔ TermsStep (Row (known_of c.args.facts.now)) (PairRow (known_of c.args.facts.now)) c.args.nested (terms_seen r) us)) c.deref.ensures c.deref-in-More-4.ensures c.in_ok-later-in-More.ensures)
    (sub_both (λ t r. (map terms_seen c.put_ranges.new.out.items) ≡ (map terms_seen c.put_after.new.out.items) ++ map (λ rs. term_then rs (conds_seen t.conds) t.pieces (terms_seen r)) (map ranges_seen c.in_ok-ranges-in-More.ranges.items)) c.deref-in-More-7.ensures c.deref-in-More-8.ensures c.in_ok-put_ranges-in-More.ensures)
    (sub_both (λ t r. (us : Ranges) → (Has us (map ranges_seen c.in_ok-ranges-in-More.ranges.items) ↔ RangesStep (Row (known_of c.args.facts.now)) (PairRow (known_of c.args.facts.now)) (ranges_seen t.ranges) us)) c.deref-in-More-6.ensures c.deref-in-More.ensures c.in_ok-ranges-in-More.ensures)
    (sub_both (λ t r. (map terms_seen c.put_conds.new.out.items) ≡ (map terms_seen c.put_ranges.new.out.items) ++ map (λ cs. term_then (ranges_seen t.ranges) cs t.pieces (terms_seen r)) (map conds_seen c.in_ok-conds-in-More.conds.items)) c.deref-in-More-10.ensures c.deref-in-More-11.ensures c.in_ok-put_conds-in-More.ensures)
    (sub_both (λ t r. (us : Conds) → (Has us (map conds_seen c.in_ok-conds-in-More.conds.items) ↔ CondsStep (Row (known_of c.args.facts.now)) (PairRow (known_of c.args.facts.now)) (conds_seen t.conds) us)) c.deref-in-More-9.ensures c.deref-in-More.ensures c.in_ok-conds-in-More.ensures)
    us)

pub steps_of_cond-returns-in_ok-put_in-in-In : goal.steps_of_cond-returns-in_ok-put_in-in-In
steps_of_cond-returns-in_ok-put_in-in-In t c us =
    subst (λ z. Has us (map cond_seen c.put_in.new.out.items) ↔ CondStep (known_of c.args.facts.now) (cond_seen z) us) (sym c.in-In.is)
    (wrapped (is_in c.in-In.x c.in-In.f.value.head) (map terms_seen c.in_ok-inner-in-In.inner.items) (map cond_seen c.new-out.result.items) (map cond_seen c.put_in.new.out.items) (TermsStep (Row (known_of c.args.facts.now)) (PairRow (known_of c.args.facts.now)) true (terms_seen c.in-In.f.value.terms)) (ap (map cond_seen) c.new-out.ensures.items)
    (sub_form (λ z. map cond_seen c.put_in.new.out.items ≡ map cond_seen c.new-out.result.items ++ map (is_in c.in-In.x z.head) (map terms_seen c.in_ok-inner-in-In.inner.items)) c.deref-in-In.ensures c.in_ok-put_in-in-In.ensures)
    (sub_form (λ z. (us : Terms) → (Has us (map terms_seen c.in_ok-inner-in-In.inner.items) ↔ TermsStep (Row (known_of c.args.facts.now)) (PairRow (known_of c.args.facts.now)) true (terms_seen z.terms) us)) c.deref.ensures c.in_ok-inner-in-In.ensures) us)

pub steps_of_cond-returns-in_ok-put_not_in-in-NotIn : goal.steps_of_cond-returns-in_ok-put_not_in-in-NotIn
steps_of_cond-returns-in_ok-put_not_in-in-NotIn t c us =
    subst (λ z. Has us (map cond_seen c.put_not_in.new.out.items) ↔ CondStep (known_of c.args.facts.now) (cond_seen z) us) (sym c.in-NotIn.is)
    (wrapped (not_in c.in-NotIn.x c.in-NotIn.f.value.head) (map terms_seen c.in_ok-inner-in-NotIn.inner.items) (map cond_seen c.new-out.result.items) (map cond_seen c.put_not_in.new.out.items) (TermsStep (Row (known_of c.args.facts.now)) (PairRow (known_of c.args.facts.now)) true (terms_seen c.in-NotIn.f.value.terms)) (ap (map cond_seen) c.new-out.ensures.items)
    (sub_form (λ z. map cond_seen c.put_not_in.new.out.items ≡ map cond_seen c.new-out.result.items ++ map (not_in c.in-NotIn.x z.head) (map terms_seen c.in_ok-inner-in-NotIn.inner.items)) c.deref-in-NotIn-2.ensures c.in_ok-put_not_in-in-NotIn.ensures)
    (sub_form (λ z. (us : Terms) → (Has us (map terms_seen c.in_ok-inner-in-NotIn.inner.items) ↔ TermsStep (Row (known_of c.args.facts.now)) (PairRow (known_of c.args.facts.now)) true (terms_seen z.terms) us)) c.deref-in-NotIn.ensures c.in_ok-inner-in-NotIn.ensures) us)

pub steps_of_range-returns-in_ok-put_distinct-in-Distinct : goal.steps_of_range-returns-in_ok-put_distinct-in-Distinct
steps_of_range-returns-in_ok-put_distinct-in-Distinct t c us =
    subst (λ z. Has us (map range_seen c.put_distinct.new.out.items) ↔ RangeStep (known_of c.args.facts.now) (range_seen z) us) (sym c.in-Distinct.is)
    (wrapped (distinct_of c.in-Distinct.f.value.head) (map terms_seen c.in_ok-inner-in-Distinct.inner.items) (map range_seen c.new-out.result.items) (map range_seen c.put_distinct.new.out.items) (TermsStep (Row (known_of c.args.facts.now)) (PairRow (known_of c.args.facts.now)) true (terms_seen c.in-Distinct.f.value.terms)) (ap (map range_seen) c.new-out.ensures.items)
    (sub_form (λ z. map range_seen c.put_distinct.new.out.items ≡ map range_seen c.new-out.result.items ++ map (distinct_of z.head) (map terms_seen c.in_ok-inner-in-Distinct.inner.items)) c.deref-in-Distinct.ensures c.in_ok-put_distinct-in-Distinct.ensures)
    (sub_form (λ z. (us : Terms) → (Has us (map terms_seen c.in_ok-inner-in-Distinct.inner.items) ↔ TermsStep (Row (known_of c.args.facts.now)) (PairRow (known_of c.args.facts.now)) true (terms_seen z.terms) us)) c.deref.ensures c.in_ok-inner-in-Distinct.ensures) us)

pub steps_of_conds-returns-in_ok-put_cond_first-in-More : goal.steps_of_conds-returns-in_ok-put_cond_first-in-More
steps_of_conds-returns-in_ok-put_cond_first-in-More t c us =
    subst (λ z. Has us (map conds_seen c.put_cond_first.new.out.items) ↔ CondsStep (Row (known_of c.args.facts.now)) (PairRow (known_of c.args.facts.now)) (conds_seen z) us) (sym c.in-More.is)
    (conds_steps_of (known_of c.args.facts.now) (cond_seen c.in-More.cond) (conds_seen c.in-More.rest.value) (map cond_seen c.in_ok-here-in-More.here.items) (map conds_seen c.in_ok-later-in-More.later.items) (map conds_seen c.new-out.result.items) (map conds_seen c.put_cond.new.out.items) (map conds_seen c.put_cond_first.new.out.items) (ap (map conds_seen) c.new-out.ensures.items)
    (subst (λ z. (map conds_seen c.put_cond.new.out.items) ≡ (map conds_seen c.new-out.result.items) ++ map (λ s. cond_then s (conds_seen z)) (map cond_seen c.in_ok-here-in-More.here.items)) c.deref.ensures c.in_ok-put_cond-in-More.ensures) c.in_ok-here-in-More.ensures
    c.in_ok-put_cond_first-in-More.ensures (subst (λ z. (us : Conds) → (Has us (map conds_seen c.in_ok-later-in-More.later.items) ↔ CondsStep (Row (known_of c.args.facts.now)) (PairRow (known_of c.args.facts.now)) (conds_seen z) us)) c.deref-in-More.ensures c.in_ok-later-in-More.ensures) us)

pub steps_of_ranges-returns-in_ok-put_range_first-in-More : goal.steps_of_ranges-returns-in_ok-put_range_first-in-More
steps_of_ranges-returns-in_ok-put_range_first-in-More t c us =
    subst (λ z. Has us (map ranges_seen c.put_range_first.new.out.items) ↔ RangesStep (Row (known_of c.args.facts.now)) (PairRow (known_of c.args.facts.now)) (ranges_seen z) us) (sym c.in-More.is)
    (ranges_steps_of (known_of c.args.facts.now) (range_seen c.in-More.range) (ranges_seen c.in-More.rest.value) (map range_seen c.in_ok-here-in-More.here.items) (map ranges_seen c.in_ok-later-in-More.later.items) (map ranges_seen c.new-out.result.items) (map ranges_seen c.put_range.new.out.items) (map ranges_seen c.put_range_first.new.out.items) (ap (map ranges_seen) c.new-out.ensures.items)
    (subst (λ z. (map ranges_seen c.put_range.new.out.items) ≡ (map ranges_seen c.new-out.result.items) ++ map (λ s. range_then s (ranges_seen z)) (map range_seen c.in_ok-here-in-More.here.items)) c.deref.ensures c.in_ok-put_range-in-More.ensures) c.in_ok-here-in-More.ensures
    c.in_ok-put_range_first-in-More.ensures (subst (λ z. (us : Ranges) → (Has us (map ranges_seen c.in_ok-later-in-More.later.items) ↔ RangesStep (Row (known_of c.args.facts.now)) (PairRow (known_of c.args.facts.now)) (ranges_seen z) us)) c.deref-in-More.ensures c.in_ok-later-in-More.ensures) us)
