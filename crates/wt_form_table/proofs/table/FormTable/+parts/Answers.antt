use Rattle.std.proofs.Common.{sym, ap, ◌∙◌, subst}
use Rattle.wt_form.specs.Views.{terms_seen, ranges_seen, range_seen, conds_seen, cond_seen}
use Rattle.wt_form_table.specs.Entries.{Goes, tables_of}
use Rattle.wt_form_table.specs.Spelled.{IsHead, IsPieces, IsTerms, IsRanges, IsRange, IsConds, IsCond}
use Rattle.wt_form_table.proofs.Numbers.{told, told_on, goes_further, value_stays, more_terms, more_ranges, more_conds, distinct_is, in_is, not_in_is}
use Rattle.wt_form_table.proofs.table.FormTable.+parts.Goals as goal

pub terms-returns-in_ok-after-in-More-clause-is : goal.terms-returns-in_ok-after-in-More-clause-is
terms-returns-in_ok-after-in-More-clause-is t c = told c.number-in-More.result _ _ (Goes (tables_of c.terms.new.self) (tables_of c.number-in-More.new.self))
    (λ n h goes. subst (λ z. IsTerms (tables_of c.number-in-More.new.self) n (terms_seen z)) (sym c.in-More.is)
    (more_terms (tables_of c.ranges-in-More.new.self) (tables_of c.conds.new.self) (tables_of c.pieces.new.self) (tables_of c.terms.new.self) (tables_of c.number-in-More.new.self) n c.in_ok-ranges-in-More.ranges c.in_ok-conds-in-More.conds c.in_ok-pieces-in-More.pieces c.in_ok-after-in-More.after _ _ _ _
    c.in_ok-conds-in-More.ensures.more c.in_ok-pieces-in-More.ensures.more c.in_ok-after-in-More.ensures.more goes
    (subst (λ f. IsRanges (tables_of c.ranges-in-More.new.self) c.in_ok-ranges-in-More.ranges (ranges_seen f.ranges)) c.deref.ensures c.in_ok-ranges-in-More.ensures.is)
    (subst (λ f. IsConds (tables_of c.conds.new.self) c.in_ok-conds-in-More.conds (conds_seen f.conds)) c.deref-in-More.ensures c.in_ok-conds-in-More.ensures.is)
    (subst (IsPieces (tables_of c.pieces.new.self) c.in_ok-pieces-in-More.pieces) (c.as_slice.ensures ∙ ap (λ f. f.pieces) c.deref-in-More-2.ensures) c.in_ok-pieces-in-More.ensures.is)
    (subst (λ z. IsTerms (tables_of c.terms.new.self) c.in_ok-after-in-More.after (terms_seen z)) c.deref-in-More-3.ensures c.in_ok-after-in-More.ensures.is) h)) c.number-in-More.ensures.first c.number-in-More.ensures.more

pub terms-returns-in_ok-after-in-More-clause-more : goal.terms-returns-in_ok-after-in-More-clause-more
terms-returns-in_ok-after-in-More-clause-more t c = told_on c.number-in-More.result (Goes (tables_of c.terms.new.self) (tables_of c.number-in-More.new.self)) (Goes (tables_of c.args.self.now) (tables_of c.number-in-More.new.self))
    (λ goes. goes_further (tables_of c.args.self.now) (tables_of c.ranges-in-More.new.self) (tables_of c.number-in-More.new.self) c.in_ok-ranges-in-More.ensures.more
    (goes_further (tables_of c.ranges-in-More.new.self) (tables_of c.conds.new.self) (tables_of c.number-in-More.new.self) c.in_ok-conds-in-More.ensures.more
    (goes_further (tables_of c.conds.new.self) (tables_of c.pieces.new.self) (tables_of c.number-in-More.new.self) c.in_ok-pieces-in-More.ensures.more
    (goes_further (tables_of c.pieces.new.self) (tables_of c.terms.new.self) (tables_of c.number-in-More.new.self) c.in_ok-after-in-More.ensures.more goes)))) c.number-in-More.ensures.more

pub ranges-returns-in_ok-after-in-More-clause-is : goal.ranges-returns-in_ok-after-in-More-clause-is
ranges-returns-in_ok-after-in-More-clause-is t c = told c.range.result _ _ (Goes (tables_of c.ranges-in-More.new.self) (tables_of c.range.new.self))
    (λ n h goes. subst (λ z. IsRanges (tables_of c.range.new.self) n (ranges_seen z)) (sym c.in-More.is)
    (more_ranges (tables_of c.ranges-in-More.new.self) (tables_of c.range.new.self) n c.in_ok-after-in-More.after _ _ goes (subst (λ z. IsRanges (tables_of c.ranges-in-More.new.self) c.in_ok-after-in-More.after (ranges_seen z)) c.deref.ensures c.in_ok-after-in-More.ensures.is) h)) c.range.ensures.is c.range.ensures.more

pub conds-returns-in_ok-after-in-More-clause-is : goal.conds-returns-in_ok-after-in-More-clause-is
conds-returns-in_ok-after-in-More-clause-is t c = told c.cond.result _ _ (Goes (tables_of c.conds.new.self) (tables_of c.cond.new.self))
    (λ n h goes. subst (λ z. IsConds (tables_of c.cond.new.self) n (conds_seen z)) (sym c.in-More.is)
    (more_conds (tables_of c.conds.new.self) (tables_of c.cond.new.self) n c.in_ok-after-in-More.after _ _ goes (subst (λ z. IsConds (tables_of c.conds.new.self) c.in_ok-after-in-More.after (conds_seen z)) c.deref.ensures c.in_ok-after-in-More.ensures.is) h)) c.cond.ensures.is c.cond.ensures.more

pub cond-returns-in_ok-value-in-Pred-clause-is : goal.cond-returns-in_ok-value-in-Pred-clause-is
cond-returns-in_ok-value-in-Pred-clause-is t c = told c.tested.result _ _ (Goes (tables_of c.value.new.self) (tables_of c.tested.new.self))
    (λ n h goes. subst (λ z. IsCond (tables_of c.tested.new.self) n (cond_seen z) c.args.after) (sym c.in-Pred.is)
    (c.in_ok-value-in-Pred.value, value_stays (tables_of c.value.new.self) (tables_of c.tested.new.self) goes c.in_ok-value-in-Pred.value _ c.in_ok-value-in-Pred.ensures.first, h)) c.tested.ensures.is c.tested.ensures.more

pub cond-returns-in_ok-right-in-Join-clause-is : goal.cond-returns-in_ok-right-in-Join-clause-is
cond-returns-in_ok-right-in-Join-clause-is t c = told c.tested-in-Join.result _ _ (Goes (tables_of c.value-in-Join-2.new.self) (tables_of c.tested-in-Join.new.self))
    (λ n h goes. subst (λ z. IsCond (tables_of c.tested-in-Join.new.self) n (cond_seen z) c.args.after) (sym c.in-Join.is) (
      c.in_ok-left-in-Join.left,
      c.in_ok-right-in-Join.right,
      value_stays (tables_of c.value-in-Join.new.self) (tables_of c.tested-in-Join.new.self) (goes_further (tables_of c.value-in-Join.new.self) (tables_of c.value-in-Join-2.new.self) (tables_of c.tested-in-Join.new.self) c.in_ok-right-in-Join.ensures.more goes) c.in_ok-left-in-Join.left _ c.in_ok-left-in-Join.ensures.first,
      value_stays (tables_of c.value-in-Join-2.new.self) (tables_of c.tested-in-Join.new.self) goes c.in_ok-right-in-Join.right _ c.in_ok-right-in-Join.ensures.first,
      h,
    )) c.tested-in-Join.ensures.is c.tested-in-Join.ensures.more

pub range-returns-in_ok-form-in-Distinct-clause-is : goal.range-returns-in_ok-form-in-Distinct-clause-is
range-returns-in_ok-form-in-Distinct-clause-is t c = told c.list-in-Distinct.result _ _ (Goes (tables_of c.number.new.self) (tables_of c.list-in-Distinct.new.self))
    (λ n h goes. subst (λ z. IsRange (tables_of c.list-in-Distinct.new.self) n (range_seen z) c.args.after) (sym c.in-Distinct.is)
    (distinct_is (tables_of c.head.new.self) (tables_of c.terms.new.self) (tables_of c.number.new.self) (tables_of c.list-in-Distinct.new.self) c.in_ok-terms-in-Distinct.ensures.more c.in_ok-form-in-Distinct.ensures.more goes c.in_ok-head-in-Distinct.head c.in_ok-terms-in-Distinct.terms c.in_ok-form-in-Distinct.form _ _
    (subst (IsHead (tables_of c.head.new.self) c.in_ok-head-in-Distinct.head) (c.as_slice.ensures ∙ ap (λ f. f.head) c.deref.ensures) c.in_ok-head-in-Distinct.ensures.is)
    (subst (λ f. IsTerms (tables_of c.terms.new.self) c.in_ok-terms-in-Distinct.terms (terms_seen f.terms)) c.deref-in-Distinct.ensures c.in_ok-terms-in-Distinct.ensures.is) c.in_ok-form-in-Distinct.ensures.first n c.args.after h)) c.list-in-Distinct.ensures.is c.list-in-Distinct.ensures.more

pub range-returns-in_ok-form-in-Distinct-clause-more : goal.range-returns-in_ok-form-in-Distinct-clause-more
range-returns-in_ok-form-in-Distinct-clause-more t c = told_on c.list-in-Distinct.result (Goes (tables_of c.number.new.self) (tables_of c.list-in-Distinct.new.self)) (Goes (tables_of c.args.self.now) (tables_of c.list-in-Distinct.new.self))
    (λ goes. goes_further (tables_of c.args.self.now) (tables_of c.head.new.self) (tables_of c.list-in-Distinct.new.self) c.in_ok-head-in-Distinct.ensures.more
    (goes_further (tables_of c.head.new.self) (tables_of c.terms.new.self) (tables_of c.list-in-Distinct.new.self) c.in_ok-terms-in-Distinct.ensures.more
    (goes_further (tables_of c.terms.new.self) (tables_of c.number.new.self) (tables_of c.list-in-Distinct.new.self) c.in_ok-form-in-Distinct.ensures.more goes))) c.list-in-Distinct.ensures.more

pub cond-returns-in_ok-form-in-In-clause-is : goal.cond-returns-in_ok-form-in-In-clause-is
cond-returns-in_ok-form-in-In-clause-is t c = told c.tested-in-In.result _ _ (Goes (tables_of c.number.new.self) (tables_of c.tested-in-In.new.self))
    (λ n h goes. subst (λ z. IsCond (tables_of c.tested-in-In.new.self) n (cond_seen z) c.args.after) (sym c.in-In.is)
    (in_is (tables_of c.head.new.self) (tables_of c.terms.new.self) (tables_of c.number.new.self) (tables_of c.tested-in-In.new.self) c.in_ok-terms-in-In.ensures.more c.in_ok-form-in-In.ensures.more goes c.in_ok-head-in-In.head c.in_ok-terms-in-In.terms c.in_ok-form-in-In.form _ _
    (subst (IsHead (tables_of c.head.new.self) c.in_ok-head-in-In.head) (c.as_slice.ensures ∙ ap (λ f. f.head) c.deref.ensures) c.in_ok-head-in-In.ensures.is)
    (subst (λ f. IsTerms (tables_of c.terms.new.self) c.in_ok-terms-in-In.terms (terms_seen f.terms)) c.deref-in-In.ensures c.in_ok-terms-in-In.ensures.is) c.in_ok-form-in-In.ensures.first (tables_of c.value-in-In.new.self) c.in_ok-head-in-In.ensures.more c.in_ok-value-in-In.value _ c.in_ok-value-in-In.ensures.first n c.args.after h)) c.tested-in-In.ensures.is c.tested-in-In.ensures.more

pub cond-returns-in_ok-form-in-In-clause-more : goal.cond-returns-in_ok-form-in-In-clause-more
cond-returns-in_ok-form-in-In-clause-more t c = told_on c.tested-in-In.result (Goes (tables_of c.number.new.self) (tables_of c.tested-in-In.new.self)) (Goes (tables_of c.args.self.now) (tables_of c.tested-in-In.new.self))
    (λ goes. goes_further (tables_of c.args.self.now) (tables_of c.value-in-In.new.self) (tables_of c.tested-in-In.new.self) c.in_ok-value-in-In.ensures.more
    (goes_further (tables_of c.value-in-In.new.self) (tables_of c.head.new.self) (tables_of c.tested-in-In.new.self) c.in_ok-head-in-In.ensures.more
    (goes_further (tables_of c.head.new.self) (tables_of c.terms.new.self) (tables_of c.tested-in-In.new.self) c.in_ok-terms-in-In.ensures.more
    (goes_further (tables_of c.terms.new.self) (tables_of c.number.new.self) (tables_of c.tested-in-In.new.self) c.in_ok-form-in-In.ensures.more goes)))) c.tested-in-In.ensures.more

pub cond-returns-in_ok-form-in-NotIn-clause-is : goal.cond-returns-in_ok-form-in-NotIn-clause-is
cond-returns-in_ok-form-in-NotIn-clause-is t c = told c.tested-in-NotIn.result _ _ (Goes (tables_of c.number-in-NotIn.new.self) (tables_of c.tested-in-NotIn.new.self))
    (λ n h goes. subst (λ z. IsCond (tables_of c.tested-in-NotIn.new.self) n (cond_seen z) c.args.after) (sym c.in-NotIn.is)
    (not_in_is (tables_of c.head-in-NotIn.new.self) (tables_of c.terms-in-NotIn.new.self) (tables_of c.number-in-NotIn.new.self) (tables_of c.tested-in-NotIn.new.self) c.in_ok-terms-in-NotIn.ensures.more c.in_ok-form-in-NotIn.ensures.more goes c.in_ok-head-in-NotIn.head c.in_ok-terms-in-NotIn.terms c.in_ok-form-in-NotIn.form _ _
    (subst (IsHead (tables_of c.head-in-NotIn.new.self) c.in_ok-head-in-NotIn.head) (c.as_slice-in-NotIn.ensures ∙ ap (λ f. f.head) c.deref-in-NotIn.ensures) c.in_ok-head-in-NotIn.ensures.is)
    (subst (λ f. IsTerms (tables_of c.terms-in-NotIn.new.self) c.in_ok-terms-in-NotIn.terms (terms_seen f.terms)) c.deref-in-NotIn-2.ensures c.in_ok-terms-in-NotIn.ensures.is) c.in_ok-form-in-NotIn.ensures.first (tables_of c.value-in-NotIn.new.self) c.in_ok-head-in-NotIn.ensures.more c.in_ok-value-in-NotIn.value _ c.in_ok-value-in-NotIn.ensures.first n c.args.after h)) c.tested-in-NotIn.ensures.is c.tested-in-NotIn.ensures.more

pub cond-returns-in_ok-form-in-NotIn-clause-more : goal.cond-returns-in_ok-form-in-NotIn-clause-more
cond-returns-in_ok-form-in-NotIn-clause-more t c = told_on c.tested-in-NotIn.result (Goes (tables_of c.number-in-NotIn.new.self) (tables_of c.tested-in-NotIn.new.self)) (Goes (tables_of c.args.self.now) (tables_of c.tested-in-NotIn.new.self))
    (λ goes. goes_further (tables_of c.args.self.now) (tables_of c.value-in-NotIn.new.self) (tables_of c.tested-in-NotIn.new.self) c.in_ok-value-in-NotIn.ensures.more
    (goes_further (tables_of c.value-in-NotIn.new.self) (tables_of c.head-in-NotIn.new.self) (tables_of c.tested-in-NotIn.new.self) c.in_ok-head-in-NotIn.ensures.more
    (goes_further (tables_of c.head-in-NotIn.new.self) (tables_of c.terms-in-NotIn.new.self) (tables_of c.tested-in-NotIn.new.self) c.in_ok-terms-in-NotIn.ensures.more
    (goes_further (tables_of c.terms-in-NotIn.new.self) (tables_of c.number-in-NotIn.new.self) (tables_of c.tested-in-NotIn.new.self) c.in_ok-form-in-NotIn.ensures.more goes)))) c.tested-in-NotIn.ensures.more
