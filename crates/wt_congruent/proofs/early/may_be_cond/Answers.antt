use Rattle.std.proofs.Common.{ap, ◌++◌}
use Rattle.wt_form.specs.Views.{cond_seen, terms_seen}
use Rattle.wt_congruent.proofs.Shares.{in_shared, not_in_shared}
use Rattle.wt_congruent.proofs.early.may_be_cond.Goals as goal

pub returns-then-may_be_expr-4 : goal.returns-then-may_be_expr-4
returns-then-may_be_expr-4 c more h =
    in_shared c.args.facts.now (c.args.ks.now ++ more) (cond_seen c.args.c.now) (cond_seen c.args.d.now) c.in-In.x c.in-In-d.y c.in-In.f.value.head c.in-In-d.g.value.head (terms_seen c.in-In.f.value.terms) (terms_seen c.in-In-d.g.value.terms) _ _ _ _ _
    (ap cond_seen c.in-In.is) (ap cond_seen c.in-In-d.is) (ap (λ z. terms_seen z.terms) c.deref.ensures) (ap (λ z. terms_seen z.terms) c.deref-then-may_be_expr-4.ensures) c.terms_print.ensures c.terms_print-then-may_be_expr-4.ensures h

pub returns-then-may_be_expr-5 : goal.returns-then-may_be_expr-5
returns-then-may_be_expr-5 c more h =
    not_in_shared c.args.facts.now (c.args.ks.now ++ more) (cond_seen c.args.c.now) (cond_seen c.args.d.now) c.in-NotIn.x c.in-NotIn-d.y c.in-NotIn.f.value.head c.in-NotIn-d.g.value.head (terms_seen c.in-NotIn.f.value.terms) (terms_seen c.in-NotIn-d.g.value.terms) _ _ _ _ _
    (ap cond_seen c.in-NotIn.is) (ap cond_seen c.in-NotIn-d.is) (ap (λ z. terms_seen z.terms) c.deref-then-may_be_expr-5.ensures) (ap (λ z. terms_seen z.terms) c.deref-then-may_be_expr-5-2.ensures) c.terms_print-then-may_be_expr-5.ensures c.terms_print-then-may_be_expr-5-2.ensures h
