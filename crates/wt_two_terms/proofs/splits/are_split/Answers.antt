use Rattle.std.proofs.Common.{rules, map, ap, subst}
use Rattle.wt_form.specs.Congruent.{TermsSame}
use Rattle.wt_form.specs.Views.{terms_seen, conds_seen, cond_seen, term_seen}
use Rattle.wt_facts.specs.Facts.{known_of}
use Rattle.wt_congruent.specs.Refs.{cond_behind}
use Rattle.wt_two_terms.proofs.SplitLaws.{split_tells}
use Rattle.wt_two_terms.proofs.splits.are_split.Goals as goal

pub returns-else-not-branch : goal.returns-else-not-branch
returns-else-not-branch c =
    split_tells (known_of c.args.facts.now) (term_seen c.args.term.now) (term_seen c.args.other.now) (cond_seen c.args.c.now) (cond_seen c.args.d.now) (conds_seen c.args.conds.now) (map cond_behind c.args.left.now) c.in-In.e c.in-NotIn.x c.in-In.f.value.head c.in-NotIn.g.value.head (terms_seen c.in-In.f.value.terms) (terms_seen c.in-NotIn.g.value.terms)
    c.are_same_but.result (ap cond_seen c.in-In.is) (ap cond_seen c.in-NotIn.is)
    (subst (λ z. TermsSame (known_of c.args.facts.now) (terms_seen c.in-In.f.value.terms) (terms_seen z.terms)) c.deref-in-NotIn.ensures
    (subst (λ z. TermsSame (known_of c.args.facts.now) (terms_seen z.terms) (terms_seen c.deref-in-NotIn.result.now.terms)) c.deref.ensures (c.in_ok-have_same_rows-in-NotIn.ensures.0 (search (rules, c.if-not-branch.false))))) c.are_same_but.ensures
