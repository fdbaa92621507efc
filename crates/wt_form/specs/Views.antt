-- The forms of the program as plain data, which have no pointers.
use Rattle.std.specs.Prelude.{List, [], ◌∷◌}
use Rattle.wt_form.specs.declared.form.Expr.{Expr}
use Rattle.wt_form.specs.declared.form.Form.{Form as CodeForm}
use Rattle.wt_form.specs.declared.form.Term.{Term as CodeTerm}
use Rattle.wt_form.specs.declared.form.Terms.{Terms as CodeTerms}
use Rattle.wt_form.specs.declared.form.Terms.TheVariants.{Empty as EmptyTerms, More' as MoreTerms}
use Rattle.wt_form.specs.declared.form.Ranges.{Ranges as CodeRanges}
use Rattle.wt_form.specs.declared.form.Ranges.TheVariants.{Empty as EmptyRanges, More' as MoreRanges}
use Rattle.wt_form.specs.declared.form.FormRange.{FormRange as CodeRange}
use Rattle.wt_form.specs.declared.form.FormRange.TheVariants.{Rel as CodeRel, Distinct' as CodeDistinct}
use Rattle.wt_form.specs.declared.form.Conds.{Conds as CodeConds}
use Rattle.wt_form.specs.declared.form.Conds.TheVariants.{Empty as EmptyConds, More' as MoreConds}
use Rattle.wt_form.specs.declared.form.Cond.{Cond as CodeCond}
use Rattle.wt_form.specs.declared.form.Cond.TheVariants.{Pred as CodePred, Join as CodeJoin, In' as CodeIn, NotIn' as CodeNotIn}
use Rattle.wt_form.specs.Trees.{Terms, no_terms, term_then, Ranges, no_ranges, range_then, FormRange, Rel, distinct_of, Conds, no_conds, cond_then, Cond, Pred, Join, is_in, not_in, Form}

-- the terms, their boxes forgotten; likewise ranges and conditions
abbrev mutual
  pub terms_seen : CodeTerms → Terms
  terms_seen EmptyTerms = no_terms
  terms_seen (MoreTerms t rs cs ps p rest) = term_then (ranges_seen rs) (conds_seen cs) ps (terms_seen rest)

  pub ranges_seen : CodeRanges → Ranges
  ranges_seen EmptyRanges = no_ranges
  ranges_seen (MoreRanges r p rest) = range_then (range_seen r) (ranges_seen rest)

  pub range_seen : CodeRange → FormRange
  range_seen (CodeRel r) = Rel r
  range_seen (CodeDistinct p head terms) = distinct_of head (terms_seen terms)

  pub conds_seen : CodeConds → Conds
  conds_seen EmptyConds = no_conds
  conds_seen (MoreConds c p rest) = cond_then (cond_seen c) (conds_seen rest)

  pub cond_seen : CodeCond → Cond
  cond_seen (CodePred p x) = Pred p x
  cond_seen (CodeJoin x y) = Join x y
  cond_seen (CodeIn x p head terms) = is_in x head (terms_seen terms)
  cond_seen (CodeNotIn x p head terms) = not_in x head (terms_seen terms)

-- the form, its boxes forgotten
abbrev pub form_seen : CodeForm → Form
form_seen f = record { head = f.head; terms = terms_seen f.terms }

-- one term
pub record OneTerm : Type 0 where
  pub ranges : Ranges
  pub conds : Conds
  pub pieces : List Expr

abbrev pub term_seen : CodeTerm → OneTerm
term_seen t = record { ranges = ranges_seen t.ranges; conds = conds_seen t.conds; pieces = t.pieces }

-- the terms as a list, and the other way round
abbrev pub terms_list : Terms → List OneTerm
terms_list no_terms = []
terms_list (term_then rs cs ps ts) = record { ranges = rs; conds = cs; pieces = ps } ∷ terms_list ts

abbrev pub terms_from : List OneTerm → Terms
terms_from [] = no_terms
terms_from (t ∷ ts) = term_then t.ranges t.conds t.pieces (terms_from ts)
