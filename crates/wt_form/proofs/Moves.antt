-- That moves can be taken apart: a table under more is a table of more moves.
use Rattle.std.proofs.Common.{Bool, true, List}
use Rattle.wt_form.specs.declared.form.Expr.{Expr}
use Rattle.wt_form.specs.Trees.{Terms, Ranges, Conds}
use Rattle.wt_form.specs.Steps.{Table, PairTable, TermsStep, at_term, at_two, later_term, in_range, in_cond, RangesStep, at_range, later_range, CondsStep, at_in, at_not_in, later_cond}

module _ (table table' : Table) (pairs pairs' : PairTable)
    (more : (nested : Bool) (rs : Ranges) (cs : Conds) (ps : List Expr) (us : Terms) → table nested rs cs ps us → table' nested rs cs ps us)
    (more2 : (nested : Bool) (rs : Ranges) (cs : Conds) (ps : List Expr) (rs' : Ranges) (cs' : Conds) (ps' : List Expr) (us : Terms) → pairs nested rs cs ps rs' cs' ps' us → pairs' nested rs cs ps rs' cs' ps' us) where
  mutual
    pub terms_more : (nested : Bool) (ts us : Terms) → TermsStep table pairs nested ts us → TermsStep table' pairs' nested ts us
    terms_more nested ts us (at_term r) = at_term (more _ _ _ _ _ r)
    terms_more nested ts us (at_two rs' cs' ps' between after vs r) = at_two rs' cs' ps' between after vs (more2 _ _ _ _ _ _ _ _ r)
    terms_more nested ts us (later_term s) = later_term (terms_more nested _ _ s)
    terms_more nested ts us (in_range s) = in_range (ranges_more _ _ s)
    terms_more nested ts us (in_cond s) = in_cond (conds_more _ _ s)

    pub ranges_more : (rs ss : Ranges) → RangesStep table pairs rs ss → RangesStep table' pairs' rs ss
    ranges_more rs ss (at_range s) = at_range (terms_more true _ _ s)
    ranges_more rs ss (later_range s) = later_range (ranges_more _ _ s)

    pub conds_more : (cs ds : Conds) → CondsStep table pairs cs ds → CondsStep table' pairs' cs ds
    conds_more cs ds (at_in s) = at_in (terms_more true _ _ s)
    conds_more cs ds (at_not_in s) = at_not_in (terms_more true _ _ s)
    conds_more cs ds (later_cond s) = later_cond (conds_more _ _ s)
