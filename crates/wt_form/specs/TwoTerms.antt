-- Steps over two terms.
use Rattle.std.specs.Prelude.{ℕ, ◌≡◌, Bool, true, List}
use Rattle.wt_symbol.specs.declared.head.Part.{Part}
use Rattle.wt_form.specs.declared.form.Expr.{Expr}
use Rattle.wt_form.specs.Trees.{Terms, Ranges, Conds, is_in, not_in}
use Rattle.wt_form.specs.Parts.{ranges_list, conds_list}
use Rattle.wt_form.specs.Known.{Known}
use Rattle.wt_form.specs.Congruent.{expr_same, pieces_same, RangesSame, CondsSame, TermsSame}
use Rattle.wt_form.specs.Places.{CondAt, others}

-- two terms whose variables are paired by ks, with the same ranges, conditions and pieces
pub record TermSame (K : Known) (ks : List ℕ) (rs : Ranges) (cs : Conds) (ps : List Expr) (rs' : Ranges) (cs' : Conds) (ps' : List Expr) : Type 0 where
  pub ranges : RangesSame K ks rs (ranges_list rs')
  pub conds : CondsSame K ks cs (conds_list cs')
  pub pieces : pieces_same K ks ps ps' ≡ true

-- a term with an In and one that is the same but for a NotIn of the same values in the same rows
pub record SplitByIn (K : Known) (rs : Ranges) (cs : Conds) (ps : List Expr) (rs' : Ranges) (cs' : Conds) (ps' : List Expr) : Type 0 where
  pub e : Expr
  pub h : List Part
  pub ts : Terms
  pub e' : Expr
  pub h' : List Part
  pub us : Terms
  pub place : CondAt cs (is_in e h ts)
  pub place' : CondAt cs' (not_in e' h' us)
  pub ks : List ℕ
  pub values : expr_same K ks e e' ≡ true
  pub rows : TermsSame K ts us
  pub same : TermSame K ks rs (others place) ps rs' (others place') ps'

-- a later term that is the same as an earlier one, where it only counts which rows occur
pub record Twins (K : Known) (nested : Bool) (rs : Ranges) (cs : Conds) (ps : List Expr) (rs' : Ranges) (cs' : Conds) (ps' : List Expr) : Type 0 where
  pub ks : List ℕ
  pub inside : nested ≡ true
  pub same : TermSame K ks rs cs ps rs' cs' ps'
