-- Forms whose expressions name variables of their own terms alone.
use Rattle.std.specs.Prelude.{ℕ, ◌<◌}
use Rattle.wt_bag.specs.Bags.{Each}
use Rattle.wt_form.specs.declared.form.Expr.{Expr}
use Rattle.wt_form.specs.declared.form.Expr.TheVariants.{Of, Null as NullOf}
use Rattle.wt_form.specs.Trees.{Terms, no_terms, term_then, Ranges, no_ranges, range_then, FormRange, Rel, distinct_of, Conds, no_conds, cond_then, Cond, Pred, Join, is_in, not_in}
use Rattle.wt_form.specs.Parts.{ranges_count}

-- the expression is over one of the first n variables, or over none
abbrev pub IsWithin : ℕ → Expr → Type 0
IsWithin n (Of v i c) = v < n
IsWithin n (NullOf r c) = Unit {0}

-- each variable that an expression names is one of its term, in nested forms too
abbrev mutual
  pub VariablesExist : Terms → Type 0
  VariablesExist no_terms = Unit {0}
  VariablesExist (term_then rs cs ps ts) = (ExistInRanges rs × ExistInConds (ranges_count rs) cs × Each (IsWithin (ranges_count rs)) ps) × VariablesExist ts

  pub ExistInRanges : Ranges → Type 0
  ExistInRanges no_ranges = Unit {0}
  ExistInRanges (range_then r rs) = ExistInRange r × ExistInRanges rs

  pub ExistInRange : FormRange → Type 0
  ExistInRange (Rel r) = Unit {0}
  ExistInRange (distinct_of h ts) = VariablesExist ts

  pub ExistInConds : ℕ → Conds → Type 0
  ExistInConds n no_conds = Unit {0}
  ExistInConds n (cond_then c cs) = ExistInCond n c × ExistInConds n cs

  pub ExistInCond : ℕ → Cond → Type 0
  ExistInCond n (Pred p x) = IsWithin n x
  ExistInCond n (Join x y) = IsWithin n x × IsWithin n y
  ExistInCond n (is_in x h ts) = IsWithin n x × VariablesExist ts
  ExistInCond n (not_in x h ts) = IsWithin n x × VariablesExist ts
