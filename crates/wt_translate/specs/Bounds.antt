-- Terms whose variables can be made higher, as numbers of 32 bits.
use Rattle.std.specs.Prelude.{ℕ, ◌+◌, ◌^◌, ◌<◌}
use Rattle.wt_bag.specs.Bags.{Each}
use Rattle.wt_form.specs.declared.form.Expr.{Expr}
use Rattle.wt_form.specs.declared.form.Expr.TheVariants.{Of, Null as NullOf}
use Rattle.wt_form.specs.Trees.{Terms, no_terms, term_then, Conds, no_conds, cond_then, Cond, Pred, Join, is_in, not_in}
use Rattle.wt_form.specs.Parts.{ranges_count}

-- the expression's variable fits, k higher
abbrev pub CanRise : ℕ → Expr → Type 0
CanRise k (Of v i c) = k + v < 2 ^ 32
CanRise k (NullOf r c) = Unit {0}

-- so does that of each expression of a condition
abbrev pub CondRises : ℕ → Cond → Type 0
CondRises k (Pred p x) = CanRise k x
CondRises k (Join x y) = CanRise k x × CanRise k y
CondRises k (is_in x h ts) = CanRise k x
CondRises k (not_in x h ts) = CanRise k x

abbrev pub CondsRise : ℕ → Conds → Type 0
CondsRise k no_conds = Unit {0}
CondsRise k (cond_then c cs) = CondRises k c × CondsRise k cs

-- each of the terms can come behind k variables
abbrev pub TermsRise : ℕ → Terms → Type 0
TermsRise k no_terms = Unit {0}
TermsRise k (term_then rs cs ps ts) = (CondsRise k cs × Each (CanRise k) ps) × TermsRise k ts

-- each of the second terms can come behind each of the first
abbrev pub CanJoin : Terms → Terms → Type 0
CanJoin no_terms us = Unit {0}
CanJoin (term_then rs cs ps ts) us = ((ranges_count rs < 2 ^ 32) × TermsRise (ranges_count rs) us) × CanJoin ts us
