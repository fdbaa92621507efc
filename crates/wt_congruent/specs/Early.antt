-- Only private contracts cite this. Conditions that have a partner, which another one may have too.
use Rattle.std.specs.Prelude.{ℕ, ◌≡◌, ◌⊎◌, ◌++◌, true, List}
use Rattle.wt_bag.specs.Choices.{At}
use Rattle.wt_form.specs.declared.form.Expr.{Expr}
use Rattle.wt_form.specs.Trees.{Ranges, FormRange, Conds, no_conds, cond_then, Cond}
use Rattle.wt_form.specs.Known.{Known}
use Rattle.wt_form.specs.Congruent.{RangesSame, CondSame, CondsSame, pieces_same}

-- each condition is the same as one of the others
abbrev pub Partnered : Known → List ℕ → Conds → List Cond → Type 0
Partnered K ks no_conds ds = Unit {0}
Partnered K ks (cond_then c cs) ds = ((j : ℕ) × At (CondSame K ks c) j ds) × Partnered K ks cs ds

-- one of the conditions is the same as d
abbrev pub Partner : Known → List ℕ → Conds → Cond → Type 0
Partner K ks no_conds d = ⊥
Partner K ks (cond_then c cs) d = CondSame K ks c d ⊎ Partner K ks cs d

-- some pairing that begins with the places ks makes the conditions and the pieces the same, the other variables
-- taking places among those that are left
abbrev pub GoesOn : Known → List ℕ → Ranges → List FormRange → Conds → List Expr → List Cond → List Expr → Type 0
GoesOn K ks rs gs cs ps ds qs = (more : List ℕ) × RangesSame K more rs gs × CondsSame K (ks ++ more) cs ds × (pieces_same K (ks ++ more) ps qs ≡ true)
