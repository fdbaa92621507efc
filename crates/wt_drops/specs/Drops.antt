-- What stands in the place of a term where a condition or the term is dropped.
use Rattle.std.specs.Prelude.{ℕ, ◌≡◌, ◌⊎◌, List, take}
use Rattle.wt_bag.specs.Choices.{At, drop_at}
use Rattle.wt_form.specs.declared.form.Expr.{Expr}
use Rattle.wt_form.specs.Trees.{Terms, no_terms, Ranges, FormRange, Conds, Cond}
use Rattle.wt_form.specs.Known.{Known}
use Rattle.wt_form.specs.Drops.{Repeated, SelfJoin, InTrue, NotInFalse, NullCompared, NotInOfNull}
use Rattle.wt_drops.specs.Truths.{SomeSame, CondTrue, CondFalse, Denied}

-- the condition at place j is true beside the others, or the same as an earlier one
abbrev pub Goes : Known → List ℕ → List FormRange → List Cond → ℕ → Cond → Type 0
Goes K ks rs cs j c = CondTrue K ks rs (drop_at j cs) c ⊎ SomeSame K ks (take j cs) c

-- the others make it false
abbrev pub IsFalse : Known → List ℕ → List FormRange → List Cond → ℕ → Cond → Type 0
IsFalse K ks rs cs j c = CondFalse K ks rs (drop_at j cs) c ⊎ Denied K ks (drop_at j cs) c

-- no term is left where the condition at place j is false
abbrev pub FallsAt : Known → List ℕ → List FormRange → List Cond → ℕ → Terms → Type 0
FallsAt K ks rs cs j us = At (IsFalse K ks rs cs j) j cs × (us ≡ no_terms)

-- the rows of the table that drop a condition or a term
abbrev pub Dropped : Known → Ranges → Conds → List Expr → Terms → Type 0
Dropped K rs cs ps us = Repeated K rs cs ps us ⊎ SelfJoin K rs cs ps us ⊎ InTrue K rs cs ps us ⊎ NotInFalse K rs cs ps us ⊎ NullCompared rs cs ps us ⊎ NotInOfNull rs cs ps us
