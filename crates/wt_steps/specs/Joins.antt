-- Only private contracts cite this. What rests on a Join: an In in its place, one variable for two, and one expression written for another.
use Rattle.std.specs.Prelude.{Bool, ◌⊎◌, List}
use Rattle.wt_form.specs.declared.form.Expr.{Expr}
use Rattle.wt_form.specs.Trees.{Terms, Ranges, Conds, no_conds, cond_then, Cond, Pred, Join, is_in, not_in}
use Rattle.wt_form.specs.Known.{Known}
use Rattle.wt_form.specs.Joining.{JoinToIn, Merged, Rewritten}

abbrev pub IsJoin : Cond → Type 0
IsJoin (Join x y) = Unit {0}
IsJoin (Pred p x) = ⊥
IsJoin (is_in x h ts) = ⊥
IsJoin (not_in x h ts) = ⊥

-- one of the conditions is a Join
abbrev pub HasJoin : Conds → Type 0
HasJoin no_conds = ⊥
HasJoin (cond_then c cs) = IsJoin c ⊎ HasJoin cs

-- the rows of the table that rest on a Join
abbrev pub ByJoins : Known → Bool → Ranges → Conds → List Expr → Terms → Type 0
ByJoins K nested rs cs ps us = (JoinToIn K nested rs cs ps us ⊎ Merged K rs cs ps us) ⊎ Rewritten K rs cs ps us
