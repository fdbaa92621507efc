-- One expression is written for another one, by the conditions around the Join of the two.
use Rattle.std.specs.Prelude.{◌≡◌, ◌⊎◌, true, List, map}
use Rattle.wt_form.specs.declared.form.Expr.{Expr}
use Rattle.wt_form.specs.Trees.{Terms, Ranges, Conds, cond_then, Cond, Pred, Join, is_in, not_in}
use Rattle.wt_form.specs.Parts.{one_term, conds_append, conds_map}
use Rattle.wt_form.specs.Changes.{expr_before, put}
use Rattle.wt_places.specs.Lists.{conds_from}

-- the conditions with e written for old, but in the one between
abbrev pub written : List Cond → Cond → List Cond → Expr → Expr → Conds
written cb c ca e old = conds_append (conds_map (put e old) (conds_from cb)) (cond_then c (conds_map (put e old) (conds_from ca)))

-- the term with e written for old, where that changes it
abbrev pub WrittenBy : Ranges → Conds → List Expr → List Cond → Cond → List Cond → Expr → Expr → Terms → Type 0
WrittenBy rs cs ps cb c ca e old us = (expr_before e old ≡ true) × ((written cb c ca e old ≡ cs) × (map (put e old) ps ≡ ps) → ⊥) × (us ≡ one_term rs (written cb c ca e old) (map (put e old) ps))

-- the same either way
abbrev pub WrittenEitherWay : Ranges → Conds → List Expr → List Cond → Cond → List Cond → Expr → Expr → Terms → Type 0
WrittenEitherWay rs cs ps cb c ca x y us = WrittenBy rs cs ps cb c ca x y us ⊎ WrittenBy rs cs ps cb c ca y x us

-- and for the two sides of a Join
abbrev pub WrittenAt : Ranges → Conds → List Expr → List Cond → Cond → List Cond → Terms → Type 0
WrittenAt rs cs ps cb (Join x y) ca us = WrittenEitherWay rs cs ps cb (Join x y) ca x y us
WrittenAt rs cs ps cb (Pred p x) ca us = ⊥
WrittenAt rs cs ps cb (is_in x h ts) ca us = ⊥
WrittenAt rs cs ps cb (not_in x h ts) ca us = ⊥
