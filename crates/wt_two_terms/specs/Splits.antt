-- Two terms that are the same but for an In and a NotIn.
use Rattle.std.specs.Prelude.{ℕ, ◌≡◌, true, List}
use Rattle.wt_form.specs.declared.form.Expr.{Expr}
use Rattle.wt_form.specs.Trees.{Conds, Cond, Pred, Join, is_in, not_in}
use Rattle.wt_form.specs.Parts.{ranges_list}
use Rattle.wt_form.specs.Known.{Known}
use Rattle.wt_form.specs.Congruent.{expr_same, pieces_same, RangesSame, CondsSame, TermsSame}
use Rattle.wt_form.specs.Views.{OneTerm}

-- some pairing makes the terms the same, with these conditions in the place of theirs, and the expressions too
abbrev pub SameBut : Known → OneTerm → Conds → Expr → OneTerm → List Cond → Expr → Type 0
SameBut K t cs e u ds f = (ks : List ℕ) × RangesSame K ks t.ranges (ranges_list u.ranges) × (expr_same K ks e f ≡ true) × CondsSame K ks cs ds × (pieces_same K ks t.pieces u.pieces ≡ true)

-- the first condition is an In, the second a NotIn in the same rows, and with these the terms are the same but for them
abbrev pub SplitBy : Known → OneTerm → Cond → Conds → OneTerm → Cond → List Cond → Type 0
SplitBy K t (is_in e h ts) cs u (not_in f h' us) ds = TermsSame K ts us × SameBut K t cs e u ds f
SplitBy K t (Pred p x) cs u d ds = ⊥
SplitBy K t (Join x y) cs u d ds = ⊥
SplitBy K t (not_in x h ts) cs u d ds = ⊥
SplitBy K t (is_in e h ts) cs u (Pred p x) ds = ⊥
SplitBy K t (is_in e h ts) cs u (Join x y) ds = ⊥
SplitBy K t (is_in e h ts) cs u (is_in x h' us) ds = ⊥
