-- What the expressions of a term that fits name.
use Rattle.std.proofs.Common.{ℕ, zero, suc, ◌+◌, ◌<◌, List, [], ◌∷◌, ◌≡◌, subst, arith}
use Rattle.wt_bag.specs.Bags.{Each}
use Rattle.wt_bag.specs.Choices.{At}
use Rattle.wt_form.specs.declared.form.Expr.{Expr}
use Rattle.wt_form.specs.declared.form.Expr.TheVariants.{Of, Null as NullOf}
use Rattle.wt_form.specs.Trees.{Ranges, no_ranges, range_then, FormRange, Rel, Conds, no_conds, cond_then, Cond, Pred, Join, is_in, not_in}
use Rattle.wt_form.specs.Parts.{ranges_append, ranges_count, ranges_list, conds_list}
use Rattle.wt_form.specs.Closed.{IsWithin}
use Rattle.wt_instance.specs.declared.instance.Instance.{Instance}
use Rattle.wt_rows.specs.Fits.{HasPart, ExprFits, RangesFit, CondFits, CondsFit}
use Rattle.wt_rows.proofs.Open.{OfCond}
use Rattle.wt_rows.proofs.Values.{OnePart}

pub at_within : (P : FormRange → Type 0) (v : ℕ) (rs : Ranges) → At P v (ranges_list rs) → v < ranges_count rs
at_within P v no_ranges h = absurd h
at_within P zero (range_then r rs) h = omega arith
at_within P (suc v) (range_then r rs) h = omega (arith, at_within P v rs h)

pub expr_within : (I : Instance) (rs : Ranges) (x : Expr) → ExprFits I rs x → IsWithin (ranges_count rs) x
expr_within I rs (Of v i c) h = at_within _ v rs h.0
expr_within I rs (NullOf r c) h = tt

-- two properties of the element at one place
pub at_both : {X : Type 0} (P Q : X → Type 0) (R : Type 0) → ((x : X) → P x → Q x → R) → (v : ℕ) (xs : List X) → At P v xs → At Q v xs → R
at_both P Q R f v [] h k = absurd h
at_both P Q R f zero (x ∷ xs) h k = f x h k
at_both P Q R f (suc v) (x ∷ xs) h k = at_both P Q R f v xs h k

pub expr_one : (I : Instance) (rs : Ranges) (x : Expr) → ExprFits I rs x → OnePart rs x
expr_one I rs (Of v i c) h = λ r at. at_both (λ range. HasPart I range i c) (λ range. range ≡ Rel r) (i ≡ 0) (λ range p q. subst (λ z. HasPart I z i c) q p) v (ranges_list rs) h.0 at
expr_one I rs (NullOf r c) h = tt

-- of each expression of conditions that fit
pub cond_exprs : (I : Instance) (rs : Ranges) (P : Expr → Type 0) → ((x : Expr) → ExprFits I rs x → P x) → (c : Cond) → CondFits I rs c → OfCond P c
cond_exprs I rs P f (Pred p x) h = f x h.1
cond_exprs I rs P f (Join x y) h = (f x h.0.1, f y h.1.1)
cond_exprs I rs P f (is_in x k ts) h = f x h.0.1
cond_exprs I rs P f (not_in x k ts) h = f x h.0.1

pub conds_exprs : (I : Instance) (rs : Ranges) (P : Expr → Type 0) → ((x : Expr) → ExprFits I rs x → P x) → (cs : Conds) → CondsFit I rs cs → Each (OfCond P) (conds_list cs)
conds_exprs I rs P f no_conds h = tt
conds_exprs I rs P f (cond_then c cs) h = (cond_exprs I rs P f c h.0, conds_exprs I rs P f cs h.1)

pub ranges_left : (I : Instance) (rs ss : Ranges) → RangesFit I (ranges_append rs ss) → RangesFit I rs
ranges_left I no_ranges ss h = tt
ranges_left I (range_then r rs) ss h = (h.0, ranges_left I rs ss h.1)

pub ranges_right : (I : Instance) (rs ss : Ranges) → RangesFit I (ranges_append rs ss) → RangesFit I ss
ranges_right I no_ranges ss h = h
ranges_right I (range_then r rs) ss h = ranges_right I rs ss h.1

pub ranges_put : (I : Instance) (rs ss : Ranges) → RangesFit I rs → RangesFit I ss → RangesFit I (ranges_append rs ss)
ranges_put I no_ranges ss h k = k
ranges_put I (range_then r rs) ss h k = (h.0, ranges_put I rs ss h.1 k)

-- the range behind some others
pub at_behind : (P : FormRange → Type 0) (rs : Ranges) (r : FormRange) (ss : Ranges) → At P (ranges_count rs) (ranges_list (ranges_append rs (range_then r ss))) → P r
at_behind P no_ranges r ss h = h
at_behind P (range_then q rs) r ss h = at_behind P rs r ss (subst (λ n. At P n (q ∷ ranges_list (ranges_append rs (range_then r ss)))) (let z : 1 + ranges_count rs ≡ suc (ranges_count rs) = omega arith in z) h)
