-- Terms with other expressions fit where these do.
use Rattle.std.proofs.Common.{ℕ, ◌<◌, Bool, true, false, cond, List, [], ◌∷◌, map, ◌≡◌, refl, sym, ◌∙◌, subst, ◌⊎◌, inl, inr, arith, eqb-true, eq-eqb}
use Rattle.std.specs.Prelude.{nat_eq, nat_lt, ◌-◌}
use Rattle.std.proofs.lemmas.Bool.{lt-ltb, le-ltb, cases_order}
use Rattle.wt_bag.specs.Bags.{Each}
use Rattle.wt_bag.specs.Choices.{At}
use Rattle.wt_symbol.specs.declared.head.Part.{Part}
use Rattle.wt_symbol.specs.declared.head.PartCols.{PartCols}
use Rattle.wt_symbol.specs.declared.head.PartCols.TheVariants.{Whole, List as Listed}
use Rattle.wt_form.specs.declared.form.Expr.{Expr}
use Rattle.wt_form.specs.declared.form.Expr.TheVariants.{Of, Null as NullOf}
use Rattle.wt_form.specs.Trees.{Ranges, range_then, FormRange, Rel, Conds, no_conds, cond_then, Cond, Pred, Join, is_in, not_in}
use Rattle.wt_form.specs.Parts.{ranges_append, ranges_count, ranges_list, conds_append, conds_map, cond_map, conds_list, expr_up}
use Rattle.wt_form.specs.Facts.{IsOver}
use Rattle.wt_form.specs.Changes.{put, expr_eq, expr_down, expr_onto, CondAvoids}
use Rattle.wt_instance.specs.declared.instance.Instance.{Instance}
use Rattle.wt_rows.specs.Fits.{HasPart, ExprFits, IsListed, IsPiece, Aligned, CondFits, CondsFit}
use Rattle.wt_rows.proofs.Open.{OfCond}
use Rattle.std.proofs.lemmas.Bool.{false≢true}
use Rattle.wt_rows.proofs.Exist.{at_behind}
use Rattle.wt_rows.proofs.Moving.{at_implies, at_before, at_closed, at_skip, at_first}

pub conds_put : (I : Instance) (rs : Ranges) (cs ds : Conds) → CondsFit I rs cs → CondsFit I rs ds → CondsFit I rs (conds_append cs ds)
conds_put I rs no_conds ds h k = k
conds_put I rs (cond_then c cs) ds h k = (h.0, conds_put I rs cs ds h.1 k)

pub conds_left : (I : Instance) (rs : Ranges) (cs ds : Conds) → CondsFit I rs (conds_append cs ds) → CondsFit I rs cs
conds_left I rs no_conds ds h = tt
conds_left I rs (cond_then c cs) ds h = (h.0, conds_left I rs cs ds h.1)

pub conds_right : (I : Instance) (rs : Ranges) (cs ds : Conds) → CondsFit I rs (conds_append cs ds) → CondsFit I rs ds
conds_right I rs no_conds ds h = h
conds_right I rs (cond_then c cs) ds h = conds_right I rs cs ds h.1

pub conds_drop : (I : Instance) (rs : Ranges) (cs : Conds) (c : Cond) (ds : Conds) → CondsFit I rs (conds_append cs (cond_then c ds)) → CondsFit I rs (conds_append cs ds)
conds_drop I rs cs c ds h = conds_put I rs cs ds (conds_left I rs cs (cond_then c ds) h) (conds_right I rs cs (cond_then c ds) h).1

pub conds_there : (I : Instance) (rs : Ranges) (cs : Conds) (c : Cond) (ds : Conds) → CondsFit I rs (conds_append cs (cond_then c ds)) → CondFits I rs c
conds_there I rs cs c ds h = (conds_right I rs cs (cond_then c ds) h).0

-- a change of expressions that keeps lists, and that makes those with P fit a term with other ranges
module _ (I : Instance) (rs ss : Ranges) (f : Expr → Expr) (P : Expr → Type 0) (fits : (x : Expr) → P x → ExprFits I rs x → ExprFits I ss (f x)) (listed : (x : Expr) → IsListed x → IsListed (f x)) where
  pub cond_mapped : (c : Cond) → OfCond P c → CondFits I rs c → CondFits I ss (cond_map f c)
  cond_mapped (Pred p x) q h = (h.0, fits x q h.1)
  cond_mapped (Join x y) q h = ((listed x h.0.0, fits x q.0 h.0.1), (listed y h.1.0, fits y q.1 h.1.1))
  cond_mapped (is_in x k ts) q h = ((listed x h.0.0, fits x q h.0.1), h.1)
  cond_mapped (not_in x k ts) q h = ((listed x h.0.0, fits x q h.0.1), h.1)

  pub conds_mapped : (cs : Conds) → Each (OfCond P) (conds_list cs) → CondsFit I rs cs → CondsFit I ss (conds_map f cs)
  conds_mapped no_conds q h = tt
  conds_mapped (cond_then c cs) q h = (cond_mapped c q.0 h.0, conds_mapped cs q.1 h.1)

  pub pieces_mapped : (ps : List Expr) → Each P ps → Each (ExprFits I rs) ps → Each (ExprFits I ss) (map f ps)
  pieces_mapped [] q h = tt
  pieces_mapped (x ∷ ps) q h = (fits x q.0 h.0, pieces_mapped ps q.1 h.1)

  piece_mapped : (c : PartCols) (x : Expr) → IsPiece c x → IsPiece c (f x)
  piece_mapped Whole x h = tt
  piece_mapped (Listed a) x h = listed x h

  pub aligned_mapped : (hs : List Part) (ps : List Expr) → Aligned hs ps → Aligned hs (map f ps)
  aligned_mapped [] [] h = tt
  aligned_mapped (p ∷ hs) (x ∷ ps) h = (piece_mapped p.cols x h.0, aligned_mapped hs ps h.1)
  aligned_mapped [] (x ∷ ps) h = absurd h
  aligned_mapped (p ∷ hs) [] h = absurd h

pub each_any : (ps : List Expr) → Each (λ x. Unit {0}) ps
each_any [] = tt
each_any (x ∷ ps) = (tt, each_any ps)

cond_any : (c : Cond) → OfCond (λ x. Unit {0}) c
cond_any (Pred p x) = tt
cond_any (Join x y) = (tt, tt)
cond_any (is_in x k ts) = tt
cond_any (not_in x k ts) = tt

pub conds_any : (cs : Conds) → Each (OfCond (λ x. Unit {0})) (conds_list cs)
conds_any no_conds = tt
conds_any (cond_then c cs) = (cond_any c, conds_any cs)

avoids : (y : ℕ) (c : Cond) → CondAvoids y c → OfCond (λ x. IsOver y x → ⊥) c
avoids y (Pred p x) h = h
avoids y (Join x z) h = h
avoids y (is_in x k ts) h = h
avoids y (not_in x k ts) h = h

pub all_avoid : (y : ℕ) (cs : Conds) → Each (CondAvoids y) (conds_list cs) → Each (OfCond (λ x. IsOver y x → ⊥)) (conds_list cs)
all_avoid y no_conds h = tt
all_avoid y (cond_then c cs) h = (avoids y c h.0, all_avoid y cs h.1)

-- variables close up
pub down_fits : (I : Instance) (rs : Ranges) (r : FormRange) (ss : Ranges) (x : Expr) → (IsOver (ranges_count rs) x → ⊥) → ExprFits I (ranges_append rs (range_then r ss)) x → ExprFits I (ranges_append rs ss) (expr_down (ranges_count rs) x)
down_fits I rs r ss (NullOf q c) n h = h
down_fits I rs r ss (Of v i c) n h = go (cases_order v (ranges_count rs))
  where
    go : (v ≡ ranges_count rs) ⊎ ((v < ranges_count rs) ⊎ (ranges_count rs < v)) → ExprFits I (ranges_append rs ss) (Of (cond (nat_lt (ranges_count rs) v) (v - 1) v) i c)
    go (inl e) = absurd (n e)
    go (inr (inl l)) = (subst (λ z. At (λ range. HasPart I range i c) (cond z (v - 1) v) (ranges_list (ranges_append rs ss))) (sym (le-ltb (ranges_count rs) v (omega (arith, l)))) (at_before _ rs (range_then r ss) ss v l h.0), h.1)
    go (inr (inr l)) = (subst (λ z. At (λ range. HasPart I range i c) (cond z (v - 1) v) (ranges_list (ranges_append rs ss))) (sym (lt-ltb (ranges_count rs) v l)) (at_closed _ rs r ss v l h.0), h.1)

pub down_listed : (y : ℕ) (x : Expr) → IsListed x → IsListed (expr_down y x)
down_listed y (Of v i c) h = h
down_listed y (NullOf r c) h = h

-- one variable stands for another one, both over relations
pub onto_fits : (I : Instance) (rs : Ranges) (s : ℕ) (ss : Ranges) (x r : ℕ) → x < ranges_count rs → At (λ range. range ≡ Rel r) x (ranges_list (ranges_append rs (range_then (Rel s) ss))) → (e : Expr) → Unit {0} →
    ExprFits I (ranges_append rs (range_then (Rel s) ss)) e → ExprFits I (ranges_append rs ss) (expr_onto x (ranges_count rs) e)
onto_fits I rs s ss x r l over (NullOf q c) u h = h
onto_fits I rs s ss x r l over (Of v i c) u h = go (nat_eq v (ranges_count rs)) refl
  where
    go : (b : Bool) → nat_eq v (ranges_count rs) ≡ b → ExprFits I (ranges_append rs ss) (cond b (Of x i c) (expr_down (ranges_count rs) (Of v i c)))
    go true e =
        let zero_part : i ≡ 0 = at_behind (λ range. HasPart I range i c) rs (Rel s) ss (subst (λ z. At (λ range. HasPart I range i c) z (ranges_list (ranges_append rs (range_then (Rel s) ss)))) (eqb-true v (ranges_count rs) e) h.0) in (
          at_before (λ range. HasPart I range i c) rs (range_then (Rel s) ss) ss x l
              (at_implies (λ range. range ≡ Rel r) (λ range. HasPart I range i c) (λ range q. subst (λ z. HasPart I z i c) (sym q) zero_part) x (ranges_list (ranges_append rs (range_then (Rel s) ss))) over),
          h.1,
        )
    go false e = down_fits I rs (Rel s) ss (Of v i c) (λ q. absurd (false≢true (sym e ∙ eq-eqb v (ranges_count rs) q))) h

pub onto_listed : (x y : ℕ) (e : Expr) → IsListed e → IsListed (expr_onto x y e)
onto_listed x y (NullOf r c) h = h
onto_listed x y (Of v i c) h = go (nat_eq v y)
  where
    go : (b : Bool) → IsListed (cond b (Of x i c) (expr_down y (Of v i c)))
    go true = h
    go false = h

pub put_fits : (I : Instance) (rs : Ranges) (e e' : Expr) → ExprFits I rs e → (x : Expr) → Unit {0} → ExprFits I rs x → ExprFits I rs (put e e' x)
put_fits I rs e e' k x u h = go (expr_eq x e')
  where
    go : (b : Bool) → ExprFits I rs (cond b e x)
    go true = k
    go false = h

pub put_listed : (e e' : Expr) → IsListed e → (x : Expr) → IsListed x → IsListed (put e e' x)
put_listed e e' k x h = go (expr_eq x e')
  where
    go : (b : Bool) → IsListed (cond b e x)
    go true = k
    go false = h

pub up_listed : (k : ℕ) (x : Expr) → IsListed x → IsListed (expr_up k x)
up_listed k (Of v i c) h = h
up_listed k (NullOf r c) h = h

-- an expression of a term whose variables come between others
pub up_fits : (I : Instance) (before inner after : Ranges) (x : Expr) → Unit {0} → ExprFits I inner x → ExprFits I (ranges_append before (ranges_append inner after)) (expr_up (ranges_count before) x)
up_fits I before inner after (Of v i c) u h = (at_skip (λ range. HasPart I range i c) before (ranges_append inner after) v (at_first (λ range. HasPart I range i c) inner after v h.0), h.1)
up_fits I before inner after (NullOf r c) u h = h
