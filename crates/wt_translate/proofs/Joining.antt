-- One step of each walk over the terms that are joined.
use Rattle.std.proofs.Common.{ℕ, Bool, true, false, cond, List, [], ◌∷◌, ◌++◌, map, ◌≡◌, refl, sym, ap, ◌∙◌, subst}
use Rattle.std.specs.Prelude.{nat_eq, IfOk, Result}
use Rattle.wt_bag.specs.Bags.{Each}
use Rattle.wt_symbol.specs.declared.head.Part.{Part}
use Rattle.wt_symbol.specs.declared.head.PartCols.TheVariants.{List as Listed}
use Rattle.wt_form.specs.declared.form.Expr.{Expr}
use Rattle.wt_form.specs.declared.form.Expr.TheVariants.{Of, Null as NullOf}
use Rattle.wt_form.specs.Trees.{Terms, no_terms, term_then, Ranges, Conds, no_conds, cond_then, Join}
use Rattle.wt_form.specs.Parts.{one_term, with_cond, terms_append, ranges_append, ranges_count, conds_append, conds_up, expr_up}
use Rattle.wt_form.specs.FormOf.{each_term, expr_with, list_expr, join_term, join_terms}
use Rattle.wt_translate.specs.Bounds.{CanRise}

pub if_ok : {X Y E : Type 0} (f : X → Y) (r : Result X E) (x y : Y) → IfOk r (λ z. f z ≡ x) → x ≡ y → IfOk r (λ z. f z ≡ y)
if_ok f r x y h e = subst (λ w. IfOk r (λ z. f z ≡ w)) e h

pub with_rises : (k : ℕ) (x : Expr) (a : ℕ) → CanRise k x → CanRise k (expr_with x (Listed a))
with_rises k (Of v i c) a h = h
with_rises k (NullOf r c) a h = h

-- the expression of a list is over a variable of the pieces
pub list_rises : (k : ℕ) (hs : List Part) (ps : List Expr) (r a : ℕ) → Each (CanRise k) ps → CanRise k (list_expr hs ps r a)
list_rises k [] ps r a h = tt
list_rises k (p ∷ hs) [] r a h = tt
list_rises k (p ∷ hs) (x ∷ ps) r a h = go (nat_eq p.leaf r) (list_rises k hs ps r a h.1)
  where
    go : (b : Bool) → CanRise k (list_expr hs ps r a) → CanRise k (cond b (expr_with x (Listed a)) (list_expr hs ps r a))
    go true later = with_rises k x a h.0
    go false later = later

pub conds_assoc : (cs ds es : Conds) → conds_append cs (conds_append ds es) ≡ conds_append (conds_append cs ds) es
conds_assoc no_conds ds es = refl
conds_assoc (cond_then c cs) ds es = ap (cond_then c) (conds_assoc cs ds es)

pub terms_assoc : (ts us vs : Terms) → terms_append ts (terms_append us vs) ≡ terms_append (terms_append ts us) vs
terms_assoc no_terms us vs = refl
terms_assoc (term_then rs cs ps ts) us vs = ap (term_then rs cs ps) (terms_assoc ts us vs)

-- two terms put together
pub joined_one : (k : ℕ) (e e' : List Expr → Expr) (rs : Ranges) (cs : Conds) (ps : List Expr) (rs' : Ranges) (cs' : Conds) (ps' : List Expr) (RS : Ranges) (CS DS J : Conds) (PS : List Expr) (x y z : Expr) →
    k ≡ ranges_count rs → RS ≡ ranges_append rs rs' → x ≡ e ps → y ≡ e' ps' → z ≡ expr_up k y → J ≡ cond_then (Join x z) no_conds → DS ≡ conds_append (conds_up k cs') J → CS ≡ conds_append cs DS → PS ≡ ps ++ map (expr_up k) ps' →
    one_term RS CS PS ≡ join_term e e' rs cs ps rs' cs' ps'
joined_one k e e' rs cs ps rs' cs' ps' RS CS DS J PS x y z c d u v w j f g h =
    ap (λ q. one_term q CS PS) d
    ∙ ap (λ q. one_term (ranges_append rs rs') q PS) (g ∙ ap (conds_append cs) (f ∙ ap (conds_append (conds_up k cs')) (j ∙ ap (λ q. cond_then (Join q z) no_conds) u ∙ ap (λ q. cond_then (Join (e ps) q) no_conds) (w ∙ ap (expr_up k) v)))
    ∙ conds_assoc cs (conds_up k cs') (cond_then (Join (e ps) (expr_up k (e' ps'))) no_conds))
    ∙ ap (one_term (ranges_append rs rs') (with_cond (conds_append cs (conds_up k cs')) (Join (e ps) (expr_up k (e' ps'))))) h
    ∙ ap (λ n. one_term (ranges_append rs rs') (with_cond (conds_append cs (conds_up n cs')) (Join (e ps) (expr_up n (e' ps')))) (ps ++ map (expr_up n) ps')) c

-- one right term more
pub rights_step : (e e' : List Expr → Expr) (rs : Ranges) (cs : Conds) (ps : List Expr) (rights : Terms) (rs' : Ranges) (cs' : Conds) (ps' : List Expr) (more more' rest tail one : Terms) →
    rights ≡ term_then rs' cs' ps' more → more' ≡ more → tail ≡ terms_append (each_term (join_term e e' rs cs ps) more') rest → one ≡ join_term e e' rs cs ps rs' cs' ps' →
    terms_append one tail ≡ terms_append (each_term (join_term e e' rs cs ps) rights) rest
rights_step e e' rs cs ps rights rs' cs' ps' more more' rest tail one a m b o =
    ap (λ ts. terms_append ts tail) o
    ∙ ap (terms_append (join_term e e' rs cs ps rs' cs' ps')) (b ∙ ap (λ ts. terms_append (each_term (join_term e e' rs cs ps) ts) rest) m)
    ∙ sym (ap (λ ts. terms_append (each_term (join_term e e' rs cs ps) ts) rest) a)

pub lefts_step : (e e' : List Expr → Expr) (lefts : Terms) (rs : Ranges) (cs : Conds) (ps : List Expr) (more more' rights rest tail one : Terms) → lefts ≡ term_then rs cs ps more → more' ≡ more → tail ≡ terms_append (join_terms e e' more' rights) rest →
    one ≡ terms_append (each_term (join_term e e' rs cs ps) rights) tail → one ≡ terms_append (join_terms e e' lefts rights) rest
lefts_step e e' lefts rs cs ps more more' rights rest tail one a m b o =
    o ∙ ap (terms_append (each_term (join_term e e' rs cs ps) rights)) (b ∙ ap (λ ts. terms_append (join_terms e e' ts rights) rest) m)
    ∙ terms_assoc (each_term (join_term e e' rs cs ps) rights) (join_terms e e' more rights) rest
    ∙ sym (ap (λ ts. terms_append (join_terms e e' ts rights) rest) a)
