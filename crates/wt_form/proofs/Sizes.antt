-- The weight of lists put together, and of conditions with other expressions.
use Rattle.std.proofs.Common.{◌+◌, ◌≤◌, ◌≡◌, refl, sym, ap, arith}
use Rattle.wt_form.specs.declared.form.Expr.{Expr}
use Rattle.wt_form.specs.Trees.{Terms, no_terms, term_then, Ranges, no_ranges, range_then, Conds, no_conds, cond_then, Cond, Pred, Join, is_in, not_in}
use Rattle.wt_form.specs.Parts.{terms_append, ranges_append, conds_append, conds_map, cond_map}
use Rattle.wt_form.specs.Weights.{terms_size, ranges_size, conds_size, cond_size, terms_place, conds_place}
use Rattle.wt_form.specs.Opening.{Opening, CondOpened, CondsOpened}

pub size-terms_append : (ts us : Terms) → terms_size (terms_append ts us) ≡ terms_size ts + terms_size us
size-terms_append no_terms us = omega arith
size-terms_append (term_then rs cs ps ts) us = omega (arith, size-terms_append ts us)

pub place-terms_append : (ts us : Terms) → terms_place (terms_append ts us) ≡ terms_place ts + terms_place us
place-terms_append no_terms us = omega arith
place-terms_append (term_then rs cs ps ts) us = omega (arith, place-terms_append ts us)

pub size-ranges_append : (rs ss : Ranges) → ranges_size (ranges_append rs ss) ≡ ranges_size rs + ranges_size ss
size-ranges_append no_ranges ss = omega arith
size-ranges_append (range_then r rs) ss = omega (arith, size-ranges_append rs ss)

pub size-conds_append : (cs ds : Conds) → conds_size (conds_append cs ds) ≡ conds_size cs + conds_size ds
size-conds_append no_conds ds = omega arith
size-conds_append (cond_then c cs) ds = omega (arith, size-conds_append cs ds)

pub place-conds_append : (cs ds : Conds) → conds_place (conds_append cs ds) ≡ conds_place cs + conds_place ds
place-conds_append no_conds ds = omega arith
place-conds_append (cond_then c cs) ds = omega (arith, place-conds_append cs ds)

size-cond_map : (f : Expr → Expr) (c : Cond) → cond_size (cond_map f c) ≡ cond_size c
size-cond_map f (Pred p x) = refl
size-cond_map f (Join x y) = refl
size-cond_map f (is_in x h ts) = refl
size-cond_map f (not_in x h ts) = refl

pub size-conds_map : (f : Expr → Expr) (cs : Conds) → conds_size (conds_map f cs) ≡ conds_size cs
size-conds_map f no_conds = refl
size-conds_map f (cond_then c cs) = omega (arith, size-cond_map f c, size-conds_map f cs)

-- a condition weighs something
pub cond_weighs : (c : Cond) → 1 ≤ cond_size c
cond_weighs (Pred p x) = omega arith
cond_weighs (Join x y) = omega arith
cond_weighs (is_in x h ts) = omega arith
cond_weighs (not_in x h ts) = omega arith

size_opened : (o : Opening) (c d : Cond) → CondOpened o c d → cond_size d ≡ cond_size c
size_opened o (Pred p x) (Pred q y) h = refl
size_opened o (Join x y) (Join v w) h = refl
size_opened o (is_in x k ts) (is_in y k' us) h = ap (λ t. 1 + terms_size t) (sym h.2)
size_opened o (not_in x k ts) (not_in y k' us) h = ap (λ t. 1 + terms_size t) (sym h.2)
size_opened o (Pred p x) (Join v w) q = absurd q
size_opened o (Pred p x) (is_in y k us) q = absurd q
size_opened o (Pred p x) (not_in y k us) q = absurd q
size_opened o (Join x y) (Pred p z) q = absurd q
size_opened o (Join x y) (is_in z k us) q = absurd q
size_opened o (Join x y) (not_in z k us) q = absurd q
size_opened o (is_in x k ts) (Pred p z) q = absurd q
size_opened o (is_in x k ts) (Join v w) q = absurd q
size_opened o (is_in x k ts) (not_in z k' us) q = absurd q
size_opened o (not_in x k ts) (Pred p z) q = absurd q
size_opened o (not_in x k ts) (Join v w) q = absurd q
size_opened o (not_in x k ts) (is_in z k' us) q = absurd q

pub size-conds_opened : (o : Opening) (cs ds : Conds) → CondsOpened o cs ds → conds_size ds ≡ conds_size cs
size-conds_opened o no_conds ds h = ap conds_size h
size-conds_opened o (cond_then c cs) no_conds h = absurd h
size-conds_opened o (cond_then c cs) (cond_then d ds) (a, b) = omega (arith, size_opened o c d a, size-conds_opened o cs ds b)
