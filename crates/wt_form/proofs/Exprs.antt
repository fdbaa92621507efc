-- What holds of each expression of a form holds of each one after a step that makes none but such.
use Rattle.std.proofs.Common.{ℕ, zero, suc, ◌≡◌, Bool, true, false, cond, List, [], ◌∷◌, map, Some, None, sym, subst}
use Rattle.std.specs.Prelude.{nat_lt, nat_eq, ◌+◌, ◌-◌}
use Rattle.wt_bag.specs.Bags.{Each}
use Rattle.wt_symbol.specs.declared.head.Part.{Part}
use Rattle.wt_symbol.specs.declared.head.PartCols.{PartCols}
use Rattle.wt_form.specs.declared.form.Expr.{Expr}
use Rattle.wt_form.specs.declared.form.Expr.TheVariants.{Of, Null as NullOf}
use Rattle.wt_form.specs.Trees.{Terms, no_terms, term_then, Ranges, no_ranges, range_then, Conds, no_conds, cond_then, Cond, Pred, Join, is_in, not_in}
use Rattle.wt_form.specs.Parts.{terms_append, ranges_append, conds_append, conds_map, cond_map, expr_up}
use Rattle.wt_form.specs.Known.{cols_eq}
use Rattle.wt_form.specs.Weights.{IsSmall, IsSmallCols, EachExpr, EachInRanges, EachInConds, EachInCond}
use Rattle.wt_form.specs.Opening.{take_cols, take_part, Opening, expr_opened, CondOpened, CondsOpened, PiecesOpened}

pub terms_put : (P : Expr → Type 0) (ts us : Terms) → EachExpr P ts → EachExpr P us → EachExpr P (terms_append ts us)
terms_put P no_terms us h j = j
terms_put P (term_then rs cs ps ts) us h j = (h.0, terms_put P ts us h.1 j)

pub terms_right : (P : Expr → Type 0) (ts us : Terms) → EachExpr P (terms_append ts us) → EachExpr P us
terms_right P no_terms us h = h
terms_right P (term_then rs cs ps ts) us h = terms_right P ts us h.1

pub terms_left : (P : Expr → Type 0) (ts us : Terms) → EachExpr P (terms_append ts us) → EachExpr P ts
terms_left P no_terms us h = tt
terms_left P (term_then rs cs ps ts) us h = (h.0, terms_left P ts us h.1)

pub ranges_put : (P : Expr → Type 0) (rs ss : Ranges) → EachInRanges P rs → EachInRanges P ss → EachInRanges P (ranges_append rs ss)
ranges_put P no_ranges ss h j = j
ranges_put P (range_then r rs) ss h j = (h.0, ranges_put P rs ss h.1 j)

pub ranges_left : (P : Expr → Type 0) (rs ss : Ranges) → EachInRanges P (ranges_append rs ss) → EachInRanges P rs
ranges_left P no_ranges ss h = tt
ranges_left P (range_then r rs) ss h = (h.0, ranges_left P rs ss h.1)

pub ranges_right : (P : Expr → Type 0) (rs ss : Ranges) → EachInRanges P (ranges_append rs ss) → EachInRanges P ss
ranges_right P no_ranges ss h = h
ranges_right P (range_then r rs) ss h = ranges_right P rs ss h.1

pub conds_put : (P : Expr → Type 0) (cs ds : Conds) → EachInConds P cs → EachInConds P ds → EachInConds P (conds_append cs ds)
conds_put P no_conds ds h j = j
conds_put P (cond_then c cs) ds h j = (h.0, conds_put P cs ds h.1 j)

pub conds_left : (P : Expr → Type 0) (cs ds : Conds) → EachInConds P (conds_append cs ds) → EachInConds P cs
conds_left P no_conds ds h = tt
conds_left P (cond_then c cs) ds h = (h.0, conds_left P cs ds h.1)

pub conds_right : (P : Expr → Type 0) (cs ds : Conds) → EachInConds P (conds_append cs ds) → EachInConds P ds
conds_right P no_conds ds h = h
conds_right P (cond_then c cs) ds h = conds_right P cs ds h.1

-- without the condition between
pub conds_drop : (P : Expr → Type 0) (cs : Conds) (c : Cond) (ds : Conds) → EachInConds P (conds_append cs (cond_then c ds)) → EachInConds P (conds_append cs ds)
conds_drop P cs c ds h = conds_put P cs ds (conds_left P cs (cond_then c ds) h) (conds_right P cs (cond_then c ds) h).1

pub conds_there : (P : Expr → Type 0) (cs : Conds) (c : Cond) (ds : Conds) → EachInConds P (conds_append cs (cond_then c ds)) → EachInCond P c
conds_there P cs c ds h = (conds_right P cs (cond_then c ds) h).0

cond_mapped : (P : Expr → Type 0) (f : Expr → Expr) → ((x : Expr) → P x → P (f x)) → (c : Cond) → EachInCond P c → EachInCond P (cond_map f c)
cond_mapped P f q (Pred p x) h = q x h
cond_mapped P f q (Join x y) h = (q x h.0, q y h.1)
cond_mapped P f q (is_in x k ts) h = (q x h.0, h.1)
cond_mapped P f q (not_in x k ts) h = (q x h.0, h.1)

pub conds_mapped : (P : Expr → Type 0) (f : Expr → Expr) → ((x : Expr) → P x → P (f x)) → (cs : Conds) → EachInConds P cs → EachInConds P (conds_map f cs)
conds_mapped P f q no_conds h = tt
conds_mapped P f q (cond_then c cs) h = (cond_mapped P f q c h.0, conds_mapped P f q cs h.1)

pub each_mapped : (P : Expr → Type 0) (f : Expr → Expr) → ((x : Expr) → P x → P (f x)) → (ps : List Expr) → Each P ps → Each P (map f ps)
each_mapped P f q [] h = tt
each_mapped P f q (x ∷ ps) h = (q x h.0, each_mapped P f q ps h.1)

-- opening makes small expressions of small ones
some_is : (x y : Expr) → IsSmall x → Some x ≡ Some y → IsSmall y
some_is x y p e = subst IsSmall (let z : x ≡ y = cc in z) p

taken_cols : (own c : PartCols) (e y : Expr) → IsSmall e → IsSmallCols c → take_cols own c e ≡ Some y → IsSmall y
taken_cols own c (Of v i d) y h k q = two (cols_eq c own) (cols_eq d own) q
  where
    two : (a b : Bool) → cond a (Some (Of v i d)) (cond b (Some (Of v i c)) None) ≡ Some y → IsSmall y
    two true b e = some_is (Of v i d) y h e
    two false true e = some_is (Of v i c) y (h.0, k) e
    two false false e = cc
taken_cols own c (NullOf r d) y h k q = one (cols_eq c own) q
  where
    one : (a : Bool) → cond a (Some (NullOf r d)) (Some (NullOf r c)) ≡ Some y → IsSmall y
    one true e = some_is (NullOf r d) y h e
    one false e = some_is (NullOf r c) y k e

taken_part : (hs : List Part) (ps : List Expr) (i : ℕ) (c : PartCols) (y : Expr) → Each IsSmall ps → IsSmallCols c → take_part hs ps i c ≡ Some y → IsSmall y
taken_part [] ps i c y h k q = cc
taken_part (p ∷ hs) [] i c y h k q = cc
taken_part (p ∷ hs) (x ∷ ps) zero c y h k q = taken_cols p.cols c x y h.0 k q
taken_part (p ∷ hs) (x ∷ ps) (suc i) c y h k q = taken_part hs ps i c y h.1 k q

pub up_small : (k : ℕ) (x : Expr) → IsSmall x → IsSmall (expr_up k x)
up_small k (Of v i c) h = h
up_small k (NullOf r c) h = h

pub opened_small : (o : Opening) → Each IsSmall o.pieces → (x y : Expr) → IsSmall x → expr_opened o x ≡ Some y → IsSmall y
opened_small o ps (Of v i c) y h q = go (nat_lt v o.at) (nat_eq v o.at) q
  where
    go : (a b : Bool) → cond a (Some (Of v i c)) (cond b (take_part o.head o.pieces i c) (Some (Of (o.n + v - 1) i c))) ≡ Some y → IsSmall y
    go true b e = some_is (Of v i c) y h e
    go false true e = taken_part o.head o.pieces i c y ps h.1 e
    go false false e = some_is (Of (o.n + v - 1) i c) y h e
opened_small o ps (NullOf r c) y h q = some_is (NullOf r c) y h q

cond_opened : (o : Opening) → Each IsSmall o.pieces → (c d : Cond) → EachInCond IsSmall c → CondOpened o c d → EachInCond IsSmall d
cond_opened o ps (Pred p x) (Pred q y) h (e, a) = opened_small o ps x y h a
cond_opened o ps (Join x y) (Join v w) h (a, b) = (opened_small o ps x v h.0 a, opened_small o ps y w h.1 b)
cond_opened o ps (is_in x k ts) (is_in y k' us) h (a, b, e) = (opened_small o ps x y h.0 a, subst (EachExpr IsSmall) e h.1)
cond_opened o ps (not_in x k ts) (not_in y k' us) h (a, b, e) = (opened_small o ps x y h.0 a, subst (EachExpr IsSmall) e h.1)
cond_opened o ps (Pred p x) (Join v w) h q = absurd q
cond_opened o ps (Pred p x) (is_in y k us) h q = absurd q
cond_opened o ps (Pred p x) (not_in y k us) h q = absurd q
cond_opened o ps (Join x y) (Pred p z) h q = absurd q
cond_opened o ps (Join x y) (is_in z k us) h q = absurd q
cond_opened o ps (Join x y) (not_in z k us) h q = absurd q
cond_opened o ps (is_in x k ts) (Pred p z) h q = absurd q
cond_opened o ps (is_in x k ts) (Join v w) h q = absurd q
cond_opened o ps (is_in x k ts) (not_in z k' us) h q = absurd q
cond_opened o ps (not_in x k ts) (Pred p z) h q = absurd q
cond_opened o ps (not_in x k ts) (Join v w) h q = absurd q
cond_opened o ps (not_in x k ts) (is_in z k' us) h q = absurd q

pub conds_opened : (o : Opening) → Each IsSmall o.pieces → (cs ds : Conds) → EachInConds IsSmall cs → CondsOpened o cs ds → EachInConds IsSmall ds
conds_opened o ps no_conds ds h q = subst (EachInConds IsSmall) (sym q) tt
conds_opened o ps (cond_then c cs) no_conds h q = absurd q
conds_opened o ps (cond_then c cs) (cond_then d ds) h (a, b) = (cond_opened o ps c d h.0 a, conds_opened o ps cs ds h.1 b)

pub pieces_opened : (o : Opening) → Each IsSmall o.pieces → (xs ys : List Expr) → Each IsSmall xs → PiecesOpened o xs ys → Each IsSmall ys
pieces_opened o ps [] ys h q = subst (Each IsSmall) (sym q) tt
pieces_opened o ps (x ∷ xs) [] h q = absurd q
pieces_opened o ps (x ∷ xs) (y ∷ ys) h (a, b) = (opened_small o ps x y h.0 a, pieces_opened o ps xs ys h.1 b)
