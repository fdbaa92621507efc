-- A term with an opened variable fits.
use Rattle.std.proofs.Common.{ℕ, zero, suc, ◌+◌, ◌-◌, ◌<◌, Bool, true, false, cond, List, [], ◌∷◌, map, ◌≡◌, refl, sym, ap, ◌∙◌, subst, ◌⊎◌, inl, inr, Some, None, length, arith, eq-eqb}
use Rattle.std.specs.Prelude.{nat_eq}
use Rattle.std.proofs.lemmas.Bool.{lt-ltb, le-ltb, cases_order, ne_eqb}
use Rattle.wt_bag.specs.Bags.{Each}
use Rattle.wt_bag.specs.Choices.{At, Has}
use Rattle.wt_bag.proofs.EachLaws.{each_implies}
use Rattle.wt_bag.proofs.UniqueLists.{each_has}
use Rattle.wt_symbol.specs.declared.head.Part.{Part}
use Rattle.wt_symbol.specs.declared.head.PartCols.{PartCols}
use Rattle.wt_symbol.specs.declared.head.PartCols.TheVariants.{Whole, List as Listed}
use Rattle.wt_form.specs.declared.form.Expr.{Expr}
use Rattle.wt_form.specs.declared.form.Expr.TheVariants.{Of, Null as NullOf}
use Rattle.wt_form.specs.Trees.{Terms, Ranges, range_then, FormRange, Rel, distinct_of, Conds, no_conds, cond_then, Cond, Pred, Join, is_in, not_in}
use Rattle.wt_form.specs.Parts.{ranges_append, ranges_count, ranges_list, expr_up}
use Rattle.wt_form.specs.Known.{cols_eq}
use Rattle.wt_form.specs.Opening.{take_part, Opening, expr_opened, CondOpened, CondsOpened, PiecesOpened}
use Rattle.wt_instance.specs.declared.instance.Instance.{Instance}
use Rattle.wt_instance.specs.Instances.{numbers}
use Rattle.wt_rows.specs.FormRows.{terms_rows}
use Rattle.wt_rows.specs.Fits.{ColsExist, AreOf, HasPart, ExprFits, HasList, IsListed, IsPiece, Aligned, RowsFit, TermsFit, CondFits, CondsFit}
use Rattle.wt_rows.proofs.Take.{some_is}
use Rattle.wt_rows.proofs.Rewrite.{cols_equal}
use Rattle.wt_rows.proofs.Moving.{at_implies, at_before, at_opened}
use Rattle.wt_rows.proofs.MapsFit.{up_fits}
use Rattle.wt_rows.proofs.Exist.{at_behind}

-- columns of columns of a part are of the part
are_of : (I : Instance) (o d c : PartCols) → AreOf I o d → AreOf I d c → AreOf I o c
are_of I Whole d c h k = tt
are_of I (Listed a) Whole c h k = absurd h
are_of I (Listed a) (Listed b) Whole h k = absurd k
are_of I (Listed a) (Listed b) (Listed c) h k = each_implies (λ n. Has n (numbers I b)) (λ n. Has n (numbers I a)) (numbers I c) (λ n q. each_has (λ m. Has m (numbers I a)) n (numbers I b) h q) k

pub cut_part : (I : Instance) (range : FormRange) (j : ℕ) (d c : PartCols) → AreOf I d c → HasPart I range j d → HasPart I range j c
cut_part I (Rel r) j d c k h = h
cut_part I (distinct_of hs ts) j d c k h = at_implies (λ part. AreOf I part.cols d) (λ part. AreOf I part.cols c) (λ part q. are_of I part.cols d c q k) j hs h

-- what is taken of a piece fits and keeps lists
module _ (I : Instance) (before inner after : Ranges) where
  abbrev all : Ranges
  all = ranges_append before (ranges_append inner after)

  abbrev k : ℕ
  k = ranges_count before

  abbrev Fitted : PartCols → Expr → Type 0
  Fitted c y = ExprFits I all y × (HasList c → IsListed y)

  taken : (own c : PartCols) (x y : Expr) → ExprFits I inner x → IsPiece own x → AreOf I own c → ColsExist I c → take_part (record { leaf = 0; cols = own } ∷ []) (expr_up k x ∷ []) 0 c ≡ Some y → Fitted c y
  taken own c (Of v i d) y fits piece of exists q = go (cols_eq c own) refl (cols_eq d own) refl q
    where
      go : (t : Bool) → cols_eq c own ≡ t → (u : Bool) → cols_eq d own ≡ u → cond t (Some (Of (k + v) i d)) (cond u (Some (Of (k + v) i c)) None) ≡ Some y → Fitted c y
      go true m u n q = subst (Fitted c) (some_is (Of (k + v) i d) y q) (up_fits I before inner after (Of v i d) tt fits, λ l. listed own (subst HasList (cols_equal c own m) l) piece)
        where
          listed : (own : PartCols) → HasList own → IsPiece own (Of v i d) → HasList d
          listed Whole l p = absurd l
          listed (Listed a) l p = p
      go false m true n q = subst (Fitted c) (some_is (Of (k + v) i c) y q)
          (up_fits I before inner after (Of v i c) tt (at_implies (λ range. HasPart I range i d) (λ range. HasPart I range i c) (λ range h. cut_part I range i d c (subst (λ z. AreOf I z c) (sym (cols_equal d own n)) of) h) v (ranges_list inner) fits.0, exists), λ l. l)
      go false m false n q = cc
  taken own c (NullOf r d) y fits piece of exists q = go (cols_eq c own) refl q
    where
      go : (t : Bool) → cols_eq c own ≡ t → cond t (Some (NullOf r d)) (Some (NullOf r c)) ≡ Some y → Fitted c y
      go true m q = subst (Fitted c) (some_is (NullOf r d) y q) (fits, λ l. listed own (subst HasList (cols_equal c own m) l) piece)
        where
          listed : (own : PartCols) → HasList own → IsPiece own (NullOf r d) → HasList d
          listed Whole l p = absurd l
          listed (Listed a) l p = p
      go false m q = subst (Fitted c) (some_is (NullOf r c) y q) ((fits.0, exists), λ l. l)

  taken_at : (hs : List Part) (ps : List Expr) (i : ℕ) (c : PartCols) (y : Expr) → Each (ExprFits I inner) ps → Aligned hs ps → At (λ part. AreOf I part.cols c) i hs → ColsExist I c → take_part hs (map (expr_up k) ps) i c ≡ Some y → Fitted c y
  taken_at [] ps i c y fits aligned a exists q = absurd a
  taken_at (p ∷ hs) [] i c y fits aligned a exists q = absurd aligned
  taken_at (p ∷ hs) (x ∷ ps) zero c y fits aligned a exists q = taken p.cols c x y fits.0 aligned.0 a exists q
  taken_at (p ∷ hs) (x ∷ ps) (suc i) c y fits aligned a exists q = taken_at hs ps i c y fits.1 aligned.1 a exists q

  module _ (hs : List Part) (ts : Terms) (ps : List Expr) (fit : Each (ExprFits I inner) ps) (aligned : Aligned hs ps) where
    abbrev old : Ranges
    old = ranges_append before (range_then (distinct_of hs ts) after)

    abbrev o : Opening
    o = record { at = k; n = ranges_count inner; head = hs; pieces = map (expr_up k) ps }

    -- an opened expression fits, and has a list where the old one has
    opened : (x y : Expr) → ExprFits I old x → expr_opened o x ≡ Some y → ExprFits I all y × (IsListed x → IsListed y)
    opened (NullOf r c) y h q = subst (λ z. ExprFits I all z × (HasList c → IsListed z)) (some_is (NullOf r c) y q) (h, λ l. l)
    opened (Of v i c) y h q = go (cases_order v k)
      where
        go : (v ≡ k) ⊎ ((v < k) ⊎ (k < v)) → ExprFits I all y × (HasList c → IsListed y)
        go (inl e) =
            let q1 : expr_opened o (Of v i c) ≡ take_part hs (map (expr_up k) ps) i c
            = ap (λ t. cond t (Some (Of v i c)) (cond (nat_eq v k) (take_part hs (map (expr_up k) ps) i c) (Some (Of (ranges_count inner + v - 1) i c)))) (le-ltb v k (omega (arith, e)))
            ∙ ap (λ t. cond t (take_part hs (map (expr_up k) ps) i c) (Some (Of (ranges_count inner + v - 1) i c))) (eq-eqb v k e) in
            let part = at_behind (λ range. HasPart I range i c) before (distinct_of hs ts) after (subst (λ z. At (λ range. HasPart I range i c) z (ranges_list old)) e h.0) in
            taken_at hs ps i c y fit aligned part h.1 (sym q1 ∙ q)
        go (inr (inl l)) =
            let q1 : expr_opened o (Of v i c) ≡ Some (Of v i c)
            = ap (λ t. cond t (Some (Of v i c)) (cond (nat_eq v k) (take_part hs (map (expr_up k) ps) i c) (Some (Of (ranges_count inner + v - 1) i c)))) (lt-ltb v k l) in
            subst (λ z. ExprFits I all z × (HasList c → IsListed z)) (some_is (Of v i c) y (sym q1 ∙ q)) ((at_before (λ range. HasPart I range i c) before (range_then (distinct_of hs ts) after) (ranges_append inner after) v l h.0, h.1), λ m. m)
        go (inr (inr l)) =
            let q1 : expr_opened o (Of v i c) ≡ Some (Of (ranges_count inner + v - 1) i c)
            = ap (λ t. cond t (Some (Of v i c)) (cond (nat_eq v k) (take_part hs (map (expr_up k) ps) i c) (Some (Of (ranges_count inner + v - 1) i c)))) (le-ltb v k (omega (arith, l)))
            ∙ ap (λ t. cond t (take_part hs (map (expr_up k) ps) i c) (Some (Of (ranges_count inner + v - 1) i c))) (ne_eqb v k (λ z. let bad : ⊥ = omega (arith, z, l) in bad)) in
            subst (λ z. ExprFits I all z × (HasList c → IsListed z)) (some_is (Of (ranges_count inner + v - 1) i c) y (sym q1 ∙ q)) ((at_opened (λ range. HasPart I range i c) before (distinct_of hs ts) inner after v l h.0, h.1), λ m. m)

    compared : (x y : Expr) → IsListed x × ExprFits I old x → expr_opened o x ≡ Some y → IsListed y × ExprFits I all y
    compared x y h q = let r = opened x y h.1 q in (r.1 h.0, r.0)

    cond_opened : (c d : Cond) → CondFits I old c → CondOpened o c d → CondFits I all d
    cond_opened (Pred p x) (Pred q y) h (e, a) = (subst (λ z. z < length I.trues) e h.0, (opened x y h.1 a).0)
    cond_opened (Join x y) (Join v w) h (a, b) = (compared x v h.0 a, compared y w h.1 b)
    cond_opened (is_in x g us) (is_in y g' us') h (a, b, e) = (compared x y h.0 a, subst (λ z. RowsFit I g' (terms_rows z I) × TermsFit I g' z) e (subst (λ z. RowsFit I z (terms_rows us I) × TermsFit I z us) b h.1))
    cond_opened (not_in x g us) (not_in y g' us') h (a, b, e) = (compared x y h.0 a, subst (λ z. RowsFit I g' (terms_rows z I) × TermsFit I g' z) e (subst (λ z. RowsFit I z (terms_rows us I) × TermsFit I z us) b h.1))
    cond_opened (Pred p x) (Join v w) h q = absurd q
    cond_opened (Pred p x) (is_in y g us) h q = absurd q
    cond_opened (Pred p x) (not_in y g us) h q = absurd q
    cond_opened (Join x y) (Pred p z) h q = absurd q
    cond_opened (Join x y) (is_in z g us) h q = absurd q
    cond_opened (Join x y) (not_in z g us) h q = absurd q
    cond_opened (is_in x g us) (Pred p z) h q = absurd q
    cond_opened (is_in x g us) (Join v w) h q = absurd q
    cond_opened (is_in x g us) (not_in z g' us') h q = absurd q
    cond_opened (not_in x g us) (Pred p z) h q = absurd q
    cond_opened (not_in x g us) (Join v w) h q = absurd q
    cond_opened (not_in x g us) (is_in z g' us') h q = absurd q

    pub conds_opened_fit : (cs ds : Conds) → CondsFit I old cs → CondsOpened o cs ds → CondsFit I all ds
    conds_opened_fit no_conds ds h q = subst (CondsFit I all) (sym q) tt
    conds_opened_fit (cond_then c cs) no_conds h q = absurd q
    conds_opened_fit (cond_then c cs) (cond_then d ds) h (a, b) = (cond_opened c d h.0 a, conds_opened_fit cs ds h.1 b)

    pub pieces_opened_fit : (xs ys : List Expr) → Each (ExprFits I old) xs → PiecesOpened o xs ys → Each (ExprFits I all) ys
    pieces_opened_fit [] ys h q = subst (Each (ExprFits I all)) (sym q) tt
    pieces_opened_fit (x ∷ xs) [] h q = absurd q
    pieces_opened_fit (x ∷ xs) (y ∷ ys) h (a, b) = ((opened x y h.0 a).0, pieces_opened_fit xs ys h.1 b)

    piece_opened : (c : PartCols) (x y : Expr) → ExprFits I old x → IsPiece c x → expr_opened o x ≡ Some y → IsPiece c y
    piece_opened Whole x y h p q = tt
    piece_opened (Listed a) x y h p q = (opened x y h q).1 p

    pub aligned_opened : (gs : List Part) (xs ys : List Expr) → Each (ExprFits I old) xs → Aligned gs xs → PiecesOpened o xs ys → Aligned gs ys
    aligned_opened [] [] ys h p q = subst (Aligned []) (sym q) tt
    aligned_opened [] (x ∷ xs) ys h p q = absurd p
    aligned_opened (g ∷ gs) [] ys h p q = absurd p
    aligned_opened (g ∷ gs) (x ∷ xs) [] h p q = absurd q
    aligned_opened (g ∷ gs) (x ∷ xs) (y ∷ ys) h p (a, b) = (piece_opened g.cols x y h.0 p.0 a, aligned_opened gs xs ys h.1 p.1 b)
