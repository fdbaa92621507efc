-- Congruent forms share their number.
use Rattle.std.proofs.Common.{ℕ, zero, suc, ◌+◌, ◌*◌, ◌<◌, ◌≡◌, ◌&&◌, inl, inr, Bool, true, false, cond, List, [], ◌∷◌, length, min, refl, sym, ap, ◌∙◌, subst, arith, nat_eq, nat_lt, eqb-true, slice_index_or}
use Rattle.std.proofs.lemmas.Bool.{eq-eqb}
use Rattle.wt_bag.specs.Choices.{drop_at}
use Rattle.wt_symbol.specs.declared.head.Part.{Part}
use Rattle.wt_symbol.specs.declared.head.PartCols.{PartCols}
use Rattle.wt_symbol.specs.declared.head.PartCols.TheVariants.{Whole, List as Listed}
use Rattle.wt_form.specs.declared.form.Expr.{Expr}
use Rattle.wt_form.specs.declared.form.Expr.TheVariants.{Of, Null as NullOf}
use Rattle.wt_form.specs.Trees.{Terms, no_terms, term_then, Ranges, no_ranges, range_then, FormRange, Rel, distinct_of, Conds, no_conds, cond_then, Cond, Pred, Join, is_in, not_in}
use Rattle.wt_form.specs.Parts.{terms_count, ranges_at, conds_at, pieces_at, terms_without, ranges_list, conds_list}
use Rattle.wt_form.specs.Known.{cols_same}
use Rattle.wt_form.specs.Congruent.{TermsSame, RangesSame, RangeSame, CondsSame, CondSame, expr_same, pieces_same, place}
use Rattle.wt_form.specs.Views.{OneTerm}
use Rattle.wt_facts.specs.declared.facts.Facts.{Facts}
use Rattle.wt_facts.specs.Facts.{known_of}
use Rattle.wt_facts.specs.Sames.{same_class}
use Rattle.wt_congruent.specs.Prints.{class_of, cols_print, expr_print, pieces_print, terms_print, term_print, ranges_print, range_print, conds_print, cond_print}
use Rattle.wt_congruent.specs.Refs.{TermIs}
use Rattle.wt_congruent.proofs.Sizes.{summed, taken}

one_class : (cs : List ℕ) (i j : ℕ) → same_class cs i j ≡ true → class_of cs i ≡ class_of cs j
one_class cs i j h = go (nat_lt i (length cs)) (nat_lt j (length cs)) refl refl h
  where
    go : (a b : Bool) → nat_lt i (length cs) ≡ a → nat_lt j (length cs) ≡ b → cond (a && b) (nat_eq (slice_index_or cs i 0) (slice_index_or cs j 0)) (nat_eq i j) ≡ true → class_of cs i ≡ class_of cs j
    go true true p q h = ap (λ z. cond z (slice_index_or cs i 0) i) p ∙ eqb-true (slice_index_or cs i 0) (slice_index_or cs j 0) h ∙ ap (λ z. cond z (slice_index_or cs j 0) j) (sym q)
    go true false p q h = ap (class_of cs) (eqb-true i j h)
    go false b p q h = ap (class_of cs) (eqb-true i j h)

both_left : (a b : Bool) → (a && b) ≡ true → a ≡ true
both_left true b h = refl
both_left false b h = cc

both_right : (a b : Bool) → (a && b) ≡ true → b ≡ true
both_right true b h = h
both_right false b h = cc

cols_shared : (F : Facts) (c d : PartCols) → cols_same (known_of F) c d ≡ true → cols_print F c ≡ cols_print F d
cols_shared F Whole Whole h = refl
cols_shared F (Listed a) (Listed b) h = ap (λ n. 2 + n) (one_class F.sames.lists a b h)
cols_shared F Whole (Listed b) h = cc
cols_shared F (Listed a) Whole h = cc

expr_shared : (F : Facts) (ks : List ℕ) (x y : Expr) → expr_same (known_of F) ks x y ≡ true → expr_print F x ≡ expr_print F y
expr_shared F ks (Of v i c) (Of w j d) h =
    let r = both_right (nat_eq (place ks v) w) (nat_eq i j && cols_same (known_of F) c d) h in
    ap (λ n. 1024 * n + cols_print F c) (eqb-true i j (both_left (nat_eq i j) (cols_same (known_of F) c d) r)) ∙ ap (λ n. 1024 * j + n) (cols_shared F c d (both_right (nat_eq i j) (cols_same (known_of F) c d) r))
expr_shared F ks (NullOf r Whole) (NullOf s Whole) h = ap (λ n. 512 + n) (one_class F.sames.leaves r s h)
expr_shared F ks (NullOf r (Listed a)) (NullOf s (Listed b)) h = ap (λ n. 768 + n) (one_class F.sames.lists a b h)
expr_shared F ks (NullOf r Whole) (NullOf s (Listed b)) h = cc
expr_shared F ks (NullOf r (Listed a)) (NullOf s Whole) h = cc
expr_shared F ks (Of v i c) (NullOf s d) h = cc
expr_shared F ks (NullOf r c) (Of w j d) h = cc

pieces_shared : (F : Facts) (ks : List ℕ) (xs ys : List Expr) → pieces_same (known_of F) ks xs ys ≡ true → pieces_print F xs ≡ pieces_print F ys
pieces_shared F ks [] [] h = refl
pieces_shared F ks (x ∷ xs) (y ∷ ys) h =
    ap (λ n. n + pieces_print F xs) (expr_shared F ks x y (both_left (expr_same (known_of F) ks x y) (pieces_same (known_of F) ks xs ys) h)) ∙
    ap (λ n. expr_print F y + n) (pieces_shared F ks xs ys (both_right (expr_same (known_of F) ks x y) (pieces_same (known_of F) ks xs ys) h))
pieces_shared F ks [] (y ∷ ys) h = cc
pieces_shared F ks (x ∷ xs) [] h = cc

ranges_summed : (F : Facts) (rs : Ranges) → summed (range_print F) (ranges_list rs) ≡ ranges_print F rs
ranges_summed F no_ranges = refl
ranges_summed F (range_then r rs) = ap (λ n. range_print F r + n) (ranges_summed F rs)

conds_summed : (F : Facts) (cs : Conds) → summed (cond_print F) (conds_list cs) ≡ conds_print F cs
conds_summed F no_conds = refl
conds_summed F (cond_then c cs) = ap (λ n. cond_print F c + n) (conds_summed F cs)

-- the number of the term at a place
abbrev print_at : Facts → ℕ → Terms → ℕ
print_at F k us = 1 + ranges_print F (ranges_at k us) + conds_print F (conds_at k us) + pieces_print F (pieces_at k us)

term_taken : (F : Facts) (k : ℕ) (us : Terms) → k < terms_count us → terms_print F us ≡ print_at F k us + terms_print F (terms_without k us)
term_taken F k no_terms l = let bad : ⊥ = omega arith in absurd bad
term_taken F zero (term_then rs cs ps us) l = refl
term_taken F (suc k) (term_then rs cs ps us) l = let e = term_taken F k us (omega arith) in omega (arith, e)

-- two values, in either order
joins_shared : (F : Facts) (ks : List ℕ) (x z v w : Expr) → CondSame (known_of F) ks (Join x z) (Join v w) → expr_print F x + expr_print F z ≡ expr_print F v + expr_print F w
joins_shared F ks x z v w (inl h) = ap (λ n. n + expr_print F z) (expr_shared F ks x v h.0) ∙ ap (λ n. expr_print F v + n) (expr_shared F ks z w h.1)
joins_shared F ks x z v w (inr h) = let a = expr_shared F ks x w h.0 in let b = expr_shared F ks z v h.1 in omega (arith, a, b)

mutual
  pub terms_shared : (F : Facts) (ts us : Terms) → TermsSame (known_of F) ts us → terms_print F ts ≡ terms_print F us
  terms_shared F no_terms us h = ap (terms_print F) (sym h)
  terms_shared F (term_then rs cs ps ts) us h =
      let a = ranges_shared F h.1 rs (ranges_list (ranges_at h.0 us)) h.3 in
      let b = conds_shared F h.1 cs (conds_list (conds_at h.0 us)) h.4 in
      let p = pieces_shared F h.1 ps (pieces_at h.0 us) h.5 in
      let c = terms_shared F ts (terms_without h.0 us) h.6 in
      let d = term_taken F h.0 us h.2 in
      let e = ranges_summed F (ranges_at h.0 us) in
      let f = conds_summed F (conds_at h.0 us) in
      omega (arith, a, b, p, c, d, e, f)

  ranges_shared : (F : Facts) (ks : List ℕ) (rs : Ranges) (gs : List FormRange) → RangesSame (known_of F) ks rs gs → ranges_print F rs ≡ summed (range_print F) gs
  ranges_shared F ks no_ranges gs h = ap (summed (range_print F)) (sym h.1)
  ranges_shared F [] (range_then r rs) gs h = absurd h
  ranges_shared F (k ∷ ks) (range_then r rs) gs h =
      let t = taken (range_print F) (RangeSame (known_of F) r) k gs h.0 in
      let a = range_shared F r t.0 t.1 in
      let b = ranges_shared F ks rs (drop_at k gs) h.1 in
      let c = t.2 in
      omega (arith, a, b, c)

  range_shared : (F : Facts) (r s : FormRange) → RangeSame (known_of F) r s → range_print F r ≡ range_print F s
  range_shared F (Rel r) (Rel s) h = ap (λ n. 262144 + 256 * n) (one_class F.sames.leaves r s h)
  range_shared F (Rel r) (distinct_of g us) h = absurd h
  range_shared F (distinct_of g ts) (Rel s) h = absurd h
  range_shared F (distinct_of g ts) (distinct_of g' us) h = ap (λ n. 1000003 + n) (terms_shared F ts us h.1)

  conds_shared : (F : Facts) (ks : List ℕ) (cs : Conds) (ds : List Cond) → CondsSame (known_of F) ks cs ds → conds_print F cs ≡ summed (cond_print F) ds
  conds_shared F ks no_conds ds h = ap (summed (cond_print F)) (sym h)
  conds_shared F ks (cond_then c cs) ds h =
      let t = taken (cond_print F) (CondSame (known_of F) ks c) h.0 ds h.1 in
      let a = cond_shared F ks c t.0 t.1 in
      let b = conds_shared F ks cs (drop_at h.0 ds) h.2 in
      let e = t.2 in
      omega (arith, a, b, e)

  cond_shared : (F : Facts) (ks : List ℕ) (c d : Cond) → CondSame (known_of F) ks c d → cond_print F c ≡ cond_print F d
  cond_shared F ks (Pred p x) (Pred q y) h =
      ap (λ n. 2000003 + 65536 * n + expr_print F x) (one_class F.sames.preds p q h.0) ∙ ap (λ n. 2000003 + 65536 * class_of F.sames.preds q + n) (expr_shared F ks x y h.1)
  cond_shared F ks (Pred p x) (Join v w) h = absurd h
  cond_shared F ks (Pred p x) (is_in y g us) h = absurd h
  cond_shared F ks (Pred p x) (not_in y g us) h = absurd h
  cond_shared F ks (Join x z) (Pred q y) h = absurd h
  cond_shared F ks (Join x z) (Join v w) h = ap (λ n. 5000011 + n) (joins_shared F ks x z v w h)
  cond_shared F ks (Join x z) (is_in y g us) h = absurd h
  cond_shared F ks (Join x z) (not_in y g us) h = absurd h
  cond_shared F ks (is_in x g ts) (Pred q y) h = absurd h
  cond_shared F ks (is_in x g ts) (Join v w) h = absurd h
  cond_shared F ks (is_in x g ts) (is_in y g' us) h = ap (λ n. 11000027 + (n + terms_print F ts)) (expr_shared F ks x y h.0) ∙ ap (λ n. 11000027 + (expr_print F y + n)) (terms_shared F ts us h.1)
  cond_shared F ks (is_in x g ts) (not_in y g' us) h = absurd h
  cond_shared F ks (not_in x g ts) (Pred q y) h = absurd h
  cond_shared F ks (not_in x g ts) (Join v w) h = absurd h
  cond_shared F ks (not_in x g ts) (is_in y g' us) h = absurd h
  cond_shared F ks (not_in x g ts) (not_in y g' us) h = ap (λ n. 23000009 + (n + terms_print F ts)) (expr_shared F ks x y h.0) ∙ ap (λ n. 23000009 + (expr_print F y + n)) (terms_shared F ts us h.1)

-- terms that are the same have one number
pub term_shared : (F : Facts) (t u : OneTerm) → TermIs (known_of F) t u → term_print F t ≡ term_print F u
term_shared F t u h =
    let a = ranges_shared F h.0 t.ranges (ranges_list u.ranges) h.1 in
    let b = conds_shared F h.0 t.conds (conds_list u.conds) h.2 in
    let p = pieces_shared F h.0 t.pieces u.pieces h.3 in
    let e = ranges_summed F u.ranges in
    let f = conds_summed F u.conds in
    omega (arith, a, b, p, e, f)

-- terms with other numbers are not the same
pub unlike_term : (F : Facts) (t u : OneTerm) (m n most : ℕ) → m ≡ min (term_print F t) most → n ≡ min (term_print F u) most → (m ≡ n → ⊥) → TermIs (known_of F) t u → ⊥
unlike_term F t u m n most a b differ same = differ (a ∙ ap (λ s. min s most) (term_shared F t u same) ∙ sym b)

pub in_shared : (F : Facts) (ks : List ℕ) (c d : Cond) (x y : Expr) (g g' : List Part) (ts us ts' us' : Terms) (m n most : ℕ) → c ≡ is_in x g ts → d ≡ is_in y g' us → ts' ≡ ts → us' ≡ us →
    m ≡ min (terms_print F ts') most → n ≡ min (terms_print F us') most → CondSame (known_of F) ks c d → nat_eq m n ≡ true
in_shared F ks c d x y g g' ts us ts' us' m n most a b t u i j h =
    eq-eqb m n (i ∙ ap (λ z. min (terms_print F z) most) t ∙ ap (λ z. min z most) (terms_shared F ts us (subst (λ z. CondSame (known_of F) ks z (is_in y g' us)) a (subst (CondSame (known_of F) ks c) b h)).1) ∙ ap (λ z. min (terms_print F z) most) (sym u) ∙ sym j)

pub not_in_shared : (F : Facts) (ks : List ℕ) (c d : Cond) (x y : Expr) (g g' : List Part) (ts us ts' us' : Terms) (m n most : ℕ) → c ≡ not_in x g ts → d ≡ not_in y g' us → ts' ≡ ts → us' ≡ us →
    m ≡ min (terms_print F ts') most → n ≡ min (terms_print F us') most → CondSame (known_of F) ks c d → nat_eq m n ≡ true
not_in_shared F ks c d x y g g' ts us ts' us' m n most a b t u i j h =
    eq-eqb m n (i ∙ ap (λ z. min (terms_print F z) most) t ∙ ap (λ z. min z most) (terms_shared F ts us (subst (λ z. CondSame (known_of F) ks z (not_in y g' us)) a (subst (CondSame (known_of F) ks c) b h)).1) ∙ ap (λ z. min (terms_print F z) most) (sym u) ∙ sym j)
