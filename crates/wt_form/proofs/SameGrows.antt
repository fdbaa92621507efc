-- What is the same stays the same where more is known.
use Rattle.std.proofs.Common.{ℕ, zero, suc, Bool, true, ◌&&◌, List, [], ◌∷◌, ◌≡◌, inl, inr, refl, nat_eq}
use Rattle.std.proofs.lemmas.Bool.{and_parts, and_from, false≢true}
use Rattle.wt_bag.specs.Choices.{At, drop_at}
use Rattle.wt_symbol.specs.declared.head.Part.{Part}
use Rattle.wt_symbol.specs.declared.head.PartCols.{PartCols}
use Rattle.wt_symbol.specs.declared.head.PartCols.TheVariants.{Whole, List as Listed}
use Rattle.wt_form.specs.declared.form.Expr.{Expr}
use Rattle.wt_form.specs.declared.form.Expr.TheVariants.{Of, Null as NullOf}
use Rattle.wt_form.specs.Trees.{Terms, no_terms, term_then, Ranges, no_ranges, range_then, FormRange, Rel, distinct_of, Conds, no_conds, cond_then, Cond, Pred, Join, is_in, not_in}
use Rattle.wt_form.specs.Parts.{ranges_list, conds_list, ranges_at, conds_at, pieces_at, terms_without}
use Rattle.wt_form.specs.Known.{Known, cols_same, part_same, heads_same}
use Rattle.wt_form.specs.Congruent.{place, expr_same, pieces_same, TermsSame, RangesSame, RangeSame, CondsSame, CondSame}

pub at_grows : {X : Type 0} (P Q : X → Type 0) → ((x : X) → P x → Q x) → (k : ℕ) (xs : List X) → At P k xs → At Q k xs
at_grows P Q f k [] h = absurd h
at_grows P Q f zero (x ∷ xs) h = f x h
at_grows P Q f (suc k) (x ∷ xs) h = at_grows P Q f k xs h

and_grows : (a b c d : Bool) → (a ≡ true → c ≡ true) → (b ≡ true → d ≡ true) → (a && b) ≡ true → (c && d) ≡ true
and_grows a b c d f g h = let p = and_parts a b h in and_from c d (f p.0) (g p.1)

module _ (K L : Known) (rel : (r s : ℕ) → K.rel r s ≡ true → L.rel r s ≡ true) (attr : (a b : ℕ) → K.attr a b ≡ true → L.attr a b ≡ true)
    (pred : (p q : ℕ) → K.pred p q ≡ true → L.pred p q ≡ true) where
  cols_grow : (c d : PartCols) → cols_same K c d ≡ true → cols_same L c d ≡ true
  cols_grow Whole Whole h = refl
  cols_grow (Listed a) (Listed b) h = attr a b h
  cols_grow Whole (Listed b) h = absurd (false≢true h)
  cols_grow (Listed a) Whole h = absurd (false≢true h)

  pub expr_grows : (ks : List ℕ) (x y : Expr) → expr_same K ks x y ≡ true → expr_same L ks x y ≡ true
  expr_grows ks (Of v i c) (Of w j d) h =
      and_grows (nat_eq (place ks v) w) (nat_eq i j && cols_same K c d) _ _ (λ q. q) (λ q. and_grows (nat_eq i j) (cols_same K c d) _ _ (λ z. z) (cols_grow c d) q) h
  expr_grows ks (NullOf r Whole) (NullOf s Whole) h = rel r s h
  expr_grows ks (NullOf r (Listed a)) (NullOf s (Listed b)) h = attr a b h
  expr_grows ks (NullOf r Whole) (NullOf s (Listed b)) h = absurd (false≢true h)
  expr_grows ks (NullOf r (Listed a)) (NullOf s Whole) h = absurd (false≢true h)
  expr_grows ks (Of v i c) (NullOf s d) h = absurd (false≢true h)
  expr_grows ks (NullOf r c) (Of w j d) h = absurd (false≢true h)

  pub pieces_grow : (ks : List ℕ) (xs ys : List Expr) → pieces_same K ks xs ys ≡ true → pieces_same L ks xs ys ≡ true
  pieces_grow ks [] [] h = refl
  pieces_grow ks (x ∷ xs) (y ∷ ys) h = and_grows (expr_same K ks x y) (pieces_same K ks xs ys) _ _ (expr_grows ks x y) (pieces_grow ks xs ys) h
  pieces_grow ks [] (y ∷ ys) h = absurd (false≢true h)
  pieces_grow ks (x ∷ xs) [] h = absurd (false≢true h)

  part_grows : (p q : Part) → part_same K p q ≡ true → part_same L p q ≡ true
  part_grows p q h = go p.leaf p.cols q.leaf q.cols h
    where
      go : (r : ℕ) (c : PartCols) (s : ℕ) (d : PartCols) → part_same K (record { leaf = r; cols = c }) (record { leaf = s; cols = d }) ≡ true → part_same L (record { leaf = r; cols = c }) (record { leaf = s; cols = d }) ≡ true
      go r Whole s Whole h = rel r s h
      go r (Listed a) s (Listed b) h = attr a b h
      go r Whole s (Listed b) h = absurd (false≢true h)
      go r (Listed a) s Whole h = absurd (false≢true h)

  heads_grow : (ps qs : List Part) → heads_same K ps qs ≡ true → heads_same L ps qs ≡ true
  heads_grow [] [] h = refl
  heads_grow (p ∷ ps) (q ∷ qs) h = and_grows (part_same K p q) (heads_same K ps qs) _ _ (part_grows p q) (heads_grow ps qs) h
  heads_grow [] (q ∷ qs) h = absurd (false≢true h)
  heads_grow (p ∷ ps) [] h = absurd (false≢true h)

  mutual
    pub terms_grow : (ts us : Terms) → TermsSame K ts us → TermsSame L ts us
    terms_grow no_terms us h = h
    terms_grow (term_then rs cs ps ts) us (k, ks, l, a, b, c, d) =
        (k, ks, l, ranges_grow ks rs (ranges_list (ranges_at k us)) a, conds_grow ks cs (conds_list (conds_at k us)) b, pieces_grow ks ps (pieces_at k us) c, terms_grow ts (terms_without k us) d)

    pub ranges_grow : (ks : List ℕ) (rs : Ranges) (gs : List FormRange) → RangesSame K ks rs gs → RangesSame L ks rs gs
    ranges_grow ks no_ranges gs h = h
    ranges_grow [] (range_then r rs) gs h = absurd h
    ranges_grow (k ∷ ks) (range_then r rs) gs (a, b) = (at_grows (RangeSame K r) (RangeSame L r) (λ s h. range_grows r s h) k gs a, ranges_grow ks rs (drop_at k gs) b)

    range_grows : (r s : FormRange) → RangeSame K r s → RangeSame L r s
    range_grows (Rel r) (Rel s) h = rel r s h
    range_grows (distinct_of h ts) (distinct_of h' us) (a, b) = (heads_grow h h' a, terms_grow ts us b)
    range_grows (Rel r) (distinct_of h us) q = absurd q
    range_grows (distinct_of h ts) (Rel s) q = absurd q

    pub conds_grow : (ks : List ℕ) (cs : Conds) (ds : List Cond) → CondsSame K ks cs ds → CondsSame L ks cs ds
    conds_grow ks no_conds ds h = h
    conds_grow ks (cond_then c cs) ds (j, a, b) = (j, at_grows (CondSame K ks c) (CondSame L ks c) (λ d h. cond_grows ks c d h) j ds a, conds_grow ks cs (drop_at j ds) b)

    pub cond_grows : (ks : List ℕ) (c d : Cond) → CondSame K ks c d → CondSame L ks c d
    cond_grows ks (Pred p x) (Pred q y) (a, b) = (pred p q a, expr_grows ks x y b)
    cond_grows ks (Join x y) (Join v w) (inl (a, b)) = inl (expr_grows ks x v a, expr_grows ks y w b)
    cond_grows ks (Join x y) (Join v w) (inr (a, b)) = inr (expr_grows ks x w a, expr_grows ks y v b)
    cond_grows ks (is_in x h ts) (is_in y h' us) (a, b) = (expr_grows ks x y a, terms_grow ts us b)
    cond_grows ks (not_in x h ts) (not_in y h' us) (a, b) = (expr_grows ks x y a, terms_grow ts us b)
    cond_grows ks (Pred p x) (Join y z) q = absurd q
    cond_grows ks (Pred p x) (is_in y h us) q = absurd q
    cond_grows ks (Pred p x) (not_in y h us) q = absurd q
    cond_grows ks (Join x z) (Pred p y) q = absurd q
    cond_grows ks (Join x z) (is_in y h us) q = absurd q
    cond_grows ks (Join x z) (not_in y h us) q = absurd q
    cond_grows ks (is_in x h ts) (Pred p y) q = absurd q
    cond_grows ks (is_in x h ts) (Join y z) q = absurd q
    cond_grows ks (is_in x h ts) (not_in y h' us) q = absurd q
    cond_grows ks (not_in x h ts) (Pred p y) q = absurd q
    cond_grows ks (not_in x h ts) (Join y z) q = absurd q
    cond_grows ks (not_in x h ts) (is_in y h' us) q = absurd q
