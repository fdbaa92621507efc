-- Variables that exist, in lists put together and in expressions that are changed.
use Rattle.std.proofs.Common.{ℕ, zero, suc, ◌+◌, ◌-◌, ◌<◌, ◌≤◌, ◌≡◌, ◌⊎◌, inl, inr, Bool, true, false, cond, List, [], ◌∷◌, map, Some, None, refl, sym, ◌∙◌, subst, arith, nat_eq, nat_lt, eqb-true}
use Rattle.std.proofs.lemmas.Bool.Decides.{nat_tests}
use Rattle.wt_bag.specs.Bags.{Each}
use Rattle.wt_symbol.specs.declared.head.Part.{Part}
use Rattle.wt_symbol.specs.declared.head.PartCols.{PartCols}
use Rattle.wt_form.specs.declared.form.Expr.{Expr}
use Rattle.wt_form.specs.declared.form.Expr.TheVariants.{Of, Null as NullOf}
use Rattle.wt_form.specs.Trees.{Terms, no_terms, term_then, Ranges, no_ranges, range_then, Conds, no_conds, cond_then, Cond, Pred, Join, is_in, not_in}
use Rattle.wt_form.specs.Parts.{terms_append, ranges_append, ranges_count, conds_append, conds_map, cond_map, conds_list, expr_up}
use Rattle.wt_form.specs.Known.{cols_eq}
use Rattle.wt_form.specs.Facts.{IsOver, Joins}
use Rattle.wt_form.specs.Changes.{put, expr_eq, expr_down, expr_onto, CondAvoids}
use Rattle.wt_form.specs.Opening.{take_cols, take_part, Opening, expr_opened, CondOpened, CondsOpened, PiecesOpened}
use Rattle.wt_form.specs.Closed.{IsWithin, VariablesExist, ExistInRanges, ExistInConds, ExistInCond}

pub terms_put : (ts us : Terms) → VariablesExist ts → VariablesExist us → VariablesExist (terms_append ts us)
terms_put no_terms us h j = j
terms_put (term_then rs cs ps ts) us h j = (h.0, terms_put ts us h.1 j)

pub terms_right : (ts us : Terms) → VariablesExist (terms_append ts us) → VariablesExist us
terms_right no_terms us h = h
terms_right (term_then rs cs ps ts) us h = terms_right ts us h.1

pub terms_left : (ts us : Terms) → VariablesExist (terms_append ts us) → VariablesExist ts
terms_left no_terms us h = tt
terms_left (term_then rs cs ps ts) us h = (h.0, terms_left ts us h.1)

pub ranges_put : (rs ss : Ranges) → ExistInRanges rs → ExistInRanges ss → ExistInRanges (ranges_append rs ss)
ranges_put no_ranges ss h j = j
ranges_put (range_then r rs) ss h j = (h.0, ranges_put rs ss h.1 j)

pub ranges_left : (rs ss : Ranges) → ExistInRanges (ranges_append rs ss) → ExistInRanges rs
ranges_left no_ranges ss h = tt
ranges_left (range_then r rs) ss h = (h.0, ranges_left rs ss h.1)

pub ranges_right : (rs ss : Ranges) → ExistInRanges (ranges_append rs ss) → ExistInRanges ss
ranges_right no_ranges ss h = h
ranges_right (range_then r rs) ss h = ranges_right rs ss h.1

pub count_append : (rs ss : Ranges) → ranges_count (ranges_append rs ss) ≡ ranges_count rs + ranges_count ss
count_append no_ranges ss = omega arith
count_append (range_then r rs) ss = let e = count_append rs ss in omega (arith, e)

module _ (n : ℕ) where
  pub conds_put : (cs ds : Conds) → ExistInConds n cs → ExistInConds n ds → ExistInConds n (conds_append cs ds)
  conds_put no_conds ds h j = j
  conds_put (cond_then c cs) ds h j = (h.0, conds_put cs ds h.1 j)

  pub conds_left : (cs ds : Conds) → ExistInConds n (conds_append cs ds) → ExistInConds n cs
  conds_left no_conds ds h = tt
  conds_left (cond_then c cs) ds h = (h.0, conds_left cs ds h.1)

  pub conds_right : (cs ds : Conds) → ExistInConds n (conds_append cs ds) → ExistInConds n ds
  conds_right no_conds ds h = h
  conds_right (cond_then c cs) ds h = conds_right cs ds h.1

  pub conds_drop : (cs : Conds) (c : Cond) (ds : Conds) → ExistInConds n (conds_append cs (cond_then c ds)) → ExistInConds n (conds_append cs ds)
  conds_drop cs c ds h = conds_put cs ds (conds_left cs (cond_then c ds) h) (conds_right cs (cond_then c ds) h).1

  pub conds_there : (cs : Conds) (c : Cond) (ds : Conds) → ExistInConds n (conds_append cs (cond_then c ds)) → ExistInCond n c
  conds_there cs c ds h = (conds_right cs (cond_then c ds) h).0

  pub joined_within : (e e' : Expr) (c : Cond) → Joins e e' c → ExistInCond n c → IsWithin n e × IsWithin n e'
  joined_within e e' (Join x y) (inl (p, q)) h = (subst (IsWithin n) p h.0, subst (IsWithin n) q h.1)
  joined_within e e' (Join x y) (inr (p, q)) h = (subst (IsWithin n) q h.1, subst (IsWithin n) p h.0)
  joined_within e e' (Pred p x) j h = absurd j
  joined_within e e' (is_in x k ts) j h = absurd j
  joined_within e e' (not_in x k ts) j h = absurd j

-- expressions that are changed
module _ (m n : ℕ) (f : Expr → Expr) (q : (x : Expr) → IsWithin m x → IsWithin n (f x)) where
  cond_mapped : (c : Cond) → ExistInCond m c → ExistInCond n (cond_map f c)
  cond_mapped (Pred p x) h = q x h
  cond_mapped (Join x y) h = (q x h.0, q y h.1)
  cond_mapped (is_in x k ts) h = (q x h.0, h.1)
  cond_mapped (not_in x k ts) h = (q x h.0, h.1)

  pub conds_mapped : (cs : Conds) → ExistInConds m cs → ExistInConds n (conds_map f cs)
  conds_mapped no_conds h = tt
  conds_mapped (cond_then c cs) h = (cond_mapped c h.0, conds_mapped cs h.1)

  pub each_mapped : (ps : List Expr) → Each (IsWithin m) ps → Each (IsWithin n) (map f ps)
  each_mapped [] h = tt
  each_mapped (x ∷ ps) h = (q x h.0, each_mapped ps h.1)

pub within_more : (m n : ℕ) → m ≤ n → (x : Expr) → IsWithin m x → IsWithin n x
within_more m n l (Of v i c) h = omega (arith, l, h)
within_more m n l (NullOf r c) h = tt

pub up_within : (k m n : ℕ) → k + m ≤ n → (x : Expr) → IsWithin m x → IsWithin n (expr_up k x)
up_within k m n l (Of v i c) h = omega (arith, l, h)
up_within k m n l (NullOf r c) h = tt

-- a variable that is taken away
down_within : (y m n v i : ℕ) (c : PartCols) → m ≤ suc n → y < m → v < m → (v ≡ y → ⊥) → IsWithin n (expr_down y (Of v i c))
down_within y m n v i c l b h avoid = go (nat_lt y v) refl
  where
    apart : (v < y) ⊎ ((v ≡ y) ⊎ (y < v)) → (v < y) ⊎ (y < v)
    apart (inl a) = inl a
    apart (inr (inl e)) = absurd (avoid e)
    apart (inr (inr a)) = inr a

    go : (t : Bool) → nat_lt y v ≡ t → cond t (v - 1) v < n
    go true e = let a : y < v = grind (arith, nat_tests) in omega (arith, l, h, a)
    go false e = let a : v ≤ y = grind (arith, nat_tests) in let d = avoid in strict (order a) a
      where
        order : v ≤ y → (v ≡ y) ⊎ (v < y)
        order a = split (nat_eq v y) refl
          where
            split : (t : Bool) → nat_eq v y ≡ t → (v ≡ y) ⊎ (v < y)
            split true q = inl (eqb-true v y q)
            split false q = inr (grind (arith, nat_tests))

        strict : (v ≡ y) ⊎ (v < y) → v ≤ y → v < n
        strict (inl q) a = absurd (avoid q)
        strict (inr s) a = omega (arith, l, b, s)

pub avoiding_within : (y m n : ℕ) → m ≤ suc n → y < m → (x : Expr) → (IsOver y x → ⊥) → IsWithin m x → IsWithin n (expr_down y x)
avoiding_within y m n l b (Of v i c) avoid h = down_within y m n v i c l b h avoid
avoiding_within y m n l b (NullOf r c) avoid h = tt

pub onto_within : (x y m n : ℕ) → m ≤ suc n → x < y → y < m → (e : Expr) → IsWithin m e → IsWithin n (expr_onto x y e)
onto_within x y m n l less b (Of v i c) h = go (nat_eq v y) refl
  where
    go : (t : Bool) → nat_eq v y ≡ t → IsWithin n (cond t (Of x i c) (expr_down y (Of v i c)))
    go true e = omega (arith, l, less, b)
    go false e = down_within y m n v i c l b h (λ q. let bad : true ≡ false = sym (let z : nat_eq v y ≡ true = grind (arith, nat_tests, q) in z) ∙ e in cc)
onto_within x y m n l less b (NullOf r c) h = tt

pub put_within : (n : ℕ) (e e' : Expr) → IsWithin n e → (x : Expr) → IsWithin n x → IsWithin n (put e e' x)
put_within n e e' h x k = go (expr_eq x e')
  where
    go : (t : Bool) → IsWithin n (cond t e x)
    go true = h
    go false = k

-- conditions that avoid a variable that is taken away
module _ (y m n : ℕ) (l : m ≤ suc n) (b : y < m) where
  cond_avoids : (c : Cond) → CondAvoids y c → ExistInCond m c → ExistInCond n (cond_map (expr_down y) c)
  cond_avoids (Pred p x) a h = avoiding_within y m n l b x a h
  cond_avoids (Join x z) a h = (avoiding_within y m n l b x a.0 h.0, avoiding_within y m n l b z a.1 h.1)
  cond_avoids (is_in x k ts) a h = (avoiding_within y m n l b x a h.0, h.1)
  cond_avoids (not_in x k ts) a h = (avoiding_within y m n l b x a h.0, h.1)

  pub conds_avoid : (cs : Conds) → Each (CondAvoids y) (conds_list cs) → ExistInConds m cs → ExistInConds n (conds_map (expr_down y) cs)
  conds_avoid no_conds a h = tt
  conds_avoid (cond_then c cs) a h = (cond_avoids c a.0 h.0, conds_avoid cs a.1 h.1)

  pub pieces_avoid : (ps : List Expr) → Each (λ x. IsOver y x → ⊥) ps → Each (IsWithin m) ps → Each (IsWithin n) (map (expr_down y) ps)
  pieces_avoid [] a h = tt
  pieces_avoid (x ∷ ps) a h = (avoiding_within y m n l b x a.0 h.0, pieces_avoid ps a.1 h.1)

-- expressions where a variable is opened
some_is : (n : ℕ) (x y : Expr) → IsWithin n x → Some x ≡ Some y → IsWithin n y
some_is n x y p e = subst (IsWithin n) (let z : x ≡ y = cc in z) p

taken_cols : (n : ℕ) (own c : PartCols) (e y : Expr) → IsWithin n e → take_cols own c e ≡ Some y → IsWithin n y
taken_cols n own c (Of v i d) y h q = two (cols_eq c own) (cols_eq d own) q
  where
    two : (a b : Bool) → cond a (Some (Of v i d)) (cond b (Some (Of v i c)) None) ≡ Some y → IsWithin n y
    two true b e = some_is n (Of v i d) y h e
    two false true e = some_is n (Of v i c) y h e
    two false false e = cc
taken_cols n own c (NullOf r d) y h q = one (cols_eq c own) q
  where
    one : (a : Bool) → cond a (Some (NullOf r d)) (Some (NullOf r c)) ≡ Some y → IsWithin n y
    one true e = some_is n (NullOf r d) y tt e
    one false e = some_is n (NullOf r c) y tt e

taken_part : (n : ℕ) (hs : List Part) (ps : List Expr) (i : ℕ) (c : PartCols) (y : Expr) → Each (IsWithin n) ps → take_part hs ps i c ≡ Some y → IsWithin n y
taken_part n [] ps i c y h q = cc
taken_part n (p ∷ hs) [] i c y h q = cc
taken_part n (p ∷ hs) (x ∷ ps) zero c y h q = taken_cols n p.cols c x y h.0 q
taken_part n (p ∷ hs) (x ∷ ps) (suc i) c y h q = taken_part n hs ps i c y h.1 q

module _ (o : Opening) (m n : ℕ) (low : o.at ≤ n) (room : o.n + m ≤ suc n) (pieces : Each (IsWithin n) o.pieces) where
  opened_within : (x y : Expr) → IsWithin m x → expr_opened o x ≡ Some y → IsWithin n y
  opened_within (Of v i c) y h q = go (nat_lt v o.at) refl (nat_eq v o.at) refl q
    where
      go : (a : Bool) → nat_lt v o.at ≡ a → (b : Bool) → nat_eq v o.at ≡ b → cond a (Some (Of v i c)) (cond b (take_part o.head o.pieces i c) (Some (Of (o.n + v - 1) i c))) ≡ Some y → IsWithin n y
      go true p b r e = some_is n (Of v i c) y (let l : v < o.at = grind (arith, nat_tests) in omega (arith, l, low)) e
      go false p true r e = taken_part n o.head o.pieces i c y pieces e
      go false p false r e = some_is n (Of (o.n + v - 1) i c) y (let l : o.at < v = grind (arith, nat_tests) in omega (arith, l, h, room)) e
  opened_within (NullOf r c) y h q = some_is n (NullOf r c) y tt q

  cond_opened : (c d : Cond) → ExistInCond m c → CondOpened o c d → ExistInCond n d
  cond_opened (Pred p x) (Pred q y) h (e, a) = opened_within x y h a
  cond_opened (Join x y) (Join v w) h (a, b) = (opened_within x v h.0 a, opened_within y w h.1 b)
  cond_opened (is_in x k ts) (is_in y k' us) h (a, b, e) = (opened_within x y h.0 a, subst VariablesExist e h.1)
  cond_opened (not_in x k ts) (not_in y k' us) h (a, b, e) = (opened_within x y h.0 a, subst VariablesExist e h.1)
  cond_opened (Pred p x) (Join v w) h q = absurd q
  cond_opened (Pred p x) (is_in y k us) h q = absurd q
  cond_opened (Pred p x) (not_in y k us) h q = absurd q
  cond_opened (Join x y) (Pred p z) h q = absurd q
  cond_opened (Join x y) (is_in z k us) h q = absurd q
  cond_opened (Join x y) (not_in z k us) h q = absurd q
  cond_opened (is_in x k ts) (Pred p z) h q = absurd q
  cond_opened (is_in x k ts) (Join v w) h q = absurd q
  cond_opened (is_in x k ts) (not_in z k' us) h q = absurd q
  cond_opened (not_in x k ts) (Pred p z) h q = absurd q
  cond_opened (not_in x k ts) (Join v w) h q = absurd q
  cond_opened (not_in x k ts) (is_in z k' us) h q = absurd q

  pub conds_opened : (cs ds : Conds) → ExistInConds m cs → CondsOpened o cs ds → ExistInConds n ds
  conds_opened no_conds ds h q = subst (ExistInConds n) (sym q) tt
  conds_opened (cond_then c cs) no_conds h q = absurd q
  conds_opened (cond_then c cs) (cond_then d ds) h (a, b) = (cond_opened c d h.0 a, conds_opened cs ds h.1 b)

  pub pieces_opened : (xs ys : List Expr) → Each (IsWithin m) xs → PiecesOpened o xs ys → Each (IsWithin n) ys
  pieces_opened [] ys h q = subst (Each (IsWithin n)) (sym q) tt
  pieces_opened (x ∷ xs) [] h q = absurd q
  pieces_opened (x ∷ xs) (y ∷ ys) h (a, b) = (opened_within x y h.0 a, pieces_opened xs ys h.1 b)
