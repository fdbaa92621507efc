-- Writing an earlier expression for a later one leaves a list of expressions as it was, or lowers its place.
use Rattle.std.proofs.Common.{ℕ, ◌+◌, ◌<◌, ◌≤◌, ◌≡◌, ◌⊎◌, inl, inr, Bool, true, false, ◌&&◌, ◌||◌, cond, List, [], ◌∷◌, map, refl, sym, ap, ◌∙◌, subst, arith, eqb-true}
use Rattle.std.specs.Prelude.{nat_eq, nat_lt}
use Rattle.std.proofs.lemmas.Bool.{and_parts, false≢true, ltb-true}
use Rattle.wt_symbol.specs.declared.head.PartCols.{PartCols}
use Rattle.wt_symbol.specs.declared.head.PartCols.TheVariants.{Whole, List as Listed}
use Rattle.wt_form.specs.declared.form.Expr.{Expr}
use Rattle.wt_form.specs.declared.form.Expr.TheVariants.{Of, Null as NullOf}
use Rattle.wt_form.specs.Trees.{Conds, no_conds, cond_then, Cond, Pred, Join, is_in, not_in}
use Rattle.wt_form.specs.Parts.{conds_map, cond_map}
use Rattle.wt_form.specs.Known.{cols_eq}
use Rattle.wt_form.specs.Changes.{cols_before, expr_before, expr_eq, put}
use Rattle.wt_form.specs.Weights.{IsSmall, IsSmallCols, cols_place, expr_place, pieces_place, terms_place, conds_place, cond_place}

cols_is : (c d : PartCols) → cols_eq c d ≡ true → c ≡ d
cols_is Whole Whole h = refl
cols_is (Listed a) (Listed b) h = ap Listed (eqb-true a b h)
cols_is Whole (Listed b) h = absurd (false≢true h)
cols_is (Listed a) Whole h = absurd (false≢true h)

pub expr_is : (x y : Expr) → expr_eq x y ≡ true → x ≡ y
expr_is (Of v i c) (Of w j d) h =
    let p = and_parts (nat_eq v w) (nat_eq i j && cols_eq c d) h in
    let q = and_parts (nat_eq i j) (cols_eq c d) p.1 in
    ap (λ z. Of z i c) (eqb-true v w p.0) ∙ ap (λ z. Of w z c) (eqb-true i j q.0) ∙ ap (Of w j) (cols_is c d q.1)
expr_is (NullOf r c) (NullOf s d) h =
    let p = and_parts (nat_eq r s) (cols_eq c d) h in
    ap (λ z. NullOf z c) (eqb-true r s p.0) ∙ ap (NullOf s) (cols_is c d p.1)
expr_is (Of v i c) (NullOf s d) h = absurd (false≢true h)
expr_is (NullOf r c) (Of w j d) h = absurd (false≢true h)

or_parts : (a b : Bool) → (a || b) ≡ true → (a ≡ true) ⊎ (b ≡ true)
or_parts true b h = inl refl
or_parts false b h = inr h

small_place : (c : PartCols) → IsSmallCols c → cols_place c ≤ 63
small_place Whole h = omega arith
small_place (Listed a) h = omega (arith, h)

cols_lower : (c d : PartCols) → IsSmallCols c → cols_before c d ≡ true → cols_place c < cols_place d
cols_lower (Listed a) (Listed b) h q = ltb-true a b q
cols_lower (Listed a) Whole h q = h
cols_lower Whole d h q = absurd (false≢true q)

-- an expression before another one has a lower place
pub earlier_lower : (x y : Expr) → IsSmall x → IsSmall y → expr_before x y ≡ true → expr_place x < expr_place y
earlier_lower (Of v i c) (Of w j d) h k q = by_variable (or_parts (nat_lt v w) (nat_eq v w && (nat_lt i j || (nat_eq i j && cols_before c d))) q)
  where
    by_cols : v ≡ w → (nat_eq i j && cols_before c d) ≡ true → expr_place (Of v i c) < expr_place (Of w j d)
    by_cols e r =
        let p = and_parts (nat_eq i j) (cols_before c d) r in
        let same : i ≡ j = eqb-true i j p.0 in
        let below = cols_lower c d h.1 p.1 in
        omega (arith, e, same, below)

    by_part : v ≡ w → (nat_lt i j ≡ true) ⊎ ((nat_eq i j && cols_before c d) ≡ true) → expr_place (Of v i c) < expr_place (Of w j d)
    by_part e (inl r) = let below : i < j = ltb-true i j r in omega (arith, e, below, small_place c h.1)
    by_part e (inr r) = by_cols e r

    by_variable : (nat_lt v w ≡ true) ⊎ ((nat_eq v w && (nat_lt i j || (nat_eq i j && cols_before c d))) ≡ true) → expr_place (Of v i c) < expr_place (Of w j d)
    by_variable (inl r) = let below : v < w = ltb-true v w r in omega (arith, below, h.0, small_place c h.1)
    by_variable (inr r) =
        let p = and_parts (nat_eq v w) (nat_lt i j || (nat_eq i j && cols_before c d)) r in
        by_part (eqb-true v w p.0) (or_parts (nat_lt i j) (nat_eq i j && cols_before c d) p.1)
earlier_lower (NullOf r c) y h k q = absurd (false≢true q)
earlier_lower (Of v i c) (NullOf s d) h k q = absurd (false≢true q)

module _ (e e' : Expr) (lower : expr_place e < expr_place e') where
  put_lowers : (x : Expr) → (put e e' x ≡ x) ⊎ (expr_place (put e e' x) < expr_place x)
  put_lowers x = go (expr_eq x e') refl
    where
      go : (b : Bool) → expr_eq x e' ≡ b → (cond b e x ≡ x) ⊎ (expr_place (cond b e x) < expr_place x)
      go true q = inr (subst (λ z. expr_place e < expr_place z) (sym (expr_is x e' q)) lower)
      go false q = inl refl

  -- one or the other lowers, or both stay
  two_lower : {X Y Z : Type 0} (f : X → Y → Z) (a a' : X) (b b' : Y) (m m' n n' : ℕ) → (a' ≡ a) ⊎ (m' < m) → (b' ≡ b) ⊎ (n' < n) → (a' ≡ a → m' ≡ m) → (b' ≡ b → n' ≡ n) → (f a' b' ≡ f a b) ⊎ (m' + n' < m + n)
  two_lower f a a' b b' m m' n n' (inl p) (inl q) same same' = inl (ap (λ z. f z b') p ∙ ap (f a) q)
  two_lower f a a' b b' m m' n n' (inl p) (inr q) same same' = inr (omega (arith, q, same p))
  two_lower f a a' b b' m m' n n' (inr p) (inl q) same same' = inr (omega (arith, p, same' q))
  two_lower f a a' b b' m m' n n' (inr p) (inr q) same same' = inr (omega (arith, p, q))

  pub pieces_lower : (ps : List Expr) → (map (put e e') ps ≡ ps) ⊎ (pieces_place (map (put e e') ps) < pieces_place ps)
  pieces_lower [] = inl refl
  pieces_lower (x ∷ ps) = two_lower (λ y ys. y ∷ ys) x (put e e' x) ps (map (put e e') ps) _ _ _ _ (put_lowers x) (pieces_lower ps) (λ q. ap expr_place q) (λ q. ap pieces_place q)

  one_lower : (x : Expr) (h : Expr → Cond) (n : ℕ) → ((y : Expr) → cond_place (h y) ≡ expr_place y + n) → (put e e' x ≡ x) ⊎ (expr_place (put e e' x) < expr_place x) → (h (put e e' x) ≡ h x) ⊎ (cond_place (h (put e e' x)) < cond_place (h x))
  one_lower x h n f (inl q) = inl (ap h q)
  one_lower x h n f (inr q) = inr (omega (arith, q, f x, f (put e e' x)))

  cond_lowers : (c : Cond) → (cond_map (put e e') c ≡ c) ⊎ (cond_place (cond_map (put e e') c) < cond_place c)
  cond_lowers (Pred p x) = one_lower x (Pred p) 0 (λ y. omega arith) (put_lowers x)
  cond_lowers (Join x y) = two_lower Join x (put e e' x) y (put e e' y) _ _ _ _ (put_lowers x) (put_lowers y) (λ q. ap expr_place q) (λ q. ap expr_place q)
  cond_lowers (is_in x h ts) = one_lower x (λ z. is_in z h ts) (terms_place ts) (λ y. refl) (put_lowers x)
  cond_lowers (not_in x h ts) = one_lower x (λ z. not_in z h ts) (terms_place ts) (λ y. refl) (put_lowers x)

  pub conds_lower : (cs : Conds) → (conds_map (put e e') cs ≡ cs) ⊎ (conds_place (conds_map (put e e') cs) < conds_place cs)
  conds_lower no_conds = inl refl
  conds_lower (cond_then c cs) = two_lower cond_then c (cond_map (put e e') c) cs (conds_map (put e e') cs) _ _ _ _ (cond_lowers c) (conds_lower cs) (λ q. ap cond_place q) (λ q. ap conds_place q)
