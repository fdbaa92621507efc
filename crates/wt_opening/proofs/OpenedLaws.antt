-- Opening by a test and a change of each expression, and as the step has it.
use Rattle.std.proofs.Common.{◌≡◌, List, [], ◌∷◌, map, refl, sym, ap, ◌∙◌}
use Rattle.std.specs.Prelude.{Some}
use Rattle.wt_bag.specs.Bags.{Each}
use Rattle.wt_form.specs.declared.form.Expr.{Expr}
use Rattle.wt_form.specs.Trees.{Conds, no_conds, cond_then, Cond, Pred, Join, is_in, not_in}
use Rattle.wt_form.specs.Parts.{conds_map, cond_map}
use Rattle.wt_form.specs.Opening.{Opening, expr_opened, CondOpened, CondsOpened, PiecesOpened}
use Rattle.wt_opening.specs.Opened.{CanOpen, CondCanOpen, CondsCanOpen, or_same, opened_or_same}

module _ (o : Opening) where
  to_same : (x y : Expr) → expr_opened o x ≡ Some y → y ≡ opened_or_same o x
  to_same x y e = sym (ap (λ z. or_same z x) e)

  from_can : (x : Expr) → CanOpen o x → expr_opened o x ≡ Some (opened_or_same o x)
  from_can x (y, e) = e ∙ ap Some (to_same x y e)

  cond_to : (c d : Cond) → CondOpened o c d → CondCanOpen o c × (d ≡ cond_map (opened_or_same o) c)
  cond_to (Pred p x) (Pred q y) (e, f) = ((y, f), ap (λ z. Pred z y) (sym e) ∙ ap (Pred p) (to_same x y f))
  cond_to (Join x y) (Join v w) (e, f) = (((v, e), (w, f)), ap (λ z. Join z w) (to_same x v e) ∙ ap (Join (opened_or_same o x)) (to_same y w f))
  cond_to (is_in x h ts) (is_in y h' us) (e, f, g) = ((y, e), ap (λ z. is_in z h' us) (to_same x y e) ∙ ap (λ z. is_in (opened_or_same o x) z us) (sym f) ∙ ap (is_in (opened_or_same o x) h) (sym g))
  cond_to (not_in x h ts) (not_in y h' us) (e, f, g) = ((y, e), ap (λ z. not_in z h' us) (to_same x y e) ∙ ap (λ z. not_in (opened_or_same o x) z us) (sym f) ∙ ap (not_in (opened_or_same o x) h) (sym g))
  cond_to (Pred p x) (Join v w) q = absurd q
  cond_to (Pred p x) (is_in y k us) q = absurd q
  cond_to (Pred p x) (not_in y k us) q = absurd q
  cond_to (Join x y) (Pred p z) q = absurd q
  cond_to (Join x y) (is_in z k us) q = absurd q
  cond_to (Join x y) (not_in z k us) q = absurd q
  cond_to (is_in x k ts) (Pred p z) q = absurd q
  cond_to (is_in x k ts) (Join v w) q = absurd q
  cond_to (is_in x k ts) (not_in z k' us) q = absurd q
  cond_to (not_in x k ts) (Pred p z) q = absurd q
  cond_to (not_in x k ts) (Join v w) q = absurd q
  cond_to (not_in x k ts) (is_in z k' us) q = absurd q

  cond_from : (c : Cond) → CondCanOpen o c → CondOpened o c (cond_map (opened_or_same o) c)
  cond_from (Pred p x) h = (refl, from_can x h)
  cond_from (Join x y) h = (from_can x h.0, from_can y h.1)
  cond_from (is_in x k ts) h = (from_can x h, refl, refl)
  cond_from (not_in x k ts) h = (from_can x h, refl, refl)

  pub conds_to : (cs ds : Conds) → CondsOpened o cs ds → CondsCanOpen o cs × (ds ≡ conds_map (opened_or_same o) cs)
  conds_to no_conds ds e = (tt, e)
  conds_to (cond_then c cs) no_conds h = absurd h
  conds_to (cond_then c cs) (cond_then d ds) (a, b) =
      let p = cond_to c d a in
      let q = conds_to cs ds b in
      ((p.0, q.0), ap (λ z. cond_then z ds) p.1 ∙ ap (cond_then (cond_map (opened_or_same o) c)) q.1)

  pub conds_from_can : (cs : Conds) → CondsCanOpen o cs → CondsOpened o cs (conds_map (opened_or_same o) cs)
  conds_from_can no_conds h = refl
  conds_from_can (cond_then c cs) h = (cond_from c h.0, conds_from_can cs h.1)

  pub pieces_to : (xs ys : List Expr) → PiecesOpened o xs ys → Each (CanOpen o) xs × (ys ≡ map (opened_or_same o) xs)
  pieces_to [] ys e = (tt, e)
  pieces_to (x ∷ xs) [] h = absurd h
  pieces_to (x ∷ xs) (y ∷ ys) (e, b) =
      let q = pieces_to xs ys b in
      (((y, e), q.0), ap (λ z. z ∷ ys) (to_same x y e) ∙ ap (λ z. opened_or_same o x ∷ z) q.1)

  pub pieces_from_can : (xs : List Expr) → Each (CanOpen o) xs → PiecesOpened o xs (map (opened_or_same o) xs)
  pieces_from_can [] h = refl
  pieces_from_can (x ∷ xs) h = (from_can x h.0, pieces_from_can xs h.1)
