-- Conditions put together and changed.
use Rattle.std.proofs.Common.{◌≡◌, List, [], ◌∷◌, ◌++◌, Result, Ok, Err, refl, ap, ◌∙◌, ℕ, zero, suc, ◌<◌, get_or, length, arith, subst}
use Rattle.std.specs.Prelude.{OnOk, Option, Some, None, MatchOption}
use Rattle.wt_bag.specs.Bags.{Each}
use Rattle.wt_form.specs.declared.form.Expr.{Expr}
use Rattle.wt_form.specs.Trees.{Ranges, Conds, no_conds, cond_then}
use Rattle.wt_form.specs.Parts.{one_term, conds_append, conds_map, cond_map, conds_list}

pub append_none : (cs : Conds) → conds_append cs no_conds ≡ cs
append_none no_conds = refl
append_none (cond_then c cs) = ap (cond_then c) (append_none cs)

pub map_append : (f : Expr → Expr) (b a : Conds) → conds_map f (conds_append b a) ≡ conds_append (conds_map f b) (conds_map f a)
map_append f no_conds a = refl
map_append f (cond_then c b) a = ap (cond_then (cond_map f c)) (map_append f b a)

pub list_append : (b a : Conds) → conds_list (conds_append b a) ≡ conds_list b ++ conds_list a
list_append no_conds a = refl
list_append (cond_then c b) a = ap (λ l. c ∷ l) (list_append b a)

pub each_both : {X : Type 0} (P : X → Type 0) (xs ys : List X) → Each P xs → Each P ys → Each P (xs ++ ys)
each_both P [] ys h g = g
each_both P (x ∷ xs) ys h g = (h.0, each_both P xs ys h.1 g)

pub each_parts : {X : Type 0} (P : X → Type 0) (xs ys : List X) → Each P (xs ++ ys) → Each P xs × Each P ys
each_parts P [] ys h = (tt, h)
each_parts P (x ∷ xs) ys h = let r = each_parts P xs ys h.1 in ((h.0, r.0), r.1)

pub same_term : (r r' : Ranges) (c c' : Conds) (p p' : List Expr) → r ≡ r' → c ≡ c' → p ≡ p' → one_term r c p ≡ one_term r' c' p'
same_term r r' c c' p p' e f g = ap (λ z. one_term z c p) e ∙ ap (λ z. one_term r' z p) f ∙ ap (one_term r' c') g

pub on_ok : {A E : Type 0} (r : Result A E) (P Q : Type 0) → (P → Q) → OnOk r P → OnOk r Q
on_ok (Ok a) P Q f h = f h
on_ok (Err e) P Q f h = tt

-- which element is given past the end does not matter inside
pub same_get : {X : Type 0} (xs : List X) (i : ℕ) (d e : X) → i < length xs → get_or xs i d ≡ get_or xs i e
same_get [] i d e l = let bad : ⊥ = omega arith in absurd bad
same_get (x ∷ xs) zero d e l = refl
same_get (x ∷ xs) (suc i) d e l = same_get xs i d e (omega (arith, l))

-- what is known of an answer that is there, or is not
pub told_some : {X : Type 0} (r : Option X) (A : Type 0) (B : X → Type 0) (x : X) → MatchOption r A B → r ≡ Some x → B x
told_some r A B x h e = subst (λ z. MatchOption z A B) e h

pub told_none : {X : Type 0} (r : Option X) (A : Type 0) (B : X → Type 0) → MatchOption r A B → r ≡ None → A
told_none r A B h e = subst (λ z. MatchOption z A B) e h
