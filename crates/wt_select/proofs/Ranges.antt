-- Runs of numbers, one longer.
use Rattle.std.proofs.Common.{◌≡◌, ℕ, zero, suc, ◌+◌, List, [], ◌∷◌, ◌++◌, map, refl, sym, ap, ◌∙◌, arith}
use Rattle.wt_plan.specs.Regular.{upto}

pub map_append : {X Y : Type 0} (f : X → Y) (xs ys : List X) → map f (xs ++ ys) ≡ map f xs ++ map f ys
map_append f [] ys = refl
map_append f (x ∷ xs) ys = ap (λ l. f x ∷ l) (map_append f xs ys)

pub append_append : {X : Type 0} (xs ys zs : List X) → (xs ++ ys) ++ zs ≡ xs ++ (ys ++ zs)
append_append [] ys zs = refl
append_append (x ∷ xs) ys zs = ap (λ l. x ∷ l) (append_append xs ys zs)

pub upto_last : (n : ℕ) → upto (suc n) ≡ upto n ++ n ∷ []
upto_last zero = refl
upto_last (suc n) = ap (λ l. 0 ∷ l) (ap (map suc) (upto_last n) ∙ map_append suc (upto n) (n ∷ []))

pub upto_next : (xs now : List ℕ) (n : ℕ) → xs ≡ upto n → now ≡ xs ++ n ∷ [] → now ≡ upto (n + 1)
upto_next xs now n e f = let s : suc n ≡ n + 1 = omega arith in f ∙ ap (λ l. l ++ n ∷ []) e ∙ sym (upto_last n) ∙ ap upto s

pub range_next : (first : ℕ) (old xs now : List ℕ) (n : ℕ) → xs ≡ old ++ map (λ k. first + k) (upto n) → now ≡ xs ++ (first + n) ∷ [] → now ≡ old ++ map (λ k. first + k) (upto (n + 1))
range_next first old xs now n e f =
    let s : suc n ≡ n + 1 = omega arith in
    f ∙ ap (λ l. l ++ (first + n) ∷ []) e ∙ append_append old (map (λ k. first + k) (upto n)) ((first + n) ∷ [])
    ∙ ap (λ l. old ++ l) (sym (map_append (λ k. first + k) (upto n) (n ∷ [])) ∙ ap (map (λ k. first + k)) (sym (upto_last n) ∙ ap upto s))
