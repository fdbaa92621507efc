-- Lists of variables, one after another moved from those that are left.
use Rattle.std.proofs.Common.{ℕ, zero, suc, ◌+◌, ◌<◌, ◌≡◌, ◌⊎◌, inl, inr, List, [], ◌∷◌, ◌++◌, length, get_or, refl, sym, ◌∙◌, subst, arith}
use Rattle.std.specs.Prelude.{Option, None, MatchOption}
use Rattle.std.proofs.lemmas.Bool.{cases_order}
use Rattle.wt_bag.specs.Bags.{Each}
use Rattle.wt_bag.specs.Choices.{At, Has, drop_at}
use Rattle.wt_bag.proofs.HasLaws.{has_left, has_right, has_split}
use Rattle.wt_form.specs.Trees.{Ranges, no_ranges, range_then}
use Rattle.wt_form.specs.Parts.{ranges_count, ranges_list}

pub count_length : (rs : Ranges) → ranges_count rs ≡ length (ranges_list rs)
count_length no_ranges = refl
count_length (range_then r rs) = let e = count_length rs in let g : length (ranges_list (range_then r rs)) ≡ suc (length (ranges_list rs)) = refl in omega (arith, e, g)

-- one variable more is in a list that is one longer
pub one_more : (n : ℕ) (xs ys : List ℕ) → ys ≡ xs ++ n ∷ [] → ((v : ℕ) → v < n → Has v xs) → (v : ℕ) → v < n + 1 → Has v ys
one_more n xs ys e before v l = subst (Has v) (sym e) (go (cases_order v n))
  where
    go : (v ≡ n) ⊎ ((v < n) ⊎ (n < v)) → Has v (xs ++ n ∷ [])
    go (inl q) = has_right v xs (n ∷ []) (inl q)
    go (inr (inl q)) = has_left v xs (n ∷ []) (before v q)
    go (inr (inr q)) = let bad : ⊥ = omega (arith, q, l) in absurd bad

-- one more is among a list
pub one_more_there : (n : ℕ) (xs : List ℕ) → Has n xs → ((v : ℕ) → v < n → Has v xs) → (v : ℕ) → v < n + 1 → Has v xs
one_more_there n xs h before v l = go (cases_order v n)
  where
    go : (v ≡ n) ⊎ ((v < n) ⊎ (n < v)) → Has v xs
    go (inl q) = subst (λ z. Has z xs) (sym q) h
    go (inr (inl q)) = before v q
    go (inr (inr q)) = let bad : ⊥ = omega (arith, q, l) in absurd bad

-- each element but the one at a place is still there without it
left_or_taken : (xs : List ℕ) (j v u : ℕ) → u ≡ get_or xs j u → j < length xs → Has v xs → Has v (drop_at j xs) ⊎ (v ≡ u)
left_or_taken [] j v u e l h = absurd h
left_or_taken (x ∷ xs) zero v u e l (inl q) = inr (q ∙ sym e)
left_or_taken (x ∷ xs) zero v u e l (inr h) = inl h
left_or_taken (x ∷ xs) (suc j) v u e l (inl q) = inl (inl q)
left_or_taken (x ∷ xs) (suc j) v u e l (inr h) = go (left_or_taken xs j v u e (omega (arith, l)) h)
  where
    go : Has v (drop_at j xs) ⊎ (v ≡ u) → Has v (x ∷ drop_at j xs) ⊎ (v ≡ u)
    go (inl g) = inl (inr g)
    go (inr q) = inr q

-- a variable is moved from those that are left
pub moved : (xs ys left less : List ℕ) (j u v : ℕ) → ys ≡ xs ++ u ∷ [] → less ≡ drop_at j left → u ≡ get_or left j u → j < length left → Has v xs ⊎ Has v left → Has v ys ⊎ Has v less
moved xs ys left less j u v e d g l (inl h) = inl (subst (Has v) (sym e) (has_left v xs (u ∷ []) h))
moved xs ys left less j u v e d g l (inr h) = go (left_or_taken left j v u g l h)
  where
    go : Has v (drop_at j left) ⊎ (v ≡ u) → Has v ys ⊎ Has v less
    go (inl k) = inr (subst (Has v) (sym d) k)
    go (inr q) = inl (subst (Has v) (sym e) (has_right v xs (u ∷ []) (inl q)))

-- each has the property, with one more that has it
pub each_more : (P : ℕ → Type 0) (xs ys : List ℕ) (u v : ℕ) → ys ≡ xs ++ u ∷ [] → ((w : ℕ) → Has w xs → P w) → P u → Has v ys → P v
each_more P xs ys u v e all here h = go (has_split v xs (u ∷ []) (subst (Has v) e h))
  where
    go : Has v xs ⊎ Has v (u ∷ []) → P v
    go (inl k) = all v k
    go (inr (inl q)) = subst P (sym q) here
    go (inr (inr k)) = absurd k

pub at_taken : (P : ℕ → Type 0) (xs : List ℕ) (j u : ℕ) → u ≡ get_or xs j u → At P j xs → P u
at_taken P [] j u e h = absurd h
at_taken P (x ∷ xs) zero u e h = subst P (sym e) h
at_taken P (x ∷ xs) (suc j) u e h = at_taken P xs j u e h

pub taken_at : (P : ℕ → Type 0) (xs : List ℕ) (j : ℕ) → j < length xs → P (get_or xs j 0) → At P j xs
taken_at P [] j l p = let bad : ⊥ = omega arith in absurd bad
taken_at P (x ∷ xs) zero l p = p
taken_at P (x ∷ xs) (suc j) l p = taken_at P xs j (omega (arith, l)) p

-- what holds at each place holds of each element
pub from_places : (P : ℕ → Type 0) (xs : List ℕ) → ((i : ℕ) → i < length xs → P (get_or xs i 0)) → Each P xs
from_places P [] f = tt
from_places P (x ∷ xs) f = (f 0 (omega arith), from_places P xs (λ i m. f (suc i) (omega (arith, m))))

pub of_each : (P : ℕ → Type 0) (xs : List ℕ) → Each P xs → (v : ℕ) → Has v xs → P v
of_each P [] h v g = absurd g
of_each P (x ∷ xs) h v (inl q) = subst P (sym q) h.0
of_each P (x ∷ xs) h v (inr g) = of_each P xs h.1 v g

-- none of the first j, and not the next
pub none_more : (P : ℕ → Type 0) (j : ℕ) → ((i : ℕ) → i < j → P i → ⊥) → (P j → ⊥) → (i : ℕ) → i < j + 1 → P i → ⊥
none_more P j before here i l = go (cases_order i j)
  where
    go : (i ≡ j) ⊎ ((i < j) ⊎ (j < i)) → P i → ⊥
    go (inl q) p = here (subst P q p)
    go (inr (inl q)) p = before i q p
    go (inr (inr q)) p = let bad : ⊥ = omega arith in absurd bad

-- what is known of an answer that is not there
pub told_none : {X : Type 0} (r : Option X) (A : Type 0) (B : X → Type 0) → MatchOption r A B → r ≡ None → A
told_none r A B h e = subst (λ z. MatchOption z A B) e h
