-- Forms of a list, each once.
use Rattle.std.proofs.Common.{ℕ, zero, suc, ◌+◌, ◌<◌, ◌≤◌, ◌≡◌, ◌⊎◌, ◌↔◌, List, [], ◌∷◌, ◌++◌, map, take, get_or, length, sym, ap, ◌∙◌, subst, inl, inr, arith, add-one}
use Rattle.std.specs.Prelude.{◌≢◌}
use Rattle.std.proofs.lemmas.List.{take_all}
use Rattle.wt_bag.specs.Bags.{Each}
use Rattle.wt_bag.specs.Choices.{Has, Apart}
use Rattle.wt_bag.proofs.HasLaws.{has_left, has_right, has_split}
use Rattle.wt_symbol.specs.declared.head.Part.{Part}
use Rattle.wt_form.specs.Trees.{Terms, Form}

-- an element that is not there stands apart from all
pub apart_with : {X : Type 0} (xs : List X) (x : X) → Apart xs → (Has x xs → ⊥) → Apart (xs ++ x ∷ [])
apart_with [] x a n = (tt, tt)
apart_with (y ∷ ys) x (first, rest) n = (each_with ys first, apart_with ys x rest (λ h. n (inr h)))
  where
    each_with : (zs : List _) → Each (λ z. y ≢ z) zs → Each (λ z. y ≢ z) (zs ++ x ∷ [])
    each_with [] e = (λ q. n (inl (sym q)), tt)
    each_with (z ∷ zs) (e, es) = (e, each_with zs es)

-- one element more
pub has_with : {X : Type 0} (xs ys : List X) (x : X) → ys ≡ xs ++ x ∷ [] → (y : X) → (Has y ys ↔ (Has y xs ⊎ (y ≡ x)))
has_with xs ys x e y = (λ h. there (has_split y xs (x ∷ []) (subst (Has y) e h)), λ h. subst (Has y) (sym e) (back h))
  where
    there : Has y xs ⊎ Has y (x ∷ []) → Has y xs ⊎ (y ≡ x)
    there (inl h) = inl h
    there (inr (inl q)) = inr q
    there (inr (inr h)) = absurd h

    back : Has y xs ⊎ (y ≡ x) → Has y (xs ++ x ∷ [])
    back (inl h) = has_left y xs (x ∷ []) h
    back (inr q) = has_right y xs (x ∷ []) (inl q)

-- what a loop over the elements has seen
pub found_at : {X Y : Type 0} (f : X → Y) (xs : List X) (i : ℕ) (x : X) (y : Y) → i < length xs → x ≡ get_or xs i x → y ≡ f x → Has y (map f xs)
found_at f [] i x y l e q = let bad : ⊥ = omega arith in absurd bad
found_at f (z ∷ xs) zero x y l e q = inl (q ∙ ap f e)
found_at f (z ∷ xs) (suc i) x y l e q = inr (found_at f xs i x y (omega arith) e q)

pub none_more : {X Y : Type 0} (f : X → Y) (xs : List X) (i : ℕ) (x : X) (y : Y) → x ≡ get_or xs i x → (y ≡ f x → ⊥) → (Has y (map f (take i xs)) → ⊥) → Has y (map f (take (i + 1) xs)) → ⊥
none_more f xs i x y e n before h = upto xs i e before (subst (λ k. Has y (map f (take k xs))) (add-one i) h)
  where
    upto : (zs : List _) (j : ℕ) → x ≡ get_or zs j x → (Has y (map f (take j zs)) → ⊥) → Has y (map f (take (suc j) zs)) → ⊥
    upto [] j e before h = absurd h
    upto (z ∷ zs) zero e before (inl q) = n (q ∙ ap f (sym e))
    upto (z ∷ zs) zero e before (inr h) = absurd h
    upto (z ∷ zs) (suc j) e before (inl q) = before (inl q)
    upto (z ∷ zs) (suc j) e before (inr h) = upto zs j e (λ k. before (inr k)) h

pub none_at_all : {X Y : Type 0} (f : X → Y) (xs : List X) (i : ℕ) (y : Y) → length xs ≤ i → (Has y (map f (take i xs)) → ⊥) → Has y (map f xs) → ⊥
none_at_all f xs i y l before h = before (subst (λ zs. Has y (map f zs)) (sym (take_all i xs l)) h)

abbrev pub form_with : List Part → Terms → Form
form_with h t = record { head = h; terms = t }

form_is : (g : Form) (h : List Part) (t : Terms) → g.head ≡ h → g.terms ≡ t → g ≡ form_with h t
form_is g h t e f = ap (λ z. form_with z g.terms) e ∙ ap (λ z. form_with h z) f

-- forms with a head of the sums that are taken, some being left
abbrev pub TakenSoFar : List Part → List Terms → List Terms → List Form → Type 0
TakenSoFar h all left forms = (g : Form) → (((g.head ≡ h) × Has g.terms all) ↔ (Has g forms ⊎ ((g.head ≡ h) × Has g.terms left)))

pub none_taken : (h : List Part) (all : List Terms) (forms : List Form) → forms ≡ [] → TakenSoFar h all all forms
none_taken h all forms e g = (λ p. inr p, λ s. back s)
  where
    back : Has g forms ⊎ ((g.head ≡ h) × Has g.terms all) → (g.head ≡ h) × Has g.terms all
    back (inl k) = absurd (subst (Has g) e k)
    back (inr p) = p

pub one_taken : (h : List Part) (t : Terms) (all left less : List Terms) (forms new : List Form) → left ≡ less ++ t ∷ [] → TakenSoFar h all left forms → ((g : Form) → (Has g new ↔ (Has g forms ⊎ (g ≡ form_with h t)))) → TakenSoFar h all less new
one_taken h t all left less forms new e before gains g = (λ p. there ((before g).0 p), λ s. (before g).1 (back s))
  where
    which : g.head ≡ h → Has g.terms less ⊎ (g.terms ≡ t) → Has g new ⊎ ((g.head ≡ h) × Has g.terms less)
    which q (inl k) = inr (q, k)
    which q (inr r) = inl ((gains g).1 (inr (form_is g h t q r)))

    there : Has g forms ⊎ ((g.head ≡ h) × Has g.terms left) → Has g new ⊎ ((g.head ≡ h) × Has g.terms less)
    there (inl k) = inl ((gains g).1 (inl k))
    there (inr p) = which p.0 ((has_with less left t e g.terms).0 p.1)

    made : Has g forms ⊎ (g ≡ form_with h t) → Has g forms ⊎ ((g.head ≡ h) × Has g.terms left)
    made (inl k) = inl k
    made (inr q) = inr (ap (λ (f : Form). f.head) q, (has_with less left t e g.terms).1 (inr (ap (λ (f : Form). f.terms) q)))

    back : Has g new ⊎ ((g.head ≡ h) × Has g.terms less) → Has g forms ⊎ ((g.head ≡ h) × Has g.terms left)
    back (inl k) = made ((gains g).0 k)
    back (inr p) = inr (p.0, (has_with less left t e g.terms).1 (inl p.1))

pub all_taken : (h : List Part) (all left : List Terms) (forms : List Form) → left ≡ [] → TakenSoFar h all left forms → (g : Form) → (Has g forms ↔ ((g.head ≡ h) × Has g.terms all))
all_taken h all left forms e taken g = (λ k. (taken g).1 (inl k), λ p. there ((taken g).0 p))
  where
    there : Has g forms ⊎ ((g.head ≡ h) × Has g.terms left) → Has g forms
    there (inl k) = k
    there (inr p) = absurd (subst (Has g.terms) e p.1)

-- the same with a copy of the head
pub one_head : (h h' : List Part) (t : Terms) (old new : List Form) → h' ≡ h → ((g : Form) → (Has g new ↔ (Has g old ⊎ (g ≡ form_with h' t)))) → (g : Form) → (Has g new ↔ (Has g old ⊎ (g ≡ form_with h t)))
one_head h h' t old new e gains = subst (λ z. (g : Form) → (Has g new ↔ (Has g old ⊎ (g ≡ form_with z t)))) e gains

-- forms with one head and sums of a property are those of the property
pub stepped : (P : Terms → Type 0) (h h' : List Part) (forms : List Form) (sums : List Terms) → h' ≡ h → ((g : Form) → (Has g forms ↔ ((g.head ≡ h') × Has g.terms sums))) → ((us : Terms) → (Has us sums ↔ P us)) → (g : Form) → (Has g forms ↔ ((g.head ≡ h) × P g.terms))
stepped P h h' forms sums e exact each g =
    (λ k. let p = (exact g).0 k in (p.0 ∙ e, (each g.terms).0 p.1), λ p. (exact g).1 (p.0 ∙ sym e, (each g.terms).1 p.1))
