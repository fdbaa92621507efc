-- Rounds of the search.
use Rattle.std.proofs.Common.{ℕ, zero, suc, ◌+◌, ◌-◌, ◌<◌, ◌≤◌, ◌≡◌, ◌⊎◌, ◌↔◌, List, [], ◌∷◌, ◌++◌, take, drop, length, refl, sym, ap, ◌∙◌, subst, inl, inr, arith}
use Rattle.std.proofs.lemmas.List.{take_all}
use Rattle.wt_bag.specs.Choices.{Has, At}
use Rattle.wt_form.specs.Trees.{Form}
use Rattle.wt_form.specs.Known.{Known}
use Rattle.wt_form.specs.Steps.{Step}
use Rattle.wt_form.specs.Provable.{Chain}
use Rattle.wt_search.specs.Found.{Grown, GoesBetween}
use Rattle.wt_search.proofs.Rounds.{Reaches, Searched, next_round, all_more}

reaches_there : (K : Known) (k : ℕ) (f g : Form) → Reaches (Step K) k f g → Chain K k f g
reaches_there K zero f g r = r
reaches_there K (suc k) f g (inl e) = inl e
reaches_there K (suc k) f g (inr r) = inr (r.0, r.1, reaches_there K k r.0 g r.2)

reaches_back : (K : Known) (k : ℕ) (f g : Form) → Chain K k f g → Reaches (Step K) k f g
reaches_back K zero f g r = r
reaches_back K (suc k) f g (inl e) = inl e
reaches_back K (suc k) f g (inr r) = inr (r.0, r.1, reaches_back K k r.0 g r.2)

-- what k rounds found: the forms from first on are those of the last round
abbrev pub SoFar : Known → ℕ → Form → List Form → ℕ → Type 0
SoFar K k f forms first = Searched (Step K) k f forms (take first forms)

pub first_round : (K : Known) (f : Form) (old forms : List Form) → old ≡ [] → Grown old forms (λ g. g ≡ f) → SoFar K 0 f forms 0
first_round K f old forms e grown = record { found = λ g. (λ h. there g ((grown.has g).0 h), λ r. (grown.has g).1 (inr (sym r))); closed = λ h g m s. absurd m }
  where
    there : (g : Form) → Has g old ⊎ (g ≡ f) → f ≡ g
    there g (inl h) = absurd (subst (Has g) e h)
    there g (inr q) = sym q

split_at : (n : ℕ) (xs : List Form) (h : Form) → (Has h xs ↔ (Has h (take n xs) ⊎ Has h (drop n xs)))
split_at n xs h = (there n xs, back n xs)
  where
    there : (n : ℕ) (xs : List Form) → Has h xs → Has h (take n xs) ⊎ Has h (drop n xs)
    there zero xs m = inr m
    there (suc n) [] m = absurd m
    there (suc n) (x ∷ xs) (inl e) = inl (inl e)
    there (suc n) (x ∷ xs) (inr m) = later (there n xs m)
      where
        later : Has h (take n xs) ⊎ Has h (drop n xs) → Has h (x ∷ take n xs) ⊎ Has h (drop n xs)
        later (inl k) = inl (inr k)
        later (inr k) = inr k

    back : (n : ℕ) (xs : List Form) → Has h (take n xs) ⊎ Has h (drop n xs) → Has h xs
    back zero xs (inl m) = absurd m
    back zero xs (inr m) = m
    back (suc n) [] (inl m) = absurd m
    back (suc n) [] (inr m) = absurd m
    back (suc n) (x ∷ xs) (inl (inl e)) = inl e
    back (suc n) (x ∷ xs) (inl (inr m)) = inr (back n xs (inl m))
    back (suc n) (x ∷ xs) (inr m) = inr (back n xs (inr m))

-- a form at a place from first on is one of the last round's
from_place : (P : Form → Type 0) (first i : ℕ) (xs : List Form) → first ≤ i → At P i xs → (h : Form) × Has h (drop first xs) × P h
from_place P first i [] a h = absurd h
from_place P zero zero (x ∷ xs) a h = (x, inl refl, h)
from_place P zero (suc i) (x ∷ xs) a h = let r = from_place P zero i xs (omega arith) h in (r.0, inr r.1, r.2)
from_place P (suc first) zero (x ∷ xs) a h = let bad : ⊥ = omega (arith, a) in absurd bad
from_place P (suc first) (suc i) (x ∷ xs) a h = from_place P first i xs (omega (arith, a)) h

to_place : (P : Form → Type 0) (first : ℕ) (xs : List Form) (h : Form) → Has h (drop first xs) → P h → (i : ℕ) × (first ≤ i) × (i < length xs) × At P i xs
to_place P zero [] h m p = absurd m
to_place P zero (x ∷ xs) h (inl e) p = (zero, omega arith, omega arith, subst P e p)
to_place P zero (x ∷ xs) h (inr m) p = let r = to_place P zero xs h m p in let l = r.2 in (suc r.0, omega arith, omega (arith, l), r.3)
to_place P (suc first) [] h m p = absurd m
to_place P (suc first) (x ∷ xs) h m p = let r = to_place P first xs h m p in let a = r.1 in let l = r.2 in (suc r.0, omega (arith, a), omega (arith, l), r.3)

take_first : (xs ys : List Form) → take (length xs) (xs ++ ys) ≡ xs
take_first [] ys = refl
take_first (x ∷ xs) ys = ap (λ l. x ∷ l) (take_first xs ys)

pub one_round : (K : Known) (k : ℕ) (f : Form) (old new : List Form) (first last n : ℕ) → last ≡ length old → n ≡ length old → Grown old new (GoesBetween K old first n) → SoFar K k f old first → SoFar K (k + 1) f new last
one_round K k f old new first last n e ne grown s =
    subst (λ d. Searched (Step K) (k + 1) f new d) (sym done) (subst (λ m. Searched (Step K) m f new old) one (next_round (Step K) k f old (take first old) (drop first old) new s (split_at first old) gains))
  where
    one : suc k ≡ k + 1
    one = omega arith

    done : take last new ≡ old
    done = ap (λ m. take m new) e ∙ ap (take (length old)) grown.behind ∙ take_first old grown.rest

    there : (g : Form) → Has g old ⊎ GoesBetween K old first n g → Has g old ⊎ ((h : Form) × Has h (drop first old) × Step K h g)
    there g (inl h) = inl h
    there g (inr b) = inr (from_place (λ h. Step K h g) first b.0 old b.1 b.3)

    back : (g : Form) → Has g old ⊎ ((h : Form) × Has h (drop first old) × Step K h g) → Has g old ⊎ GoesBetween K old first n g
    back g (inl h) = inl h
    back g (inr r) = let p = to_place (λ h. Step K h g) first old r.0 r.1 r.2 in inr (p.0, p.1, subst (λ m. p.0 < m) (sym ne) p.2, p.3)

    gains : (g : Form) → (Has g new ↔ (Has g old ⊎ ((h : Form) × Has h (drop first old) × Step K h g)))
    gains g = (λ h. there g ((grown.has g).0 h), λ h. (grown.has g).1 (back g h))

-- all rounds
pub all_rounds : (K : Known) (k steps : ℕ) (f : Form) (forms : List Form) (first : ℕ) → k ≡ steps → SoFar K k f forms first → (g : Form) → (Has g forms ↔ Chain K steps f g)
all_rounds K k steps f forms first e s g =
    (λ h. subst (λ m. Chain K m f g) e (reaches_there K k f g ((s.found g).0 h)), λ c. (s.found g).1 (reaches_back K k f g (subst (λ m. Chain K m f g) (sym e) c)))

-- nothing new in a round
pub rounds_at_rest : (K : Known) (k steps : ℕ) (f : Form) (forms : List Form) (first : ℕ) → k ≤ steps → length forms ≤ first → SoFar K k f forms first → (g : Form) → (Has g forms ↔ Chain K steps f g)
rounds_at_rest K k steps f forms first l n s =
    all_rounds K (steps - k + k) steps f forms first (omega (arith, l)) (all_more (Step K) (steps - k) k f forms (take first forms) s (λ h m. subst (Has h) (sym (take_all first forms n)) m))
