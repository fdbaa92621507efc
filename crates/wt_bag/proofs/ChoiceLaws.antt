-- Sums over choices, and what holds of each choice.
use Rattle.std.proofs.Common.{ℕ, List, [], ◌∷◌, ◌++◌, map, ◌≡◌, refl, sym, ap, ◌∙◌, arith, suc, length}
use Rattle.wt_bag.specs.Bags.{total, Each}
use Rattle.wt_bag.specs.Choices.{choices, Fitting}
use Rattle.wt_bag.proofs.TotalLaws.{total-flat_map, total-map, total_ext, total_swap}
use Rattle.wt_bag.proofs.EachLaws.{each_map, each_of_map, each_flat_map, each_of_flat_map, each_implies, each_for}

-- the first list outermost
pub total-choices_cons : {X : Type 0} (g : List X → ℕ) (r : List X) (rs : List (List X)) →
    total g (choices (r ∷ rs)) ≡ total (λ c. total (λ e. g (c ∷ e)) (choices rs)) r
total-choices_cons g r rs = total-flat_map g (λ c. map (λ e. c ∷ e) (choices rs)) r
    ∙ total_ext _ _ r (λ c. total-map g (λ e. c ∷ e) (choices rs))

-- two blocks of lists
pub total-choices_append : {X : Type 0} (g : List X → ℕ) (rs ss : List (List X)) →
    total g (choices (rs ++ ss)) ≡ total (λ a. total (λ b. g (a ++ b)) (choices ss)) (choices rs)
total-choices_append g [] ss = omega arith
total-choices_append g (r ∷ rs) ss = total-choices_cons g r (rs ++ ss)
    ∙ total_ext _ _ r (λ c. total-choices_append (λ e. g (c ∷ e)) rs ss)
    ∙ sym (total-choices_cons (λ a. total (λ b. g (a ++ b)) (choices ss)) r rs)

-- one list taken out and chosen last
pub total-choices_at : {X : Type 0} (g : List X → ℕ) (rs : List (List X)) (r : List X) (ss : List (List X)) →
    total g (choices (rs ++ r ∷ ss)) ≡ total (λ a. total (λ b. total (λ c. g (a ++ c ∷ b)) r) (choices ss)) (choices rs)
total-choices_at g rs r ss = total-choices_append g rs (r ∷ ss)
    ∙ total_ext _ _ (choices rs) (λ a. total-choices_cons (λ e. g (a ++ e)) r ss ∙ total_swap (λ c b. g (a ++ c ∷ b)) r (choices ss))

-- where each list holds what its place asks, so does each choice
pub each_choice : {X K : Type 0} (P : K → X → Type 0) (ks : List K) (rs : List (List X)) → Fitting (λ k r. Each (P k) r) ks rs → Each (Fitting P ks) (choices rs)
each_choice P [] [] h = (tt, tt)
each_choice P (k ∷ ks) (r ∷ rs) h =
    each_flat_map (Fitting P (k ∷ ks)) (λ c. map (λ e. c ∷ e) (choices rs)) r
    (each_implies (P k) _ r (λ c hc. each_map (Fitting P (k ∷ ks)) (λ e. c ∷ e) (choices rs) (each_implies (Fitting P ks) _ (choices rs) (λ e he. (hc, he)) (each_choice P ks rs h.1))) h.0)
each_choice P [] (r ∷ rs) h = absurd h
each_choice P (k ∷ ks) [] h = absurd h

-- each choice has an element of each list
pub length_choice : {X : Type 0} (rs : List (List X)) → Each (λ e. length e ≡ length rs) (choices rs)
length_choice [] = (refl, tt)
length_choice (r ∷ rs) = each_flat_map _ (λ c. map (λ e. c ∷ e) (choices rs)) r
    (each_for r (λ c. each_map _ (λ e. c ∷ e) (choices rs) (each_implies _ _ (choices rs) (λ e q. ap suc q) (length_choice rs))))

-- of each choice from two blocks of lists
pub each_choices_append : {X : Type 0} (Q : List X → Type 0) (rs ss : List (List X)) → Each (λ a. Each (λ b. Q (a ++ b)) (choices ss)) (choices rs) → Each Q (choices (rs ++ ss))
each_choices_append Q [] ss h = h.0
each_choices_append Q (r ∷ rs) ss h = each_flat_map Q (λ c. map (λ e. c ∷ e) (choices (rs ++ ss))) r
    (each_implies _ _ r (λ c k. each_map Q (λ e. c ∷ e) (choices (rs ++ ss)) (each_choices_append (λ e. Q (c ∷ e)) rs ss (each_of_map _ (λ e. c ∷ e) (choices rs) k)))
    (each_of_flat_map (λ a. Each (λ b. Q (a ++ b)) (choices ss)) (λ c. map (λ e. c ∷ e) (choices rs)) r h))
