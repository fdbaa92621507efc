-- Choices under a pairing of the lists.
use Rattle.std.proofs.Common.{ℕ, zero, suc, ◌<◌, List, [], ◌∷◌, ◌≡◌, sym, ap, ◌∙◌, arith, length, get_or}
use Rattle.wt_bag.specs.Bags.{total}
use Rattle.wt_bag.specs.Choices.{choices, put_at, drop_at, Paired, arrange}
use Rattle.wt_bag.proofs.TotalLaws.{total_ext, total_swap}
use Rattle.wt_bag.proofs.ChoiceLaws.{total-choices_cons}

-- the list at place k chosen first
pub total-choices_first : {X : Type 0} (g : List X → ℕ) (k : ℕ) (gs : List (List X)) → k < length gs →
    total g (choices gs) ≡ total (λ c. total (λ e. g (put_at k c e)) (choices (drop_at k gs))) (get_or gs k [])
total-choices_first g k [] l = let bad : ⊥ = omega arith in absurd bad
total-choices_first g zero (r ∷ gs) l = total-choices_cons g r gs
total-choices_first g (suc k) (r ∷ gs) l =
    total-choices_cons g r gs
    ∙ total_ext _ _ r (λ d. total-choices_first (λ e. g (d ∷ e)) k gs (omega arith))
    ∙ total_swap (λ d c. total (λ e. g (d ∷ put_at k c e)) (choices (drop_at k gs))) r (get_or gs k [])
    ∙ total_ext _ _ (get_or gs k []) (λ c. sym (total-choices_cons (λ e. g (put_at (suc k) c e)) r (drop_at k gs)))

-- a sum over choices is one over choices in the order of paired lists
pub total_arranged : {X : Type 0} (g : List X → ℕ) (ks : List ℕ) (rs gs : List (List X)) → Paired ks rs gs → total g (choices gs) ≡ total (λ e. g (arrange ks e)) (choices rs)
total_arranged g [] [] gs h = ap (λ l. total g (choices l)) h
total_arranged g (k ∷ ks) (r ∷ rs) gs h =
    total-choices_first g k gs h.0
    ∙ sym (h.1.sums (λ c. total (λ e. g (put_at k c e)) (choices (drop_at k gs))))
    ∙ total_ext _ _ r (λ c. total_arranged (λ e. g (put_at k c e)) ks rs (drop_at k gs) h.2)
    ∙ sym (total-choices_cons (λ e. g (arrange (k ∷ ks) e)) r rs)
total_arranged g [] (r ∷ rs) gs h = absurd h
total_arranged g (k ∷ ks) [] gs h = absurd h
