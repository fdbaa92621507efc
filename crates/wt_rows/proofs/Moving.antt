-- Ranges by their places, when others are put before or between them.
use Rattle.std.proofs.Common.{ℕ, zero, suc, ◌+◌, ◌-◌, ◌<◌, List, [], ◌∷◌, ◌≡◌, subst, arith}
use Rattle.wt_bag.specs.Choices.{At}
use Rattle.wt_form.specs.Trees.{Ranges, no_ranges, range_then, FormRange}
use Rattle.wt_form.specs.Parts.{ranges_append, ranges_count, ranges_list}

pub at_implies : {X : Type 0} (P Q : X → Type 0) → ((x : X) → P x → Q x) → (k : ℕ) (xs : List X) → At P k xs → At Q k xs
at_implies P Q f k [] h = absurd h
at_implies P Q f zero (x ∷ xs) h = f x h
at_implies P Q f (suc k) (x ∷ xs) h = at_implies P Q f k xs h

module _ (P : FormRange → Type 0) where
  -- a range behind others
  pub at_skip : (rs ss : Ranges) (j : ℕ) → At P j (ranges_list ss) → At P (ranges_count rs + j) (ranges_list (ranges_append rs ss))
  at_skip no_ranges ss j h = subst (λ n. At P n (ranges_list ss)) (let z : j ≡ 0 + j = omega arith in z) h
  at_skip (range_then r rs) ss j h =
      subst (λ n. At P n (r ∷ ranges_list (ranges_append rs ss))) (let z : suc (ranges_count rs + j) ≡ 1 + ranges_count rs + j = omega arith in z) (at_skip rs ss j h)

  pub at_skipped : (rs ss : Ranges) (j : ℕ) → At P (ranges_count rs + j) (ranges_list (ranges_append rs ss)) → At P j (ranges_list ss)
  at_skipped no_ranges ss j h = subst (λ n. At P n (ranges_list ss)) (let z : 0 + j ≡ j = omega arith in z) h
  at_skipped (range_then r rs) ss j h =
      at_skipped rs ss j (subst (λ n. At P n (r ∷ ranges_list (ranges_append rs ss))) (let z : 1 + ranges_count rs + j ≡ suc (ranges_count rs + j) = omega arith in z) h)

  -- one of the first ranges, whatever stands behind them
  pub at_before : (rs ss ts : Ranges) (v : ℕ) → v < ranges_count rs → At P v (ranges_list (ranges_append rs ss)) → At P v (ranges_list (ranges_append rs ts))
  at_before no_ranges ss ts v l h = let bad : ⊥ = omega (arith, l) in absurd bad
  at_before (range_then r rs) ss ts zero l h = h
  at_before (range_then r rs) ss ts (suc v) l h = at_before rs ss ts v (omega (arith, l)) h

  pub at_first : (rs ss : Ranges) (v : ℕ) → At P v (ranges_list rs) → At P v (ranges_list (ranges_append rs ss))
  at_first no_ranges ss v h = absurd h
  at_first (range_then r rs) ss zero h = h
  at_first (range_then r rs) ss (suc v) h = at_first rs ss v h

  -- a range behind one that is taken away, or opened into others
  pub at_behind_one : (rs : Ranges) (r : FormRange) (ss : Ranges) (v : ℕ) → ranges_count rs < v → At P v (ranges_list (ranges_append rs (range_then r ss))) → At P (v - 1 - ranges_count rs) (ranges_list ss)
  at_behind_one rs r ss v l h =
      at_skipped rs (range_then r ss) (suc (v - 1 - ranges_count rs)) (subst (λ n. At P n (ranges_list (ranges_append rs (range_then r ss)))) (let z : v ≡ ranges_count rs + suc (v - 1 - ranges_count rs) = omega (arith, l) in z) h)

  pub at_closed : (rs : Ranges) (r : FormRange) (ss : Ranges) (v : ℕ) → ranges_count rs < v → At P v (ranges_list (ranges_append rs (range_then r ss))) → At P (v - 1) (ranges_list (ranges_append rs ss))
  at_closed rs r ss v l h =
      subst (λ n. At P n (ranges_list (ranges_append rs ss))) (let z : ranges_count rs + (v - 1 - ranges_count rs) ≡ v - 1 = omega (arith, l) in z) (at_skip rs ss (v - 1 - ranges_count rs) (at_behind_one rs r ss v l h))

  pub at_opened : (rs : Ranges) (r : FormRange) (inner ss : Ranges) (v : ℕ) → ranges_count rs < v → At P v (ranges_list (ranges_append rs (range_then r ss))) →
      At P (ranges_count inner + v - 1) (ranges_list (ranges_append rs (ranges_append inner ss)))
  at_opened rs r inner ss v l h =
      subst (λ n. At P n (ranges_list (ranges_append rs (ranges_append inner ss)))) (let z : ranges_count rs + (ranges_count inner + (v - 1 - ranges_count rs)) ≡ ranges_count inner + v - 1 = omega (arith, l) in z)
      (at_skip rs (ranges_append inner ss) (ranges_count inner + (v - 1 - ranges_count rs)) (at_skip inner ss (v - 1 - ranges_count rs) (at_behind_one rs r ss v l h)))
