-- The rows of the table, one after another.
use Rattle.std.proofs.Common.{◌⊎◌, ◌↔◌, Bool, List, inl, inr}
use Rattle.wt_bag.specs.Choices.{Has}
use Rattle.wt_form.specs.Trees.{Terms}
use Rattle.wt_form.specs.Known.{Known}
use Rattle.wt_form.specs.Opening.{Opened}
use Rattle.wt_form.specs.Steps.{Row, by_repeated, by_self_join, by_in_true, by_join_to_in, by_merged, by_not_in_false, by_null_compared, by_not_in_of_null, by_opened, by_rewritten}
use Rattle.wt_form.specs.Views.{OneTerm}
use Rattle.wt_places.specs.Gained.{Gained}
use Rattle.wt_drops.specs.Drops.{Dropped}
use Rattle.wt_steps.specs.Joins.{ByJoins}

module _ (K : Known) (nested : Bool) (t : OneTerm) (us : Terms) where
  abbrev Rows : Type 0
  Rows = (Dropped K t.ranges t.conds t.pieces us ⊎ ByJoins K nested t.ranges t.conds t.pieces us) ⊎ Opened K nested t.ranges t.conds t.pieces us

  dropped : Dropped K t.ranges t.conds t.pieces us → Row K nested t.ranges t.conds t.pieces us
  dropped (inl h) = by_repeated h
  dropped (inr (inl h)) = by_self_join h
  dropped (inr (inr (inl h))) = by_in_true h
  dropped (inr (inr (inr (inl h)))) = by_not_in_false h
  dropped (inr (inr (inr (inr (inl h))))) = by_null_compared h
  dropped (inr (inr (inr (inr (inr h))))) = by_not_in_of_null h

  one_row : Rows → Row K nested t.ranges t.conds t.pieces us
  one_row (inl (inl h)) = dropped h
  one_row (inl (inr (inl (inl h)))) = by_join_to_in h
  one_row (inl (inr (inl (inr h)))) = by_merged h
  one_row (inl (inr (inr h))) = by_rewritten h
  one_row (inr h) = by_opened h

  which_row : Row K nested t.ranges t.conds t.pieces us → Rows
  which_row (by_repeated h) = inl (inl (inl h))
  which_row (by_self_join h) = inl (inl (inr (inl h)))
  which_row (by_in_true h) = inl (inl (inr (inr (inl h))))
  which_row (by_not_in_false h) = inl (inl (inr (inr (inr (inl h)))))
  which_row (by_null_compared h) = inl (inl (inr (inr (inr (inr (inl h))))))
  which_row (by_not_in_of_null h) = inl (inl (inr (inr (inr (inr (inr h))))))
  which_row (by_join_to_in h) = inl (inr (inl (inl h)))
  which_row (by_merged h) = inl (inr (inl (inr h)))
  which_row (by_rewritten h) = inl (inr (inr h))
  which_row (by_opened h) = inr h

-- a list that has gained more
goes_on : (P Q : Terms → Type 0) (a b : List Terms) → ((us : Terms) → (Has us a ↔ P us)) → Gained a b Q → (us : Terms) → (Has us b ↔ (P us ⊎ Q us))
goes_on P Q a b h g us = (λ k. there ((g us).0 k), λ k. (g us).1 (back k))
  where
    there : Has us a ⊎ Q us → P us ⊎ Q us
    there (inl k) = inl ((h us).0 k)
    there (inr q) = inr q

    back : P us ⊎ Q us → Has us a ⊎ Q us
    back (inl p) = inl ((h us).1 p)
    back (inr q) = inr q

pub rows_are : (K : Known) (nested : Bool) (t : OneTerm) (a b c : List Terms) → ((us : Terms) → (Has us a ↔ Dropped K t.ranges t.conds t.pieces us)) → Gained a b (ByJoins K nested t.ranges t.conds t.pieces) →
    Gained b c (Opened K nested t.ranges t.conds t.pieces) → (us : Terms) → (Has us c ↔ Row K nested t.ranges t.conds t.pieces us)
rows_are K nested t a b c h0 h1 h2 us =
    let m1 = goes_on (Dropped K t.ranges t.conds t.pieces) (ByJoins K nested t.ranges t.conds t.pieces) a b h0 h1 in
    let m2 = goes_on _ (Opened K nested t.ranges t.conds t.pieces) b c m1 h2 in
    (λ k. one_row K nested t us ((m2 us).0 k), λ r. (m2 us).1 (which_row K nested t us r))
