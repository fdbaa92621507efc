-- Where the nodes of a side filled in are narrow, no place of it is past the numbers of 32 bits.
use Rattle.std.proofs.Common.{◌≡◌, ℕ, suc, ◌^◌, ◌<◌, ◌≤◌, min, Bool, true, false, List, [], ◌∷◌, length, refl, sym, ap, ◌∙◌, subst, arith}
use Rattle.std.specs.Prelude.{◌==◌, ◌&&◌, if◌then◌else◌}
use Rattle.wt_symbol.specs.Sides as sides
use Rattle.wt_symbol.specs.Sides.{SideTree}
use Rattle.wt_symbol.specs.Heads.{anchor}
use Rattle.wt_instance.specs.declared.named.Column.{Column}
use Rattle.wt_plan.specs.Tree.{PlanTree, proj, filtered, inner_join, left_join, in_sub, dedup}
use Rattle.wt_plan.specs.Measures.{width}
use Rattle.wt_plan.specs.WellFormed.{Narrow}
use Rattle.wt_plan.proofs.Narrowness.{narrow_width}
use Rattle.wt_plan.proofs.Upto.{length_map}
use Rattle.wt_matching.specs.Filling.{Assigned, list_of, pred_of, header, place, places, fill}
use Rattle.wt_matching.proofs.Lists.{map_ext}
use Rattle.wt_matching.proofs.FillLaws.{header_leaf, sum_same, fill_width}
use Rattle.wt_fill.specs.Capped.{capped_places, capped_fill}

place_at_most : (cs : List Column) (r n : ℕ) → place cs r n ≤ length cs
place_at_most [] r n = omega arith
place_at_most (c ∷ cs) r n = here ((c.leaf == r) && (c.number == n)) (place_at_most cs r n)
  where
    here : (b : Bool) → place cs r n ≤ length cs → (if b then 0 else suc (place cs r n)) ≤ suc (length cs)
    here true h = omega arith
    here false h = omega (arith, h)

module _ (A : List ℕ) (m : Assigned) where
  -- a side is as wide as its columns are many
  capped_width : (s : SideTree) → width (capped_fill s A m) ≡ length (header s A m)
  capped_width (sides.input r) = header_leaf A m r
  capped_width (sides.proj a s) = length_map _ (list_of m a) ∙ sym (length_map _ (list_of m a))
  capped_width (sides.filtered p a s) = capped_width s
  capped_width (sides.inner_join a b s t) = sum_same _ _ (header s A m) (header t A m) (capped_width s) (capped_width t)
  capped_width (sides.left_join a b s t) = sum_same _ _ (header s A m) (header t A m) (capped_width s) (capped_width t)
  capped_width (sides.in_sub a s t) = capped_width s
  capped_width (sides.dedup s) = capped_width s

  -- places in the output of a narrow plan
  uncapped : (s : SideTree) (a : ℕ) (p : PlanTree) → width p ≡ length (header s A m) → Narrow p → capped_places s A m a ≡ places s A m a
  uncapped s a p e narrow = map_ext _ _ (list_of m a) (λ n. here (place (header s A m) (anchor A a) n) (length (header s A m)) (place_at_most (header s A m) (anchor A a) n) (subst (λ w. w < 2 ^ 32) e (narrow_width p narrow)))
    where
      here : (k w : ℕ) → k ≤ w → w < 2 ^ 32 → min 4294967295 k ≡ k
      here k w le lt = omega (arith, le, lt)

  two : (node : List ℕ → List ℕ → PlanTree → PlanTree → PlanTree) (a b a' b' : List ℕ) (p q p' q' : PlanTree) → a ≡ a' → b ≡ b' → p ≡ p' → q ≡ q' → node a b p q ≡ node a' b' p' q'
  two node a b a' b' p q p' q' e f g h = ap (λ z. node z b p q) e ∙ ap (λ z. node a' z p q) f ∙ ap (λ z. node a' b' z q) g ∙ ap (λ z. node a' b' p' z) h

  pub where_filled : (s : SideTree) → Narrow (fill s A m) → capped_fill s A m ≡ fill s A m
  where_filled (sides.input r) h = refl
  where_filled (sides.proj a s) h = ap (λ l. proj l (capped_fill s A m)) (uncapped s a (fill s A m) (fill_width A m s) h.1) ∙ ap (proj (places s A m a)) (where_filled s h.1)
  where_filled (sides.filtered p a s) h =
      ap (λ l. filtered (pred_of m p) l (capped_fill s A m)) (uncapped s a (fill s A m) (fill_width A m s) h) ∙ ap (filtered (pred_of m p) (places s A m a)) (where_filled s h)
  where_filled (sides.inner_join a b s t) h = two inner_join _ _ _ _ _ _ _ _ (uncapped s a (fill s A m) (fill_width A m s) h.1) (uncapped t b (fill t A m) (fill_width A m t) h.2) (where_filled s h.1) (where_filled t h.2)
  where_filled (sides.left_join a b s t) h = two left_join _ _ _ _ _ _ _ _ (uncapped s a (fill s A m) (fill_width A m s) h.1) (uncapped t b (fill t A m) (fill_width A m t) h.2) (where_filled s h.1) (where_filled t h.2)
  where_filled (sides.in_sub a s t) h = two (λ l k p q. in_sub l p q) _ [] _ [] _ _ _ _ (uncapped s a (fill s A m) (fill_width A m s) h.0) refl (where_filled s h.0) (where_filled t h.1)
  where_filled (sides.dedup s) h = ap dedup (where_filled s h)

  pub where_capped : (s : SideTree) → Narrow (capped_fill s A m) → capped_fill s A m ≡ fill s A m
  where_capped (sides.input r) h = refl
  where_capped (sides.proj a s) h = ap (λ l. proj l (capped_fill s A m)) (uncapped s a (capped_fill s A m) (capped_width s) h.1) ∙ ap (proj (places s A m a)) (where_capped s h.1)
  where_capped (sides.filtered p a s) h =
      ap (λ l. filtered (pred_of m p) l (capped_fill s A m)) (uncapped s a (capped_fill s A m) (capped_width s) h) ∙ ap (filtered (pred_of m p) (places s A m a)) (where_capped s h)
  where_capped (sides.inner_join a b s t) h =
      two inner_join _ _ _ _ _ _ _ _ (uncapped s a (capped_fill s A m) (capped_width s) h.1) (uncapped t b (capped_fill t A m) (capped_width t) h.2) (where_capped s h.1) (where_capped t h.2)
  where_capped (sides.left_join a b s t) h =
      two left_join _ _ _ _ _ _ _ _ (uncapped s a (capped_fill s A m) (capped_width s) h.1) (uncapped t b (capped_fill t A m) (capped_width t) h.2) (where_capped s h.1) (where_capped t h.2)
  where_capped (sides.in_sub a s t) h = two (λ l k p q. in_sub l p q) _ [] _ [] _ _ _ _ (uncapped s a (capped_fill s A m) (capped_width s) h.0) refl (where_capped s h.0) (where_capped t h.1)
  where_capped (sides.dedup s) h = ap dedup (where_capped s h)
