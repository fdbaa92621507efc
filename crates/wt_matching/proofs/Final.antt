-- The laws on matches of lawful pairs in regular plans.
use Rattle.std.proofs.Common.{◌≡◌, ℕ, ◌<◌, true, List, [], sym, ap, ◌∙◌, subst, arith}
use Rattle.std.specs.Prelude.{nat_lt}
use Rattle.std.proofs.lemmas.Grind.{common_steps}
use Rattle.wt_pred.specs.Tree.{PredTree, all_of, no_preds}
use Rattle.wt_schema.specs.declared.schema.Table.{Table}
use Rattle.wt_schema.specs.Lawful.{IsSchema}
use Rattle.wt_schema.specs.Satisfying.{Satisfies}
use Rattle.wt_symbol.specs.Sides.{PairTree, leaves_of, lists_of, preds_of, weight_of}
use Rattle.wt_symbol.specs.Lawful.{IsLawful}
use Rattle.wt_symbol.proofs.SymbolLemmas.{source_leaves, source_lists, source_preds}
use Rattle.wt_constraint.specs.declared.set.AtomSet.{AtomSet}
use Rattle.wt_value.specs.Values.{Tuple, IsOneBag}
use Rattle.wt_plan.specs.Tree as plans
use Rattle.wt_plan.specs.Tree.{PlanTree}
use Rattle.wt_plan.specs.Measures.{cost, node_count}
use Rattle.wt_plan.specs.Rows.{plan_rows}
use Rattle.wt_plan.specs.WellFormed.{PlacesFit}
use Rattle.wt_plan.specs.Regular.{Regular}
use Rattle.wt_known.specs.Fitting.{Fits}
use Rattle.wt_known.proofs.KnownFacts.{regular_fits}
use Rattle.wt_matching.specs.Filling.{Assigned, leaf_plan, fill}
use Rattle.wt_matching.specs.Nodes.{put}
use Rattle.wt_matching.specs.Matching.{IsMatch, IsSound}
use Rattle.wt_matching.proofs.Applying.{apply_keeps}
use Rattle.wt_matching.proofs.Closing.{counted, total_contained}
use Rattle.wt_matching.proofs.MatchLaws.{SameAssigned, match_unique, cost_falls}
use Rattle.wt_matching.proofs.Premises.{source_covered, dest_covered, atoms_are_covered, leaves_fit, lists_filled, numbers_inside, are_placed, are_even, dest_leaves_apart, dest_leaves_there}
use Rattle.wt_matching.proofs.Subplans.{fits_at, places_at, places_put}
use Rattle.wt_matching.proofs.Whole.{same_width}

-- assignments with the same parts are one
abbrev assigned : List PlanTree → List (List ℕ) → List PredTree → Assigned
assigned leaves lists preds = record { leaves = leaves; lists = lists; preds = preds }

all_parts : (m m' : Assigned) → m.leaves ≡ m'.leaves → m.lists ≡ m'.lists → m.preds ≡ m'.preds → assigned m.leaves m.lists m.preds ≡ assigned m'.leaves m'.lists m'.preds
all_parts m m' e f g = ap (λ l. assigned l m.lists m.preds) e ∙ (ap (λ l. assigned m'.leaves l m.preds) f ∙ ap (assigned m'.leaves m'.lists) g)

module _ (S : List Table) (schema : IsSchema S) (p : PairTree) (set : AtomSet) (lawful : IsLawful p) (plan : PlanTree) (regular : Regular S plan) (n : ℕ) (within : n < node_count plan) (m : Assigned) (found : IsMatch S p set plan n m) where
  source_fits : Fits S (fill p.source p.anchors m)
  source_fits = subst (Fits S) (sym found.source) (fits_at S plan n (regular_fits S schema plan regular))

  source_places : PlacesFit (fill p.source p.anchors m)
  source_places = subst PlacesFit (sym found.source) (places_at plan n regular.well_formed.places)

  dest_places : PlacesFit (fill p.dest p.anchors m)
  dest_places = places_put plan n (fill p.dest p.anchors m) within found.regular.well_formed.places

  pub keeps_rows : (base : List (List Tuple)) → Satisfies S base → IsSound p set → IsOneBag (plan_rows base plan) (plan_rows base (put plan n (fill p.dest p.anchors m)))
  keeps_rows base holds sound =
      let cs = source_covered p lawful m found.each in
      let cd = dest_covered p lawful m found.each in
      let filled = lists_filled p lawful m found.each source_places in
      let equal_width = same_width S p set plan n m sound found cs cd (λ k x has get. atoms_are_covered p lawful m found.each k x get) filled (numbers_inside p lawful m found.each found.source_lists)
      (are_placed p.source p.anchors m cs source_places) (are_placed p.dest p.anchors m cd dest_places) (are_even p.source p.anchors m cs source_places) (are_even p.dest p.anchors m cd dest_places) in
      apply_keeps S schema base holds p set plan n m sound found cs cd (λ k x has get. atoms_are_covered p lawful m found.each k x get) (leaves_fit p lawful m found.each S source_fits) filled equal_width

  lighter : weight_of p.dest < weight_of p.source
  lighter = less (weight_of p.dest) (weight_of p.source) lawful.weights
    where
      less : (x y : ℕ) → nat_lt x y ≡ true → x < y
      less x y h = grind (arith, common_steps)

  pub lowers_cost : cost (put plan n (fill p.dest p.anchors m)) < cost plan
  lowers_cost = cost_falls p.anchors m p.source p.dest plan n within found.source lighter
      (total_contained (λ r. cost (leaf_plan m r)) (leaves_of p.dest) (leaves_of p.source) (dest_leaves_apart p lawful) (dest_leaves_there p lawful))

  pub is_unique : (m' : Assigned) → IsMatch S p set plan n m' → m ≡ m'
  is_unique m' other =
      let other_places : PlacesFit (fill p.source p.anchors m') = subst PlacesFit (sym other.source) (places_at plan n regular.well_formed.places) in
      let cs = source_covered p lawful m found.each in
      let cs' = source_covered p lawful m' other.each in
      let same : SameAssigned p.source m m' = match_unique p.anchors p.source m m' cs cs' (are_placed p.source p.anchors m cs source_places) (are_placed p.source p.anchors m' cs' other_places) (found.source ∙ sym other.source) in
      all_parts m m'
      (sym (counted m.leaves (plans.table 0 0) 0 (leaves_of p.source) (source_leaves p lawful.symbols) (omega (arith, found.each.leaves))) ∙ same.leaves ∙ counted m'.leaves (plans.table 0 0) 0 (leaves_of p.source) (source_leaves p lawful.symbols) (omega (arith, other.each.leaves)))
      (sym (counted m.lists [] 0 (lists_of p.source) (source_lists p lawful.symbols) (omega (arith, found.each.lists))) ∙ same.lists ∙ counted m'.lists [] 0 (lists_of p.source) (source_lists p lawful.symbols) (omega (arith, other.each.lists)))
      (sym (counted m.preds (all_of no_preds) 0 (preds_of p.source) (source_preds p lawful.symbols) (omega (arith, found.each.preds))) ∙ same.preds ∙ counted m'.preds (all_of no_preds) 0 (preds_of p.source) (source_preds p lawful.symbols) (omega (arith, other.each.preds)))
