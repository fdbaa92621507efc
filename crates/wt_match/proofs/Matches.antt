-- A match is what the walk finds, where it passes the tests; and each match is what the walk finds.
use Rattle.std.proofs.Common.{◌≡◌, ℕ, ◌<◌, List, [], map, sym, ap, ◌∙◌, subst, arith}
use Rattle.std.specs.Prelude.{slice_get, Some}
use Rattle.wt_bag.specs.Bags.{Each}
use Rattle.wt_bag.proofs.EachLaws.{each_append, each_map}
use Rattle.wt_pred.specs.Tree.{PredTree, all_of, no_preds}
use Rattle.wt_symbol.specs.Sides as sides
use Rattle.wt_symbol.specs.Sides.{SideTree, PairTree, leaves_of, lists_of, preds_of}
use Rattle.wt_symbol.specs.Lawful.{IsLawful}
use Rattle.wt_symbol.proofs.SymbolLemmas.{source_leaves, source_lists, source_preds, lawful_stands}
use Rattle.wt_constraint.specs.declared.atom.Atom.{Atom}
use Rattle.wt_constraint.specs.declared.set.AtomSet.{AtomSet}
use Rattle.wt_constraint.specs.Atoms.{atoms_of_pair}
use Rattle.wt_constraint.specs.Sets.{HasAtom}
use Rattle.wt_schema.specs.declared.schema.Table.{Table}
use Rattle.wt_plan.specs.Tree as plans
use Rattle.wt_plan.specs.Tree.{PlanTree}
use Rattle.wt_plan.specs.Measures.{width, node_count}
use Rattle.wt_plan.specs.WellFormed.{Narrow, PlacesFit}
use Rattle.wt_plan.specs.Regular.{Regular}
use Rattle.wt_plan.proofs.Upto.{length_map}
use Rattle.wt_matching.specs.Filling.{Assigned, leaf_plan, fill}
use Rattle.wt_matching.specs.Nodes.{at, put}
use Rattle.wt_matching.specs.Matching.{AtomKnown, HasEach, IsMatch}
use Rattle.wt_matching.specs.Finding.{Found, found, just, Reads}
use Rattle.wt_matching.proofs.FindLaws.{Finds, finds}
use Rattle.wt_matching.proofs.FoundLaws.{Exact, made}
use Rattle.wt_matching.proofs.Closing.{counted}
use Rattle.wt_matching.proofs.Premises.{source_covered, dest_covered, are_placed}
use Rattle.wt_matching.proofs.Subplans.{places_put}
use Rattle.wt_match.proofs.Laid.{source_laid, dest_laid, lists_from_placed, placed_from_lists}

-- the assignment of what was found
abbrev pub given : Found → Assigned
given x = record { leaves = x.leaves; lists = x.lists; preds = x.preds }

abbrev assigned : List PlanTree → List (List ℕ) → List PredTree → Assigned
assigned leaves lists preds = record { leaves = leaves; lists = lists; preds = preds }

all_parts : (m m' : Assigned) → m.leaves ≡ m'.leaves → m.lists ≡ m'.lists → m.preds ≡ m'.preds → assigned m.leaves m.lists m.preds ≡ assigned m'.leaves m'.lists m'.preds
all_parts m m' e f g = ap (λ l. assigned l m.lists m.preds) e ∙ (ap (λ l. assigned m'.leaves l m.preds) f ∙ ap (assigned m'.leaves m'.lists) g)

-- the leaves of a narrow side filled in are narrow
narrow_leaves : (s : SideTree) (A : List ℕ) (m : Assigned) → Narrow (fill s A m) → Each (λ r. Narrow (leaf_plan m r)) (leaves_of s)
narrow_leaves (sides.input r) A m h = (h, tt)
narrow_leaves (sides.proj a s) A m h = narrow_leaves s A m h.1
narrow_leaves (sides.filtered p a s) A m h = narrow_leaves s A m h
narrow_leaves (sides.inner_join a b s t) A m h = each_append (λ r. Narrow (leaf_plan m r)) (leaves_of s) (leaves_of t) (narrow_leaves s A m h.1) (narrow_leaves t A m h.2)
narrow_leaves (sides.left_join a b s t) A m h = each_append (λ r. Narrow (leaf_plan m r)) (leaves_of s) (leaves_of t) (narrow_leaves s A m h.1) (narrow_leaves t A m h.2)
narrow_leaves (sides.in_sub a s t) A m h = each_append (λ r. Narrow (leaf_plan m r)) (leaves_of s) (leaves_of t) (narrow_leaves s A m h.0) (narrow_leaves t A m h.1)
narrow_leaves (sides.dedup s) A m h = narrow_leaves s A m h

module _ (p : PairTree) (lawful : IsLawful p) where
  -- something for each symbol: whatever a side of these symbols is, it covers them
  blank : Assigned
  blank = record { leaves = map (λ r. plans.table 0 0) (leaves_of p.source); lists = map (λ a. []) (lists_of p.source); preds = map (λ q. all_of no_preds) (preds_of p.source) }

  blank_each : HasEach p blank
  unfolding blank
  blank_each = record {
    leaves = length_map (λ r. plans.table 0 0) (leaves_of p.source);
    lists = length_map (λ a. []) (lists_of p.source);
    preds = length_map (λ q. all_of no_preds) (preds_of p.source);
  }

  module _ (plan : PlanTree) (x : Found) (walked : found p.source p.anchors plan ≡ just x) where
    pub found_each : HasEach p (given x)
    found_each = let sizes = made p.anchors blank p.source plan x (source_covered p lawful blank blank_each) walked in record { leaves = sizes.leaves; lists = sizes.lists; preds = sizes.preds }

    found_reads : Reads (given x) p.source x
    found_reads = record {
      leaves = sym (counted x.leaves (plans.table 0 0) 0 (leaves_of p.source) (source_leaves p lawful.symbols) (omega (arith, found_each.leaves)));
      lists = sym (counted x.lists [] 0 (lists_of p.source) (source_lists p lawful.symbols) (omega (arith, found_each.lists)));
      preds = sym (counted x.preds (all_of no_preds) 0 (preds_of p.source) (source_preds p lawful.symbols) (omega (arith, found_each.preds)));
    }

    pub found_exact : Exact p.anchors (given x) p.source plan x
    found_exact = (made p.anchors (given x) p.source plan x (source_covered p lawful (given x) found_each) walked).exact found_reads

    pub found_narrow : Narrow plan → Each Narrow x.leaves
    found_narrow h =
        subst (Each Narrow) (sym found_reads.leaves)
        (each_map Narrow (leaf_plan (given x)) (leaves_of p.source) (narrow_leaves p.source p.anchors (given x) (subst Narrow (sym found_exact.plan) h)))

  module _ (S : List Table) (set : AtomSet) (plan : PlanTree) (n : ℕ) where
    pub is_match : (x : Found) → n < node_count plan → found p.source p.anchors (at plan n) ≡ just x →
        ((k : ℕ) (a : Atom) → HasAtom set k → slice_get (atoms_of_pair p) k ≡ Some a → AtomKnown S p.anchors (given x) a) →
        Regular S (put plan n (fill p.dest p.anchors (given x))) → width (put plan n (fill p.dest p.anchors (given x))) ≡ width plan → IsMatch S p set plan n (given x)
    is_match x within walked known regular wide =
        let each = found_each (at plan n) x walked in
        let exact = found_exact (at plan n) x walked in
        let dest_places : PlacesFit (fill p.dest p.anchors (given x)) = places_put plan n (fill p.dest p.anchors (given x)) within regular.well_formed.places in
        record {
          each = each;
          source = exact.plan;
          atoms = known;
          source_lists = lists_from_placed p.anchors (given x) p.source (source_laid p lawful) exact.placed;
          dest_lists = lists_from_placed p.anchors (given x) p.dest (dest_laid p lawful) (are_placed p.dest p.anchors (given x) (dest_covered p lawful (given x) each) dest_places);
          regular = regular;
          wide = wide;
        }

    match_seen : (m : Assigned) → IsMatch S p set plan n m → Finds p.anchors m p.source
    match_seen m h = finds p.anchors m p.source (source_covered p lawful m h.each) (placed_from_lists p.anchors m p.source (source_laid p lawful) (lawful_stands p lawful).0 h.source_lists)

    pub match_found : (m : Assigned) → IsMatch S p set plan n m → (x : Found) × (found p.source p.anchors (at plan n) ≡ just x) × (m ≡ given x)
    match_found m h =
        let seen = match_seen m h in (
          seen.seen,
          ap (found p.source p.anchors) (sym h.source) ∙ seen.found,
          all_parts m (given seen.seen)
              (sym (counted m.leaves (plans.table 0 0) 0 (leaves_of p.source) (source_leaves p lawful.symbols) (omega (arith, h.each.leaves))) ∙ sym seen.reads.leaves)
              (sym (counted m.lists [] 0 (lists_of p.source) (source_lists p lawful.symbols) (omega (arith, h.each.lists))) ∙ sym seen.reads.lists)
              (sym (counted m.preds (all_of no_preds) 0 (preds_of p.source) (source_preds p lawful.symbols) (omega (arith, h.each.preds))) ∙ sym seen.reads.preds),
        )
