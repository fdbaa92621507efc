-- No pair stands twice: a pair tells its template, its anchors and its destination.
use Rattle.std.proofs.Common.{◌≡◌, ℕ, zero, suc, ◌+◌, List, ◌∷◌, map, drop, refl, ap, ◌∙◌}
use Rattle.std.specs.Prelude.{slice_index}
use Rattle.wt_bag.specs.Choices.{Apart, Has}
use Rattle.wt_bag.proofs.HasLaws.{has_from_map, has_from_flat_map}
use Rattle.wt_template.specs.Order.{numbers_from}
use Rattle.wt_template.specs.Shapes.{Shape, templates}
use Rattle.wt_template.specs.Shapes as any
use Rattle.wt_symbol.specs.Sides.{SideTree, input, proj, filtered, inner_join, left_join, in_sub, dedup, PairTree}
use Rattle.wt_pair.specs.declared.bounds.Bounds.{Bounds}
use Rattle.wt_pair.specs.Candidates.{leaf_count, list_count, pred_count, numbered, source_of, anchorings, destinations, is_lawful, pairs_of_anchoring, pairs_of_template, pairs_of}
use Rattle.wt_pair_order.proofs.Apart.{apart_map, apart_flat_map, apart_filter, has_of_filter, numbers_apart}
use Rattle.wt_pair_order.proofs.Templates.{templates_apart}
use Rattle.wt_pair_order.proofs.Sides.{destinations_apart}

-- the template of a side
abbrev shape_of : SideTree → Shape
shape_of (input r) = any.input
shape_of (proj a s) = any.proj (shape_of s)
shape_of (filtered p a s) = any.filtered (shape_of s)
shape_of (inner_join a b s t) = any.inner_join (shape_of s) (shape_of t)
shape_of (left_join a b s t) = any.left_join (shape_of s) (shape_of t)
shape_of (in_sub a s t) = any.in_sub (shape_of s) (shape_of t)
shape_of (dedup s) = any.dedup (shape_of s)

shape_back : (t : Shape) (r a p : ℕ) → shape_of (numbered t r a p) ≡ t
shape_back any.input r a p = refl
shape_back (any.proj t) r a p = ap any.proj (shape_back t r (a + 1) p)
shape_back (any.filtered t) r a p = ap any.filtered (shape_back t r (a + 1) (p + 1))
shape_back (any.inner_join t u) r a p =
    (λ i. any.inner_join (shape_back t r (a + 2) p i) (shape_back u (r + leaf_count t) (a + 2 + list_count t) (p + pred_count t) i))
shape_back (any.left_join t u) r a p =
    (λ i. any.left_join (shape_back t r (a + 2) p i) (shape_back u (r + leaf_count t) (a + 2 + list_count t) (p + pred_count t) i))
shape_back (any.in_sub t u) r a p =
    (λ i. any.in_sub (shape_back t r (a + 1) p i) (shape_back u (r + leaf_count t) (a + 1 + list_count t) (p + pred_count t) i))
shape_back (any.dedup t) r a p = ap any.dedup (shape_back t r a p)

anchorings_apart : (r n : ℕ) → Apart (anchorings r n)
anchorings_apart r zero = (tt, tt)
anchorings_apart r (suc n) =
    apart_flat_map (λ leaf. map (λ others. leaf ∷ others) (anchorings r n)) (λ l. slice_index l 0) (numbers_from 0 r)
    (λ leaf l h. let (others, is, e) = has_from_map l (λ others. leaf ∷ others) (anchorings r n) h in ap (λ l. slice_index l 0) e)
    (λ leaf h. apart_map (λ others. leaf ∷ others) (anchorings r n) (λ l m e. ap (drop 1) e) (anchorings_apart r n))
    (numbers_apart 0 r)

module _ (ops dst : ℕ) (t : Shape) where
  -- a pair of a template with anchors has these
  told : (anchors : List ℕ) (p : PairTree) → Has p (pairs_of_anchoring ops dst t anchors) → (p.source ≡ source_of t) × (p.anchors ≡ anchors)
  told anchors p h =
      let make : SideTree → PairTree = λ d. record { source = source_of t; dest = d; anchors = anchors } in
      let (d, is, e) = has_from_map p make (destinations ops dst t) (has_of_filter is_lawful p (map make (destinations ops dst t)) h) in
      (ap (λ (p : PairTree). p.source) e, ap (λ (p : PairTree). p.anchors) e)

  anchoring_apart : (anchors : List ℕ) → Apart (pairs_of_anchoring ops dst t anchors)
  anchoring_apart anchors =
      let make : SideTree → PairTree = λ d. record { source = source_of t; dest = d; anchors = anchors } in
      apart_filter is_lawful (map make (destinations ops dst t))
      (apart_map make (destinations ops dst t) (λ d e h. ap (λ (p : PairTree). p.dest) h) (destinations_apart ops dst (leaf_count t) (list_count t) (pred_count t)))

  template_apart : Apart (pairs_of_template ops dst t)
  template_apart =
      apart_flat_map (pairs_of_anchoring ops dst t) (λ p. p.anchors) (anchorings (leaf_count t) (list_count t))
      (λ anchors p h. (told anchors p h).1) (λ anchors h. anchoring_apart anchors) (anchorings_apart (leaf_count t) (list_count t))

  template_told : (p : PairTree) → Has p (pairs_of_template ops dst t) → shape_of p.source ≡ t
  template_told p h =
      let (anchors, is, from) = has_from_flat_map p (pairs_of_anchoring ops dst t) (anchorings (leaf_count t) (list_count t)) h in
      ap shape_of (told anchors p from).0 ∙ shape_back t 0 0 0

pub pairs_apart : (b : Bounds) → Apart (pairs_of b)
pairs_apart b =
    apart_flat_map (pairs_of_template b.ops.0 b.dst) (λ p. shape_of p.source) (templates b.ops.0 b.src)
    (template_told b.ops.0 b.dst) (λ t h. template_apart b.ops.0 b.dst t) (templates_apart b.ops.0 b.src)
