-- The pairs of given bounds, in order: the lawful ones among all candidates.
use Rattle.std.specs.Prelude.{ℕ, zero, suc, ◌+◌, ◌≤◌, Bool, List, [], ◌∷◌, map, filter, is_none}
use Rattle.std.specs.List.{flat_map}
use Rattle.wt_template.specs.Order.{Maker, of_one, of_two, numbers_from, trees_of_sizes}
use Rattle.wt_template.specs.Shapes.{Shape, if_letter, templates}
use Rattle.wt_template.specs.Shapes.{input as any_input, proj as any_proj, filtered as any_filtered, inner_join as any_inner_join, left_join as any_left_join, in_sub as any_in_sub, dedup as any_dedup}
use Rattle.wt_symbol.specs.Sides.{SideTree, input, proj, filtered, inner_join, left_join, in_sub, dedup, PairTree}
use Rattle.wt_symbol.specs.Lawful.{fault_of}
use Rattle.wt_pair.specs.declared.bounds.Bounds.{Bounds}

-- how many symbols of each kind a template takes
abbrev pub leaf_count : Shape → ℕ
leaf_count any_input = 1
leaf_count (any_proj t) = leaf_count t
leaf_count (any_filtered t) = leaf_count t
leaf_count (any_inner_join t u) = leaf_count t + leaf_count u
leaf_count (any_left_join t u) = leaf_count t + leaf_count u
leaf_count (any_in_sub t u) = leaf_count t + leaf_count u
leaf_count (any_dedup t) = leaf_count t

abbrev pub list_count : Shape → ℕ
list_count any_input = 0
list_count (any_proj t) = 1 + list_count t
list_count (any_filtered t) = 1 + list_count t
list_count (any_inner_join t u) = 2 + (list_count t + list_count u)
list_count (any_left_join t u) = 2 + (list_count t + list_count u)
list_count (any_in_sub t u) = 1 + (list_count t + list_count u)
list_count (any_dedup t) = list_count t

abbrev pub pred_count : Shape → ℕ
pred_count any_input = 0
pred_count (any_proj t) = pred_count t
pred_count (any_filtered t) = 1 + pred_count t
pred_count (any_inner_join t u) = pred_count t + pred_count u
pred_count (any_left_join t u) = pred_count t + pred_count u
pred_count (any_in_sub t u) = pred_count t + pred_count u
pred_count (any_dedup t) = pred_count t

-- the template with its symbols numbered in preorder, leaves from r, lists from a and predicates from p on
abbrev pub numbered : Shape → ℕ → ℕ → ℕ → SideTree
numbered any_input r a p = input r
numbered (any_proj t) r a p = proj a (numbered t r (a + 1) p)
numbered (any_filtered t) r a p = filtered p a (numbered t r (a + 1) (p + 1))
numbered (any_inner_join t u) r a p =
    inner_join a (a + 1) (numbered t r (a + 2) p) (numbered u (r + leaf_count t) (a + 2 + list_count t) (p + pred_count t))
numbered (any_left_join t u) r a p =
    left_join a (a + 1) (numbered t r (a + 2) p) (numbered u (r + leaf_count t) (a + 2 + list_count t) (p + pred_count t))
numbered (any_in_sub t u) r a p =
    in_sub a (numbered t r (a + 1) p) (numbered u (r + leaf_count t) (a + 1 + list_count t) (p + pred_count t))
numbered (any_dedup t) r a p = dedup (numbered t r a p)

-- the source of a template
abbrev pub source_of : Shape → SideTree
source_of t = numbered t 0 0 0

-- the anchors that n lists can have among r leaves: that of the first list first, lower leaves first
abbrev pub anchorings : ℕ → ℕ → List (List ℕ)
anchorings r zero = [] ∷ []
anchorings r (suc n) = flat_map (λ leaf. map (λ others. leaf ∷ others) (anchorings r n)) (numbers_from 0 r)

-- each operator of the letters with each choice of its symbols, the first symbol first, lower numbers first
abbrev pub makers : ℕ → ℕ → ℕ → List (Maker SideTree)
makers ops lists preds =
    of_one (if_letter ops 0 (map (λ a s. proj a s) (numbers_from 0 lists)))
    ∷ of_one (if_letter ops 1 (flat_map (λ p. map (λ a s. filtered p a s) (numbers_from 0 lists)) (numbers_from 0 preds)))
    ∷ of_two (if_letter ops 2 (flat_map (λ a. map (λ b s t. inner_join a b s t) (numbers_from 0 lists)) (numbers_from 0 lists)))
    ∷ of_two (if_letter ops 3 (flat_map (λ a. map (λ b s t. left_join a b s t) (numbers_from 0 lists)) (numbers_from 0 lists)))
    ∷ of_two (if_letter ops 4 (map (λ a s t. in_sub a s t) (numbers_from 0 lists)))
    ∷ of_one (if_letter ops 5 ((λ s. dedup s) ∷ []))
    ∷ []

-- the destinations of size 0 to `most` over so many leaves, lists and predicates, in order
abbrev pub destinations_over : ℕ → ℕ → ℕ → ℕ → ℕ → List SideTree
destinations_over ops most leaves lists preds = trees_of_sizes (map (λ r. input r) (numbers_from 0 leaves)) (makers ops lists preds) 0 (suc most)

-- the destinations over the symbols of a source's template
abbrev pub destinations : ℕ → ℕ → Shape → List SideTree
destinations ops most t = destinations_over ops most (leaf_count t) (list_count t) (pred_count t)

-- whether a pair passes every test
abbrev pub is_lawful : PairTree → Bool
is_lawful p = is_none (fault_of p)

-- the lawful pairs of a source with anchors and a list of destinations
abbrev pub lawful_pairs : SideTree → List ℕ → List SideTree → List PairTree
lawful_pairs source anchors dests = filter is_lawful (map (λ d. record { source = source; dest = d; anchors = anchors }) dests)

-- the pairs of a template with one way to anchor its lists
abbrev pub pairs_of_anchoring : ℕ → ℕ → Shape → List ℕ → List PairTree
pairs_of_anchoring ops dst t anchors = lawful_pairs (source_of t) anchors (destinations ops dst t)

-- the pairs of a template
abbrev pub pairs_of_template : ℕ → ℕ → Shape → List PairTree
pairs_of_template ops dst t = flat_map (pairs_of_anchoring ops dst t) (anchorings (leaf_count t) (list_count t))

-- the pairs of the bounds
abbrev pub pairs_of : Bounds → List PairTree
pairs_of b = flat_map (pairs_of_template b.ops.0 b.dst) (templates b.ops.0 b.src)

-- the bounds are within the limits
pub record IsWithinLimits (b : Bounds) : Type 0 where
  pub src_low : 1 ≤ b.src
  pub src_high : b.src ≤ 4
  pub dst_high : b.dst ≤ 4
  pub depth_high : b.depth ≤ 64
  pub steps_low : 1 ≤ b.steps
  pub steps_high : b.steps ≤ 16
