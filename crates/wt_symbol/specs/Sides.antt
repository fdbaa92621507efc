-- Sides of a rule without pointers: a tree of operators with numbered symbols. A leaf is an input's number,
-- a list is a list symbol's number, and a predicate is a predicate symbol's number.
use Rattle.std.specs.Prelude.{ℕ, ◌+◌, List, [], ◌∷◌, ◌++◌}
use Rattle.wt_symbol.specs.declared.side.Side.{Side}
use Rattle.wt_symbol.specs.declared.side.Side.TheVariants.{Input, Proj', Filter', InnerJoin', LeftJoin', InSub', Dedup'}
use Rattle.wt_symbol.specs.declared.side.Pair.{Pair}

-- a side: `input` with its leaf, `filtered` with its predicate and its list, a join with the list of its left operand and that of its right one
pub data SideTree : Type 0 where
  input : ℕ → SideTree
  proj : ℕ → SideTree → SideTree
  filtered : ℕ → ℕ → SideTree → SideTree
  inner_join : ℕ → ℕ → SideTree → SideTree → SideTree
  left_join : ℕ → ℕ → SideTree → SideTree → SideTree
  in_sub : ℕ → SideTree → SideTree → SideTree
  dedup : SideTree → SideTree

-- the side, its boxes forgotten
abbrev pub tree_of : Side → SideTree
tree_of (Input r) = input r
tree_of (Proj' a p s) = proj a (tree_of s)
tree_of (Filter' q a p s) = filtered q a (tree_of s)
tree_of (InnerJoin' a b p s q t) = inner_join a b (tree_of s) (tree_of t)
tree_of (LeftJoin' a b p s q t) = left_join a b (tree_of s) (tree_of t)
tree_of (InSub' a p s q t) = in_sub a (tree_of s) (tree_of t)
tree_of (Dedup' p s) = dedup (tree_of s)

-- a pair of sides, with the leaf that each list of the source is anchored at
pub record PairTree : Type 0 where
  pub source : SideTree
  pub dest : SideTree
  pub anchors : List ℕ

-- the pair, the boxes of its sides forgotten
abbrev pub pair_of : Pair → PairTree
pair_of p = record { source = tree_of p.source; dest = tree_of p.dest; anchors = p.anchors }

-- the leaves in preorder
abbrev pub leaves_of : SideTree → List ℕ
leaves_of (input r) = r ∷ []
leaves_of (proj a s) = leaves_of s
leaves_of (filtered p a s) = leaves_of s
leaves_of (inner_join a b s t) = leaves_of s ++ leaves_of t
leaves_of (left_join a b s t) = leaves_of s ++ leaves_of t
leaves_of (in_sub a s t) = leaves_of s ++ leaves_of t
leaves_of (dedup s) = leaves_of s

-- the lists in preorder: an operator's own ones as written, then those of its operands
abbrev pub lists_of : SideTree → List ℕ
lists_of (input r) = []
lists_of (proj a s) = a ∷ lists_of s
lists_of (filtered p a s) = a ∷ lists_of s
lists_of (inner_join a b s t) = a ∷ b ∷ (lists_of s ++ lists_of t)
lists_of (left_join a b s t) = a ∷ b ∷ (lists_of s ++ lists_of t)
lists_of (in_sub a s t) = a ∷ (lists_of s ++ lists_of t)
lists_of (dedup s) = lists_of s

-- the predicates in preorder
abbrev pub preds_of : SideTree → List ℕ
preds_of (input r) = []
preds_of (proj a s) = preds_of s
preds_of (filtered p a s) = p ∷ preds_of s
preds_of (inner_join a b s t) = preds_of s ++ preds_of t
preds_of (left_join a b s t) = preds_of s ++ preds_of t
preds_of (in_sub a s t) = preds_of s ++ preds_of t
preds_of (dedup s) = preds_of s

-- how many operators it has; an input is none
abbrev pub size_of : SideTree → ℕ
size_of (input r) = 0
size_of (proj a s) = 1 + size_of s
size_of (filtered p a s) = 1 + size_of s
size_of (inner_join a b s t) = 1 + size_of s + size_of t
size_of (left_join a b s t) = 1 + size_of s + size_of t
size_of (in_sub a s t) = 1 + size_of s + size_of t
size_of (dedup s) = 1 + size_of s

-- the sum of the weights of its operators
abbrev pub weight_of : SideTree → ℕ
weight_of (input r) = 0
weight_of (proj a s) = 1 + weight_of s
weight_of (filtered p a s) = 1 + weight_of s
weight_of (inner_join a b s t) = 6 + weight_of s + weight_of t
weight_of (left_join a b s t) = 7 + weight_of s + weight_of t
weight_of (in_sub a s t) = 4 + weight_of s + weight_of t
weight_of (dedup s) = 3 + weight_of s
