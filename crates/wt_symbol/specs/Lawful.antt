-- Which pairs of sides are lawful, by five tests in their order.
use Rattle.std.specs.Prelude.{◌≡◌, ℕ, suc, ◌==◌, Bool, true, false, not, ◌&&◌, List, [], ◌∷◌, ◌++◌, length, slice_index, nat_lt, nat_le, Option, Some, None, if◌then◌else◌}
use Rattle.std.specs.List.{list_all, list_any}
use Rattle.wt_symbol.specs.declared.fault.PairFault.{PairFault}
use Rattle.wt_symbol.specs.declared.fault.PairFault.TheVariants.{Symbol, Size, Anchor, Weight, Root}
use Rattle.wt_symbol.specs.Sides.{SideTree, input, proj, filtered, inner_join, left_join, in_sub, dedup, PairTree, leaves_of, lists_of, preds_of, size_of, weight_of}

-- the number is one of the list
abbrev pub occurs : ℕ → List ℕ → Bool
occurs x ys = list_any (λ y. y == x) ys

-- the list is n, n + 1, n + 2 and so on
abbrev pub counts_up : ℕ → List ℕ → Bool
counts_up n [] = true
counts_up n (x ∷ xs) = (x == n) && counts_up (suc n) xs

-- no number stands twice
abbrev pub all_different : List ℕ → Bool
all_different [] = true
all_different (x ∷ xs) = not (occurs x xs) && all_different xs

-- each of the second list is one of the first
abbrev pub all_in : List ℕ → List ℕ → Bool
all_in ys xs = list_all (λ x. occurs x ys) xs

-- the symbols of each kind are numbered from 0 in preorder
abbrev pub is_numbered : SideTree → Bool
is_numbered s = counts_up 0 (leaves_of s) && counts_up 0 (lists_of s) && counts_up 0 (preds_of s)

-- each symbol of the second side is one of the first
abbrev pub uses_symbols_of : SideTree → SideTree → Bool
uses_symbols_of s t = all_in (leaves_of s) (leaves_of t) && all_in (lists_of s) (lists_of t) && all_in (preds_of s) (preds_of t)

-- Symbol: the source is numbered and each of its lists has one anchor; the destination's symbols are the source's, and no leaf stands twice in it
abbrev pub has_lawful_symbols : PairTree → Bool
has_lawful_symbols p =
    is_numbered p.source && (length p.anchors == length (lists_of p.source)) && uses_symbols_of p.source p.dest
    && all_different (leaves_of p.dest)

-- a side has at most four operators
abbrev pub most_operators : ℕ
most_operators = 4

-- Size: neither side has more
abbrev pub has_lawful_sizes : PairTree → Bool
has_lawful_sizes p = nat_le (size_of p.source) most_operators && nat_le (size_of p.dest) most_operators

-- the leaves that can be seen above a side
abbrev pub visible_leaves : SideTree → List ℕ → List ℕ
visible_leaves (input r) A = r ∷ []
visible_leaves (proj a s) A = slice_index A a ∷ []
visible_leaves (filtered p a s) A = visible_leaves s A
visible_leaves (inner_join a b s t) A = visible_leaves s A ++ visible_leaves t A
visible_leaves (left_join a b s t) A = visible_leaves s A ++ visible_leaves t A
visible_leaves (in_sub a s t) A = visible_leaves s A
visible_leaves (dedup s) A = visible_leaves s A

-- the list's anchor can be seen above the operand
abbrev pub sees : SideTree → List ℕ → ℕ → Bool
sees s A a = occurs (slice_index A a) (visible_leaves s A)

-- each list stands on an operand above which its anchor can be seen
abbrev pub stands : SideTree → List ℕ → Bool
stands (input r) A = true
stands (proj a s) A = stands s A && sees s A a
stands (filtered p a s) A = stands s A && sees s A a
stands (inner_join a b s t) A = stands s A && stands t A && sees s A a && sees t A b
stands (left_join a b s t) A = stands s A && stands t A && sees s A a && sees t A b
stands (in_sub a s t) A = stands s A && stands t A && sees s A a
stands (dedup s) A = stands s A

-- Anchor: in both sides
abbrev pub has_lawful_anchors : PairTree → Bool
has_lawful_anchors p = stands p.source p.anchors && stands p.dest p.anchors

-- Weight: the destination weighs less
abbrev pub has_lawful_weights : PairTree → Bool
has_lawful_weights p = nat_lt (weight_of p.dest) (weight_of p.source)

-- the root, with the Dedups at the top taken off, is a Proj
abbrev pub is_proj : SideTree → Bool
is_proj (dedup s) = is_proj s
is_proj (proj a s) = true
is_proj (input r) = false
is_proj (filtered p a s) = false
is_proj (inner_join a b s t) = false
is_proj (left_join a b s t) = false
is_proj (in_sub a s t) = false

-- Root: that of the one side exactly where that of the other
abbrev pub has_lawful_roots : PairTree → Bool
has_lawful_roots p = if is_proj p.source then is_proj p.dest else not (is_proj p.dest)

-- the first test that does not pass
abbrev pub fault_of : PairTree → Option PairFault
fault_of p =
    if has_lawful_symbols p then
    (if has_lawful_sizes p then
    (if has_lawful_anchors p then
    (if has_lawful_weights p then
    (if has_lawful_roots p then None else Some Root)
    else Some Weight)
    else Some Anchor)
    else Some Size)
    else Some Symbol

-- a pair is lawful where every test passes
pub record IsLawful (p : PairTree) : Type 0 where
  pub symbols : has_lawful_symbols p ≡ true
  pub sizes : has_lawful_sizes p ≡ true
  pub anchors : has_lawful_anchors p ≡ true
  pub weights : has_lawful_weights p ≡ true
  pub roots : has_lawful_roots p ≡ true
