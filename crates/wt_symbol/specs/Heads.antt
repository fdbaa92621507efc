-- What of a side can be seen from above: the leaves, and the parts of its head.
use Rattle.std.specs.Prelude.{◌≡◌, ℕ, ◌<◌, List, [], ◌∷◌, ◌++◌, length, slice_index, if◌then◌else◌}
use Rattle.std.specs.Int.{bit_at}
use Rattle.wt_symbol.specs.declared.head.Part.{Part}
use Rattle.wt_symbol.specs.declared.head.PartCols.TheVariants.{Whole, List as Listed}
use Rattle.wt_symbol.specs.Sides.{SideTree, input, proj, filtered, inner_join, left_join, in_sub, dedup}
use Rattle.wt_symbol.specs.Lawful.{occurs}

-- the leaf that a list is anchored at
abbrev pub anchor : List ℕ → ℕ → ℕ
anchor anchors a = slice_index anchors a

-- the parts of a side's head from left to right: an input's whole width, or a Proj's list at its anchor
abbrev pub head_of : SideTree → List ℕ → List Part
head_of (input r) A = record { leaf = r; cols = Whole } ∷ []
head_of (proj a s) A = record { leaf = anchor A a; cols = Listed a } ∷ []
head_of (filtered p a s) A = head_of s A
head_of (inner_join a b s t) A = head_of s A ++ head_of t A
head_of (left_join a b s t) A = head_of s A ++ head_of t A
head_of (in_sub a s t) A = head_of s A
head_of (dedup s) A = head_of s A

-- each list of the side has an anchor
abbrev pub HasAnchors : SideTree → List ℕ → Type 0
HasAnchors (input r) A = Unit {0}
HasAnchors (proj a s) A = (a < length A) × HasAnchors s A
HasAnchors (filtered p a s) A = (a < length A) × HasAnchors s A
HasAnchors (inner_join a b s t) A = (a < length A) × (b < length A) × HasAnchors s A × HasAnchors t A
HasAnchors (left_join a b s t) A = (a < length A) × (b < length A) × HasAnchors s A × HasAnchors t A
HasAnchors (in_sub a s t) A = (a < length A) × HasAnchors s A × HasAnchors t A
HasAnchors (dedup s) A = HasAnchors s A

-- the leaves of the side are below 8
abbrev pub HasSmallLeaves : SideTree → Type 0
HasSmallLeaves (input r) = r < 8
HasSmallLeaves (proj a s) = HasSmallLeaves s
HasSmallLeaves (filtered p a s) = HasSmallLeaves s
HasSmallLeaves (inner_join a b s t) = HasSmallLeaves s × HasSmallLeaves t
HasSmallLeaves (left_join a b s t) = HasSmallLeaves s × HasSmallLeaves t
HasSmallLeaves (in_sub a s t) = HasSmallLeaves s × HasSmallLeaves t
HasSmallLeaves (dedup s) = HasSmallLeaves s

-- the mask's bits are the numbers of the list
pub record IsMask (mask : ℕ) (leaves : List ℕ) : Type 0 where
  pub bits : (r : ℕ) → bit_at mask r ≡ (if occurs r leaves then 1 else 0)
