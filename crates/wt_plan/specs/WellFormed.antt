-- When a plan is well formed, whatever the schema.
use Rattle.std.specs.Prelude.{◌≡◌, ◌≢◌, ℕ, ◌+◌, ◌^◌, ◌<◌, List, [], length}
use Rattle.wt_bag.specs.Bags.{Each}
use Rattle.wt_pred.specs.Tree.{PredTree}
use Rattle.wt_pred.specs.Columns.{occurring}
use Rattle.wt_plan.specs.Tree.{PlanTree, table, proj, filtered, inner_join, left_join, in_sub, dedup}
use Rattle.wt_plan.specs.Measures.{width, cost}

-- a list of places: not empty, and each one is in rows of this width
pub record Places (width : ℕ) (cols : List ℕ) : Type 0 where
  pub some : cols ≢ []
  pub within : Each (λ k. k < width) cols

-- the two lists of a join
pub record Pairs (left right : ℕ) (a b : List ℕ) : Type 0 where
  pub lefts : Places left a
  pub rights : Places right b
  pub equally_many : length a ≡ length b

-- each list names places that are there; a predicate names places of its filter's list, an InSub has a place for each column
-- of its right operand
abbrev pub PlacesFit : PlanTree → Type 0
PlacesFit (table number columns) = Unit {0}
PlacesFit (proj cols p) = Places (width p) cols × PlacesFit p
PlacesFit (filtered pred cols p) = Places (width p) cols × Each (λ k. k < length cols) (occurring pred) × PlacesFit p
PlacesFit (inner_join a b l r) = Pairs (width l) (width r) a b × PlacesFit l × PlacesFit r
PlacesFit (left_join a b l r) = Pairs (width l) (width r) a b × PlacesFit l × PlacesFit r
PlacesFit (in_sub cols l r) = Places (width l) cols × (length cols ≡ width r) × PlacesFit l × PlacesFit r
PlacesFit (dedup p) = PlacesFit p

-- each node's width is a number of 32 bits
abbrev pub Narrow : PlanTree → Type 0
Narrow (table number columns) = columns < 2 ^ 32
Narrow (proj cols p) = (length cols < 2 ^ 32) × Narrow p
Narrow (filtered pred cols p) = Narrow p
Narrow (inner_join a b l r) = (width l + width r < 2 ^ 32) × Narrow l × Narrow r
Narrow (left_join a b l r) = (width l + width r < 2 ^ 32) × Narrow l × Narrow r
Narrow (in_sub cols l r) = Narrow l × Narrow r
Narrow (dedup p) = Narrow p

-- its places are there, each node's width and the plan's cost are numbers of 32 bits
pub record WellFormed (p : PlanTree) : Type 0 where
  pub places : PlacesFit p
  pub narrow : Narrow p
  pub cheap : cost p < 2 ^ 32
