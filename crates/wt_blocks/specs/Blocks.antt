-- A plan cut into blocks. A block is one SELECT: with DISTINCT or not, of a list of columns or of `*`, from a zone. A zone is
-- what one FROM clause and its conditions hold: tables and blocks, joined, with conditions above them. The right operand of
-- a LEFT JOIN is a zone of its own.
use Rattle.std.specs.Prelude.{ℕ, Bool, true, false, List, Option, Some, None}
use Rattle.wt_pred.specs.Tree.{PredTree}
use Rattle.wt_plan.specs.Tree.{PlanTree}
use Rattle.wt_plan.specs.Tree as plans

-- the numbers are places in the rows of the zone that they stand on, as in a plan
mutual
  pub data Block : Type 0 where
    block : Bool → Option (List ℕ) → Zone → Block

  pub data Zone : Type 0 where
    table : ℕ → ℕ → Zone
    derived : Block → Zone
    kept : PredTree → List ℕ → Zone → Zone
    member : List ℕ → Zone → Block → Zone
    inner_join : List ℕ → List ℕ → Zone → Zone → Zone
    left_join : List ℕ → List ℕ → Zone → Zone → Zone

-- the block of a zone: one that is a block alone needs no SELECT around it
abbrev pub block_of : Zone → Block
block_of (derived b) = b
block_of (table n w) = block false None (table n w)
block_of (kept q cols z) = block false None (kept q cols z)
block_of (member cols z b) = block false None (member cols z b)
block_of (inner_join a b l r) = block false None (inner_join a b l r)
block_of (left_join a b l r) = block false None (left_join a b l r)

-- DISTINCT in a block that has none, else around it
abbrev pub distinct : Block → Block
distinct (block false list z) = block true list z
distinct (block true list z) = block true None (derived (block true list z))

abbrev pub zone_of : PlanTree → Zone
zone_of (plans.table n w) = table n w
zone_of (plans.proj cols p) = derived (block false (Some cols) (zone_of p))
zone_of (plans.filtered q cols p) = kept q cols (zone_of p)
zone_of (plans.inner_join a b l r) = inner_join a b (zone_of l) (zone_of r)
zone_of (plans.left_join a b l r) = left_join a b (zone_of l) (zone_of r)
zone_of (plans.in_sub cols l r) = member cols (zone_of l) (block_of (zone_of r))
zone_of (plans.dedup p) = derived (distinct (block_of (zone_of p)))

abbrev pub plan_block : PlanTree → Block
plan_block p = block_of (zone_of p)
