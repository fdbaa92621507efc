-- How many columns a block has, and how many FROM items its text.
use Rattle.std.specs.Prelude.{ℕ, ◌+◌, length, Some, None}
use Rattle.wt_blocks.specs.Blocks.{Block, Zone, block, table, derived, kept, member, inner_join, left_join}

abbrev mutual
  pub block_width : Block → ℕ
  block_width (block once (Some cols) z) = length cols
  block_width (block once None z) = zone_width z

  pub zone_width : Zone → ℕ
  zone_width (table n w) = w
  zone_width (derived b) = block_width b
  zone_width (kept q cols z) = zone_width z
  zone_width (member cols z b) = zone_width z
  zone_width (inner_join a b l r) = zone_width l + zone_width r
  zone_width (left_join a b l r) = zone_width l + zone_width r

-- The FROM items of a block, those of the FROM clause of a zone, and those in the subqueries of the zone's conditions, which
-- stand behind the FROM clause. The conditions of a LEFT JOIN's right zone stand in its ON.
abbrev mutual
  pub block_items : Block → ℕ
  block_items (block once list z) = from_items z + condition_items z

  pub from_items : Zone → ℕ
  from_items (table n w) = 1
  from_items (derived b) = 1 + block_items b
  from_items (kept q cols z) = from_items z
  from_items (member cols z b) = from_items z
  from_items (inner_join a b l r) = from_items l + from_items r
  from_items (left_join a b l r) = from_items l + (from_items r + condition_items r)

  pub condition_items : Zone → ℕ
  condition_items (table n w) = 0
  condition_items (derived b) = 0
  condition_items (kept q cols z) = condition_items z
  condition_items (member cols z b) = condition_items z + block_items b
  condition_items (inner_join a b l r) = condition_items l + condition_items r
  condition_items (left_join a b l r) = condition_items l
