-- Counting the FROM items of blocks.
use Rattle.std.proofs.Common.{◌≡◌, ◌+◌, true, false, None, refl, arith}
use Rattle.wt_blocks.specs.Blocks.{Block, block, derived, distinct}
use Rattle.wt_blocks.specs.Counting.{block_items}

pub distinct_twice : (b : Block) → block_items (distinct (distinct b)) ≡ 1 + block_items (distinct b)
distinct_twice (block false list z) = omega arith
distinct_twice (block true list z) = omega arith

-- DISTINCT around a block that has it
pub distinct_again : (b : Block) → distinct (distinct b) ≡ block true None (derived (distinct b))
distinct_again (block false list z) = refl
distinct_again (block true list z) = refl

pub ruleset counting = (distinct_twice, distinct_again)
