use Rattle.std.proofs.Common.{◌≤◌, ◌-◌, length}
use Rattle.wt_schema.specs.Satisfying.{Differ}
use Rattle.wt_schema.proofs.Pairs.{PairsBelow}
use Rattle.wt_schema.proofs.satisfying.differ.Given as goal

abbrev pub invariant-rows : goal.invariant-rows
invariant-rows l = record { within : l.i ≤ length l.rows; differ : PairsBelow (Differ l.columns) l.rows l.i }

abbrev pub decreases-rows : goal.decreases-rows
decreases-rows l = length l.rows - l.i
