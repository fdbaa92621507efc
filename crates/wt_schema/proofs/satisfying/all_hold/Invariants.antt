use Rattle.std.proofs.Common.{ℕ, ◌<◌, ◌≤◌, ◌-◌, length, get_or}
use Rattle.wt_schema.specs.declared.schema.Table.{Table}
use Rattle.wt_schema.specs.Satisfying.{TableHolds, rows_of}
use Rattle.wt_schema.proofs.satisfying.all_hold.Given as goal

abbrev pub invariant-tables : goal.invariant-tables
invariant-tables l = record {
  within : l.i ≤ length l.tables;
  hold : (k : ℕ) (t : Table) → k < l.i → TableHolds l.base (get_or l.tables k t) (rows_of l.base k);
}

abbrev pub decreases-tables : goal.decreases-tables
decreases-tables l = length l.tables - l.i
