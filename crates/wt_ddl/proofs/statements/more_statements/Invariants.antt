use Rattle.std.proofs.Common.{◌≡◌, ◌-◌, ◌≤◌, length, drop}
use Rattle.wt_reading.specs.Readings.{plus, repeat}
use Rattle.wt_ddl.specs.Reading as spec
use Rattle.wt_ddl.proofs.statements.more_statements.Given as goal

abbrev pub invariant-parts : goal.invariant-parts
invariant-parts l = record {
  exact : plus l.at (repeat spec.some_left (spec.statement l.text) 0 l.tables (drop l.at l.rest)) ≡ repeat spec.some_left (spec.statement l.text) 0 l.fn.tables l.rest;
  within : l.at ≤ length l.rest;
}

abbrev pub decreases-parts : goal.decreases-parts
decreases-parts l = length l.rest - l.at
