use Rattle.std.proofs.Common.{◌≡◌, ◌-◌, ◌≤◌, length, drop}
use Rattle.wt_reading.specs.Readings.{plus, repeat}
use Rattle.wt_ddl.specs.Reading as spec
use Rattle.wt_ddl.proofs.targets.options.Given as goal

abbrev pub invariant-parts : goal.invariant-parts
invariant-parts l = record {
  exact : plus l.at (repeat (spec.at_option l.text) (spec.option l.text) 0 tt (drop l.at l.rest)) ≡ repeat (spec.at_option l.text) (spec.option l.text) 0 tt l.rest;
  within : l.at ≤ length l.rest;
}

abbrev pub decreases-parts : goal.decreases-parts
decreases-parts l = length l.rest - l.at
