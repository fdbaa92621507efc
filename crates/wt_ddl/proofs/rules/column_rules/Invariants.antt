use Rattle.std.proofs.Common.{◌≡◌, ◌-◌, ◌≤◌, length, drop, []}
use Rattle.wt_reading.specs.Readings.{plus, repeat, one_more}
use Rattle.wt_ddl.specs.Fronts.{at_some_word}
use Rattle.wt_ddl.specs.Reading as spec
use Rattle.wt_ddl.proofs.rules.column_rules.Given as goal

abbrev pub invariant-parts : goal.invariant-parts
invariant-parts l = record {
  exact : plus l.at (repeat at_some_word (one_more (spec.rule l.text l.before)) 0 l.rules (drop l.at l.rest)) ≡ repeat at_some_word (one_more (spec.rule l.text l.before)) 0 [] l.rest;
  within : l.at ≤ length l.rest;
}

abbrev pub decreases-parts : goal.decreases-parts
decreases-parts l = length l.rest - l.at
