use Rattle.std.proofs.Common.{◌≡◌, ◌-◌, ◌≤◌, length, drop}
use Rattle.wt_reading.specs.Readings.{plus, repeat, one_more}
use Rattle.wt_reading.specs.Lexemes.{at, is_comma}
use Rattle.wt_ddl.specs.Reading as spec
use Rattle.wt_ddl.proofs.rules.more_elements.Given as goal

abbrev pub invariant-parts : goal.invariant-parts
invariant-parts l = record {
  exact : plus l.at (repeat (at is_comma) (one_more (spec.next_element l.text)) 0 l.all (drop l.at l.rest)) ≡ repeat (at is_comma) (one_more (spec.next_element l.text)) 0 l.fn.all l.rest;
  within : l.at ≤ length l.rest;
}

abbrev pub decreases-parts : goal.decreases-parts
decreases-parts l = length l.rest - l.at
