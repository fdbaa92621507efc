use Rattle.std.proofs.Common.{◌≡◌, ◌-◌, ◌≤◌, length, drop}
use Rattle.wt_reading.specs.Lexemes.{is_comma}
use Rattle.wt_reading.specs.Readings.{more}
use Rattle.wt_reading.proofs.Loops.{put_front}
use Rattle.wt_ddl.specs.Reading as spec
use Rattle.wt_ddl.proofs.names.more_names.Given as goal

abbrev pub invariant-parts : goal.invariant-parts
invariant-parts l = record {
  exact : put_front l.all l.at (more is_comma (spec.name l.text) 0 (drop l.at l.rest)) ≡ put_front l.fn.all 0 (more is_comma (spec.name l.text) 0 l.rest);
  within : l.at ≤ length l.rest;
}

abbrev pub decreases-parts : goal.decreases-parts
decreases-parts l = length l.rest - l.at
