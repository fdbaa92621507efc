use Rattle.std.proofs.Common.{◌≡◌, ◌-◌, ◌≤◌, length, drop}
use Rattle.wt_reading.specs.Lexemes.{is_comma}
use Rattle.wt_reading.specs.Readings.{more, list}
use Rattle.wt_grammar.specs.Reading.{column_front}
use Rattle.wt_front.specs.Giving.{size_of}
use Rattle.wt_parts.proofs.Sizes.{behind}
use Rattle.wt_parts.proofs.sources.columns_front.Given as goal

abbrev pub invariant-columns : goal.invariant-columns
invariant-columns l = record {
  exact : behind l.at (size_of (more is_comma column_front 0 (drop l.at l.ts))) ≡ size_of (list column_front l.ts);
  within : l.at ≤ length l.ts;
}

abbrev pub decreases-columns : goal.decreases-columns
decreases-columns l = length l.ts - l.at
