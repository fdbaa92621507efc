use Rattle.std.proofs.Common.{◌≡◌, ◌-◌, ◌≤◌, length, drop}
use Rattle.wt_reading.specs.Lexemes.{is_comma}
use Rattle.wt_reading.specs.Readings as readings
use Rattle.wt_reading.proofs.Loops.{put_front}
use Rattle.wt_parts.proofs.lists.more.Given as goal

abbrev pub invariant-parts : goal.invariant-parts
invariant-parts g l = record {
  exact : put_front l.all.items l.at (readings.more is_comma (g.T.Part.reading l.end l.bytes) 0 (drop l.at l.ts))
      ≡ put_front l.initial.all.items 0 (readings.more is_comma (g.T.Part.reading l.end l.bytes) 0 l.ts);
  within : l.at ≤ length l.ts;
}

abbrev pub decreases-parts : goal.decreases-parts
decreases-parts g l = length l.ts - l.at
