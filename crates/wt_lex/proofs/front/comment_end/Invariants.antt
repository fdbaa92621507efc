use Rattle.std.proofs.Common.{◌≡◌, ◌+◌, ◌-◌, ◌<◌, ◌≤◌, length, drop, false}
use Rattle.std.specs.Prelude.{slice_index}
use Rattle.wt_lex.specs.Fronts.{comment_end}
use Rattle.wt_lex.proofs.front.comment_end.Given as goal

abbrev pub invariant-stars : goal.invariant-stars
invariant-stars l = record {
  value : comment_end false (2 + l.at) (drop l.at l.text) ≡ comment_end false 2 l.text;
  star : l.at < length l.text → slice_index l.text l.at ≡ 42;
  within : l.at ≤ length l.text;
}

abbrev pub decreases-stars : goal.decreases-stars
decreases-stars l = length l.text - l.at
