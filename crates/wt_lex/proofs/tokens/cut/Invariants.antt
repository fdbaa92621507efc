use Rattle.std.proofs.Common.{◌≡◌, ◌-◌, ◌≤◌, length, drop}
use Rattle.std.specs.Prelude.{map}
use Rattle.wt_lex.specs.Stored.{shown}
use Rattle.wt_lex.specs.Tokens.{before, tokens_from}
use Rattle.wt_lex.proofs.tokens.cut.Given as goal

abbrev pub invariant-fronts : goal.invariant-fronts
invariant-fronts l = record {
  exact : before (map (shown l.text) l.stored.items) (tokens_from l.at 0 (drop l.at l.text)) ≡ tokens_from 0 0 l.text;
  each : length l.stored.items ≤ l.at;
  within : l.at ≤ length l.text;
}

abbrev pub decreases-fronts : goal.decreases-fronts
decreases-fronts l = length l.text - l.at
