use Rattle.std.proofs.Common.{◌≡◌, ◌++◌, ◌-◌, ◌≤◌, length}
use Rattle.std.specs.Prelude.{map, filter}
use Rattle.std.specs.List.{All}
use Rattle.wt_grammar.specs.Statements.{has_tokens, statements}
use Rattle.wt_parse.specs.Held.{shown, Holds}
use Rattle.wt_parse.proofs.Pieces.{left}
use Rattle.wt_parse.proofs.statements.cut.Given as goal

abbrev pub invariant-tokens : goal.invariant-tokens
invariant-tokens l = record {
  order : l.from ≤ l.i;
  within : l.i ≤ length l.tokens;
  cut : map (shown l.tokens) l.pieces.items ++ filter has_tokens (left l.size l.tokens l.from l.i) ≡ statements l.size l.tokens;
  few : length l.pieces.items ≤ l.from;
  holds : All (Holds l.tokens) l.pieces.items;
}

abbrev pub decreases-tokens : goal.decreases-tokens
decreases-tokens l = length l.tokens - l.i
