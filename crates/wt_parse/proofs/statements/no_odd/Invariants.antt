use Rattle.std.proofs.Common.{◌≡◌, drop}
use Rattle.std.specs.Prelude.{map}
use Rattle.wt_grammar.specs.Statements.{first_odd}
use Rattle.wt_parse.proofs.statements.no_odd.Given as goal

abbrev pub invariant-loop-t : goal.invariant-loop-t
invariant-loop-t l = first_odd (map (λ t. t.token) (drop l.t-index l.ts)) ≡ first_odd (map (λ t. t.token) l.ts)
