use Rattle.std.proofs.Common.{◌≡◌, ◌-◌, ◌≤◌, length, drop}
use Rattle.wt_ddl.specs.Schemas.{first_odd}
use Rattle.wt_ddl.proofs.reading.first_odd.Given as goal

abbrev pub invariant-tokens : goal.invariant-tokens
invariant-tokens l = record { exact : first_odd (drop l.i l.tokens) ≡ first_odd l.tokens; within : l.i ≤ length l.tokens }

abbrev pub decreases-tokens : goal.decreases-tokens
decreases-tokens l = length l.tokens - l.i
