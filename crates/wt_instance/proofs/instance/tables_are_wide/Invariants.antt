use Rattle.std.proofs.Common.{ℕ, ◌<◌}
use Rattle.wt_instance.specs.Instances.{IsWide}
use Rattle.wt_instance.proofs.instance.tables_are_wide.Given as goal

abbrev pub invariant-loop-r : goal.invariant-loop-r
invariant-loop-r l = (k : ℕ) → k < l.r → IsWide l.instance k
