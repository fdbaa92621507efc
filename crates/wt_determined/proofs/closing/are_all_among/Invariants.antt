use Rattle.std.proofs.Common.{ℕ, ◌<◌}
use Rattle.wt_bag.specs.Choices.{Has}
use Rattle.wt_determined.proofs.closing.are_all_among.Given as goal

abbrev pub invariant-loop-v : goal.invariant-loop-v
invariant-loop-v l = (v : ℕ) → v < l.v → Has v l.vars
