use Rattle.std.proofs.Common.{◌≡◌, ◌+◌, ◌-◌, ◌≤◌, length, drop}
use Rattle.std.specs.List.{prefix_len}
use Rattle.wt_lex.specs.Fronts.{is_in}
use Rattle.wt_lex.proofs.front.run.Given as goal

abbrev pub invariant-bytes : goal.invariant-bytes
invariant-bytes l = (l.n + prefix_len (is_in l.class) (drop l.n l.text) ≡ prefix_len (is_in l.class) l.text) × (l.n ≤ length l.text)

abbrev pub decreases-bytes : goal.decreases-bytes
decreases-bytes l = length l.text - l.n
