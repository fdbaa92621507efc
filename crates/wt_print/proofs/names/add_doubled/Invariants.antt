use Rattle.std.proofs.Common.{◌≡◌, ◌++◌, length}
use Rattle.wt_lex.specs.Spelling.{doubled}
use Rattle.wt_print.proofs.names.add_doubled.Given as goal

abbrev pub invariant-bytes : goal.invariant-bytes
invariant-bytes l = l.out.items ++ doubled l.quote l.bytes ≡ l.fn.out.items ++ doubled l.quote l.initial.bytes

abbrev pub decreases-bytes : goal.decreases-bytes
decreases-bytes l = length l.bytes
