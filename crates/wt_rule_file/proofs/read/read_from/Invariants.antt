use Rattle.std.proofs.Common.{◌-◌, length, drop}
use Rattle.wt_rule_file.specs.Files.{lines_of}
use Rattle.wt_rule_file.proofs.Giving.{SoFar}
use Rattle.wt_rule_file.proofs.read.read_from.Given as goal

abbrev pub invariant-lines : goal.invariant-lines
invariant-lines g l = SoFar l.head.version l.head.steps (lines_of (drop l.fn.from l.bytes)) (lines_of (drop l.at l.bytes)) l.rules

abbrev pub decreases-lines : goal.decreases-lines
decreases-lines g l = length l.bytes - l.at
