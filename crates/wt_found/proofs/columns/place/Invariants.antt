use Rattle.std.proofs.Common.{◌≡◌, ◌+◌, length}
use Rattle.wt_matching.specs.Filling as filling
use Rattle.wt_found.specs.Seen.{named}
use Rattle.wt_found.proofs.columns.place.Given as goal

abbrev pub invariant-columns : goal.invariant-columns
invariant-columns l = record {
  rest : l.passed + filling.place (named l.others) l.leaf l.number ≡ filling.place (named l.columns) l.leaf l.number;
  within : l.passed + length l.others ≡ length l.columns;
}

abbrev pub decreases-columns : goal.decreases-columns
decreases-columns l = length l.others
