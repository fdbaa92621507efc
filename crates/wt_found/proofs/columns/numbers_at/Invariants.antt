use Rattle.std.proofs.Common.{◌≡◌, drop}
use Rattle.wt_matching.specs.Finding as spec
use Rattle.wt_found.specs.Seen.{named}
use Rattle.wt_found.proofs.Reading.{continued}
use Rattle.wt_found.proofs.columns.numbers_at.Given as goal

abbrev pub invariant-loop-at : goal.invariant-loop-at
invariant-loop-at l =
    continued l.numbers (spec.numbers_at (named l.columns) l.leaf (drop l.at-index l.at-items)) ≡ spec.numbers_at (named l.columns) l.leaf l.places
