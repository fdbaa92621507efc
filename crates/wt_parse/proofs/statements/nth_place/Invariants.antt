use Rattle.std.proofs.Common.{◌≡◌, length}
use Rattle.std.specs.Prelude.{slice_get}
use Rattle.wt_ast.specs.Marks.{places}
use Rattle.wt_parse.proofs.statements.nth_place.Given as goal

abbrev pub invariant-marks : goal.invariant-marks
invariant-marks l = slice_get (places l.what l.rest) l.left ≡ slice_get (places l.what l.fn.marks) l.n

abbrev pub decreases-marks : goal.decreases-marks
decreases-marks l = length l.rest
