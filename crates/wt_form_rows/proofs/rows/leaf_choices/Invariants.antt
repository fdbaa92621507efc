use Rattle.std.proofs.Common.{◌≡◌, take, map}
use Rattle.wt_form_rows.specs.Tests.{leaf_pieces}
use Rattle.wt_form_rows.proofs.rows.leaf_choices.Given as goal

abbrev pub invariant-loop-row : goal.invariant-loop-row
invariant-loop-row l = l.choices ≡ map leaf_pieces (take l.row-index l.row-items)
