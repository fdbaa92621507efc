use Rattle.std.proofs.Common.{◌≡◌, take, map}
use Rattle.wt_rows.specs.FormRows.{row_of}
use Rattle.wt_form_rows.specs.Tests.{pieces_behind}
use Rattle.wt_form_rows.proofs.values.row_of.Given as goal

abbrev pub invariant-loop-expr : goal.invariant-loop-expr
invariant-loop-expr l = l.row ≡ row_of l.instance (take l.expr-index l.exprs) (map pieces_behind l.env)
