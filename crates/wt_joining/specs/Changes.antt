-- What a step does to each expression of a term.
use Rattle.wt_form.specs.declared.form.Expr.{Expr}
use Rattle.wt_form.specs.Changes.{expr_down, expr_onto, put}
use Rattle.wt_joining.specs.declared.changes.Change.{Change}
use Rattle.wt_joining.specs.declared.changes.Change.TheVariants.{Down, Onto, Put}

abbrev pub changed : Change → Expr → Expr
changed (Down y) = expr_down y
changed (Onto x y) = expr_onto x y
changed (Put e old) = put e old
