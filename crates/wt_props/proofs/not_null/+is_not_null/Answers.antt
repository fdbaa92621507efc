use Rattle.std.proofs.Common.{sym, ap, ◌∙◌}
use Rattle.wt_plan.specs.Tree.{plan_tree}
use Rattle.wt_known.specs.Facts.{not_null}
use Rattle.wt_props.proofs.Declared.{without_is}
use Rattle.wt_props.proofs.not_null.+is_not_null.Goals as goal

pub returns-in-Table : goal.returns-in-Table
returns-in-Table t c =
    c.is_without_null.ensures
    ∙ without_is c.args.tables.now c.in-Table.number c.in-Table.field-1 c.args.column
    ∙ sym (ap (λ p. not_null c.args.tables.now (plan_tree p) c.args.column) c.in-Table.is)
