use Rattle.std.proofs.Common.{sym, ap, subst, ◌∙◌}
use Rattle.wt_plan.specs.Regular.{plan_kinds}
use Rattle.wt_draft.specs.Roots.{root_tree}
use Rattle.wt_regularity.specs.Kinds.{Finds}
use Rattle.wt_regularity.proofs.Finding.{table_finds}
use Rattle.wt_regularity.proofs.kinds.+kind_of.Goals as goal

pub returns-in-Table : goal.returns-in-Table
returns-in-Table t c =
    subst (λ p. Finds (plan_kinds c.args.tables.now p) c.args.place c.table_kind.result) (ap root_tree (sym c.in-Table.is) ∙ c.root.ensures.exact)
    (table_finds c.args.tables.now c.in-Table.number c.args.place c.table_kind.result c.table_kind.ensures)
