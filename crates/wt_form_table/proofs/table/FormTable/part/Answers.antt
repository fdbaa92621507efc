use Rattle.std.proofs.Common.{IfOk, subst}
use Rattle.wt_form_table.specs.declared.cell.Front.TheVariants.{Part}
use Rattle.wt_form_table.specs.Entries.{tables_of}
use Rattle.wt_form_table.specs.Spelled.{Then}
use Rattle.wt_form_table.proofs.table.FormTable.part.Goals as goal

pub returns-clause-is : goal.returns-clause-is
returns-clause-is c = subst (λ k. IfOk c.list.result (λ n. Then (tables_of c.list.new.self) n (Part c.args.part.leaf k) c.args.after)) c.part_columns.ensures c.list.ensures.is
