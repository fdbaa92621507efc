use Rattle.std.proofs.Common.{◌∙◌, ap}
use Rattle.wt_schema.specs.Lookup as spec
use Rattle.wt_schema.proofs.Naming.{named, only}
use Rattle.wt_schema.proofs.schema.Schema.table_number.Goals as goal

pub returns-clause-named : goal.returns-clause-named
returns-clause-named c table =
    named (λ t. t.name) c.args.self.now.tables c.args.name.now table c.first_table.result (c.first_table.ensures.value ∙ ap (λ l. spec.table_number l c.args.name.now) c.as_slice.ensures)

pub returns-clause-only : goal.returns-clause-only
returns-clause-only c n table within is =
    c.first_table.ensures.value ∙ ap (λ l. spec.table_number l c.args.name.now) c.as_slice.ensures
    ∙ only (λ t. t.name) c.args.self.now.tables c.args.name.now n table c.args.self.now.lawful.differ within is
