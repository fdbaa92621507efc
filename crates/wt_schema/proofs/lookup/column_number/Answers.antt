use Rattle.std.proofs.Common.{◌∙◌}
use Rattle.wt_schema.proofs.Naming.{named, only}
use Rattle.wt_schema.proofs.lookup.column_number.Goals as goal

pub returns-clause-named : goal.returns-clause-named
returns-clause-named c column = named (λ c. c.name) c.args.columns.now c.args.name.now column c.first_column.result c.first_column.ensures.value

pub returns-clause-only : goal.returns-clause-only
returns-clause-only c differ n column within is = c.first_column.ensures.value ∙ only (λ c. c.name) c.args.columns.now c.args.name.now n column differ within is
