use Rattle.std.proofs.Common.{ap, not, sym, ◌∙◌}
use Rattle.wt_query_plan.specs.Faults.{fault_if}
use Rattle.wt_query_plan.specs.declared.fault.BuildFault.TheVariants.{UnknownTable}
use Rattle.wt_sources.proofs.Names.{unknown_any}
use Rattle.wt_sources.proofs.sources.known_table.Goals as goal

pub returns-in-None : goal.returns-in-None
returns-in-None c = ap (λ b. fault_if (not b) UnknownTable c.args.at) (unknown_any c.args.schema.now.tables c.args.name.now (sym c.table_number.ensures.value ∙ c.in-None.is))
