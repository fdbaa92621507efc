use Rattle.std.proofs.Common.{ap, sym, ◌∙◌}
use Rattle.wt_query_plan.specs.Faults.{fault_if}
use Rattle.wt_query_plan.specs.declared.fault.BuildFault.TheVariants.{DuplicateAlias}
use Rattle.wt_sources.proofs.Names.{has_alias_is}
use Rattle.wt_sources.proofs.sources.alias_told.Goals as goal

pub returns-then-has_alias : goal.returns-then-has_alias
returns-then-has_alias c = ap (λ b. fault_if b DuplicateAlias c.args.at) (sym (has_alias_is c.args.alias.now c.args.items.now) ∙ sym c.has_alias.ensures ∙ c.if-has_alias.true)

pub returns-else-has_alias : goal.returns-else-has_alias
returns-else-has_alias c = (ap (λ b. fault_if b DuplicateAlias c.args.at) (sym (has_alias_is c.args.alias.now c.args.items.now) ∙ sym c.has_alias.ensures ∙ c.if-has_alias.false), tt)
