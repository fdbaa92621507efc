use Rattle.std.proofs.Common.{[], sym, subst}
use Rattle.wt_ast.specs.Tree.{query_tree}
use Rattle.wt_plan.specs.WellFormed.{Narrow}
use Rattle.wt_place.specs.Keeping.{ConditionsFit}
use Rattle.wt_query_bounds.proofs.Fitting.{conditions_there}
use Rattle.wt_query_bounds.proofs.Narrowing.{query_narrow}
use Rattle.wt_build.proofs.plan.built_plan.Goals as goal

pub named-requires-clause-fits : goal.named-requires-clause-fits
named-requires-clause-fits c = subst ConditionsFit (sym c.in_ok-built.ensures.1.0) (conditions_there c.args.schema.now.tables (query_tree c.args.query.now) c.in_ok-built.ensures.0)

pub named-requires-clause-narrow : goal.named-requires-clause-narrow
named-requires-clause-narrow c = subst Narrow (sym c.in_ok-built.ensures.1.0) (query_narrow c.args.schema.now.tables c.args.schema.now.lawful (query_tree c.args.query.now) [] c.requires.items c.in_ok-built.ensures.0)
