use Rattle.wt_ast.specs.Tree.{query_tree}
use Rattle.wt_build.proofs.Plans.{rows_told, names_told, nodes_told, placed_told, regular_told}
use Rattle.wt_build.proofs.plan.plan_of.Goals as goal

pub returns-clause-rows : goal.returns-clause-rows
returns-clause-rows c = rows_told c.args.schema.now.tables (query_tree c.args.query.now) c.built_plan.result c.built_plan.ensures

pub returns-clause-names : goal.returns-clause-names
returns-clause-names c = names_told c.args.schema.now.tables (query_tree c.args.query.now) c.built_plan.result c.built_plan.ensures

pub returns-clause-nodes : goal.returns-clause-nodes
returns-clause-nodes c small = nodes_told c.args.schema.now.tables (query_tree c.args.query.now) c.built_plan.result c.requires.items c.built_plan.ensures small

pub returns-clause-regular : goal.returns-clause-regular
returns-clause-regular c lawful = regular_told c.args.schema.now.tables (query_tree c.args.query.now) c.built_plan.result c.args.schema.now.lawful c.built_plan.ensures lawful

pub returns-clause-placed : goal.returns-clause-placed
returns-clause-placed c = placed_told c.args.schema.now.tables (query_tree c.args.query.now) c.built_plan.result c.built_plan.ensures
