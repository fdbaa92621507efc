use Rattle.std.proofs.Common.{[], ap, sym, subst, ◌∙◌}
use Rattle.wt_ast.specs.Lawful.{IsFormed}
use Rattle.wt_plan.specs.Tree.{plan_tree}
use Rattle.wt_place.specs.Placing.{placed}
use Rattle.wt_query_rows.specs.Scopes.{output_names}
use Rattle.wt_query_plan.specs.Building.{planned}
use Rattle.wt_query_plan.specs.Faults.{query_fault}
use Rattle.wt_blocks.proofs.Formed.{printed_formed}
use Rattle.wt_blocks.proofs.Root.{printed_plan, printed_names, printed_fine}
use Rattle.wt_query_of.proofs.Roots.{then_ok}
use Rattle.wt_query_of.proofs.query.query_of.Goals as goal

pub returns-clause-accepted : goal.returns-clause-accepted
returns-clause-accepted c =
    let S = c.args.schema.now.tables in
    then_ok c.tree_of.result c.tree_of.ensures (λ q e. ap (query_fault S []) e ∙ printed_fine S c.args.schema.now.lawful (plan_tree c.args.named.now.plan) c.requires.regular c.args.named.now.names c.requires.names [])

pub returns-clause-built_again : goal.returns-clause-built_again
returns-clause-built_again c =
    let S = c.args.schema.now.tables in
    then_ok c.tree_of.result c.tree_of.ensures (λ q e. ap (λ t. placed (planned S t)) e ∙ printed_plan S c.args.schema.now.lawful (plan_tree c.args.named.now.plan) c.requires.regular c.args.named.now.names c.requires.names ∙ c.requires.placed)

pub returns-clause-names : goal.returns-clause-names
returns-clause-names c =
    let S = c.args.schema.now.tables in
    then_ok c.tree_of.result c.tree_of.ensures (λ q e. ap (output_names S) e ∙ printed_names S c.args.schema.now.lawful (plan_tree c.args.named.now.plan) c.requires.regular c.args.named.now.names c.requires.names)

pub returns-clause-formed : goal.returns-clause-formed
returns-clause-formed c has =
    let S = c.args.schema.now.tables in
    then_ok c.tree_of.result c.tree_of.ensures (λ q e. subst IsFormed (sym e) (printed_formed S c.args.schema.now.lawful (plan_tree c.args.named.now.plan) c.requires.regular has c.args.named.now.names c.requires.names c.requires.named))
