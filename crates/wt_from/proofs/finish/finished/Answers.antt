use Rattle.std.proofs.Common.{rules}
use Rattle.wt_ast.specs.Tree.{from_tree}
use Rattle.wt_conjunct.specs.Views.{conjunct_trees}
use Rattle.wt_clause.proofs.Finishing.{list_narrow, list_within}
use Rattle.wt_clause.proofs.Walks.{seen_narrow, seen_even}
use Rattle.wt_select.specs.declared.list.Selected.{Selected}
use Rattle.wt_select.specs.Listing.{Lists}
use Rattle.wt_resolve.specs.Scoping.{inside}
use Rattle.wt_from.proofs.Telling.{way_out, told_then}
use Rattle.wt_from.proofs.Wholes.{fault_same, built_same}
use Rattle.wt_from.proofs.finish.finished.Goals as goal

pub selected-requires-clause-narrow : goal.selected-requires-clause-narrow
selected-requires-clause-narrow c = seen_narrow c.args.scope.now (from_tree c.args.from.now) c.requires.seen

pub selected-requires-clause-even : goal.selected-requires-clause-even
selected-requires-clause-even c = seen_even c.args.scope.now (from_tree c.args.from.now) c.requires.seen

pub returns-in_err-selected : goal.returns-in_err-selected
returns-in_err-selected c =
    way_out {T = Selected} _ _ (Lists (inside c.args.scope.now) c.args.scope.now.kinds.now c.args.items.now) _ c.in_err-selected.field-0.0 c.from_residual.result
    (fault_same c.args.scope.now (from_tree c.args.from.now) c.requires.seen c.args.list c.requires.list c.deref.result.now (conjunct_trees c.deref-2.result.now) (conjunct_trees c.args.conjuncts.items) c.args.items.now (search rules) (search rules))
    c.from_residual.ensures.1 c.in_err-selected.ensures

pub finish-requires-clause-narrow : goal.finish-requires-clause-narrow
finish-requires-clause-narrow c = list_narrow c.args.scope.now.schema.now.tables (from_tree c.args.from.now) c.args.list c.requires.list c.requires.seen.narrow

pub finish-requires-clause-within : goal.finish-requires-clause-within
finish-requires-clause-within c = list_within c.args.scope.now.schema.now.tables (from_tree c.args.from.now) c.args.list c.requires.list

pub returns : goal.returns
returns c =
    let scope = c.args.scope.now in
    let f = from_tree c.args.from.now in
    told_then _ _ _ _ c.finish.result
    (fault_same scope f c.requires.seen c.args.list c.requires.list c.deref.result.now (conjunct_trees c.deref-2.result.now) (conjunct_trees c.args.conjuncts.items) c.args.items.now (search rules) (search rules))
    c.in_ok-selected.ensures.0
    (λ b w. built_same scope f c.requires.seen c.args.list c.requires.list c.args.distinct c.is_whole-sole.result c.args.items.now (conjunct_trees c.args.conjuncts.items) c.in_ok-selected.selected b c.in_ok-selected.ensures.1 c.is_whole-sole.ensures w)
    c.finish.ensures
