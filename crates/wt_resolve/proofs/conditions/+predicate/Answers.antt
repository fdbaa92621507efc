use Rattle.std.proofs.Common.{rules, ap, sym, ◌∙◌}
use Rattle.wt_ast.specs.declared.tree.Conditions.{the_lemmas}
use Rattle.wt_ast.specs.Tree.{condition_tree, conditions_tree}
use Rattle.wt_query_plan.specs.Building as spec
use Rattle.wt_query_plan.specs.Faults as faults
use Rattle.wt_resolve.specs.Scoping.{outside, inside}
use Rattle.wt_resolve.proofs.Befores.{fault_next, built_next}
use Rattle.wt_resolve.proofs.conditions.+predicate.Goals as goal

pub predicates-parts-preserved : goal.predicates-parts-preserved
predicates-parts-preserved t c =
    let scope = inside c.args.scope.now in
    let outer = outside c.args.scope.now in
    let kinds = c.args.scope.now.kinds.now in
    let told = c.in_ok-predicate-in-More.ensures in
    let split = ap conditions_tree c.in-More.is in
    let part = ap condition_tree c.deref.ensures in
    let more = ap conditions_tree c.deref-rest.ensures in
    record {
      smaller = search (rules, the_lemmas);
      fault_left =
          ap (faults.tests_fault outer scope kinds) more
          ∙ fault_next outer scope kinds (condition_tree c.in-More.part.value) (conditions_tree c.args.parts.now) (conditions_tree c.parts.rest.now) (conditions_tree c.in-More.more.value) (ap (faults.test_fault outer scope kinds) (sym part) ∙ told.0) split c.parts.invariant.fault_left;
      built_so_far =
          ap (λ m. Rattle.wt_pred.proofs.Lists.before c.push.new.self.items (spec.preds_of scope m)) more
          ∙ built_next scope c.parts.built.items c.push.new.self.items c.in_ok-predicate-in-More.field-0 (condition_tree c.in-More.part.value) (conditions_tree c.args.parts.now) (conditions_tree c.parts.rest.now) (conditions_tree c.in-More.more.value) c.in_ok-push-in-More.ensures.items (told.1 ∙ ap (spec.pred_of scope) part) split c.parts.invariant.built_so_far;
    }
