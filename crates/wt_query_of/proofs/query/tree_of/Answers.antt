use Rattle.std.proofs.Common.{◌≡◌, ◌+◌, ap, subst, sym, ◌∙◌, arith}
use Rattle.wt_plan.specs.Tree.{plan_tree, dedup}
use Rattle.wt_plan.specs.Measures.{width, cost}
use Rattle.wt_plan.specs.Regular.{Regular}
use Rattle.wt_query_of.proofs.Roots.{room_for, as_many, as_many_below}
use Rattle.wt_query_of.proofs.query.tree_of.Goals as goal

pub named_list-requires-clause-room : goal.named_list-requires-clause-room
named_list-requires-clause-room c =
    let p = plan_tree c.deref.result.now in
    let whole : cost (plan_tree c.args.named.now.plan) ≡ 1 + cost (plan_tree c.in-Proj.inner.value) = ap (λ x. cost (plan_tree x)) c.in-Proj.is in
    let same : cost p ≡ cost (plan_tree c.in-Proj.inner.value) = ap (λ x. cost (plan_tree x)) c.deref.ensures in
    room_for p (omega (arith, whole, same, c.requires.regular.well_formed.cheap))

pub distinct_root-requires-clause-as_many : goal.distinct_root-requires-clause-as_many
distinct_root-requires-clause-as_many c =
    let S = c.args.schema.now.tables in
    let whole : plan_tree c.args.named.now.plan ≡ dedup (plan_tree c.deref-in-Dedup.result.now) = ap plan_tree c.in-Dedup.is ∙ ap (λ x. dedup (plan_tree x)) (sym c.deref-in-Dedup.ensures) in
    as_many_below S (plan_tree c.deref-in-Dedup.result.now) c.args.named.now.names (subst (Regular S) whole c.requires.regular) (c.requires.names ∙ ap width whole)

pub starred_root-requires : goal.starred_root-requires
starred_root-requires c =
    let p = plan_tree c.args.named.now.plan in record {
      narrow = c.requires.regular.well_formed.narrow;
      cheap = omega (arith, c.requires.regular.well_formed.cheap);
      room = room_for p (omega (arith, c.requires.regular.well_formed.cheap));
      few = omega (arith, c.requires.names, c.requires.regular.few_columns);
      as_many = as_many c.args.schema.now.tables p c.args.named.now.names c.requires.regular c.requires.names;
    }
