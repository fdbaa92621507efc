use Rattle.std.proofs.Common.{◌≡◌, ◌+◌, ap, arith}
use Rattle.wt_plan.specs.Tree.{plan_tree}
use Rattle.wt_plan.specs.Measures.{cost}
use Rattle.wt_query_of.proofs.Roots.{room_for}
use Rattle.wt_query_of.proofs.query.distinct_root.Goals as goal

pub named_list-requires-clause-room : goal.named_list-requires-clause-room
named_list-requires-clause-room c =
    let p = plan_tree c.deref.result.now in
    let whole : cost (plan_tree c.args.plan.now) ≡ 1 + cost (plan_tree c.in-Proj.inner.value) = ap (λ x. cost (plan_tree x)) c.in-Proj.is in
    let same : cost p ≡ cost (plan_tree c.in-Proj.inner.value) = ap (λ x. cost (plan_tree x)) c.deref.ensures in
    room_for p (omega (arith, whole, same, c.requires.cheap))

pub starred_root-requires : goal.starred_root-requires
starred_root-requires c = record {
  narrow = c.requires.narrow;
  cheap = omega (arith, c.requires.cheap);
  room = room_for (plan_tree c.args.plan.now) c.requires.cheap;
  few = c.requires.few;
  as_many = c.requires.as_many;
}
