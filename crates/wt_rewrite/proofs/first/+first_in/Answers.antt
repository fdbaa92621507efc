use Rattle.std.proofs.Common.{rules, ◌≡◌, ◌+◌, ◌<◌, sym, ap, ◌∙◌, subst, arith}
use Rattle.wt_plan.specs.Tree.{plan_tree}
use Rattle.wt_plan.specs.Measures.{node_count}
use Rattle.wt_matching.specs.Nodes.{at}
use Rattle.wt_rewrite.specs.Search.{HasNoneAt, HasNoneIn, IsFirstIn}
use Rattle.wt_rewrite.proofs.NodeLaws.{some_node, room_below, one_below, two_below}
use Rattle.wt_rewrite.proofs.Searching.{none_alone, none_here, none_both, first_here, first_behind}
use Rattle.wt_rewrite.proofs.Choosing.{some_case, none_case, ok_some_then, ok_none_then}
use Rattle.wt_rewrite.proofs.first.+first_in.Goals as goal

pub first_in-requires : goal.first_in-requires
first_in-requires g t c =
    let plan = plan_tree c.args.plan.now in
    let sub = plan_tree c.args.subplan.now in
    let p = plan_tree c.in-One.p.now in
    let room = room_below plan c.args.node sub c.requires.within c.requires.there in
    let some = some_node p in
    let within : c.args.node + 1 < node_count plan = omega (arith, room, some, c.in-One.ensures.0) in
    let there : p ≡ at plan (c.args.node + 1) = one_below plan c.args.node sub p c.requires.within c.requires.there (omega (arith, some, c.in-One.ensures.0)) c.in-One.ensures.1 in
    let smaller : node_count p < node_count sub = omega (arith, c.in-One.ensures.0) in
    search (rules, arith, within, there, smaller)

pub first_in-requires-in-Two : goal.first_in-requires-in-Two
first_in-requires-in-Two g t c =
    let plan = plan_tree c.args.plan.now in
    let sub = plan_tree c.args.subplan.now in
    let p = plan_tree c.in-Two.p.now in
    let room = room_below plan c.args.node sub c.requires.within c.requires.there in
    let some = some_node p in
    let within : c.args.node + 1 < node_count plan = omega (arith, room, some, c.in-Two.ensures.0) in
    let there : p ≡ at plan (c.args.node + 1) = one_below plan c.args.node sub p c.requires.within c.requires.there (omega (arith, some, c.in-Two.ensures.0)) c.in-Two.ensures.1 in
    let smaller : node_count p < node_count sub = omega (arith, c.in-Two.ensures.0) in
    search (rules, arith, within, there, smaller)

pub overflow_add-behind-in-Two : goal.overflow_add-behind-in-Two
overflow_add-behind-in-Two g t c =
    let room = room_below (plan_tree c.args.plan.now) c.args.node (plan_tree c.args.subplan.now) c.requires.within c.requires.there in
    omega (arith, room, c.in-Two.ensures.0, c.node_count.ensures.exact, c.requires.few)

pub first_in-requires-in-Two-2 : goal.first_in-requires-in-Two-2
first_in-requires-in-Two-2 g t c =
    let plan = plan_tree c.args.plan.now in
    let sub = plan_tree c.args.subplan.now in
    let p = plan_tree c.in-Two.p.now in
    let q = plan_tree c.in-Two.q.now in
    let room = room_below plan c.args.node sub c.requires.within c.requires.there in
    let some = some_node q in
    let count : c.node_count.result ≡ node_count p = omega (arith, room, c.in-Two.ensures.0, c.node_count.ensures.exact, c.requires.few) in
    let within : (c.args.node + 1) + c.node_count.result < node_count plan = omega (arith, room, some, count, c.in-Two.ensures.0) in
    let there : q ≡ at plan ((c.args.node + 1) + c.node_count.result) =
    two_below plan c.args.node (node_count p) sub q c.requires.within c.requires.there (omega (arith, some, c.in-Two.ensures.0)) c.in-Two.ensures.2 ∙ ap (λ n. at plan ((c.args.node + 1) + n)) (sym count) in
    let smaller : node_count q < node_count sub = omega (arith, c.in-Two.ensures.0) in
    search (rules, arith, within, there, smaller)

pub returns-in-Leaf-clause-none : goal.returns-in-Leaf-clause-none
returns-in-Leaf-clause-none g t c =
    let S = g.F.Facts.tables c.args.facts.now in
    let plan = plan_tree c.args.plan.now in
    let none = none_case (HasNoneAt S c.args.book.now.rules plan c.args.node) c.in_ok-hit.field-0 c.in-None.is c.in_ok-hit.ensures.none in
    subst (HasNoneIn S c.args.book.now.rules plan c.args.node) (sym c.in-Leaf.ensures) (none_alone S c.args.book.now.rules plan c.args.node none)

pub returns-in-One-clause-some : goal.returns-in-One-clause-some
returns-in-One-clause-some g t c =
    let S = g.F.Facts.tables c.args.facts.now in
    let plan = plan_tree c.args.plan.now in
    let none = none_case (HasNoneAt S c.args.book.now.rules plan c.args.node) c.in_ok-hit.field-0 c.in-None.is c.in_ok-hit.ensures.none in
    ok_some_then (IsFirstIn S c.args.book.now.rules plan (c.args.node + 1)) _ c.first_in.result c.first_in.ensures.some (λ h f. first_here S c.args.book.now.rules plan c.args.node h none f)

pub returns-in-One-clause-none : goal.returns-in-One-clause-none
returns-in-One-clause-none g t c =
    let S = g.F.Facts.tables c.args.facts.now in
    let plan = plan_tree c.args.plan.now in
    let none = none_case (HasNoneAt S c.args.book.now.rules plan c.args.node) c.in_ok-hit.field-0 c.in-None.is c.in_ok-hit.ensures.none in
    ok_none_then _ _ c.first_in.result c.first_in.ensures.none
    (λ k. subst (HasNoneIn S c.args.book.now.rules plan c.args.node) (sym c.in-One.ensures.0) (none_here S c.args.book.now.rules plan c.args.node (node_count (plan_tree c.in-One.p.now)) none k))

pub returns-in-Some-2-clause-some : goal.returns-in-Some-2-clause-some
returns-in-Some-2-clause-some g t c =
    let S = g.F.Facts.tables c.args.facts.now in
    let plan = plan_tree c.args.plan.now in
    let none = none_case (HasNoneAt S c.args.book.now.rules plan c.args.node) c.in_ok-hit.field-0 c.in-None.is c.in_ok-hit.ensures.none in
    let found = some_case (IsFirstIn S c.args.book.now.rules plan (c.args.node + 1)) c.in_ok-hit-in-Two.field-0 c.in-Some-2.hit c.in-Some-2.is c.in_ok-hit-in-Two.ensures.some in
    first_here S c.args.book.now.rules plan c.args.node c.in-Some-2.hit none found

pub returns-in-None-2-clause-some : goal.returns-in-None-2-clause-some
returns-in-None-2-clause-some g t c =
    let S = g.F.Facts.tables c.args.facts.now in
    let plan = plan_tree c.args.plan.now in
    let p = plan_tree c.in-Two.p.now in
    let room = room_below plan c.args.node (plan_tree c.args.subplan.now) c.requires.within c.requires.there in
    let count : c.node_count.result ≡ node_count p = omega (arith, room, c.in-Two.ensures.0, c.node_count.ensures.exact, c.requires.few) in
    let none = none_case (HasNoneAt S c.args.book.now.rules plan c.args.node) c.in_ok-hit.field-0 c.in-None.is c.in_ok-hit.ensures.none in
    let left = none_case (HasNoneIn S c.args.book.now.rules plan (c.args.node + 1) (node_count p)) c.in_ok-hit-in-Two.field-0 c.in-None-2.is c.in_ok-hit-in-Two.ensures.none in
    ok_some_then (IsFirstIn S c.args.book.now.rules plan ((c.args.node + 1) + c.node_count.result)) _ c.first_in-in-Two-2.result c.first_in-in-Two-2.ensures.some
    (λ h f. first_behind S c.args.book.now.rules plan c.args.node (node_count p) h none left (subst (λ n. IsFirstIn S c.args.book.now.rules plan ((c.args.node + 1) + n) h) count f))

pub returns-in-None-2-clause-none : goal.returns-in-None-2-clause-none
returns-in-None-2-clause-none g t c =
    let S = g.F.Facts.tables c.args.facts.now in
    let plan = plan_tree c.args.plan.now in
    let p = plan_tree c.in-Two.p.now in
    let q = plan_tree c.in-Two.q.now in
    let room = room_below plan c.args.node (plan_tree c.args.subplan.now) c.requires.within c.requires.there in
    let count : c.node_count.result ≡ node_count p = omega (arith, room, c.in-Two.ensures.0, c.node_count.ensures.exact, c.requires.few) in
    let none = none_case (HasNoneAt S c.args.book.now.rules plan c.args.node) c.in_ok-hit.field-0 c.in-None.is c.in_ok-hit.ensures.none in
    let left = none_case (HasNoneIn S c.args.book.now.rules plan (c.args.node + 1) (node_count p)) c.in_ok-hit-in-Two.field-0 c.in-None-2.is c.in_ok-hit-in-Two.ensures.none in
    ok_none_then _ _ c.first_in-in-Two-2.result c.first_in-in-Two-2.ensures.none
    (λ k. subst (HasNoneIn S c.args.book.now.rules plan c.args.node) (sym c.in-Two.ensures.0)
    (none_both S c.args.book.now.rules plan c.args.node (node_count p) (node_count q) none left (subst (λ n. HasNoneIn S c.args.book.now.rules plan ((c.args.node + 1) + n) (node_count q)) count k)))
