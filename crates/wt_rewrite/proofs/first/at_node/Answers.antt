use Rattle.std.proofs.Common.{◌≤◌, List, length, get_or, subst}
use Rattle.wt_plan.specs.Tree.{plan_tree}
use Rattle.wt_rewrite.specs.declared.runs.Run.{Run}
use Rattle.wt_rewrite.specs.Search.{HasNoneFrom, IsFirstOf}
use Rattle.wt_rewrite.proofs.Choosing.{some_case, none_case}
use Rattle.wt_rewrite.proofs.Running.{run_here, runs_end, none_joined, none_all, first_of_run}
use Rattle.wt_rewrite.proofs.first.at_node.Goals as goal

pub at_run-requires-clause-run : goal.at_run-requires-clause-run
at_run-requires-clause-run g c =
    let next = run_here c.args.book.now.rules c.deref-run-items.result.now c.args.book.now.runs.items c.deref-run-items.ensures.value c.loop-run.run-index c.loop-run.invariant.0 (record { start = 0; end = 0 }) c.loop-run-test.true c.loop-run.invariant.1 in
    next.1

pub returns-in-Some-clause-some : goal.returns-in-Some-clause-some
returns-in-Some-clause-some g c =
    let S = g.F.Facts.tables c.args.facts.now in
    let rules = c.args.book.now.rules in
    let plan = plan_tree c.args.plan.now in
    let run : Run = get_or c.deref-run-items.result.now c.loop-run.run-index (record { start = 0; end = 0 }) in
    let next = run_here rules c.deref-run-items.result.now c.args.book.now.runs.items c.deref-run-items.ensures.value c.loop-run.run-index c.loop-run.invariant.0 (record { start = 0; end = 0 }) c.loop-run-test.true c.loop-run.invariant.1 in
    let first = some_case (IsFirstOf S rules plan c.args.node run.start) c.in_ok-hit.field-0 c.in-Some.hit c.in-Some.is c.in_ok-hit.ensures.some in
    first_of_run S rules plan c.args.node c.loop-run.invariant.0 run.start c.in-Some.hit next.0 c.loop-run.invariant.2 first

pub loop-run-preserved : goal.loop-run-preserved
loop-run-preserved g c =
    let S = g.F.Facts.tables c.args.facts.now in
    let rules = c.args.book.now.rules in
    let plan = plan_tree c.args.plan.now in
    let run : Run = get_or c.deref-run-items.result.now c.loop-run.run-index (record { start = 0; end = 0 }) in
    let next = run_here rules c.deref-run-items.result.now c.args.book.now.runs.items c.deref-run-items.ensures.value c.loop-run.run-index c.loop-run.invariant.0 (record { start = 0; end = 0 }) c.loop-run-test.true c.loop-run.invariant.1 in
    let none = none_case (HasNoneFrom S rules plan c.args.node run.start run.end) c.in_ok-hit.field-0 c.in-None.is c.in_ok-hit.ensures.none in
    (run.end, next.2, none_joined S rules plan c.args.node c.loop-run.invariant.0 run.start run.end next.0 c.loop-run.invariant.2 none)

pub returns-clause-none : goal.returns-clause-none
returns-clause-none g c =
    let rules = c.args.book.now.rules in
    let over = subst (λ (l : List Run). length l ≤ c.loop-run.run-index) c.deref-run-items.ensures.value c.loop-run-test.false in
    none_all (g.F.Facts.tables c.args.facts.now) rules (plan_tree c.args.plan.now) c.args.node c.loop-run.invariant.0
    (runs_end rules c.args.book.now.runs.items c.loop-run.run-index c.loop-run.invariant.0 over c.loop-run.invariant.1) c.loop-run.invariant.2
