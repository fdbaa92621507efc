use Rattle.std.proofs.Common.{ap, arith, length, length-drop}
use Rattle.wt_ddl.proofs.Repeats.{turn_goes, turn_stops, turn_fails, left_some, left_true, left_false}
use Rattle.wt_ddl.specs.Reading as spec
use Rattle.wt_ddl.proofs.statements.more_statements.Goals as goal

pub returns-in_err-at-clause-exact : goal.returns-in_err-at-clause-exact
returns-in_err-at-clause-exact c =
    turn_fails spec.some_left (spec.statement c.args.text.now) (left_some) c.parts.tables c.statement.new.tables c.parts.at c.args.rest.now c.after-in-parts.result c.after.result c.in_err-at.field-0.0
    c.from_residual.result _ c.parts.invariant.exact c.after.ensures.value c.after-in-parts.ensures.value (left_true c.after.result c.is_end.result c.is_end.ensures c.parts-test.true) c.from_residual.ensures.1 c.in_err-at.ensures.exact

pub overflow_add-at : goal.overflow_add-at
overflow_add-at c =
    let within = c.in_ok-at.ensures.within in
    omega (arith, within.1, c.after.ensures.small, ap length c.after-in-parts.ensures.value, length-drop c.parts.at c.args.rest.now)

pub parts-preserved : goal.parts-preserved
parts-preserved c =
    let within = c.in_ok-at.ensures.within in
    record {
      exact = turn_goes spec.some_left (spec.statement c.args.text.now) (left_some) c.parts.tables c.statement.new.tables c.parts.at c.in_ok-at.field-0 c.args.rest.now c.after-in-parts.result c.after.result
          _ c.parts.invariant.exact c.after.ensures.value c.after-in-parts.ensures.value (left_true c.after.result c.is_end.result c.is_end.ensures c.parts-test.true) c.in_ok-at.ensures.exact within.0;
      within = omega (arith, within.1, ap length c.after-in-parts.ensures.value, length-drop c.parts.at c.args.rest.now);
    }

pub returns-clause-exact : goal.returns-clause-exact
returns-clause-exact c =
    turn_stops spec.some_left (spec.statement c.args.text.now) (left_some) c.parts.tables c.parts.at c.args.rest.now c.after.result _ c.parts.invariant.exact c.after.ensures.value (left_false c.after.result c.is_end.result c.is_end.ensures c.parts-test.false)
