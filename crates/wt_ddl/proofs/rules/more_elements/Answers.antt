use Rattle.std.proofs.Common.{◌∙◌, ◌≤◌, refl, sym, ap, arith, length, length-drop}
use Rattle.wt_ddl.proofs.Repeats.{turn_goes, turn_stops, turn_fails, kind_some}
use Rattle.wt_reading.specs.Lexemes.{at, is_comma}
use Rattle.wt_reading.specs.Readings.{one_more}
use Rattle.wt_ddl.specs.Reading as spec
use Rattle.wt_ddl.proofs.rules.more_elements.Goals as goal

pub returns-in_err-at-clause-exact : goal.returns-in_err-at-clause-exact
returns-in_err-at-clause-exact c =
    turn_fails (at is_comma) (one_more (spec.next_element c.args.text.now)) (kind_some is_comma refl) c.parts.all c.next_element.new.all c.parts.at c.args.rest.now c.after-in-parts.result c.after.result c.in_err-at.field-0.0
    c.from_residual.result _ c.parts.invariant.exact c.after.ensures.value c.after-in-parts.ensures.value (sym c.at_mark.ensures ∙ c.parts-test.true) c.from_residual.ensures.1 c.in_err-at.ensures.exact

pub overflow_add-at : goal.overflow_add-at
overflow_add-at c =
    let some : 1 ≤ length c.after-in-parts.result = kind_some is_comma refl c.after-in-parts.result (ap (at is_comma) (c.after-in-parts.ensures.value ∙ sym c.after.ensures.value) ∙ sym c.at_mark.ensures ∙ c.parts-test.true) in
    let within = c.in_ok-at.ensures.within some in
    omega (arith, within.1, c.after.ensures.small, ap length c.after-in-parts.ensures.value, length-drop c.parts.at c.args.rest.now)

pub parts-preserved : goal.parts-preserved
parts-preserved c =
    let some : 1 ≤ length c.after-in-parts.result = kind_some is_comma refl c.after-in-parts.result (ap (at is_comma) (c.after-in-parts.ensures.value ∙ sym c.after.ensures.value) ∙ sym c.at_mark.ensures ∙ c.parts-test.true) in
    let within = c.in_ok-at.ensures.within some in
    record {
      exact = turn_goes (at is_comma) (one_more (spec.next_element c.args.text.now)) (kind_some is_comma refl) c.parts.all c.next_element.new.all c.parts.at c.in_ok-at.field-0 c.args.rest.now c.after-in-parts.result c.after.result
          _ c.parts.invariant.exact c.after.ensures.value c.after-in-parts.ensures.value (sym c.at_mark.ensures ∙ c.parts-test.true) c.in_ok-at.ensures.exact within.0;
      within = omega (arith, within.1, ap length c.after-in-parts.ensures.value, length-drop c.parts.at c.args.rest.now);
    }

pub returns-clause-exact : goal.returns-clause-exact
returns-clause-exact c =
    turn_stops (at is_comma) (one_more (spec.next_element c.args.text.now)) (kind_some is_comma refl) c.parts.all c.parts.at c.args.rest.now c.after.result _ c.parts.invariant.exact c.after.ensures.value (sym c.at_mark.ensures ∙ c.parts-test.false)
