use Rattle.std.proofs.Common.{◌∙◌, ◌+◌, refl, sym, ap, arith, length, length-drop}
use Rattle.wt_reading.specs.Lexemes.{is_comma}
use Rattle.wt_ddl.specs.Reading as spec
use Rattle.wt_ddl.proofs.Repeats.{list_fails, list_goes, list_stops}
use Rattle.wt_ddl.proofs.names.more_names.Goals as goal

pub returns-in_err-next-clause-exact : goal.returns-in_err-next-clause-exact
returns-in_err-next-clause-exact c =
    list_fails is_comma (spec.name c.args.text.now) c.parts.all c.args.all.now c.parts.all c.parts.at c.args.rest.now c.after-in-parts.result c.after.result c.in_err-next.field-0.0 c.from_residual.result refl
    c.parts.invariant.exact c.after.ensures.value c.after-in-parts.ensures.value (sym c.at_mark.ensures ∙ c.parts-test.true) c.from_residual.ensures.1 c.in_err-next.ensures.exact

pub parts-preserved : goal.parts-preserved
parts-preserved c = record {
  exact = list_goes is_comma (spec.name c.args.text.now) c.parts.all c.push.new.self c.args.all.now c.parts.at c.in_ok-next.n c.in_ok-next.next c.args.rest.now c.after-in-parts.result c.after.result refl
      c.parts.invariant.exact c.after.ensures.value c.after-in-parts.ensures.value (sym c.at_mark.ensures ∙ c.parts-test.true) c.in_ok-next.ensures.exact c.in_ok-push.ensures.ok;
  within = omega (arith, c.in_ok-next.ensures.one, ap length c.after-in-parts.ensures.value, length-drop (c.parts.at + 1) c.args.rest.now);
}

pub returns-clause-exact : goal.returns-clause-exact
returns-clause-exact c =
    list_stops is_comma (spec.name c.args.text.now) c.parts.all c.args.all.now c.parts.at c.args.rest.now c.after.result c.parts.invariant.exact c.after.ensures.value (sym c.at_mark.ensures ∙ c.parts-test.false)
