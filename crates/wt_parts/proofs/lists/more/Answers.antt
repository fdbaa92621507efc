use Rattle.std.proofs.Common.{◌∙◌, ◌+◌, sym, ap, arith, length, length-drop, is_ok, refl}
use Rattle.std.proofs.ResultArms.{chosen}
use Rattle.wt_reading.specs.Lexemes.{is_comma, kind}
use Rattle.wt_reading.proofs.Loops.{loop_goes, loop_fails, loop_stops, put_err}
use Rattle.wt_front.proofs.More.{exit}
use Rattle.wt_parts.proofs.lists.more.Goals as goal

pub returns-in_err-part-clause-exact : goal.returns-in_err-part-clause-exact
returns-in_err-part-clause-exact g c =
    let comma = ap (λ l. is_comma (kind l)) (sym c.after.ensures) ∙ sym c.at_mark.ensures.value ∙ c.parts-test.true in
    exit (λ x. x) c.in_err-part.field-0.0 c.from_residual.result _ _ (g.T.Part.reading c.args.end c.args.bytes.now c.after-in-parts.result.now) _ c.from_residual.ensures.1 c.in_err-part.ensures.exact
    (λ f h. put_err _ _ _ f (sym c.parts.invariant.exact ∙ loop_fails is_comma (g.T.Part.reading c.args.end c.args.bytes.now) c.parts.all.items c.parts.at f c.args.ts.now refl comma (ap (g.T.Part.reading c.args.end c.args.bytes.now) (sym c.after-in-parts.ensures) ∙ h)))

pub parts-preserved : goal.parts-preserved
parts-preserved g c =
    let comma = ap (λ l. is_comma (kind l)) (sym c.after.ensures) ∙ sym c.at_mark.ensures.value ∙ c.parts-test.true in
    let some = c.at_mark.ensures.some c.parts-test.true in
    let here = ap length c.after.ensures ∙ length-drop c.parts.at c.args.ts.now in
    let rest = ap length c.after-in-parts.ensures ∙ length-drop (c.parts.at + 1) c.args.ts.now in
    record {
      exact = loop_goes is_comma (g.T.Part.reading c.args.end c.args.bytes.now) c.parts.all.items c.push.new.self.items c.parts.at c.in_ok-part.n _ c.in_ok-part.part c.args.ts.now refl comma
          (ap (g.T.Part.reading c.args.end c.args.bytes.now) (sym c.after-in-parts.ensures) ∙ c.in_ok-part.ensures.exact)
          (chosen _ _ _ _ c.push.ensures.items (ap is_ok c.in_ok-push.was)) refl ∙ c.parts.invariant.exact;
      within = omega (arith, c.in_ok-part.ensures.within);
    }

pub returns-clause-exact : goal.returns-clause-exact
returns-clause-exact g c =
    let none = ap (λ l. is_comma (kind l)) (sym c.after.ensures) ∙ sym c.at_mark.ensures.value ∙ c.parts-test.false in
    sym c.parts.invariant.exact ∙ loop_stops is_comma (g.T.Part.reading c.args.end c.args.bytes.now) c.parts.all.items c.parts.at c.args.ts.now none
