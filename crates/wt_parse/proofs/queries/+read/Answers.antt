use Rattle.std.proofs.Common.{◌∙◌, ◌+◌, sym, ap, arith, length, length-drop, is_ok, refl}
use Rattle.std.specs.Prelude.{map}
use Rattle.std.proofs.ResultArms.{chosen}
use Rattle.wt_ast.specs.Tree.{condition_tree, from_tree}
use Rattle.wt_reading.specs.Lexemes.{kind, at, is_comma}
use Rattle.wt_grammar.specs.Kinds.{begins_join, is_and, is_or}
use Rattle.wt_grammar.specs.Reading as spec
use Rattle.wt_reading.proofs.Loops.{loop_goes, loop_fails, loop_stops, put_err, map_push, turn_goes, turn_fails, turn_stops}
use Rattle.wt_front.proofs.More.{exit, gives_exit, there}
use Rattle.wt_parse.proofs.queries.+read.Goals as goal

pub more_conj-returns-in_err-part-clause-exact : goal.more_conj-returns-in_err-part-clause-exact
more_conj-returns-in_err-part-clause-exact t c =
    let word = ap (λ l. is_or (kind l)) (sym c.after.ensures) ∙ sym c.at_joint.ensures.value ∙ c.parts-test.true in
    exit condition_tree c.in_err-part.field-0.0 c.from_residual.result _ _ (spec.conj c.args.end c.args.bytes.now (spec.nest c.args.end c.args.bytes.now c.args.levels) c.after-in-parts.result.now) _ c.from_residual.ensures.1 c.in_err-part.ensures.exact
    (λ f h. put_err _ _ _ f (sym c.parts.invariant.exact ∙ loop_fails is_or (spec.conj c.args.end c.args.bytes.now (spec.nest c.args.end c.args.bytes.now c.args.levels)) (map condition_tree c.parts.parts.items) c.parts.at f c.args.ts.now refl word
    (ap (spec.conj c.args.end c.args.bytes.now (spec.nest c.args.end c.args.bytes.now c.args.levels)) (sym c.after-in-parts.ensures) ∙ h)))

pub more_conj-parts-preserved : goal.more_conj-parts-preserved
more_conj-parts-preserved t c =
    let word = ap (λ l. is_or (kind l)) (sym c.after.ensures) ∙ sym c.at_joint.ensures.value ∙ c.parts-test.true in
    let some = c.at_joint.ensures.some c.parts-test.true in
    let here = ap length c.after.ensures ∙ length-drop c.parts.at c.args.ts.now in
    let rest = ap length c.after-in-parts.ensures ∙ length-drop (c.parts.at + 1) c.args.ts.now in
    record {
      exact = loop_goes is_or (spec.conj c.args.end c.args.bytes.now (spec.nest c.args.end c.args.bytes.now c.args.levels)) (map condition_tree c.parts.parts.items) (map condition_tree c.push.new.self.items) c.parts.at c.in_ok-part.m _
          (condition_tree c.in_ok-part.part) c.args.ts.now refl word
          (ap (spec.conj c.args.end c.args.bytes.now (spec.nest c.args.end c.args.bytes.now c.args.levels)) (sym c.after-in-parts.ensures) ∙ c.in_ok-part.ensures.exact)
          (ap (map condition_tree) (chosen _ _ _ _ c.push.ensures.items (ap is_ok c.in_ok-push.was)) ∙ map_push condition_tree c.parts.parts.items c.in_ok-part.part) refl
          ∙ c.parts.invariant.exact;
      within = omega (arith, c.in_ok-part.ensures.within);
    }

pub more_conj-returns-clause-exact : goal.more_conj-returns-clause-exact
more_conj-returns-clause-exact t c =
    let none = ap (λ l. is_or (kind l)) (sym c.after.ensures) ∙ sym c.at_joint.ensures.value ∙ c.parts-test.false in
    sym c.parts.invariant.exact ∙ loop_stops is_or (spec.conj c.args.end c.args.bytes.now (spec.nest c.args.end c.args.bytes.now c.args.levels)) (map condition_tree c.parts.parts.items) c.parts.at c.args.ts.now none

pub more_neg-returns-in_err-part-clause-exact : goal.more_neg-returns-in_err-part-clause-exact
more_neg-returns-in_err-part-clause-exact t c =
    let word = ap (λ l. is_and (kind l)) (sym c.after.ensures) ∙ sym c.at_joint.ensures.value ∙ c.parts-test.true in
    exit condition_tree c.in_err-part.field-0.0 c.from_residual.result _ _ (spec.neg c.args.end c.args.bytes.now (spec.nest c.args.end c.args.bytes.now c.args.levels) c.after-in-parts.result.now) _ c.from_residual.ensures.1 c.in_err-part.ensures.exact
    (λ f h. put_err _ _ _ f (sym c.parts.invariant.exact ∙ loop_fails is_and (spec.neg c.args.end c.args.bytes.now (spec.nest c.args.end c.args.bytes.now c.args.levels)) (map condition_tree c.parts.parts.items) c.parts.at f c.args.ts.now refl word
    (ap (spec.neg c.args.end c.args.bytes.now (spec.nest c.args.end c.args.bytes.now c.args.levels)) (sym c.after-in-parts.ensures) ∙ h)))

pub more_neg-parts-preserved : goal.more_neg-parts-preserved
more_neg-parts-preserved t c =
    let word = ap (λ l. is_and (kind l)) (sym c.after.ensures) ∙ sym c.at_joint.ensures.value ∙ c.parts-test.true in
    let some = c.at_joint.ensures.some c.parts-test.true in
    let here = ap length c.after.ensures ∙ length-drop c.parts.at c.args.ts.now in
    let rest = ap length c.after-in-parts.ensures ∙ length-drop (c.parts.at + 1) c.args.ts.now in
    record {
      exact = loop_goes is_and (spec.neg c.args.end c.args.bytes.now (spec.nest c.args.end c.args.bytes.now c.args.levels)) (map condition_tree c.parts.parts.items) (map condition_tree c.push.new.self.items) c.parts.at c.in_ok-part.m _
          (condition_tree c.in_ok-part.part) c.args.ts.now refl word
          (ap (spec.neg c.args.end c.args.bytes.now (spec.nest c.args.end c.args.bytes.now c.args.levels)) (sym c.after-in-parts.ensures) ∙ c.in_ok-part.ensures.exact)
          (ap (map condition_tree) (chosen _ _ _ _ c.push.ensures.items (ap is_ok c.in_ok-push.was)) ∙ map_push condition_tree c.parts.parts.items c.in_ok-part.part) refl
          ∙ c.parts.invariant.exact;
      within = omega (arith, c.in_ok-part.ensures.within);
    }

pub more_neg-returns-clause-exact : goal.more_neg-returns-clause-exact
more_neg-returns-clause-exact t c =
    let none = ap (λ l. is_and (kind l)) (sym c.after.ensures) ∙ sym c.at_joint.ensures.value ∙ c.parts-test.false in
    sym c.parts.invariant.exact ∙ loop_stops is_and (spec.neg c.args.end c.args.bytes.now (spec.nest c.args.end c.args.bytes.now c.args.levels)) (map condition_tree c.parts.parts.items) c.parts.at c.args.ts.now none

pub joins-returns-in_err-wider-clause-exact : goal.joins-returns-in_err-wider-clause-exact
joins-returns-in_err-wider-clause-exact t c =
    let words = ap (λ l. begins_join (kind l)) (sym c.after.ensures) ∙ sym c.at_join_words.ensures.value ∙ c.parts-test.true in
    gives_exit (λ f. from_tree f.value) from_tree c.in_err-wider.field-0.0 c.from_residual.result (spec.join c.args.end c.args.bytes.now (spec.nest c.args.end c.args.bytes.now c.args.levels) c.args.inside (from_tree c.parts.left.value) c.after-in-parts.result.now) _ c.from_residual.ensures.1 c.in_err-wider.ensures.exact
    (λ f h. turn_fails (at begins_join) (spec.join c.args.end c.args.bytes.now (spec.nest c.args.end c.args.bytes.now c.args.levels) c.args.inside) (there begins_join refl) (from_tree c.parts.left.value) c.parts.at c.args.ts.now f _ c.parts.invariant.exact words
    (ap (spec.join c.args.end c.args.bytes.now (spec.nest c.args.end c.args.bytes.now c.args.levels) c.args.inside (from_tree c.parts.left.value)) (sym c.after-in-parts.ensures) ∙ h))

pub joins-parts-preserved : goal.joins-parts-preserved
joins-parts-preserved t c =
    let words = ap (λ l. begins_join (kind l)) (sym c.after.ensures) ∙ sym c.at_join_words.ensures.value ∙ c.parts-test.true in
    let some = c.at_join_words.ensures.some c.parts-test.true in
    let here = ap length c.after.ensures ∙ length-drop c.parts.at c.args.ts.now in
    let rest = ap length c.after-in-parts.ensures ∙ length-drop c.parts.at c.args.ts.now in
    record {
      exact = turn_goes (at begins_join) (spec.join c.args.end c.args.bytes.now (spec.nest c.args.end c.args.bytes.now c.args.levels) c.args.inside) (there begins_join refl) (from_tree c.parts.left.value) (from_tree c.in_ok-wider.wider.value) c.parts.at c.in_ok-wider.m c.args.ts.now _ c.parts.invariant.exact words
          c.in_ok-wider.ensures.within.0 (ap (spec.join c.args.end c.args.bytes.now (spec.nest c.args.end c.args.bytes.now c.args.levels) c.args.inside (from_tree c.parts.left.value)) (sym c.after-in-parts.ensures) ∙ c.in_ok-wider.ensures.exact);
      within = omega (arith, c.in_ok-wider.ensures.within);
    }

pub joins-returns-clause-exact : goal.joins-returns-clause-exact
joins-returns-clause-exact t c =
    let none = ap (λ l. begins_join (kind l)) (sym c.after.ensures) ∙ sym c.at_join_words.ensures.value ∙ c.parts-test.false in
    turn_stops (at begins_join) (spec.join c.args.end c.args.bytes.now (spec.nest c.args.end c.args.bytes.now c.args.levels) c.args.inside) (there begins_join refl) (from_tree c.parts.left.value) c.parts.at c.args.ts.now _ c.parts.invariant.exact none

pub more_from-returns-in_err-wider-clause-exact : goal.more_from-returns-in_err-wider-clause-exact
more_from-returns-in_err-wider-clause-exact t c =
    let words = ap (λ l. is_comma (kind l)) (sym c.after.ensures) ∙ sym c.at_mark.ensures.value ∙ c.parts-test.true in
    gives_exit (λ f. from_tree f.value) from_tree c.in_err-wider.field-0.0 c.from_residual.result (spec.listed_part c.args.end c.args.bytes.now (spec.nest c.args.end c.args.bytes.now c.args.levels) (from_tree c.parts.left.value) c.after-in-parts.result.now) _ c.from_residual.ensures.1 c.in_err-wider.ensures.exact
    (λ f h. turn_fails (at is_comma) (spec.listed_part c.args.end c.args.bytes.now (spec.nest c.args.end c.args.bytes.now c.args.levels)) (there is_comma refl) (from_tree c.parts.left.value) c.parts.at c.args.ts.now f _ c.parts.invariant.exact words
    (ap (spec.listed_part c.args.end c.args.bytes.now (spec.nest c.args.end c.args.bytes.now c.args.levels) (from_tree c.parts.left.value)) (sym c.after-in-parts.ensures) ∙ h))

pub more_from-parts-preserved : goal.more_from-parts-preserved
more_from-parts-preserved t c =
    let words = ap (λ l. is_comma (kind l)) (sym c.after.ensures) ∙ sym c.at_mark.ensures.value ∙ c.parts-test.true in
    let some = c.at_mark.ensures.some c.parts-test.true in
    let here = ap length c.after.ensures ∙ length-drop c.parts.at c.args.ts.now in
    let rest = ap length c.after-in-parts.ensures ∙ length-drop c.parts.at c.args.ts.now in
    record {
      exact = turn_goes (at is_comma) (spec.listed_part c.args.end c.args.bytes.now (spec.nest c.args.end c.args.bytes.now c.args.levels)) (there is_comma refl) (from_tree c.parts.left.value) (from_tree c.in_ok-wider.wider.value) c.parts.at c.in_ok-wider.m c.args.ts.now _ c.parts.invariant.exact words
          c.in_ok-wider.ensures.within.0 (ap (spec.listed_part c.args.end c.args.bytes.now (spec.nest c.args.end c.args.bytes.now c.args.levels) (from_tree c.parts.left.value)) (sym c.after-in-parts.ensures) ∙ c.in_ok-wider.ensures.exact);
      within = omega (arith, c.in_ok-wider.ensures.within);
    }

pub more_from-returns-clause-exact : goal.more_from-returns-clause-exact
more_from-returns-clause-exact t c =
    let none = ap (λ l. is_comma (kind l)) (sym c.after.ensures) ∙ sym c.at_mark.ensures.value ∙ c.parts-test.false in
    turn_stops (at is_comma) (spec.listed_part c.args.end c.args.bytes.now (spec.nest c.args.end c.args.bytes.now c.args.levels)) (there is_comma refl) (from_tree c.parts.left.value) c.parts.at c.args.ts.now _ c.parts.invariant.exact none
