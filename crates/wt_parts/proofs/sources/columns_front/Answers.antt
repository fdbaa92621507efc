use Rattle.std.proofs.Common.{◌∙◌, ◌+◌, sym, ap, arith, length, length-drop}
use Rattle.wt_reading.specs.Lexemes.{is_comma, kind}
use Rattle.wt_reading.specs.Readings.{list}
use Rattle.wt_grammar.specs.Reading.{column_front}
use Rattle.wt_front.specs.Giving.{size_of}
use Rattle.wt_parts.proofs.Sizes.{first_fails, first_goes, next_goes, next_fails, next_stops}
use Rattle.wt_parts.proofs.sources.columns_front.Goals as goal

pub returns-in_err-at-clause-exact : goal.returns-in_err-at-clause-exact
returns-in_err-at-clause-exact c = c.from_residual.ensures ∙ sym (first_fails column_front c.args.ts.now (sym c.in_err-at.ensures.exact))

pub columns-init : goal.columns-init
columns-init c = record {
  exact = first_goes column_front c.args.ts.now c.in_ok-at.at (sym c.in_ok-at.ensures.exact);
  within = c.in_ok-at.ensures.within;
}

pub returns-in_err-n-clause-exact : goal.returns-in_err-n-clause-exact
returns-in_err-n-clause-exact c =
    let comma = ap (λ l. is_comma (kind l)) (sym c.after.ensures) ∙ sym c.at_mark.ensures.value ∙ c.columns-test.true in
    c.from_residual-in_err-n.ensures
    ∙ next_fails column_front c.columns.at c.args.ts.now (size_of (list column_front c.args.ts.now)) c.columns.invariant.exact comma
    (ap (λ l. size_of (column_front l)) (sym c.after-in-columns.ensures) ∙ sym c.in_err-n.ensures.exact)

pub columns-preserved : goal.columns-preserved
columns-preserved c =
    let comma = ap (λ l. is_comma (kind l)) (sym c.after.ensures) ∙ sym c.at_mark.ensures.value ∙ c.columns-test.true in
    let some = c.at_mark.ensures.some c.columns-test.true in
    let here = ap length c.after.ensures ∙ length-drop c.columns.at c.args.ts.now in
    let rest = ap length c.after-in-columns.ensures ∙ length-drop (c.columns.at + 1) c.args.ts.now in
    record {
      exact = next_goes column_front c.columns.at c.in_ok-n.n c.args.ts.now (size_of (list column_front c.args.ts.now)) c.columns.invariant.exact comma
          (ap (λ l. size_of (column_front l)) (sym c.after-in-columns.ensures) ∙ sym c.in_ok-n.ensures.exact);
      within = omega (arith, c.in_ok-n.ensures.within);
    }

pub returns-clause-exact : goal.returns-clause-exact
returns-clause-exact c =
    let none = ap (λ l. is_comma (kind l)) (sym c.after.ensures) ∙ sym c.at_mark.ensures.value ∙ c.columns-test.false in
    next_stops column_front c.columns.at c.args.ts.now (size_of (list column_front c.args.ts.now)) c.columns.invariant.exact none
