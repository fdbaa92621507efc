use Rattle.std.proofs.Common.{◌≡◌, ◌∙◌, sym, ap, arith, length-drop, drop, append-nil, Ok, Err, false}
use Rattle.std.specs.Prelude.{map}
use Rattle.wt_lex.specs.Fronts as spec
use Rattle.wt_lex.specs.Stored.{shown}
use Rattle.wt_lex.specs.Tokens as tokens
use Rattle.wt_lex.proofs.Cutting.{cut_next, cut_open, gives_err, tokens_none}
use Rattle.wt_lex.proofs.tokens.cut.Goals as goal

pub returns-in_err-at-clause-exact : goal.returns-in_err-at-clause-exact
returns-in_err-at-clause-exact c =
    gives_err (λ v. v) c.from_residual.result c.in_err-at.field-0.0 (λ place. (tokens.is_closed (spec.front (drop c.fronts.at c.args.text.now)) ≡ false) × (place ≡ c.fronts.at)) _
    c.from_residual.ensures.1
    c.in_err-at.ensures.err
    (λ place h. sym c.fronts.invariant.exact ∙ cut_open (map (shown c.args.text.now) c.fronts.stored.items) c.fronts.at c.args.text.now (omega (arith, c.fronts-test.true)) h.0 ∙ ap Err (sym h.1))

pub fronts-preserved : goal.fronts-preserved
fronts-preserved c =
    let ok = c.in_ok-at.ensures.ok in
    let show = map (shown c.args.text.now) in
    record {
      exact = cut_next (show c.fronts.stored.items) (show c.step.new.stored.items) c.fronts.at c.in_ok-at.field-0 c.args.text.now (omega (arith, c.fronts-test.true)) ok.0 ok.3 ok.1 ok.2
          ∙ c.fronts.invariant.exact;
      each = omega (arith, c.in_ok-at.ensures.few);
      within = ok.4;
    }

pub returns-clause-exact : goal.returns-clause-exact
returns-clause-exact c =
    ap tokens.open_quote
    (sym c.fronts.invariant.exact
    ∙ ap (tokens.before (map (shown c.args.text.now) c.fronts.stored.items)) (tokens_none c.fronts.at (drop c.fronts.at c.args.text.now) (omega (arith, length-drop c.fronts.at c.args.text.now)))
    ∙ ap Ok (append-nil (map (shown c.args.text.now) c.fronts.stored.items)))
