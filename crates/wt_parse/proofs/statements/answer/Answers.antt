use Rattle.std.proofs.Common.{◌≡◌, ◌∙◌, ap, sym, subst, arith, Err, None, List}
use Rattle.std.specs.Prelude.{map}
use Rattle.std.proofs.lemmas.Bool.{lt-ltb, le-ltb}
use Rattle.wt_lex.specs.declared.token.Token.{Token}
use Rattle.wt_grammar.specs.Reading.{refused, statement}
use Rattle.wt_grammar.specs.Statements as spec
use Rattle.wt_grammar.specs.declared.fault.QueryFault.TheVariants.{TooLong}
use Rattle.wt_parse.specs.Held.{shown, NoOdd}
use Rattle.wt_parse.specs.Outcomes.{Answers}
use Rattle.wt_parse.proofs.Answering.{begins, too_long, short_enough, tokens_back, odd_exit, read_exit, read}
use Rattle.wt_parse.proofs.statements.answer.Goals as goal

pub returns-then-saturating_sub-gt-MOST_BYTES : goal.returns-then-saturating_sub-gt-MOST_BYTES
returns-then-saturating_sub-gt-MOST_BYTES c =
    let at = begins c.args.tokens.now c.args.piece c.get-begin.result c.requires.0 c.get-begin.ensures in
    too_long c.args.bytes.now (shown c.args.tokens.now c.args.piece) (lt-ltb _ _ (omega (arith, at, c.saturating_sub.ensures, c.if-saturating_sub-gt-MOST_BYTES.true)))
    ∙ ap (λ n. Err (refused TooLong, n)) at

pub returns-in_err-no_odd : goal.returns-in_err-no_odd
returns-in_err-no_odd c =
    let s = shown c.args.tokens.now c.args.piece in
    let at = begins c.args.tokens.now c.args.piece c.get-begin.result c.requires.0 c.get-begin.ensures in
    let short = short_enough c.args.bytes.now s (le-ltb _ _ (omega (arith, at, c.saturating_sub.ensures, c.if-saturating_sub-gt-MOST_BYTES.false))) in
    let tokens = ap (map (λ t. t.token)) (c.deref.ensures.value ∙ c.in_ok-ts.ensures) ∙ tokens_back c.args.bytes.now s.tokens in
    let P : List Token → Type 0 = λ l. NoOdd (Err c.in_err-no_odd.field-0.0) l in
    odd_exit c.in_err-no_odd.field-0.0 c.from_residual-in_err-no_odd.result s.tokens _ (spec.limited (read c.args.bytes.now s))
    c.from_residual-in_err-no_odd.ensures.1 (subst P tokens c.in_err-no_odd.ensures) short

pub returns-in_err-query : goal.returns-in_err-query
returns-in_err-query c =
    let s = shown c.args.tokens.now c.args.piece in
    let at = begins c.args.tokens.now c.args.piece c.get-begin.result c.requires.0 c.get-begin.ensures in
    let short = short_enough c.args.bytes.now s (le-ltb _ _ (omega (arith, at, c.saturating_sub.ensures, c.if-saturating_sub-gt-MOST_BYTES.false))) in
    let tokens = ap (map (λ t. t.token)) (c.deref.ensures.value ∙ c.in_ok-ts.ensures) ∙ tokens_back c.args.bytes.now s.tokens in
    let none : spec.first_odd s.tokens ≡ None = ap spec.first_odd (sym tokens) ∙ c.in_ok-no_odd.ensures in
    let ts = c.deref-2.ensures.value ∙ c.in_ok-ts.ensures in
    read_exit c.in_err-query.field-0.0 c.from_residual-in_err-query.result _ (statement s.end c.args.bytes.now c.deref-2.result.now)
    c.from_residual-in_err-query.ensures.1 c.in_err-query.ensures.exact
    (short ∙ ap (λ o. spec.lexical_or o (spec.limited (read c.args.bytes.now s))) none ∙ ap (λ l. spec.limited (statement s.end c.args.bytes.now l)) (sym ts))

pub returns : goal.returns
returns c =
    let s = shown c.args.tokens.now c.args.piece in
    let at = begins c.args.tokens.now c.args.piece c.get-begin.result c.requires.0 c.get-begin.ensures in
    let short = short_enough c.args.bytes.now s (le-ltb _ _ (omega (arith, at, c.saturating_sub.ensures, c.if-saturating_sub-gt-MOST_BYTES.false))) in
    let tokens = ap (map (λ t. t.token)) (c.deref.ensures.value ∙ c.in_ok-ts.ensures) ∙ tokens_back c.args.bytes.now s.tokens in
    let none : spec.first_odd s.tokens ≡ None = ap spec.first_odd (sym tokens) ∙ c.in_ok-no_odd.ensures in
    let ts = c.deref-2.ensures.value ∙ c.in_ok-ts.ensures in
    let is = short ∙ ap (λ o. spec.lexical_or o (spec.limited (read c.args.bytes.now s))) none ∙ ap (λ l. spec.limited (statement s.end c.args.bytes.now l)) (sym ts)
    ∙ ap spec.limited c.in_ok-query.ensures.exact in
    subst (Answers c.limited.result) (sym is) c.limited.ensures
