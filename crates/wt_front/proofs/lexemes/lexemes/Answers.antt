use Rattle.std.proofs.Common.{◌≡◌, ◌∙◌, ◌-◌, ◌∷◌, [], ◌++◌, ap, sym, take, drop, arith}
use Rattle.std.specs.Prelude.{map}
use Rattle.std.proofs.lemmas.List.{map-append}
use Rattle.wt_reading.specs.Lexemes as spec
use Rattle.wt_front.proofs.More.{slice_more}
use Rattle.wt_front.proofs.lexemes.lexemes.Goals as goal

pub loop-i-preserved : goal.loop-i-preserved
loop-i-preserved c =
    c.in_ok-push.ensures.items
    ∙ (λ j. c.loop-i.invariant j ++ c.shown.ensures j ∷ [])
    ∙ sym (map-append (spec.lexeme c.args.bytes.now) (take (c.loop-i.i - c.args.from) (drop c.args.from c.args.tokens.now)) (c.get.result ∷ []))
    ∙ ap (map (spec.lexeme c.args.bytes.now)) (sym (slice_more c.args.from c.args.tokens.now c.loop-i.i c.get.result c.loop-i.auto.i c.get.ensures))

pub returns : goal.returns
returns c =
    let end : c.loop-i.i ≡ c.args.to = omega (arith, c.loop-i.auto.i-end c.requires.order) in
    c.loop-i.invariant ∙ ap (λ n. map (spec.lexeme c.args.bytes.now) (take (n - c.args.from) (drop c.args.from c.args.tokens.now))) end
