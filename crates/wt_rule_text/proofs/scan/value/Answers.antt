use Rattle.std.proofs.Common.{◌≡◌, ◌+◌, ◌-◌, ◌*◌, ◌^◌, min, get_or, ◌∙◌, refl, arith}
use Rattle.wt_rule_text.proofs.Digits.{digit_read, all_read}
use Rattle.wt_rule_text.proofs.scan.value.Goals as goal

pub loop-digit-preserved : goal.loop-digit-preserved
loop-digit-preserved c =
    let d = get_or c.args.digits.now c.loop-digit.digit-index 0 in
    let e : c.saturating_add-value.result ≡ min (min (c.loop-digit.value * 10) (2 ^ 64 - 1) + (d - 48)) (2 ^ 64 - 1) = omega (arith, c.saturating_mul.ensures, c.saturating_add-value.ensures, c.from.ensures, c.saturating_sub.ensures) in
    (omega arith, digit_read (2 ^ 64 - 1) c.loop-digit.value c.args.digits.now c.loop-digit.digit-index d c.saturating_add-value.result c.loop-digit-test.true refl e ∙ c.loop-digit.invariant.1)

pub returns : goal.returns
returns c =
    let all = all_read (2 ^ 64 - 1) c.loop-digit.value c.args.digits.now c.loop-digit.digit-index c.loop-digit-test.false in
    omega (arith, all, c.loop-digit.invariant.0, c.loop-digit.invariant.1)
