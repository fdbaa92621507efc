use Rattle.std.proofs.Common.{rules, arith}
use Rattle.std.proofs.lemmas.Grind.{common_steps}
use Rattle.wt_rule_text.specs.Reading.{number}
use Rattle.wt_rule_text.proofs.Digits.{leading-le}
use Rattle.wt_rule_text.proofs.scan.number.Goals as goal

pub slice_bounds-digits-end : goal.slice_bounds-digits-end
slice_bounds-digits-end c = let le = leading-le c.rest-text.result.now in grind (arith, common_steps)

pub returns-then-not-is_plain : goal.returns-then-not-is_plain
unfolding number
returns-then-not-is_plain c = search rules

pub overflow_add-result : goal.overflow_add-result
overflow_add-result c = let le = leading-le c.rest-text.result.now in grind (arith, common_steps)

pub returns : goal.returns
unfolding number
returns c = search rules
