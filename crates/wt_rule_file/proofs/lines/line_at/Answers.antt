use Rattle.std.proofs.Common.{◌<◌, ◌≤◌, length, ap, subst, ◌∙◌, arith, length-drop}
use Rattle.std.proofs.lemmas.Grind.{common_steps}
use Rattle.wt_rule_file.specs.Reading.{until_lf}
use Rattle.wt_rule_file.proofs.Scanning.{until-le, ended_line, open_line}
use Rattle.wt_rule_file.proofs.lines.line_at.Goals as goal

pub overflow_add-end : goal.overflow_add-end
overflow_add-end c = let le = until-le c.rest-rest.result.now in let count = length-drop c.args.at c.args.bytes.now in grind (arith, common_steps)

pub returns-then-length-rest : goal.returns-then-length-rest
returns-then-length-rest c =
    ended_line c.args.bytes.now c.args.at c.line_length-length.result (c.line_length-length.ensures ∙ ap until_lf c.rest-rest.ensures)
    (subst (λ t. c.line_length-length.result < length t) c.rest-rest.ensures c.if-length-rest.true)

pub returns-else-length-rest : goal.returns-else-length-rest
returns-else-length-rest c =
    let some : 0 < length c.rest-rest.result.now = grind (arith, common_steps) in
    open_line c.args.bytes.now c.args.at c.line_length-length.result (c.line_length-length.ensures ∙ ap until_lf c.rest-rest.ensures)
    (subst (λ t. length t ≤ c.line_length-length.result) c.rest-rest.ensures c.if-length-rest.false) (subst (λ t. 0 < length t) c.rest-rest.ensures some)
