use Rattle.std.proofs.Common.{◌+◌, length, drop, Some, Ok, Err, sym, ap, subst, ◌∙◌}
use Rattle.wt_rule_line.specs.declared.fault.RuleFault.TheVariants.{Count}
use Rattle.wt_rule_file.specs.declared.fault.RuleError.TheVariants.{Fault}
use Rattle.wt_rule_file.specs.Files.{lines_of}
use Rattle.wt_rule_file.specs.Reading.{VerdictAt, Reads}
use Rattle.wt_rule_file.proofs.Giving.{next_rule, run_out}
use Rattle.wt_rule_file.proofs.read.read_from.Goals as goal

pub lines-preserved : goal.lines-preserved
lines-preserved g c =
    let rest = lines_of (drop c.lines.at c.args.bytes.now) in
    let more = lines_of (drop c.in-Some.line.next c.args.bytes.now) in
    let found = rw c.in-Ok-Some.field-0-is at c.in-Ok-Some.ensures in
    let here : VerdictAt c.args.head.version c.args.head.steps (length c.lines.rules) rest more (Ok (Some c.in-Ok-Some.rule)) =
    subst (λ n. VerdictAt c.args.head.version c.args.head.steps n rest more (Ok (Some c.in-Ok-Some.rule))) c.len.ensures found in
    next_rule c.args.head.version c.args.head.steps (lines_of (drop c.args.from c.args.bytes.now)) rest more c.lines.rules c.push.new.self c.in-Ok-Some.rule c.in_ok-push-in-Ok-Some.ensures.ok here c.lines.invariant

pub returns : goal.returns
returns g c =
    let rest = lines_of (drop c.lines.at c.args.bytes.now) in
    subst (λ e. Reads c.args.head.version c.args.head.steps (lines_of (drop c.args.from c.args.bytes.now)) (Err e)) (sym (c.at_line.ensures ∙ ap (λ n. Fault Count (n + 2)) c.len-2.ensures))
    (run_out c.args.head.version c.args.head.steps (lines_of (drop c.args.from c.args.bytes.now)) rest c.lines.rules c.in_default.ensures c.lines.invariant)
