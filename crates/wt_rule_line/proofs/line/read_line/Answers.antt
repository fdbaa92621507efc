use Rattle.std.proofs.Common.{◌≡◌, Err, rules}
use Rattle.wt_rule_text.specs.Trees.{rule_of}
use Rattle.wt_rule_text.specs.declared.parsed.LineError.TheVariants.{Syntax}
use Rattle.wt_rule_line.specs.Lines.{no_form}
use Rattle.wt_rule_line.proofs.LineLaws.{line_given}
use Rattle.wt_rule_line.proofs.line.read_line.Goals as goal

pub returns-in-Ok : goal.returns-in-Ok
returns-in-Ok c = line_given c.args.version c.args.line.now (rule_of c.in-Ok.parsed) c.judge.result c.in-Ok.ensures.line c.judge.ensures

pub returns-in-Err-Syntax : goal.returns-in-Err-Syntax
returns-in-Err-Syntax c = let is : c.parse_rule.result ≡ Err Syntax = search rules in no_form (c.parse_rule.ensures.syntax is)
