use Rattle.std.proofs.Common.{refl}
use Rattle.wt_rule_file.proofs.Giving.{book_read, rest_refused}
use Rattle.wt_rule_file.proofs.read.read_rules.Goals as goal

pub returns-in-Ok-read_from : goal.returns-in-Ok-read_from
returns-in-Ok-read_from g c =
    record {
      answer = book_read c.args.bytes.now c.first_line-line.result c.in-Ok.head c.in-Ok-read_from.rules (record { steps = c.in-Ok.head.steps; rules = c.in-Ok-read_from.rules }) refl refl
          c.first_line-line.ensures c.in-Ok.ensures c.in-Ok-read_from.ensures;
    }

pub returns-in-Err-read_from : goal.returns-in-Err-read_from
returns-in-Err-read_from g c =
    record { answer = rest_refused c.args.bytes.now c.first_line-line.result c.in-Ok.head c.in-Err-read_from.error c.first_line-line.ensures c.in-Ok.ensures c.in-Err-read_from.ensures }
