use Rattle.std.proofs.Common.{◌≡◌, true, false}
use Rattle.wt_rule_file.specs.Files.{long_line}
use Rattle.wt_rule_file.proofs.Giving.{too_many, rule_refused}
use Rattle.wt_rule_file.proofs.rule.verdict.Goals as goal

pub returns-then-text-gt-LONGEST_LINE : goal.returns-then-text-gt-LONGEST_LINE
returns-then-text-gt-LONGEST_LINE g c = λ n ls follow. long_line c.if-text-gt-LONGEST_LINE.true

pub returns-then-count-ge-MOST_RULES : goal.returns-then-count-ge-MOST_RULES
returns-then-count-ge-MOST_RULES g c =
    too_many c.args.head.version c.args.head.steps c.args.count (record { text = c.args.text.now; ended = c.args.ended }) c.args.more c.if-count-ge-MOST_RULES.true c.requires.few c.if-text-gt-LONGEST_LINE.false
    (λ e. let never : false ≡ true = c.if-is_end.ensures.1 e in absurd (cc))

pub returns-in-Err : goal.returns-in-Err
returns-in-Err g c =
    rule_refused c.args.head.version c.args.head.steps c.args.count (record { text = c.args.text.now; ended = c.args.ended }) c.args.more c.in-Err.error c.if-text-gt-LONGEST_LINE.false
    (λ e. let never : false ≡ true = c.if-is_end.ensures.1 e in absurd (cc)) c.if-count-ge-MOST_RULES.false c.in-Err.ensures
