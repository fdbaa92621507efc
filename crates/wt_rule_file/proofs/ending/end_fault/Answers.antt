use Rattle.std.proofs.Common.{Some, None, inl, inr, sym, subst}
use Rattle.wt_rule_line.specs.declared.fault.RuleFault.TheVariants.{Syntax, Count}
use Rattle.wt_rule_file.specs.Reading.{EndsFile}
use Rattle.wt_rule_file.proofs.Giving.{end_open, end_unread, end_wrong, end_right}
use Rattle.wt_rule_file.proofs.ending.end_fault.Goals as goal

pub returns-then-not-ended : goal.returns-then-not-ended
returns-then-not-ended c = subst (λ b. EndsFile c.args.text.now b c.args.more c.args.count (Some Syntax)) (sym c.if-not-ended.true) (end_open c.args.text.now c.args.more c.args.count)

pub returns-in_default : goal.returns-in_default
returns-in_default c = end_unread c.args.text.now c.args.ended c.args.more c.args.count c.in_default.ensures

pub returns-then-stated-count : goal.returns-then-stated-count
returns-then-stated-count c =
    subst (λ b. EndsFile c.args.text.now b c.args.more c.args.count (Some Count)) (sym c.if-not-ended.false) (end_wrong c.args.text.now c.args.more c.args.count c.in-Some.stated c.in-Some.ensures (inl c.if-stated-count.true))

pub returns-then-more : goal.returns-then-more
returns-then-more c =
    subst (λ b. EndsFile c.args.text.now b c.args.more c.args.count (Some Count)) (sym c.if-not-ended.false) (end_wrong c.args.text.now c.args.more c.args.count c.in-Some.stated c.in-Some.ensures (inr c.if-more.true))

pub returns : goal.returns
returns c =
    subst (λ b. EndsFile c.args.text.now b c.args.more c.args.count None) (sym c.if-not-ended.false) (end_right c.args.text.now c.args.more c.args.count c.in-Some.stated c.in-Some.ensures c.if-stated-count.false c.if-more.false)
