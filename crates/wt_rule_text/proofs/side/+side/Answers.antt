use Rattle.std.proofs.Common.{rules, ◌∙◌, ap}
use Rattle.wt_rule_text.specs.Reading.{side}
use Rattle.wt_rule_text.proofs.Sides.{deeper, too_deep}
use Rattle.wt_rule_text.proofs.side.+side.Goals as goal

pub side-returns-then-depth-eq0 : goal.side-returns-then-depth-eq0
side-returns-then-depth-eq0 t c = ap (λ d. side d c.args.marked c.args.line.now c.args.at) c.if-depth-eq0.true ∙ too_deep c.args.marked c.args.line.now c.args.at

pub side-returns-in-Some : goal.side-returns-in-Some
side-returns-in-Some t c = rw (deeper c.args.depth c.args.marked c.args.line.now c.args.at c.if-depth-eq0.false) (search rules)

pub side-returns-in-Some-unary : goal.side-returns-in-Some-unary
side-returns-in-Some-unary t c = rw (deeper c.args.depth c.args.marked c.args.line.now c.args.at c.if-depth-eq0.false) (search rules)

pub side-returns-in_err-operator : goal.side-returns-in_err-operator
side-returns-in_err-operator t c = rw (deeper c.args.depth c.args.marked c.args.line.now c.args.at c.if-depth-eq0.false) (search rules)

pub side-returns-in_err-left : goal.side-returns-in_err-left
side-returns-in_err-left t c = rw (deeper c.args.depth c.args.marked c.args.line.now c.args.at c.if-depth-eq0.false) (search rules)

pub side-returns : goal.side-returns
side-returns t c = rw (deeper c.args.depth c.args.marked c.args.line.now c.args.at c.if-depth-eq0.false) (search rules)
