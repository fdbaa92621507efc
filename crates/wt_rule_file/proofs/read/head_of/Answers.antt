use Rattle.std.proofs.Common.{take, refl}
use Rattle.wt_rule_file.proofs.Giving.{head_long, head_none, head_open}
use Rattle.wt_rule_file.proofs.read.head_of.Goals as goal

pub returns-then-text-gt4096 : goal.returns-then-text-gt4096
returns-then-text-gt4096 c = head_long c.args.bytes.now (take c.args.line.end c.args.bytes.now) c.args.line c.requires.line refl c.if-text-gt4096.true

pub returns-in_default : goal.returns-in_default
returns-in_default c = head_none c.args.bytes.now (take c.args.line.end c.args.bytes.now) c.args.line c.requires.line refl c.if-text-gt4096.false c.in_default.ensures

pub returns-else-line : goal.returns-else-line
returns-else-line c =
    head_open c.args.bytes.now (take c.args.line.end c.args.bytes.now) c.args.line c.in-Some.head c.requires.line refl c.if-text-gt4096.false c.in-Some.ensures c.if-line.false
