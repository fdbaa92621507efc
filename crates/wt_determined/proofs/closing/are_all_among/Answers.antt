use Rattle.std.proofs.Common.{rules, arith}
use Rattle.std.proofs.lemmas.Bool.{false≢true}
use Rattle.wt_determined.proofs.ClosingLaws.{one_more_there}
use Rattle.wt_determined.proofs.closing.are_all_among.Goals as goal

pub returns-then-not-is_among : goal.returns-then-not-is_among
returns-then-not-is_among c = (
  λ y. absurd (false≢true y),
  λ h. absurd (search (rules, c.if-not-is_among.true, c.is_among.ensures.1 (h c.loop-v.v (omega arith)))),
)

pub loop-v-preserved : goal.loop-v-preserved
loop-v-preserved c = one_more_there c.loop-v.v c.args.vars.now (c.is_among.ensures.0 (search (rules, c.if-not-is_among.false))) c.loop-v.invariant
