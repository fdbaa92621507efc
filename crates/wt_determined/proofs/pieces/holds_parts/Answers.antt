use Rattle.std.proofs.Common.{rules, refl, arith}
use Rattle.std.proofs.lemmas.Bool.{false≢true}
use Rattle.wt_determined.proofs.PieceLaws.{all_held, one_not_held, held_more, same_get}
use Rattle.wt_determined.proofs.pieces.holds_parts.Goals as goal

pub returns-then-not-has_part : goal.returns-then-not-has_part
returns-then-not-has_part c = (
  λ y. absurd (false≢true y),
  λ h. absurd (one_not_held c.args.u c.loop-i.i c.args.head.now c.args.pieces.now _ (omega arith) (same_get c.args.head.now c.loop-i.i _ _ (omega arith)) (λ g. search (rules, c.if-not-has_part.true, c.has_part.ensures.1 g)) h),
)

pub loop-i-preserved : goal.loop-i-preserved
loop-i-preserved c = held_more c.args.u c.loop-i.i c.args.head.now c.args.pieces.now _ (omega arith) (same_get c.args.head.now c.loop-i.i _ _ (omega arith)) (c.has_part.ensures.0 (search (rules, c.if-not-has_part.false))) c.loop-i.invariant

pub returns : goal.returns
returns c = (λ y. all_held c.args.u c.loop-i.i c.args.head.now c.args.pieces.now (omega arith) c.loop-i.invariant, λ h. refl)
