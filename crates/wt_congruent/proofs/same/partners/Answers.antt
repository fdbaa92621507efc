use Rattle.std.proofs.Common.{rules, ap, arith, map}
use Rattle.wt_bag.specs.Choices.{At}
use Rattle.wt_form.specs.Congruent.{RangeSame}
use Rattle.wt_form.specs.Views.{range_seen}
use Rattle.wt_facts.specs.Facts.{known_of}
use Rattle.wt_congruent.specs.Refs.{range_behind}
use Rattle.wt_congruent.proofs.Pairing.{at_within, partner_there, partner_absent, at_put, at_get}
use Rattle.wt_congruent.proofs.same.partners.Goals as goal
use Rattle.wt_congruent.proofs.same.partners.Goals.{then-branch+in_ok-push, else-branch}

pub loop-j-preserved : goal.loop-j-preserved
loop-j-preserved c =
    elim c.if-branch.branch [
      | then-branch+in_ok-push w ↦ partner_there (λ i. At (RangeSame (known_of c.args.facts.now) (range_seen c.args.range.now)) i (map range_behind c.args.left.now)) c.loop-j.j c.loop-j.out.items _ (search (rules, w.out-is, w.in_ok-push.ensures)) (at_put _ range_behind c.args.left.now c.loop-j.j _ (omega arith) c.index-left-j.is (c.in_ok-same_range.ensures.0 w.if-branch.true)) c.loop-j.invariant
      | else-branch w ↦ partner_absent (λ i. At (RangeSame (known_of c.args.facts.now) (range_seen c.args.range.now)) i (map range_behind c.args.left.now)) c.loop-j.j c.loop-j.out.items _ (ap (λ o. o.items) w.out-is) (λ h. search (rules, w.if-branch.false, c.in_ok-same_range.ensures.1 (at_get _ range_behind c.args.left.now c.loop-j.j _ c.index-left-j.is h))) c.loop-j.invariant
    ]

pub returns : goal.returns
returns c j = (λ h. ((c.loop-j.invariant j).0 h).1, λ h. (c.loop-j.invariant j).1 (let l = at_within _ range_behind c.args.left.now j h in omega (arith, l), h))
