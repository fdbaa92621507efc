use Rattle.std.proofs.Common.{rules, ◌≡◌, ◌↔◌, ap, ◌∙◌, subst, length, arith}
use Rattle.wt_bag.specs.Choices.{Has}
use Rattle.wt_constraint.specs.declared.atom.Atom.{Atom}
use Rattle.wt_constraint.specs.declared.atom.Atom.TheVariants.{RelEq}
use Rattle.wt_facts.specs.Facts.{IsAskedBelow}
use Rattle.wt_facts.proofs.Closures.{at_place}
use Rattle.wt_facts.proofs.FactLaws.{asked_there, asked_absent}
use Rattle.wt_facts.proofs.facts.asked_atoms.Goals as goal
use Rattle.wt_facts.proofs.facts.asked_atoms.Goals.{then-has+in_ok-push, else-has}

pub loop-k-preserved : goal.loop-k-preserved
loop-k-preserved c =
    elim c.if-has.branch [
      | then-has+in_ok-push w ↦ asked_there c.args.atoms.now c.args.set c.loop-k.k _ c.loop-k.asked.items _ (at_place c.args.atoms.now c.as_slice-atom-items.result.now c.loop-k.k (RelEq 0 0) c.as_slice-atom-items.ensures c.loop-k-test.true) (c.has.ensures.0 w.if-has.true) (search (rules, w.asked-is, w.in_ok-push.ensures)) c.loop-k.invariant
      | else-has w ↦ asked_absent c.args.atoms.now c.args.set c.loop-k.k c.loop-k.asked.items _ (λ h. search (rules, w.if-has.false, c.has.ensures.1 h)) (ap (λ o. o.items) w.asked-is) c.loop-k.invariant
    ]

pub returns : goal.returns
returns c =
    let end : c.loop-k.k ≡ length c.as_slice-atom-items.result.now = omega (arith, c.loop-k-test.false, c.loop-k.auto.k-end) in
    subst (λ n. (x : Atom) → (Has x c.loop-k.asked.items ↔ IsAskedBelow c.args.atoms.now c.args.set n x)) (end ∙ ap length c.as_slice-atom-items.ensures) c.loop-k.invariant
