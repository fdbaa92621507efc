use Rattle.std.proofs.Common.{◌≡◌, length, sym, ap, ◌∙◌, arith, subst}
use Rattle.wt_constraint.specs.declared.atom.Atom.TheVariants.{RelEq}
use Rattle.wt_facts.proofs.Closures.{Classes, classes_none, classes_more, classes_all, at_place}
use Rattle.wt_facts.proofs.sames.classes_of.Goals as goal

pub loop-k-init : goal.loop-k-init
loop-k-init c = classes_none c.args.kind c.args.atoms.now c.args.set c.in_ok-classes.classes.items c.in_ok-classes.ensures.size c.in_ok-classes.ensures.own

pub loop-k-preserved : goal.loop-k-preserved
loop-k-preserved c =
    classes_more c.args.kind c.args.atoms.now c.args.set c.loop-k.k c.loop-k.classes.items c.link.new.classes.items c.has-asked.result _ c.has-asked.ensures
    (at_place c.args.atoms.now c.as_slice-atom-items.result.now c.loop-k.k (RelEq 0 0) c.as_slice-atom-items.ensures c.loop-k-test.true) c.link.ensures c.loop-k.invariant

pub returns : goal.returns
returns c =
    let end : c.loop-k.k ≡ length c.as_slice-atom-items.result.now = omega (arith, c.loop-k-test.false, c.loop-k.auto.k-end) in
    let classes : Classes c.args.kind c.args.atoms.now c.args.set c.loop-k.k c.from_vec.result = subst (Classes c.args.kind c.args.atoms.now c.args.set c.loop-k.k) (sym c.from_vec.ensures) c.loop-k.invariant in
    classes_all c.args.kind c.args.atoms.now c.args.set c.loop-k.k c.from_vec.result (end ∙ ap length c.as_slice-atom-items.ensures) classes
