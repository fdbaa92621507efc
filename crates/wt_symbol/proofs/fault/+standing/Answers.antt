use Rattle.std.proofs.Common.{inl, inr, refl}
use Rattle.wt_symbol.specs.Sides.{tree_of}
use Rattle.wt_symbol.proofs.MaskLemmas.{mask_one, proj_stands, join_stands}
use Rattle.wt_symbol.proofs.fault.+standing.Goals as goal

pub returns-in-Input : goal.returns-in-Input
returns-in-Input t c = rw c.in-Input.is (refl, mask_one c.in-Input.r (rw c.in-Input.is at c.requires.leaves))

pub returns-then-sees : goal.returns-then-sees
returns-then-sees t c =
    rw c.in-Proj.is
    (proj_stands c.args.anchors.now (tree_of c.in-Proj.s.value) (tree_of c.in-Proj.s.value) c.in_ok-mask-in-Proj.mask _ c.in-Proj.a
    (rw c.as_slice.ensures refl) (rw c.deref.ensures at c.in_ok-mask-in-Proj.ensures) c.if-sees.ensures.seen (c.if-sees.ensures.small refl))

pub returns-then-sees-5 : goal.returns-then-sees-5
returns-then-sees-5 t c =
    let found = join_stands c.args.anchors.now (tree_of c.in-InnerJoin.s.value) (tree_of c.in-InnerJoin.t.value) c.in_ok-lefts-in-InnerJoin.lefts
    c.in_ok-rights-in-InnerJoin.rights _ _ c.in-InnerJoin.a c.in-InnerJoin.b
    (rw c.as_slice-in-InnerJoin.ensures refl) (rw c.as_slice-in-InnerJoin-2.ensures refl)
    (rw c.deref-in-InnerJoin.ensures at c.in_ok-lefts-in-InnerJoin.ensures)
    (rw c.deref-in-InnerJoin-2.ensures at c.in_ok-rights-in-InnerJoin.ensures) c.if-sees-4.ensures.seen c.if-sees-5.ensures.seen in
    elim c.in-InnerJoin.is [ inl e ↦ rw e found | inr e ↦ rw e found ]
