use Rattle.std.proofs.Common.{◌<◌, slice_index, inl, inr}
use Rattle.wt_symbol.proofs.MaskLemmas.{mask_one, mask_both}
use Rattle.wt_symbol.proofs.head.+visible.Goals as goal

pub returns-in-Input : goal.returns-in-Input
returns-in-Input t c = rw c.in-Input.is (mask_one c.in-Input.r (rw c.in-Input.is at c.requires.leaves))

pub returns-in-Proj : goal.returns-in-Proj
returns-in-Proj t c =
    let lists = rw c.in-Proj.is at c.requires.lists in
    let small : slice_index c.args.anchors.now c.in-Proj.a < 8 = c.requires.anchors c.in-Proj.a 0 lists.0 in
    rw (c.in-Proj.is, c.as_slice.ensures) (mask_one (slice_index c.args.anchors.now c.in-Proj.a) small)

pub returns-in-InnerJoin : goal.returns-in-InnerJoin
returns-in-InnerJoin t c =
    let found = mask_both c.visible.result c.visible-in-InnerJoin.result _ _ (rw c.deref.ensures at c.visible.ensures)
    (rw c.deref-in-InnerJoin.ensures at c.visible-in-InnerJoin.ensures) in
    elim c.in-InnerJoin.is [ inl e ↦ rw e.2 found | inr e ↦ rw e.2 found ]
