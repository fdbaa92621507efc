use Rattle.std.proofs.Common.{ℕ, Bool, false, slice_index_or, inl, arith}
use Rattle.std.proofs.lemmas.List.{get_or-set_same, length-set}
use Rattle.wt_constraint.proofs.SameLemmas.{within_next, kept_next, followed_next, from_next, one_marked}
use Rattle.wt_constraint.specs.Sameness.{reflexive}
use Rattle.wt_constraint.proofs.same.spread.Goals as goal

pub links-init : goal.links-init
links-init c = record {
  room = simp length-set c.requires.room;
  within = λ k has. has;
  kept = get_or-set_same c.args.reached.now c.args.i _ false (omega arith);
  followed = λ k x y link. inl link.there;
  from = λ x h. let here = one_marked c.args.reached.now c.args.i x c.requires.none h in rw here reflexive;
}

pub links-preserved : goal.links-preserved
links-preserved c =
    let inv = c.links.invariant in
    let found = c.in-Some.ensures.link in
    let old : ℕ → Bool = λ z. slice_index_or c.links.reached z false in
    let new : ℕ → Bool = λ z. slice_index_or c.mark.new.reached z false in
    record {
      room = c.mark.ensures.room;
      within =
          within_next c.args.kind c.args.atoms.now c.args.set c.links.left c.without-left.result old new c.args.i c.in-Some.link.atom c.in-Some.link.x c.in-Some.link.y
          inv.within inv.kept inv.followed inv.from found.1 found.2 c.mark.ensures.marked c.without-left.ensures.members;
      kept =
          kept_next c.args.kind c.args.atoms.now c.args.set c.links.left c.without-left.result old new c.args.i c.in-Some.link.atom c.in-Some.link.x c.in-Some.link.y
          inv.within inv.kept inv.followed inv.from found.1 found.2 c.mark.ensures.marked c.without-left.ensures.members;
      followed =
          followed_next c.args.kind c.args.atoms.now c.args.set c.links.left c.without-left.result old new c.args.i c.in-Some.link.atom c.in-Some.link.x c.in-Some.link.y
          inv.within inv.kept inv.followed inv.from found.1 found.2 c.mark.ensures.marked c.without-left.ensures.members;
      from =
          from_next c.args.kind c.args.atoms.now c.args.set c.links.left c.without-left.result old new c.args.i c.in-Some.link.atom c.in-Some.link.x c.in-Some.link.y
          inv.within inv.kept inv.followed inv.from found.1 found.2 c.mark.ensures.marked c.without-left.ensures.members;
    }
