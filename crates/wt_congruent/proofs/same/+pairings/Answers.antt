use Rattle.std.proofs.Common.{ap, sym, subst, arith, map, ◌↔◌}
use Rattle.wt_bag.specs.Choices.{Has, drop_at}
use Rattle.wt_form.specs.Congruent.{RangesSame}
use Rattle.wt_form.specs.Views.{ranges_seen, range_seen}
use Rattle.wt_facts.specs.Facts.{known_of}
use Rattle.wt_congruent.specs.Refs.{range_behind}
use Rattle.wt_congruent.proofs.Pairing.{at_within, has_at, paired_more, all_paired, tails_are}
use Rattle.wt_congruent.proofs.same.+pairings.Goals as goal

pub without-requires : goal.without-requires
without-requires t c = at_within _ range_behind c.args.left.now c.index-j.result.now ((c.in_ok-all-in-More.ensures c.index-j.result.now).0 (has_at c.in_ok-all-in-More.all.items c.loop-i.i c.index-j.result.now (omega arith) c.index-j.ensures))

pub loop-i-preserved : goal.loop-i-preserved
loop-i-preserved t c =
    paired_more (λ i is. RangesSame (known_of c.args.facts.now) is (ranges_seen c.in-More.rest.value) (drop_at i (map range_behind c.args.left.now))) c.in_ok-all-in-More.all.items c.loop-i.i c.index-j.result.now c.loop-i.out.items _ c.as_slice-in-loop-i.result.now (omega arith) c.index-j.ensures c.in_ok-push_first-in-More.ensures
    (tails_are (known_of c.args.facts.now) (ranges_seen c.in-More.rest.value) _ range_behind c.args.left.now _ _ c.index-j.result.now _ (ap ranges_seen c.deref.ensures) c.as_slice.ensures.value c.in_ok-fewer-in-More.ensures
    (λ ks. subst (λ l. Has ks l ↔ RangesSame (known_of c.args.facts.now) ks (ranges_seen c.deref.result.now) (map range_behind c.as_slice.result.now)) (sym c.as_slice-in-loop-i.ensures.value) (c.in_ok-tails-in-More.ensures ks))) c.loop-i.invariant

pub returns-after-loop-i : goal.returns-after-loop-i
returns-after-loop-i t c k =
    subst (λ z. Has k c.loop-i.out.items ↔ RangesSame (known_of c.args.facts.now) k (ranges_seen z) (map range_behind c.args.left.now)) (sym c.in-More.is)
    (all_paired (known_of c.args.facts.now) (range_seen c.in-More.range) (ranges_seen c.in-More.rest.value) (map range_behind c.args.left.now) c.in_ok-all-in-More.all.items c.loop-i.i c.loop-i.out.items (omega arith) c.in_ok-all-in-More.ensures c.loop-i.invariant k)
