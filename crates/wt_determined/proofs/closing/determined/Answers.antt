use Rattle.std.proofs.Common.{◌<◌, ◌≡◌, map, length, arith, subst, ◌∙◌, inr}
use Rattle.wt_bag.specs.Bags.{Each}
use Rattle.wt_bag.specs.Choices.{At, Has, drop_at}
use Rattle.wt_form.specs.Parts.{ranges_list}
use Rattle.wt_form.specs.Facts.{Determined}
use Rattle.wt_form.specs.Views.{ranges_seen}
use Rattle.wt_facts.specs.Facts.{known_of}
use Rattle.wt_congruent.specs.Refs.{cond_behind}
use Rattle.wt_congruent.proofs.Pairing.{remove-drop_at}
use Rattle.wt_determined.specs.Linked.{Follows}
use Rattle.wt_determined.proofs.ClosingLaws.{count_length, moved, each_more, told_none}
use Rattle.wt_determined.proofs.LinkLaws.{taken_determined, each_there}
use Rattle.wt_determined.proofs.closing.determined.Goals as goal

pub rounds-init : goal.rounds-init
rounds-init c =
    let n = count_length (ranges_seen c.args.ranges.now) in
    let k = c.range_count.ensures in
    record {
      sound = λ v h. absurd (subst (Has v) c.new-vars.ensures.items h);
      each = λ v l. inr (c.in_ok-left.ensures v (omega (arith, n, k, l)));
    }

pub rounds-preserved : goal.rounds-preserved
rounds-preserved c =
    let rs = ranges_list (ranges_seen c.args.ranges.now) in
    let cs = map cond_behind c.args.conds.now in
    let found = c.in-Some.ensures in
    let l : c.in-Some.j < length c.rounds.left.items = subst (λ z. c.in-Some.j < length z) c.deref-in-rounds.ensures.value found.0 in
    let less : c.remove-u.new.self.items ≡ drop_at c.in-Some.j c.rounds.left.items = c.remove-u.ensures.items ∙ remove-drop_at c.rounds.left.items c.in-Some.j l in
    let here = taken_determined c.args.facts.now rs cs c.args.pieces.now c.rounds.vars.items c.deref.result.now c.rounds.left.items c.deref-in-rounds.result.now c.in-Some.j c.remove-u.result c.deref.ensures.value c.deref-in-rounds.ensures.value c.remove-u.ensures.value c.rounds.invariant.sound found in
    record {
      sound = λ v h. each_more (Determined (known_of c.args.facts.now) rs cs c.args.pieces.now) c.rounds.vars.items c.push.new.self.items c.remove-u.result v c.in_ok-push.ensures.items c.rounds.invariant.sound here h;
      each = λ v m. moved c.rounds.vars.items c.push.new.self.items c.rounds.left.items c.remove-u.new.self.items c.in-Some.j c.remove-u.result v c.in_ok-push.ensures.items less c.remove-u.ensures.value l (c.rounds.invariant.each v m);
    }

pub returns : goal.returns
returns c =
    let rs = ranges_list (ranges_seen c.args.ranges.now) in
    let cs = map cond_behind c.args.conds.now in
    let none = told_none c.first_that_follows.result (Each (λ u. Follows c.args.facts.now rs cs c.args.pieces.now c.deref.result.now u → ⊥) c.deref-in-rounds.result.now) (λ j. (j < length c.deref-in-rounds.result.now) × At (Follows c.args.facts.now rs cs c.args.pieces.now c.deref.result.now) j c.deref-in-rounds.result.now) c.first_that_follows.ensures c.in_default.is in
    record { exact = λ u. (c.rounds.invariant.sound u, each_there c.args.facts.now rs cs c.args.pieces.now c.rounds.vars.items c.deref.result.now c.rounds.left.items c.deref-in-rounds.result.now c.deref.ensures.value c.deref-in-rounds.ensures.value c.rounds.invariant.each none u) }
