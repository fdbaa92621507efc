use Rattle.std.proofs.Common.{◌≡◌, map, length, inl, inr, arith, refl}
use Rattle.std.proofs.lemmas.List.{length-map}
use Rattle.wt_symbol.specs.Sides.{pair_of}
use Rattle.wt_pair.proofs.WalkLemmas.{template_next, template_passed, template_small, templates_done, must_be_done}
use Rattle.wt_pair.proofs.walk.fill.Goals as goal

pub returns-then-len-most : goal.returns-then-len-most
returns-then-len-most c =
    let some = rw c.in-Some.is at c.in_ok-next.ensures.some in
    record {
      pairs = template_next c.args.bounds.now c.templates.template some.0 some.1 c.args.most c.templates.spot.anchoring c.templates.spot.dest c.in-Some.next.anchoring c.in-Some.next.dest _ _ _ some.2 c.templates.invariant.so_far;
      within = some.2.within;
      full_or_done = inl (omega (arith, length-map c.fill_nth.new.pairs pair_of));
    }

pub overflow_add-template : goal.overflow_add-template
overflow_add-template c =
    let some = rw c.in-Some.is at c.in_ok-next.ensures.some in
    let small = template_small c.args.bounds.now c.templates.template some.0 some.1 c.requires.src in
    omega (arith, small.2)

pub templates-smaller : goal.templates-smaller
templates-smaller c =
    let some = rw c.in-Some.is at c.in_ok-next.ensures.some in
    let small = template_small c.args.bounds.now c.templates.template some.0 some.1 c.requires.src in
    omega (arith, small.1)

pub templates-preserved : goal.templates-preserved
templates-preserved c =
    let some = rw c.in-Some.is at c.in_ok-next.ensures.some in
    let next = template_next c.args.bounds.now c.templates.template some.0 some.1 c.args.most c.templates.spot.anchoring c.templates.spot.dest c.in-Some.next.anchoring c.in-Some.next.dest _ _ _ some.2 c.templates.invariant.so_far in
    let many : length (map pair_of c.fill_nth.new.pairs) ≡ c.len.result = omega (arith, length-map c.fill_nth.new.pairs pair_of) in
    record {
      room = omega (arith, length-map c.fill_nth.new.pairs pair_of, some.2.within);
      so_far =
          template_passed c.args.bounds.now c.templates.template some.0 some.1 c.in-Some.next.anchoring c.in-Some.next.dest _ _
          (must_be_done c.args.most (length (map pair_of c.fill_nth.new.pairs)) _ _ refl (λ full. c.if-len-most.false (omega arith)) some.2.full_or_done) next;
    }

pub returns : goal.returns
returns c =
    let none = rw c.in_default.is at c.in_ok-next.ensures.none in
    record {
      pairs = rw none.1 c.templates.invariant.so_far;
      within = rw none.1 (omega (arith, length-map c.templates.pairs pair_of));
      full_or_done = inr (templates_done c.args.bounds.now c.templates.template c.templates.spot.anchoring c.templates.spot.dest none.0);
    }
