use Rattle.std.proofs.Common.{◌+◌, ◌-◌, arith, rules}
use Rattle.std.proofs.lemmas.Grind.{common_steps}
use Rattle.wt_template.specs.Shapes.{shape_of}
use Rattle.wt_template.proofs.TemplateLemmas.{no_letters, exists, passed, found_now, found_later, counts_next}
use Rattle.wt_template.proofs.nth_template.Goals as goal

pub returns-then-is_none : goal.returns-then-is_none
returns-then-is_none c =
    no_letters c.args.ops.0 c.args.most c.args.k c.variants-variants.result c.variants-variants.ensures (search rules)

pub template_of-requires-clause-exists : goal.template_of-requires-clause-exists
template_of-requires-clause-exists c =
    exists c.args.ops.0 c.loop-n.n (c.loop-n.n + 1) c.loop-n.rest c.loop-n.counts.items c.variants-variants.result c.variants-variants.ensures
    (omega arith) c.loop-n.invariant.counted c.in-Ok.field-0
    (rw c.deref.ensures.value at c.in-Ok.ensures)

pub returns-in-Ok : goal.returns-in-Ok
returns-in-Ok c =
    found_now c.args.ops.0 c.args.most c.loop-n.n c.loop-n.rest c.args.k (omega arith) c.loop-n.invariant.left
    (shape_of c.in_ok-template_of-in-Ok.field-0) c.in_ok-template_of-in-Ok.ensures

pub loop-n-preserved : goal.loop-n-preserved
loop-n-preserved c =
    let gone = passed c.args.ops.0 c.loop-n.n c.loop-n.rest c.in-Err.after c.loop-n.counts.items c.variants-variants.result
    c.variants-variants.ensures c.loop-n.invariant.counted (rw c.deref.ensures.value at c.in-Err.ensures) in
    record {
      counted =
          rw c.in_ok-push-in-Err.ensures.items
          (counts_next c.args.ops.0 c.loop-n.n (c.loop-n.rest - c.in-Err.after) c.loop-n.counts.items c.loop-n.invariant.counted
          (grind (arith, common_steps)) (omega (arith, gone)));
      many = grind (arith, common_steps);
      left = found_later c.args.ops.0 c.args.most c.loop-n.n c.loop-n.rest c.args.k (omega arith) c.loop-n.invariant.left c.in-Err.after gone;
    }
