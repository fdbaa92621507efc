use Rattle.std.proofs.Common.{◌+◌, ◌-◌, arith, sym, refl}
use Rattle.std.proofs.lemmas.Grind.{common_steps}
use Rattle.wt_symbol.specs.Sides.{tree_of}
use Rattle.wt_pair.proofs.DestLemmas.{leaf_found, past_leaves, counts_first, counts_next, exists, passed, found_now, found_later}
use Rattle.wt_pair.proofs.dest.nth_dest.Goals as goal

pub loop-n-preserved : goal.loop-n-preserved
loop-n-preserved c =
    let gone = passed c.args.ops.0 c.loop-n.n c.loop-n.rest c.in-Err.after c.args.symbols.now c.loop-n.counts.items c.variants-variants.result
    c.variants-variants.ensures c.loop-n.invariant.counted (rw c.deref.ensures.value at c.in-Err.ensures) in
    record {
      counted =
          rw c.in_ok-push-in-Err.ensures.items
          (counts_next c.args.ops.0 c.loop-n.n (c.loop-n.rest - c.in-Err.after) c.args.symbols.now c.loop-n.counts.items c.loop-n.invariant.counted
          (grind (arith, common_steps)) (omega (arith, gone)));
      many = grind (arith, common_steps);
      left = found_later c.args.ops.0 c.args.most c.loop-n.n c.loop-n.rest c.args.k c.args.symbols.now (omega arith) c.loop-n.invariant.left c.in-Err.after gone;
    }

pub returns-then-k-leaves : goal.returns-then-k-leaves
returns-then-k-leaves c = rw c.one_of.ensures (sym (leaf_found c.args.ops.0 c.args.most c.args.symbols.now c.args.k (omega arith)))

pub loop-n-init : goal.loop-n-init
loop-n-init c = record {
  counted = counts_first c.args.ops.0 c.args.symbols.now _ (rw (c.in_ok-push.ensures.items, c.new-counts.ensures.items, c.from-leaves.ensures) refl);
  many = grind (arith, common_steps);
  left = rw c.from-leaves.ensures (past_leaves c.args.ops.0 c.args.most c.args.symbols.now c.args.k (omega arith));
}

pub dest_of-requires-clause-exists : goal.dest_of-requires-clause-exists
dest_of-requires-clause-exists c =
    exists c.args.ops.0 c.loop-n.n (c.loop-n.n + 1) c.loop-n.rest c.args.symbols.now c.loop-n.counts.items c.variants-variants.result c.variants-variants.ensures
    (omega arith) c.loop-n.invariant.counted c.in-Ok.field-0 (rw c.deref.ensures.value at c.in-Ok.ensures)

pub returns-in-Ok : goal.returns-in-Ok
returns-in-Ok c =
    found_now c.args.ops.0 c.args.most c.loop-n.n c.loop-n.rest c.args.k c.args.symbols.now (omega arith) c.loop-n.invariant.left
    (tree_of c.in_ok-dest_of-in-Ok.field-0) c.in_ok-dest_of-in-Ok.ensures
