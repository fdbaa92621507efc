use Rattle.std.proofs.Common.{◌-◌, arith, rules}
use Rattle.wt_symbol.specs.Sides.{tree_of}
use Rattle.wt_pair.proofs.DestLemmas.{not_past, found_proj, found_filter, found_inner_join, found_left_join, found_in_sub, found_dedup, within_filter, within_inner_join, within_left_join, within_in_sub, counts_below, exists_below, no_operator}
use Rattle.wt_pair.proofs.dest.+dest_of.Goals as goal

pub one_of-requires : goal.one_of-requires
one_of-requires t c = (no_operator c.args.ops.0 c.args.k c.args.size c.args.symbols.now c.if-size-eq0.true c.requires.exists).0

pub returns-then-size-eq0 : goal.returns-then-size-eq0
returns-then-size-eq0 t c =
    rw c.one_of.ensures (no_operator c.args.ops.0 c.args.k c.args.size c.args.symbols.now c.if-size-eq0.true c.requires.exists).1

pub unreachable-requires : goal.unreachable-requires
unreachable-requires t c =
    not_past c.args.ops.0 (c.args.size - 1) c.args.size c.args.k c.args.symbols.now c.args.counts.now c.variants.result c.variants.ensures (omega arith) c.requires.counted c.in-Err.field-0 c.in-Err.ensures c.requires.exists

pub two_of-chosen-requires : goal.two_of-chosen-requires
two_of-chosen-requires t c = within_filter c.args.ops.0 (c.args.size - 1) c.args.size c.args.k c.args.symbols.now c.args.counts.now c.variants.result c.variants.ensures (omega arith) c.requires.counted c.in-Ok-Filter.o (rw c.in-Ok-Filter.field-0-is at c.in-Ok-Filter.ensures)

pub one_of-a-requires-in-Ok-InSub : goal.one_of-a-requires-in-Ok-InSub
one_of-a-requires-in-Ok-InSub t c = within_in_sub c.args.ops.0 (c.args.size - 1) c.args.size c.args.k c.args.symbols.now c.args.counts.now c.variants.result c.variants.ensures (omega arith) c.requires.counted c.in-Ok-InSub.o (rw c.in-Ok-InSub.field-0-is at c.in-Ok-InSub.ensures)

pub two_of-chosen-requires-in-Ok-InnerJoin : goal.two_of-chosen-requires-in-Ok-InnerJoin
two_of-chosen-requires-in-Ok-InnerJoin t c = within_inner_join c.args.ops.0 (c.args.size - 1) c.args.size c.args.k c.args.symbols.now c.args.counts.now c.variants.result c.variants.ensures (omega arith) c.requires.counted c.in-Ok-InnerJoin.o (rw c.in-Ok-InnerJoin.field-0-is at c.in-Ok-InnerJoin.ensures)

pub two_of-chosen-requires-in-Ok-LeftJoin : goal.two_of-chosen-requires-in-Ok-LeftJoin
two_of-chosen-requires-in-Ok-LeftJoin t c = within_left_join c.args.ops.0 (c.args.size - 1) c.args.size c.args.k c.args.symbols.now c.args.counts.now c.variants.result c.variants.ensures (omega arith) c.requires.counted c.in-Ok-LeftJoin.o (rw c.in-Ok-LeftJoin.field-0-is at c.in-Ok-LeftJoin.ensures)

pub dest_of-requires-in-Ok-InnerJoin : goal.dest_of-requires-in-Ok-InnerJoin
dest_of-requires-in-Ok-InnerJoin t c =
    let place = (rw c.in-Ok-InnerJoin.field-0-is at c.in-Ok-InnerJoin.ensures).0 in (
      omega (arith, place.size),
      (
        counts_below c.args.ops.0 (c.args.size - 1) c.args.size c.args.k c.args.symbols.now c.args.counts.now c.variants.result c.variants.ensures (omega arith) c.requires.counted c.in-Ok-InnerJoin.o.left_size place.size,
        (omega (arith, place.size), exists_below c.args.ops.0 (c.args.size - 1) c.args.size c.args.k c.args.symbols.now c.args.counts.now c.variants.result c.variants.ensures (omega arith) c.requires.counted c.in-Ok-InnerJoin.o.left_size c.in-Ok-InnerJoin.o.left place.size place.left),
      ),
    )

pub dest_of-requires-in-Ok-InnerJoin-2 : goal.dest_of-requires-in-Ok-InnerJoin-2
dest_of-requires-in-Ok-InnerJoin-2 t c =
    let place = (rw c.in-Ok-InnerJoin.field-0-is at c.in-Ok-InnerJoin.ensures).0 in (
      omega arith,
      (
        counts_below c.args.ops.0 (c.args.size - 1) c.args.size c.args.k c.args.symbols.now c.args.counts.now c.variants.result c.variants.ensures (omega arith) c.requires.counted (c.args.size - 1 - c.in-Ok-InnerJoin.o.left_size) (omega arith),
        (omega arith, exists_below c.args.ops.0 (c.args.size - 1) c.args.size c.args.k c.args.symbols.now c.args.counts.now c.variants.result c.variants.ensures (omega arith) c.requires.counted (c.args.size - 1 - c.in-Ok-InnerJoin.o.left_size) c.in-Ok-InnerJoin.o.right (omega arith) place.right),
      ),
    )

pub dest_of-requires-in-Ok-LeftJoin : goal.dest_of-requires-in-Ok-LeftJoin
dest_of-requires-in-Ok-LeftJoin t c =
    let place = (rw c.in-Ok-LeftJoin.field-0-is at c.in-Ok-LeftJoin.ensures).0 in (
      omega (arith, place.size),
      (
        counts_below c.args.ops.0 (c.args.size - 1) c.args.size c.args.k c.args.symbols.now c.args.counts.now c.variants.result c.variants.ensures (omega arith) c.requires.counted c.in-Ok-LeftJoin.o.left_size place.size,
        (omega (arith, place.size), exists_below c.args.ops.0 (c.args.size - 1) c.args.size c.args.k c.args.symbols.now c.args.counts.now c.variants.result c.variants.ensures (omega arith) c.requires.counted c.in-Ok-LeftJoin.o.left_size c.in-Ok-LeftJoin.o.left place.size place.left),
      ),
    )

pub dest_of-requires-in-Ok-LeftJoin-2 : goal.dest_of-requires-in-Ok-LeftJoin-2
dest_of-requires-in-Ok-LeftJoin-2 t c =
    let place = (rw c.in-Ok-LeftJoin.field-0-is at c.in-Ok-LeftJoin.ensures).0 in (
      omega arith,
      (
        counts_below c.args.ops.0 (c.args.size - 1) c.args.size c.args.k c.args.symbols.now c.args.counts.now c.variants.result c.variants.ensures (omega arith) c.requires.counted (c.args.size - 1 - c.in-Ok-LeftJoin.o.left_size) (omega arith),
        (omega arith, exists_below c.args.ops.0 (c.args.size - 1) c.args.size c.args.k c.args.symbols.now c.args.counts.now c.variants.result c.variants.ensures (omega arith) c.requires.counted (c.args.size - 1 - c.in-Ok-LeftJoin.o.left_size) c.in-Ok-LeftJoin.o.right (omega arith) place.right),
      ),
    )

pub dest_of-requires-in-Ok-InSub-2 : goal.dest_of-requires-in-Ok-InSub-2
dest_of-requires-in-Ok-InSub-2 t c =
    let place = (rw c.in-Ok-InSub.field-0-is at c.in-Ok-InSub.ensures).0 in (
      omega arith,
      (
        counts_below c.args.ops.0 (c.args.size - 1) c.args.size c.args.k c.args.symbols.now c.args.counts.now c.variants.result c.variants.ensures (omega arith) c.requires.counted (c.args.size - 1 - c.in-Ok-InSub.o.left_size) (omega arith),
        (omega arith, exists_below c.args.ops.0 (c.args.size - 1) c.args.size c.args.k c.args.symbols.now c.args.counts.now c.variants.result c.variants.ensures (omega arith) c.requires.counted (c.args.size - 1 - c.in-Ok-InSub.o.left_size) c.in-Ok-InSub.o.right (omega arith) place.right),
      ),
    )

pub returns-in_ok-new-in-Ok-Proj : goal.returns-in_ok-new-in-Ok-Proj
returns-in_ok-new-in-Ok-Proj t c =
    rw c.one_of-a.ensures
    (found_proj c.args.ops.0 (c.args.size - 1) c.args.size c.args.k c.args.symbols.now c.args.counts.now c.variants.result c.variants.ensures (omega arith) c.requires.counted c.in-Ok-Proj.o (tree_of c.in_ok-new-in-Ok-Proj.field-0.value) (rw c.in-Ok-Proj.field-0-is at c.in-Ok-Proj.ensures) (search rules))

pub returns-in_ok-new-in-Ok-Filter : goal.returns-in_ok-new-in-Ok-Filter
returns-in_ok-new-in-Ok-Filter t c =
    rw (c.two_of-chosen.ensures.first, c.two_of-chosen.ensures.second)
    (found_filter c.args.ops.0 (c.args.size - 1) c.args.size c.args.k c.args.symbols.now c.args.counts.now c.variants.result c.variants.ensures (omega arith) c.requires.counted c.in-Ok-Filter.o (tree_of c.in_ok-new-in-Ok-Filter.field-0.value) (rw c.in-Ok-Filter.field-0-is at c.in-Ok-Filter.ensures) (search rules))

pub returns-in_ok-new-in-Ok-Dedup : goal.returns-in_ok-new-in-Ok-Dedup
returns-in_ok-new-in-Ok-Dedup t c =
    (found_dedup c.args.ops.0 (c.args.size - 1) c.args.size c.args.k c.args.symbols.now c.args.counts.now c.variants.result c.variants.ensures (omega arith) c.requires.counted c.in-Ok-Dedup.o (tree_of c.in_ok-new-in-Ok-Dedup.field-0.value) (rw c.in-Ok-Dedup.field-0-is at c.in-Ok-Dedup.ensures) (search rules))

pub returns-in_ok-new-in-Ok-InnerJoin : goal.returns-in_ok-new-in-Ok-InnerJoin
returns-in_ok-new-in-Ok-InnerJoin t c =
    rw (c.two_of-chosen-in-Ok-InnerJoin.ensures.first, c.two_of-chosen-in-Ok-InnerJoin.ensures.second)
    (found_inner_join c.args.ops.0 (c.args.size - 1) c.args.size c.args.k c.args.symbols.now c.args.counts.now c.variants.result c.variants.ensures (omega arith) c.requires.counted c.in-Ok-InnerJoin.o (tree_of c.in_ok-left-in-Ok-InnerJoin.left.value) (tree_of c.in_ok-new-in-Ok-InnerJoin.field-0.value) (rw c.in-Ok-InnerJoin.field-0-is at c.in-Ok-InnerJoin.ensures) (search rules) (search rules))

pub returns-in_ok-new-in-Ok-LeftJoin : goal.returns-in_ok-new-in-Ok-LeftJoin
returns-in_ok-new-in-Ok-LeftJoin t c =
    rw (c.two_of-chosen-in-Ok-LeftJoin.ensures.first, c.two_of-chosen-in-Ok-LeftJoin.ensures.second)
    (found_left_join c.args.ops.0 (c.args.size - 1) c.args.size c.args.k c.args.symbols.now c.args.counts.now c.variants.result c.variants.ensures (omega arith) c.requires.counted c.in-Ok-LeftJoin.o (tree_of c.in_ok-left-in-Ok-LeftJoin.left.value) (tree_of c.in_ok-new-in-Ok-LeftJoin.field-0.value) (rw c.in-Ok-LeftJoin.field-0-is at c.in-Ok-LeftJoin.ensures) (search rules) (search rules))

pub returns-in_ok-new-in-Ok-InSub : goal.returns-in_ok-new-in-Ok-InSub
returns-in_ok-new-in-Ok-InSub t c =
    rw c.one_of-a-in-Ok-InSub.ensures
    (found_in_sub c.args.ops.0 (c.args.size - 1) c.args.size c.args.k c.args.symbols.now c.args.counts.now c.variants.result c.variants.ensures (omega arith) c.requires.counted c.in-Ok-InSub.o (tree_of c.in_ok-left-in-Ok-InSub.left.value) (tree_of c.in_ok-new-in-Ok-InSub.field-0.value) (rw c.in-Ok-InSub.field-0-is at c.in-Ok-InSub.ensures) (search rules) (search rules))
