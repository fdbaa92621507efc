use Rattle.std.proofs.Common.{◌-◌, arith, rules}
use Rattle.wt_template.specs.Shapes.{shape_of}
use Rattle.wt_template.proofs.TemplateLemmas.{not_past, found_proj, found_filter, found_inner_join, found_left_join, found_in_sub, found_dedup}
use Rattle.wt_template.proofs.+template_of.Goals as goal

pub unreachable-requires : goal.unreachable-requires
unreachable-requires t c =
    not_past c.args.ops.0 (c.args.size - 1) c.args.size c.args.k c.args.counts.now c.variants.result c.variants.ensures (omega arith)
    c.requires.counted c.in-Err.field-0 c.in-Err.ensures c.requires.exists

pub returns-in_ok-new-in-Ok-Proj : goal.returns-in_ok-new-in-Ok-Proj
returns-in_ok-new-in-Ok-Proj t c =
    found_proj c.args.ops.0 (c.args.size - 1) c.args.size c.args.k c.args.counts.now c.variants.result c.variants.ensures (omega arith)
    c.requires.counted c.in-Ok-Proj.o (shape_of c.in_ok-new-in-Ok-Proj.field-0.value) (rw c.in-Ok-Proj.field-0-is at c.in-Ok-Proj.ensures)
    (search rules)

pub returns-in_ok-new-in-Ok-Filter : goal.returns-in_ok-new-in-Ok-Filter
returns-in_ok-new-in-Ok-Filter t c =
    found_filter c.args.ops.0 (c.args.size - 1) c.args.size c.args.k c.args.counts.now c.variants.result c.variants.ensures (omega arith)
    c.requires.counted c.in-Ok-Filter.o (shape_of c.in_ok-new-in-Ok-Filter.field-0.value) (rw c.in-Ok-Filter.field-0-is at c.in-Ok-Filter.ensures)
    (search rules)

pub returns-in_ok-new-in-Ok-Dedup : goal.returns-in_ok-new-in-Ok-Dedup
returns-in_ok-new-in-Ok-Dedup t c =
    found_dedup c.args.ops.0 (c.args.size - 1) c.args.size c.args.k c.args.counts.now c.variants.result c.variants.ensures (omega arith)
    c.requires.counted c.in-Ok-Dedup.o (shape_of c.in_ok-new-in-Ok-Dedup.field-0.value) (rw c.in-Ok-Dedup.field-0-is at c.in-Ok-Dedup.ensures)
    (search rules)

pub returns-in_ok-new-in-Ok-InnerJoin : goal.returns-in_ok-new-in-Ok-InnerJoin
returns-in_ok-new-in-Ok-InnerJoin t c =
    found_inner_join c.args.ops.0 (c.args.size - 1) c.args.size c.args.k c.args.counts.now c.variants.result c.variants.ensures (omega arith)
    c.requires.counted c.in-Ok-InnerJoin.o (shape_of c.in_ok-left-in-Ok-InnerJoin.left.value) (shape_of c.in_ok-new-in-Ok-InnerJoin.field-0.value)
    (rw c.in-Ok-InnerJoin.field-0-is at c.in-Ok-InnerJoin.ensures)
    (search rules)
    (search rules)

pub returns-in_ok-new-in-Ok-LeftJoin : goal.returns-in_ok-new-in-Ok-LeftJoin
returns-in_ok-new-in-Ok-LeftJoin t c =
    found_left_join c.args.ops.0 (c.args.size - 1) c.args.size c.args.k c.args.counts.now c.variants.result c.variants.ensures (omega arith)
    c.requires.counted c.in-Ok-LeftJoin.o (shape_of c.in_ok-left-in-Ok-LeftJoin.left.value) (shape_of c.in_ok-new-in-Ok-LeftJoin.field-0.value)
    (rw c.in-Ok-LeftJoin.field-0-is at c.in-Ok-LeftJoin.ensures)
    (search rules)
    (search rules)

pub returns-in_ok-new-in-Ok-InSub : goal.returns-in_ok-new-in-Ok-InSub
returns-in_ok-new-in-Ok-InSub t c =
    found_in_sub c.args.ops.0 (c.args.size - 1) c.args.size c.args.k c.args.counts.now c.variants.result c.variants.ensures (omega arith)
    c.requires.counted c.in-Ok-InSub.o (shape_of c.in_ok-left-in-Ok-InSub.left.value) (shape_of c.in_ok-new-in-Ok-InSub.field-0.value)
    (rw c.in-Ok-InSub.field-0-is at c.in-Ok-InSub.ensures)
    (search rules)
    (search rules)
