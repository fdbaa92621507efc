use Rattle.std.proofs.Common.{arith, rules}
use Rattle.wt_symbol.specs.Sides.{tree_of}
use Rattle.wt_symbol.proofs.SymbolLemmas.{source_small, source_anchored, dest_small, dest_anchored, weight-le, weight_fault}
use Rattle.wt_symbol.proofs.fault.first_fault.Goals as goal

pub is_standing-requires-clause-leaves : goal.is_standing-requires-clause-leaves
is_standing-requires-clause-leaves c = source_small (record { source = tree_of c.args.source.now; dest = tree_of c.args.dest.now; anchors = c.args.anchors.now }) (search rules) (omega arith)

pub is_standing-requires-clause-lists : goal.is_standing-requires-clause-lists
is_standing-requires-clause-lists c = source_anchored (record { source = tree_of c.args.source.now; dest = tree_of c.args.dest.now; anchors = c.args.anchors.now }) (search rules)

pub is_standing-requires-else-not-is_standing-clause-leaves : goal.is_standing-requires-else-not-is_standing-clause-leaves
is_standing-requires-else-not-is_standing-clause-leaves c = dest_small (record { source = tree_of c.args.source.now; dest = tree_of c.args.dest.now; anchors = c.args.anchors.now }) (search rules) (omega arith)

pub is_standing-requires-else-not-is_standing-clause-lists : goal.is_standing-requires-else-not-is_standing-clause-lists
is_standing-requires-else-not-is_standing-clause-lists c = dest_anchored (record { source = tree_of c.args.source.now; dest = tree_of c.args.dest.now; anchors = c.args.anchors.now }) (search rules)

pub returns-then-weight : goal.returns-then-weight
returns-then-weight c =
    weight_fault (record { source = tree_of c.args.source.now; dest = tree_of c.args.dest.now; anchors = c.args.anchors.now }) (search rules) (omega arith) (omega arith)
    (search rules) (omega (arith, weight-le (tree_of c.args.source.now), weight-le (tree_of c.args.dest.now)))
