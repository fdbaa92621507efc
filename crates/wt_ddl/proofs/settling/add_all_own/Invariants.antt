use Rattle.std.proofs.Common.{◌≡◌, ◌++◌, Ok}
use Rattle.std.specs.Vec.Iter.{into_iter_items}
use Rattle.wt_ddl.specs.Settling.{in_turn, add_own}
use Rattle.wt_ddl.proofs.settling.add_all_own.Given as goal

abbrev pub invariant-loop-rule : goal.invariant-loop-rule
invariant-loop-rule l = record {
  exact : in_turn (add_own l.fn.named) l.fn.table l.yielded ≡ Ok l.table;
  split : l.yielded ++ into_iter_items l.rule-iterator ≡ l.fn.rules.items;
  columns : l.table.columns ≡ l.fn.table.columns;
}
