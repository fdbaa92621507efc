use Rattle.std.proofs.Common.{◌≡◌, ◌++◌, Ok}
use Rattle.std.specs.Vec.Iter.{into_iter_items}
use Rattle.wt_ddl.specs.Settling.{in_turn, add_element}
use Rattle.wt_ddl.proofs.settling.add_elements.Given as goal

abbrev pub invariant-loop-element : goal.invariant-loop-element
invariant-loop-element l = record {
  exact : in_turn add_element l.fn.table l.yielded ≡ Ok l.table;
  split : l.yielded ++ into_iter_items l.element-iterator ≡ l.fn.elements.items;
  columns : l.table.columns ≡ l.fn.table.columns;
}
