use Rattle.std.proofs.Common.{◌≡◌, ◌++◌, take}
use Rattle.std.specs.Prelude.{flat_map}
use Rattle.wt_query_rows.specs.Scopes.{item_names}
use Rattle.wt_resolve.proofs.enclosing.push_item_names.Given as goal

abbrev pub invariant-loop-item : goal.invariant-loop-item
invariant-loop-item l = l.out.items ≡ l.fn.out.items ++ flat_map (item_names l.scope) (take l.item-index l.items)
