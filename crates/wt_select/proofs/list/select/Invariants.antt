use Rattle.std.proofs.Common.{◌≡◌, ◌++◌, length}
use Rattle.std.specs.Prelude.{flat_map}
use Rattle.wt_query_rows.specs.Scopes.{item_names}
use Rattle.wt_query_plan.specs.Building.{item_places}
use Rattle.wt_query_plan.specs.Faults.{items_fault, item_kinds}
use Rattle.wt_resolve.specs.Scoping.{outside, inside}
use Rattle.wt_select.proofs.list.select.Given as goal

abbrev pub invariant-items : goal.invariant-items
invariant-items l = record {
  fault : items_fault (outside l.scope) (inside l.scope) l.scope.kinds.now (length l.selected.kinds.items) l.rest ≡ items_fault (outside l.scope) (inside l.scope) l.scope.kinds.now 0 l.items;
  names : l.selected.names.items ++ flat_map (item_names (inside l.scope)) l.rest ≡ flat_map (item_names (inside l.scope)) l.items;
  kinds : l.selected.kinds.items ++ flat_map (item_kinds (inside l.scope) l.scope.kinds.now) l.rest ≡ flat_map (item_kinds (inside l.scope) l.scope.kinds.now) l.items;
  places : l.selected.places.items ++ flat_map (item_places (inside l.scope)) l.rest ≡ flat_map (item_places (inside l.scope)) l.items;
}

abbrev pub decreases-items : goal.decreases-items
decreases-items l = length l.rest
