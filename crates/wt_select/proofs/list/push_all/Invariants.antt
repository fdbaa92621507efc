use Rattle.std.proofs.Common.{◌≡◌, ◌++◌, take}
use Rattle.std.specs.Prelude.{flat_map}
use Rattle.wt_resolve.specs.declared.lookup.ScopeItem.{ScopeItem}
use Rattle.wt_select.proofs.list.push_all.Given as goal

abbrev pub invariant-loop-item : goal.invariant-loop-item
invariant-loop-item l = l.out.items ≡ l.fn.out.items ++ flat_map (λ (i : ScopeItem). i.names) (take l.item-index l.items)
