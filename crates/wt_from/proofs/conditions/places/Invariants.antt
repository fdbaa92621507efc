use Rattle.std.proofs.Common.{◌≡◌, ◌++◌, map, length}
use Rattle.wt_query_plan.specs.Building as spec
use Rattle.wt_query_plan.specs.Faults as faults
use Rattle.wt_resolve.specs.Scoping.{outside, inside}
use Rattle.wt_from.proofs.conditions.places.Given as goal

abbrev pub invariant-columns : goal.invariant-columns
invariant-columns l = record {
  fault_left : faults.columns_fault (outside l.scope) (inside l.scope) l.rest ≡ faults.columns_fault (outside l.scope) (inside l.scope) l.fn.columns;
  so_far : l.found ++ map (spec.place_of (inside l.scope)) l.rest ≡ map (spec.place_of (inside l.scope)) l.fn.columns;
}

abbrev pub decreases-columns : goal.decreases-columns
decreases-columns l = length l.rest
