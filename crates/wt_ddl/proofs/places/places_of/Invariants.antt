use Rattle.std.proofs.Common.{◌≡◌, ◌-◌, ◌++◌, ◌≤◌, length, drop}
use Rattle.std.specs.Prelude.{map}
use Rattle.wt_ddl.specs.Places.{primary_place}
use Rattle.wt_ddl.proofs.places.places_of.Given as goal

abbrev pub invariant-tables : goal.invariant-tables
invariant-tables l = record {
  exact : map (λ p. p.primary) l.all.items ++ map (λ t. primary_place t.keys) (drop l.i l.tables) ≡ map (λ t. primary_place t.keys) l.tables;
  within : l.i ≤ length l.tables;
}

abbrev pub decreases-tables : goal.decreases-tables
decreases-tables l = length l.tables - l.i
