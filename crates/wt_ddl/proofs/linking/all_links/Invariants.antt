use Rattle.std.proofs.Common.{◌≡◌, ◌-◌, ◌≤◌, length, drop, []}
use Rattle.wt_ddl.specs.Linking.{link_table}
use Rattle.wt_ddl.specs.Settling.{in_turn}
use Rattle.wt_ddl.proofs.linking.all_links.Given as goal

abbrev pub invariant-tables : goal.invariant-tables
invariant-tables l = record {
  exact : in_turn (link_table l.tables) l.done (drop l.i l.tables) ≡ in_turn (link_table l.tables) [] l.tables;
  within : l.i ≤ length l.tables;
}

abbrev pub decreases-tables : goal.decreases-tables
decreases-tables l = length l.tables - l.i
