use Rattle.std.proofs.Common.{◌≡◌, ◌-◌, ◌≤◌, length, drop, []}
use Rattle.wt_ddl.specs.Linking.{link_one}
use Rattle.wt_ddl.specs.Settling.{in_turn}
use Rattle.wt_ddl.proofs.linking.table_links.Given as goal

abbrev pub invariant-references : goal.invariant-references
invariant-references l = record {
  exact : in_turn (link_one l.tables l.columns) l.done (drop l.i l.unlinked) ≡ in_turn (link_one l.tables l.columns) [] l.unlinked;
  within : l.i ≤ length l.unlinked;
}

abbrev pub decreases-references : goal.decreases-references
decreases-references l = length l.unlinked - l.i
