use Rattle.std.proofs.Common.{◌≡◌, ◌++◌}
use Rattle.std.specs.Prelude.{reverse}
use Rattle.std.specs.Vec.Iter.{into_iter_items}
use Rattle.wt_ddl.specs.Linking.{all_with_links}
use Rattle.wt_ddl.proofs.linking.all_with_links.Given as goal

abbrev pub invariant-loop-table : goal.invariant-loop-table
invariant-loop-table l = l.all ++ all_with_links (into_iter_items l.table-iterator) (reverse l.left.items) ≡ all_with_links l.fn.tables l.fn.links
