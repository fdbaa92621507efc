use Rattle.std.proofs.Common.{rules, ◌≡◌, ◌∷◌}
use Rattle.std.specs.Vec.Iter.{into_iter_items}
use Rattle.wt_instance.proofs.NamedRows.{distinct_begins, distinct_goes_on, passed_on}
use Rattle.wt_instance.proofs.operator.distinct_rows.Goals as goal

pub loop-row-init : goal.loop-row-init
loop-row-init c = record {
  seen = search rules;
  kept = distinct_begins _ _ _ c.new-kept.ensures (search rules);
}

pub loop-row-preserved : goal.loop-row-preserved
loop-row-preserved c =
    let split : into_iter_items c.loop-row.row-iterator ≡ c.in-Some.row ∷ into_iter_items c.next.new.self = search rules in
    record {
      seen = passed_on _ _ _ _ _ split c.loop-row.invariant.seen;
      kept = distinct_goes_on _ _ c.loop-row.yielded _ _ _ c.in-Some.row split c.loop-row.invariant.seen c.in_ok-keep.ensures c.loop-row.invariant.kept;
    }
