use Rattle.std.proofs.Common.{◌≡◌, ◌++◌, map, take}
use Rattle.wt_schema.specs.declared.schema.Column as declared
use Rattle.wt_sources.proofs.sources.push_kinds.Given as goal

abbrev pub invariant-loop-column : goal.invariant-loop-column
invariant-loop-column l = l.out.items ≡ l.fn.out.items ++ map (λ (c : declared.Column). c.kind) (take l.column-index l.columns)
