-- Where columns come from, as the program keeps it.
use Rattle.std.specs.Prelude.{Option, Some, None}
use Rattle.wt_known.specs.Facts as facts
use Rattle.wt_props.specs.declared.origins.Origin.{Origin}

abbrev pub origin_of : Option Origin → facts.Origin
origin_of (Some o) = facts.from_table o.table o.columns
origin_of None = facts.nowhere
