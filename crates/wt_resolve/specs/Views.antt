-- The names of an item's columns, without where they stand.
use Rattle.std.specs.Prelude.{ℕ, List}
use Rattle.wt_query_rows.specs.Scopes.{column_names}
use Rattle.wt_resolve.specs.declared.lookup.ItemNames.{ItemNames}
use Rattle.wt_resolve.specs.declared.lookup.ItemNames.TheVariants.{OfTable, Own}

abbrev pub names_of : ItemNames → List (List ℕ)
names_of (OfTable columns) = column_names columns.now
names_of (Own names) = names
