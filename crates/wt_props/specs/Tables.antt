-- Columns of a table that are declared without NULL.
use Rattle.std.specs.Prelude.{◌&&◌, ◌||◌, ℕ, Bool, false, Option, Some, None, List, slice_get}
use Rattle.std.specs.List.{list_any}
use Rattle.wt_schema.specs.declared.schema.Column.{Column}
use Rattle.wt_schema.specs.declared.schema.Key.{Key}
use Rattle.wt_schema.specs.declared.schema.Table.{Table}
use Rattle.wt_known.specs.Sets.{is_in}

abbrev pub says_not_null : Option Column → Bool
says_not_null (Some column) = column.not_null
says_not_null None = false

abbrev pub declared_at : List Column → ℕ → Bool
declared_at columns c = says_not_null (slice_get columns c)

abbrev pub in_primary : List Key → ℕ → Bool
in_primary keys c = list_any (λ (key : Key). key.primary && is_in c key.columns) keys

abbrev pub has_no_null : Option Table → ℕ → Bool
has_no_null (Some t) c = declared_at t.columns c || in_primary t.keys c
has_no_null None c = false

-- the column of the table of a number is declared NOT NULL or stands in its primary key
abbrev pub without_null : List Table → ℕ → ℕ → Bool
without_null S number c = has_no_null (slice_get S number) c
