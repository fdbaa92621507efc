-- Tables and columns by name.
use Rattle.std.specs.Prelude.{◌≢◌, position, ℕ, List, Option}
use Rattle.std.specs.List.{AllPairs}
use Rattle.std.specs.Str.{bytes_eq}
use Rattle.wt_schema.specs.declared.schema.Column.{Column}
use Rattle.wt_schema.specs.declared.schema.Table.{Table}

-- the number of the first column of a name
abbrev pub column_number : List Column → List ℕ → Option ℕ
column_number columns name = position (λ c. bytes_eq c.name name) columns

-- the number of the first table of a name
abbrev pub table_number : List Table → List ℕ → Option ℕ
table_number tables name = position (λ t. bytes_eq t.name name) tables

-- no two have the same name, as in every schema
abbrev pub ColumnsDiffer : List Column → Type 0
ColumnsDiffer columns = AllPairs (λ a b. a.name ≢ b.name) columns

abbrev pub TablesDiffer : List Table → Type 0
TablesDiffer tables = AllPairs (λ a b. a.name ≢ b.name) tables
