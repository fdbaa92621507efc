-- A reference of the schema with just these pairs of columns.
use Rattle.std.specs.Prelude.{◌&&◌, ◌==◌, ℕ, Bool, List}
use Rattle.std.specs.List.{list_any}
use Rattle.wt_schema.specs.declared.schema.Reference.{Reference}
use Rattle.wt_schema.specs.declared.schema.Table.{Table}
use Rattle.wt_known.specs.Sets.{pairs_within}
use Rattle.wt_known.specs.Facts.{table_of}

abbrev pub is_by : Reference → ℕ → List ℕ → List ℕ → Bool
is_by r u xs ys = (r.table == u) && (pairs_within xs ys r.columns r.target && pairs_within r.columns r.target xs ys)

abbrev pub has_reference : List Table → ℕ → ℕ → List ℕ → List ℕ → Bool
has_reference S t u xs ys = list_any (λ (r : Reference). is_by r u xs ys) (table_of S t).references
