-- When a database satisfies a schema.
use Rattle.std.specs.Prelude.{◌≡◌, ◌≢◌, ℕ, ◌<◌, true, List, [], ◌∷◌, length, slice_index_or}
use Rattle.std.specs.List.{All, AllPairs, Any}
use Rattle.wt_value.specs.declared.value.Value.{Value}
use Rattle.wt_value.specs.declared.value.Value.TheVariants as values
use Rattle.wt_value.specs.Values.{Tuple, Matches, HasNoNull, pick}
use Rattle.wt_schema.specs.declared.schema.ColKind.{ColKind}
use Rattle.wt_schema.specs.declared.schema.ColKind.TheVariants as kinds
use Rattle.wt_schema.specs.declared.schema.Column.{Column}
use Rattle.wt_schema.specs.declared.schema.Key.{Key}
use Rattle.wt_schema.specs.declared.schema.Reference.{Reference}
use Rattle.wt_schema.specs.declared.schema.Table.{Table}

-- a value is NULL or of the kind
abbrev pub IsOf : ColKind → Value → Type 0
IsOf kind values.Null = Unit {0}
IsOf kinds.Int (values.Int n) = Unit {0}
IsOf kinds.Text (values.Text t) = Unit {0}
IsOf _ _ = ⊥

abbrev pub ValueFits : Column → Value → Type 0
ValueFits column v = IsOf column.kind v × (column.not_null ≡ true → v ≢ values.Null)

-- a row has one value for each column, of its kind, and none is NULL where NOT NULL stands
abbrev pub RowFits : List Column → Tuple → Type 0
RowFits [] [] = Unit {0}
RowFits (column ∷ columns) (v ∷ row) = ValueFits column v × RowFits columns row
RowFits _ _ = ⊥

-- two rows do not match at these columns; rows with a NULL there match nothing
abbrev pub Differ : List ℕ → Tuple → Tuple → Type 0
Differ columns a b = Matches (pick columns a) (pick columns b) → ⊥

-- a primary key has no NULL, and no two rows match at a key
abbrev pub KeyHolds : List Tuple → Key → Type 0
KeyHolds rows key =
    (key.primary ≡ true → All (λ row. HasNoNull (pick key.columns row)) rows) × AllPairs (Differ key.columns) rows

-- where a row has no NULL at the reference's columns, a row of the target matches it
abbrev pub Refers : Reference → List Tuple → Tuple → Type 0
Refers r targets row = HasNoNull (pick r.columns row) → Any (λ target. Matches (pick r.columns row) (pick r.target target)) targets

abbrev pub ReferenceHolds : List Tuple → List Tuple → Reference → Type 0
ReferenceHolds rows targets r = All (Refers r targets) rows

-- the rows of the table of a number, none where there is no such table
abbrev pub rows_of : List (List Tuple) → ℕ → List Tuple
rows_of base n = slice_index_or base n []

pub record TableHolds (base : List (List Tuple)) (t : Table) (rows : List Tuple) : Type 0 where
  pub rows_fit : All (RowFits t.columns) rows
  pub keys_hold : All (KeyHolds rows) t.keys
  pub references_hold : All (λ r. ReferenceHolds rows (rows_of base r.table) r) t.references

-- each table's rows are as it says
abbrev pub AllHold : List Table → List (List Tuple) → Type 0
AllHold tables base = (k : ℕ) (t : Table) → k < length tables → TableHolds base (slice_index_or tables k t) (rows_of base k)

-- a list of rows for each table, which are as it says
pub record Satisfies (tables : List Table) (base : List (List Tuple)) : Type 0 where
  pub equally_many : length base ≡ length tables
  pub each : AllHold tables base
