-- What every schema keeps.
use Rattle.std.specs.Prelude.{◌≡◌, ◌≢◌, ℕ, zero, suc, ◌<◌, ◌≤◌, true, List, [], ◌∷◌, length}
use Rattle.std.specs.List.{All, AllPairs}
use Rattle.std.specs.Str.{is_utf8}
use Rattle.std.proofs.Props.{props}
use Rattle.wt_schema.specs.declared.schema.Column.{Column}
use Rattle.wt_schema.specs.declared.schema.Key.{Key}
use Rattle.wt_schema.specs.declared.schema.Reference.{Reference}
use Rattle.wt_schema.specs.declared.schema.Table.{Table}

-- a name is UTF-8 and not empty
abbrev pub IsName : List ℕ → Type 0
IsName name = (is_utf8 name ≡ true) × (0 < length name)

-- how many columns the table of a number has, 0 where there is none
abbrev pub width_of : List Table → ℕ → ℕ
width_of [] n = 0
width_of (t ∷ ts) zero = length t.columns
width_of (t ∷ ts) (suc n) = width_of ts n

-- 1 to 64 columns with different names
pub record HasColumns (columns : List Column) : Type 0 where
  pub some : 1 ≤ length columns
  pub few : length columns ≤ 64
  pub differ : AllPairs (λ a b. a.name ≢ b.name) columns
  pub named : All (λ c. IsName c.name) columns

-- at least one column, each one of the table's
pub record IsKey (width : ℕ) (key : Key) : Type 0 where
  pub some : 1 ≤ length key.columns
  pub within : All (λ c. c < width) key.columns

-- at least one column and as many target columns, each one of its table's, which is there
pub record IsReference (tables : List Table) (width : ℕ) (r : Reference) : Type 0 where
  pub some : 1 ≤ length r.columns
  pub equally_many : length r.target ≡ length r.columns
  pub within : All (λ c. c < width) r.columns
  pub table : r.table < length tables
  pub target : All (λ c. c < width_of tables r.table) r.target

pub record IsTable (tables : List Table) (t : Table) : Type 0 where
  pub name : IsName t.name
  pub columns : HasColumns t.columns
  pub keys : All (IsKey (length t.columns)) t.keys
  pub references : All (IsReference tables (length t.columns)) t.references

pub record IsSchema (tables : List Table) : Type 0 where
  pub few : length tables ≤ 256
  pub differ : AllPairs (λ a b. a.name ≢ b.name) tables
  pub each : All (IsTable tables) tables

pub IsSchema-prop : (tables : List Table) → IsProp (IsSchema tables)
IsSchema-prop tables = hlevel props
