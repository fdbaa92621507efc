-- Looking up the kind of one column of a plan, and comparing kinds.
use Rattle.std.specs.Prelude.{◌≡◌, ◌+◌, ◌^◌, ◌<◌, ◌≤◌, ◌&&◌, ℕ, Bool, true, false, Option, Some, None, Result, Ok, Err, List, [], ◌∷◌, length}
use Rattle.wt_schema.specs.declared.schema.ColKind.{ColKind}
use Rattle.wt_schema.specs.declared.schema.ColKind.TheVariants.{Int, Text}
use Rattle.wt_schema.specs.declared.schema.Table.{Table}
use Rattle.wt_plan.specs.Regular.{kind_at, column_kinds}

abbrev pub kind_same : ColKind → ColKind → Bool
kind_same Int Int = true
kind_same Int Text = false
kind_same Text Int = false
kind_same Text Text = true

abbrev pub all_same : List ColKind → List ColKind → Bool
all_same [] [] = true
all_same [] (y ∷ ys) = false
all_same (x ∷ xs) [] = false
all_same (x ∷ xs) (y ∷ ys) = kind_same x y && all_same xs ys

-- the kinds of the columns of a table, none where there is no table
abbrev pub kinds_of : Option Table → List ColKind
kinds_of (Some t) = column_kinds t.columns
kinds_of None = []

-- the kind at the place, or how many kinds there are where the place is past the last
abbrev pub Finds : List ColKind → ℕ → Result ColKind ℕ → Type 0
Finds kinds place (Ok kind) = (place < length kinds) × (kind ≡ kind_at kinds place)
Finds kinds place (Err n) = (n ≡ length kinds) × (n ≤ place)

abbrev pub kind_or_int : Result ColKind ℕ → ColKind
kind_or_int (Ok kind) = kind
kind_or_int (Err n) = Int

-- what was found behind so many columns
abbrev pub wider : ℕ → Result ColKind ℕ → Result ColKind ℕ
wider width (Ok kind) = Ok kind
wider width (Err n) = Err (width + n)

abbrev pub HasRoom : ℕ → Result ColKind ℕ → Type 0
HasRoom width (Ok kind) = Unit {0}
HasRoom width (Err n) = width + n < 2 ^ 64
