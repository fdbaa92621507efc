-- The rows of a side on an instance, by recursion on the side. A row has the name of its column at each value.
use Rattle.std.specs.Prelude.{◌≡◌, ◌==◌, ℕ, zero, suc, Bool, ◌&&◌, List, [], ◌∷◌, ◌++◌, map, filter, flat_map, if◌then◌else◌}
use Rattle.std.specs.List.{list_any}
use Rattle.std.specs.Cmp.Lexicographic.{pointwise}
use Rattle.wt_bag.specs.Bags.{distinct, Each}
use Rattle.wt_value.specs.declared.value.Value.{Value}
use Rattle.wt_value.specs.declared.value.Value.TheVariants.{Null}
use Rattle.wt_value.specs.Values.{Tuple, value_same, row_matches}
use Rattle.wt_symbol.specs.Sides.{SideTree, input, proj, filtered, inner_join, left_join, in_sub, dedup}
use Rattle.wt_symbol.specs.Heads.{anchor}
use Rattle.wt_instance.specs.declared.instance.Instance.{Instance}
use Rattle.wt_instance.specs.declared.named.Column.{Column}
use Rattle.wt_instance.specs.declared.named.Cell.{Cell}
use Rattle.wt_instance.specs.Instances.{width, table, numbers, is_true}

-- the column of a leaf with this number
abbrev pub column : ℕ → ℕ → Column
column r n = record { leaf = r; number = n }

-- a value under the name of its column
abbrev pub cell : ℕ → ℕ → Value → Cell
cell r n v = record { column = column r n; value = v }

-- a row with the names of its columns
abbrev pub Named : Type 0
Named = List Cell

-- the row without the names
abbrev pub values : Named → Tuple
values row = map (λ (c : Cell). c.value) row

-- the names of its columns
abbrev pub names : Named → List Column
names row = map (λ (c : Cell). c.column) row

-- the value at the first place of the name, NULL where there is none
abbrev pub value_at : Named → ℕ → ℕ → Value
value_at [] r n = Null
value_at (c ∷ row) r n = if (c.column.leaf == r) && (c.column.number == n) then c.value else value_at row r n

-- the values of a list symbol in a row: those of its numbers at its anchor
abbrev pub values_at : List ℕ → Instance → ℕ → Named → Tuple
values_at A I a row = map (value_at row (anchor A a)) (numbers I a)

-- the same, under the names
abbrev pub cells_at : List ℕ → Instance → ℕ → Named → Named
cells_at A I a row = map (λ n. cell (anchor A a) n (value_at row (anchor A a) n)) (numbers I a)

-- a row of a leaf, its columns named from number n on
abbrev pub named : ℕ → ℕ → Tuple → Named
named r n [] = []
named r n (v ∷ row) = cell r n v ∷ named r (suc n) row

-- so many columns of a leaf from number n on
abbrev pub leaf_columns : ℕ → ℕ → ℕ → List Column
leaf_columns r n zero = []
leaf_columns r n (suc k) = column r n ∷ leaf_columns r (suc n) k

-- the columns of a side's rows
abbrev pub columns_of : SideTree → List ℕ → Instance → List Column
columns_of (input r) A I = leaf_columns r 0 (width I r)
columns_of (proj a s) A I = map (column (anchor A a)) (numbers I a)
columns_of (filtered p a s) A I = columns_of s A I
columns_of (inner_join a b s t) A I = columns_of s A I ++ columns_of t A I
columns_of (left_join a b s t) A I = columns_of s A I ++ columns_of t A I
columns_of (in_sub a s t) A I = columns_of s A I
columns_of (dedup s) A I = columns_of s A I

-- a NULL for each of some columns
abbrev pub nulls : List Column → Named
nulls columns = map (λ (c : Column). record { column = c; value = Null }) columns

-- a left row with each right row that it matches, by list a on the left and list b on the right
abbrev pub joined : List ℕ → Instance → ℕ → ℕ → Named → List Named → List Named
joined A I a b left rights = map (λ right. left ++ right) (filter (λ right. row_matches (values_at A I a left) (values_at A I b right)) rights)

-- a left row's joined rows; where there are none, the row with NULLs for the right columns
abbrev pub or_nulls : Named → List Column → List Named → List Named
or_nulls left columns [] = (left ++ nulls columns) ∷ []
or_nulls left columns (row ∷ rows) = row ∷ rows

-- the same names, and the same values with NULL the same as NULL
abbrev pub named_same : Named → Named → Bool
named_same = pointwise (λ (c d : Cell). ((c.column.leaf == d.column.leaf) && (c.column.number == d.column.number)) && value_same c.value d.value)

-- the rows of a side with their names
abbrev pub named_rows : SideTree → List ℕ → Instance → List Named
named_rows (input r) A I = map (named r 0) (table I r)
named_rows (proj a s) A I = map (cells_at A I a) (named_rows s A I)
named_rows (filtered p a s) A I = filter (λ row. is_true I p (values_at A I a row)) (named_rows s A I)
named_rows (inner_join a b s t) A I = flat_map (λ left. joined A I a b left (named_rows t A I)) (named_rows s A I)
named_rows (left_join a b s t) A I = flat_map (λ left. or_nulls left (columns_of t A I) (joined A I a b left (named_rows t A I))) (named_rows s A I)
named_rows (in_sub a s t) A I = filter (λ left. list_any (λ right. row_matches (values_at A I a left) (values right)) (named_rows t A I)) (named_rows s A I)
named_rows (dedup s) A I = distinct named_same (named_rows s A I)

-- the rows of a side
abbrev pub rows_of : SideTree → List ℕ → Instance → List Tuple
rows_of s A I = map values (named_rows s A I)

-- each row has the columns of the side
abbrev pub HaveColumns : SideTree → List ℕ → Instance → Type 0
HaveColumns s A I = Each (λ row. names row ≡ columns_of s A I) (named_rows s A I)
