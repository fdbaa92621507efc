-- Values and rows: when two are the same, and when they match.
use Rattle.std.specs.Prelude.{◌≡◌, ◌≢◌, ℕ, List, map, slice_index_or, Bool, true, false}
use Rattle.std.specs.Ordering.{int_eq}
use Rattle.std.specs.Str.{bytes_eq}
use Rattle.std.specs.Cmp.Lexicographic.{pointwise}
use Rattle.wt_bag.specs.Bags.{OneBag, Each, count_of, distinct}
use Rattle.wt_value.specs.declared.value.Value.{Value}
use Rattle.wt_value.specs.declared.value.Value.TheVariants.{Null, Int, Text}

-- a row is the list of its values
abbrev pub Tuple : Type 0
Tuple = List Value

-- the value of a row at a place, NULL past its end
abbrev pub value_at : Tuple → ℕ → Value
value_at row place = slice_index_or row place Null

-- the values of a row at these places
abbrev pub pick : List ℕ → Tuple → Tuple
pick places row = map (value_at row) places

-- no value is NULL
abbrev pub HasNoNull : Tuple → Type 0
HasNoNull row = Each (λ v. v ≢ Null) row

-- the rows have the same length, no NULL, and equal values place by place
abbrev pub Matches : Tuple → Tuple → Type 0
Matches a b = (a ≡ b) × HasNoNull a

-- whether two values are one, NULL being the same as NULL
abbrev pub value_same : Value → Value → Bool
value_same Null Null = true
value_same (Int x) (Int y) = int_eq x y
value_same (Text s) (Text t) = bytes_eq s t
value_same _ _ = false

-- whether two values are equal, NULL being equal to nothing
abbrev pub value_matches : Value → Value → Bool
value_matches Null _ = false
value_matches (Int x) w = value_same (Int x) w
value_matches (Text s) w = value_same (Text s) w

-- the same length, and the same value at each place
abbrev pub row_same : Tuple → Tuple → Bool
row_same = pointwise value_same

-- `Matches` as a test: the same length, and equal values at each place
abbrev pub row_matches : Tuple → Tuple → Bool
row_matches = pointwise value_matches

-- how often the row occurs, NULL being the same as NULL
abbrev pub occurrences : List Tuple → Tuple → ℕ
occurrences = count_of row_same

-- every row occurs equally often in both
abbrev pub IsOneBag : List Tuple → List Tuple → Type 0
IsOneBag = OneBag row_same

-- the first of each group of equal rows, in order
abbrev pub distinct_rows : List Tuple → List Tuple
distinct_rows = distinct row_same
