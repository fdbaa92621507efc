-- What the rows of a side come to as a bag: a LeftJoin by its InnerJoin, and a side by its tables.
use Rattle.std.specs.Prelude.{ℕ, Bool, not, List, ◌++◌, map, filter}
use Rattle.std.specs.List.{list_any}
use Rattle.wt_value.specs.Values.{Tuple, row_matches}
use Rattle.wt_symbol.specs.Sides.{SideTree}
use Rattle.wt_instance.specs.declared.instance.Instance.{Instance}
use Rattle.wt_instance.specs.Rows.{Named, values_at, columns_of, nulls, named_rows}

-- a left row matches a right row, by list a on the left and list b on the right
abbrev pub matching : List ℕ → Instance → ℕ → ℕ → Named → Named → Bool
matching A I a b left right = row_matches (values_at A I a left) (values_at A I b right)

-- the rows of side s that no row of side t matches, with NULLs for the columns of t
abbrev pub unmatched_rows : List ℕ → Instance → ℕ → ℕ → SideTree → SideTree → List Named
unmatched_rows A I a b s t = map (λ left. left ++ nulls (columns_of t A I)) (filter (λ left. not (list_any (matching A I a b left) (named_rows t A I))) (named_rows s A I))

-- the instance with other rows in its tables
abbrev pub with_tables : Instance → List (List Tuple) → Instance
with_tables I tables = record { widths = I.widths; tables = tables; lists = I.lists; trues = I.trues }
