-- What is known of a plan by its form and the schema.
use Rattle.std.specs.Prelude.{◌==◌, ℕ, zero, suc, ◌-◌, Bool, true, false, not, ◌&&◌, ◌||◌, nat_lt, nat_le, List, [], ◌∷◌, ◌++◌, map, length, slice_index_or, if◌then◌else◌}
use Rattle.std.specs.List.{list_any, list_all}
use Rattle.wt_pred.specs.Tree.{PredTree}
use Rattle.wt_pred.specs.Nulls.{never_true}
use Rattle.wt_schema.specs.declared.schema.Column.{Column}
use Rattle.wt_schema.specs.declared.schema.Key.{Key}
use Rattle.wt_schema.specs.declared.schema.Reference.{Reference}
use Rattle.wt_schema.specs.declared.schema.Table.{Table}
use Rattle.wt_plan.specs.Tree.{PlanTree, table, proj, filtered, inner_join, left_join, in_sub, dedup}
use Rattle.wt_plan.specs.Measures.{width}
use Rattle.wt_known.specs.Sets.{is_in, within, all_below, is_whole, listed_at, lefts, rights, paired_with, pairs_within, all_alike, is_empty}

-- the table of a number; where there is none, one without columns
abbrev pub table_of : List Table → ℕ → Table
table_of S t = slice_index_or S t (record { name = []; columns = []; keys = []; references = [] })

-- Unique sets.

-- one of the three cases of a join: of the left operand's columns, the right list, the right columns, the left list
abbrev pub some_case : Bool → Bool → Bool → Bool → Bool
some_case left right_list right left_list = (left && right_list) || ((right && left_list) || (left && right))

-- No two rows match at these columns. A table's set contains a key; a Dedup's rows differ in some column; in an InnerJoin each
-- column is joined by those that the join pairs with it, once; a join's rows differ where one operand's columns tell its rows
-- apart and the other's are told apart by its list, or both operands' columns do.
abbrev pub unique : List Table → PlanTree → List ℕ → Bool
unique S (table t w) set = list_any (λ (key : Key). within key.columns set) (table_of S t).keys
unique S (proj cols p) set = all_below (length cols) set && unique S p (listed_at cols set)
unique S (filtered pred cols p) set = unique S p set
unique S (inner_join a b p q) set =
    some_case (unique S p (lefts (width p) (set ++ paired_with (width p) a b set))) (unique S q b) (unique S q (rights (width p) (set ++ paired_with (width p) a b set))) (unique S p a)
unique S (left_join a b p q) set = some_case (unique S p (lefts (width p) set)) (unique S q b) (unique S q (rights (width p) set)) (unique S p a)
unique S (in_sub a p q) set = unique S p set
unique S (dedup p) set = unique S p set || is_whole (width p) set

-- Columns without NULL.

-- the column stands in the list, of which the places are counted from k, where the predicate rejects NULL
abbrev pub rejected : PredTree → List ℕ → ℕ → ℕ → Bool
rejected pred [] k c = false
rejected pred (d ∷ cols) k c = ((d == c) && never_true k pred) || rejected pred cols (suc k) c

-- the column of a number is declared NOT NULL
abbrev pub is_declared : List Column → ℕ → Bool
is_declared [] c = false
is_declared (column ∷ columns) zero = column.not_null
is_declared (column ∷ columns) (suc c) = is_declared columns c

-- No row has a NULL there: the schema says so, or a filter, a join or an IN leaves no such row. A LeftJoin says nothing of its
-- right columns.
abbrev pub not_null : List Table → PlanTree → ℕ → Bool
not_null S (table t w) c = is_declared (table_of S t).columns c || list_any (λ (key : Key). key.primary && is_in c key.columns) (table_of S t).keys
not_null S (proj cols p) c = nat_lt c (length cols) && not_null S p (slice_index_or cols c 0)
not_null S (filtered pred cols p) c = not_null S p c || rejected pred cols 0 c
not_null S (inner_join a b p q) c = if nat_lt c (width p) then not_null S p c || is_in c a else not_null S q (c - width p) || is_in (c - width p) b
not_null S (left_join a b p q) c = nat_lt c (width p) && not_null S p c
not_null S (in_sub a p q) c = not_null S p c || is_in c a
not_null S (dedup p) c = not_null S p c

-- References.

-- where columns come from: columns of one table node
pub data Origin : Type 0 where
  nowhere : Origin
  from_table : ℕ → List ℕ → Origin

abbrev pub origin_if : Bool → Origin → Origin
origin_if true o = o
origin_if false o = nowhere

abbrev pub origin : PlanTree → List ℕ → Origin
origin (table t w) cols = origin_if (all_below w cols) (from_table t cols)
origin (proj l p) cols = origin_if (all_below (length l) cols) (origin p (listed_at l cols))
origin (filtered pred l p) cols = origin p cols
origin (inner_join a b p q) cols = if all_below (width p) cols then origin p cols else origin_if (list_all (λ c. nat_le (width p) c) cols) (origin q (map (λ c. c - width p) cols))
origin (left_join a b p q) cols = if all_below (width p) cols then origin p cols else origin_if (list_all (λ c. nat_le (width p) c) cols) (origin q (map (λ c. c - width p) cols))
origin (in_sub a p q) cols = origin p cols
origin (dedup p) cols = origin p cols

-- the same of a target that keeps every row of one table
abbrev pub kept : PlanTree → List ℕ → Origin
kept (table t w) cols = origin_if (all_below w cols) (from_table t cols)
kept (proj l p) cols = origin_if (all_below (length l) cols) (kept p (listed_at l cols))
kept (filtered pred l p) cols = nowhere
kept (inner_join a b p q) cols = nowhere
kept (left_join a b p q) cols = origin_if (all_below (width p) cols) (kept p cols)
kept (in_sub a p q) cols = nowhere
kept (dedup p) cols = kept p cols

-- one table's columns are those of the other, place by place, or a reference of the schema has just these pairs
abbrev pub refers_by : List Table → Origin → Origin → Bool
refers_by S (from_table t xs) (from_table u ys) =
    ((t == u) && all_alike xs ys) || list_any (λ (r : Reference). (r.table == u) && (pairs_within xs ys r.columns r.target && pairs_within r.columns r.target xs ys)) (table_of S t).references
refers_by S _ _ = false

-- Each row without NULL at `cols` has a row of the target that matches it at `others`.
abbrev pub refers : List Table → PlanTree → List ℕ → PlanTree → List ℕ → Bool
refers S p cols q others = ((length cols == length others) && not (is_empty cols)) && refers_by S (origin p cols) (kept q others)
