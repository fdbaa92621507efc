-- The rows of a plan on a database, by places alone. A place past the end of a row is NULL, and a table that the database
-- lacks has no rows.
use Rattle.std.specs.Prelude.{ℕ, replicate, Bool, true, false, List, [], ◌∷◌, ◌++◌, map, filter, flat_map, length, ◌≡◌}
use Rattle.std.specs.List.{list_any}
use Rattle.wt_bag.specs.Bags.{Each}
use Rattle.wt_value.specs.declared.value.Value.TheVariants.{Null}
use Rattle.wt_value.specs.declared.value.Truth.{Truth}
use Rattle.wt_value.specs.declared.value.Truth.TheVariants.{True}
use Rattle.wt_value.specs.Values.{Tuple, pick, row_matches, distinct_rows}
use Rattle.wt_pred.specs.Tree.{PredTree}
use Rattle.wt_pred.specs.Meaning.{truth}
use Rattle.wt_schema.specs.Satisfying.{rows_of}
use Rattle.wt_plan.specs.Tree.{PlanTree, table, proj, filtered, inner_join, left_join, in_sub, dedup}
use Rattle.wt_plan.specs.Measures.{width}

-- Unknown is not True
abbrev pub is_true : Truth → Bool
is_true True = true
is_true _ = false

-- whether a predicate over the places of a list is True on a row
abbrev pub passes : PredTree → List ℕ → Tuple → Bool
passes pred cols row = is_true (truth pred (pick cols row))

-- so many NULLs
abbrev pub null_row : ℕ → Tuple
null_row n = replicate n Null

-- a left row with each right row that it matches, at the places of the two lists
abbrev pub joined : List ℕ → List ℕ → Tuple → List Tuple → List Tuple
joined a b left rights = map (λ right. left ++ right) (filter (λ right. row_matches (pick a left) (pick b right)) rights)

-- the joined rows of a left row; where there are none, this row
abbrev pub or_nulls : Tuple → List Tuple → List Tuple
or_nulls padded [] = padded ∷ []
or_nulls padded (row ∷ rows) = row ∷ rows

-- whether some row matches these values
abbrev pub is_matched : Tuple → List Tuple → Bool
is_matched wanted rows = list_any (λ row. row_matches wanted row) rows

abbrev pub plan_rows : List (List Tuple) → PlanTree → List Tuple
plan_rows base (table number columns) = rows_of base number
plan_rows base (proj cols p) = map (pick cols) (plan_rows base p)
plan_rows base (filtered pred cols p) = filter (passes pred cols) (plan_rows base p)
plan_rows base (inner_join a b l r) = flat_map (λ left. joined a b left (plan_rows base r)) (plan_rows base l)
plan_rows base (left_join a b l r) = flat_map (λ left. or_nulls (left ++ null_row (width r)) (joined a b left (plan_rows base r))) (plan_rows base l)
plan_rows base (in_sub cols l r) = filter (λ left. is_matched (pick cols left) (plan_rows base r)) (plan_rows base l)
plan_rows base (dedup p) = distinct_rows (plan_rows base p)

-- the rows of each table have as many values as the plan says
abbrev pub TablesWide : List (List Tuple) → PlanTree → Type 0
TablesWide base (table number columns) = Each (λ row. length row ≡ columns) (rows_of base number)
TablesWide base (proj cols p) = TablesWide base p
TablesWide base (filtered pred cols p) = TablesWide base p
TablesWide base (inner_join a b l r) = TablesWide base l × TablesWide base r
TablesWide base (left_join a b l r) = TablesWide base l × TablesWide base r
TablesWide base (in_sub cols l r) = TablesWide base l × TablesWide base r
TablesWide base (dedup p) = TablesWide base p
