-- Which plans the laws on known facts speak of.
use Rattle.std.specs.Prelude.{◌≡◌, ◌<◌, List, length}
use Rattle.wt_bag.specs.Bags.{Each}
use Rattle.wt_schema.specs.declared.schema.Table.{Table}
use Rattle.wt_plan.specs.Tree.{PlanTree, table, proj, filtered, inner_join, left_join, in_sub, dedup}
use Rattle.wt_plan.specs.Measures.{width}
use Rattle.wt_known.specs.Facts.{table_of}

-- its tables are the schema's, each with a column; the places of each list are there, and no Proj's list is empty
abbrev pub Fits : List Table → PlanTree → Type 0
Fits S (table t w) = (t < length S) × (w ≡ length (table_of S t).columns) × (0 < w)
Fits S (proj cols p) = Each (λ c. c < width p) cols × (0 < length cols) × Fits S p
Fits S (filtered pred cols p) = Each (λ c. c < width p) cols × Fits S p
Fits S (inner_join a b p q) = Each (λ c. c < width p) a × Each (λ c. c < width q) b × Fits S p × Fits S q
Fits S (left_join a b p q) = Each (λ c. c < width p) a × Each (λ c. c < width q) b × Fits S p × Fits S q
Fits S (in_sub a p q) = Each (λ c. c < width p) a × Fits S p × Fits S q
Fits S (dedup p) = Fits S p
