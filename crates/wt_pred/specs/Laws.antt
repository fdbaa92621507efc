-- What the columns of a predicate, and other numbers of them, mean for its truth.
use Rattle.std.specs.Prelude.{◌≡◌, ℕ, List}
use Rattle.wt_bag.specs.Bags.{Each}
use Rattle.wt_value.specs.declared.value.Value.{Value}
use Rattle.wt_pred.specs.Tree.{PredTree}
use Rattle.wt_value.specs.Values.{value_at, pick}
use Rattle.wt_pred.specs.Meaning.{truth}

-- rows with the same values at these columns have the same truth
abbrev pub DependsOn : List ℕ → PredTree → Type 0
DependsOn cols p = (row other : List Value) → Each (λ c. value_at row c ≡ value_at other c) cols → truth p row ≡ truth p other

-- at the row of these columns alone the second predicate has the truth that the first has at the whole row
abbrev pub KeepsTruth : List ℕ → PredTree → PredTree → Type 0
KeepsTruth cols p q = (row : List Value) → truth q (pick cols row) ≡ truth p row
