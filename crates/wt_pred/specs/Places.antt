-- The places of columns, as a map has them.
use Rattle.std.specs.Prelude.{ℕ, List, nat_eq, IsSome}
use Rattle.std.specs.Option.{unwrap_or}
use Rattle.indexmap.specs.IndexMap.{IndexMap, get}
use Rattle.wt_bag.specs.Bags.{Each}

-- the number of a column by the map; one that is not there has 0
abbrev pub number_by : {S : Type 0} → IndexMap ℕ ℕ S → ℕ → ℕ
number_by places column = unwrap_or (get nat_eq places column) 0

-- the map has each of these columns
abbrev pub HasAll : {S : Type 0} → IndexMap ℕ ℕ S → List ℕ → Type 0
HasAll places cols = Each (λ c. IsSome (get nat_eq places c)) cols
