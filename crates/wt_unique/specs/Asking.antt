-- What is asked of a table, and what a join asks of its operands.
use Rattle.std.specs.Prelude.{◌&&◌, ◌+◌, ◌-◌, ℕ, Bool, not, nat_lt, List, [], ◌∷◌, ◌++◌, if◌then◌else◌}
use Rattle.std.specs.List.{list_any}
use Rattle.wt_schema.specs.declared.schema.Key.{Key}
use Rattle.wt_schema.specs.declared.schema.Table.{Table}
use Rattle.wt_known.specs.Sets.{is_in, within, lefts, rights, paired_with}
use Rattle.wt_known.specs.Facts.{table_of}

-- the set contains a key of the table of a number
abbrev pub has_key : List Table → ℕ → List ℕ → Bool
has_key S number set = list_any (λ (key : Key). within key.columns set) (table_of S number).keys

-- a set with what an InnerJoin pairs with it: the columns of the left operand, w wide, and those of the right one
abbrev pub paired_lefts : ℕ → List ℕ → List ℕ → List ℕ → List ℕ
paired_lefts w a b set = lefts w (set ++ paired_with w a b set)

abbrev pub paired_rights : ℕ → List ℕ → List ℕ → List ℕ → List ℕ
paired_rights w a b set = rights w (set ++ paired_with w a b set)

-- the same, added pair by pair
abbrev pub added_lefts : ℕ → List ℕ → List ℕ → List ℕ → List ℕ
added_lefts w [] b set = []
added_lefts w (x ∷ a) [] set = []
added_lefts w (x ∷ a) (y ∷ b) set = (if is_in (y + w) set && nat_lt x w then x ∷ [] else []) ++ added_lefts w a b set

abbrev pub added_right : ℕ → ℕ → ℕ → List ℕ → List ℕ
added_right w x y set = (if is_in x set then y ∷ [] else []) ++ (if is_in (y + w) set && not (nat_lt x w) then (x - w) ∷ [] else [])

abbrev pub added_rights : ℕ → List ℕ → List ℕ → List ℕ → List ℕ
added_rights w [] b set = []
added_rights w (x ∷ a) [] set = []
added_rights w (x ∷ a) (y ∷ b) set = added_right w x y set ++ added_rights w a b set
