-- Sets of columns, as lists: order and repeated columns do not matter.
use Rattle.std.specs.Prelude.{◌==◌, ℕ, zero, suc, ◌+◌, ◌-◌, Bool, true, false, not, ◌&&◌, ◌||◌, nat_lt, List, [], ◌∷◌, ◌++◌, map, filter, slice_index_or, if◌then◌else◌}
use Rattle.std.specs.List.{list_any, list_all}

abbrev pub is_in : ℕ → List ℕ → Bool
is_in c set = list_any (λ d. c == d) set

-- each of the columns is in the set
abbrev pub within : List ℕ → List ℕ → Bool
within cols set = list_all (λ c. is_in c set) cols

abbrev pub all_below : ℕ → List ℕ → Bool
all_below w set = list_all (λ c. nat_lt c w) set

-- each column below w is in the set
abbrev pub is_whole : ℕ → List ℕ → Bool
is_whole zero set = true
is_whole (suc w) set = is_in w set && is_whole w set

-- what a list has at these places
abbrev pub listed_at : List ℕ → List ℕ → List ℕ
listed_at cols set = map (λ c. slice_index_or cols c 0) set

-- of a join's columns, those of its left operand, w wide, and those of its right one, counted from that one's first
abbrev pub lefts : ℕ → List ℕ → List ℕ
lefts w set = filter (λ c. nat_lt c w) set

abbrev pub rights : ℕ → List ℕ → List ℕ
rights w set = map (λ c. c - w) (filter (λ c. not (nat_lt c w)) set)

-- the columns that a join's lists pair with a column of the set
abbrev pub paired_with : ℕ → List ℕ → List ℕ → List ℕ → List ℕ
paired_with w [] b set = []
paired_with w (x ∷ a) [] set = []
paired_with w (x ∷ a) (y ∷ b) set = (if is_in x set then (y + w) ∷ [] else []) ++ ((if is_in (y + w) set then x ∷ [] else []) ++ paired_with w a b set)

-- the pair of x and y stands at one place of the two lists
abbrev pub has_pair : ℕ → ℕ → List ℕ → List ℕ → Bool
has_pair x y [] ys = false
has_pair x y (a ∷ xs) [] = false
has_pair x y (a ∷ xs) (b ∷ ys) = ((x == a) && (y == b)) || has_pair x y xs ys

-- each pair of the first two lists is one of the other two
abbrev pub pairs_within : List ℕ → List ℕ → List ℕ → List ℕ → Bool
pairs_within [] ys others targets = true
pairs_within (x ∷ xs) [] others targets = true
pairs_within (x ∷ xs) (y ∷ ys) others targets = has_pair x y others targets && pairs_within xs ys others targets

-- the same column at each place of both
abbrev pub all_alike : List ℕ → List ℕ → Bool
all_alike [] ys = true
all_alike (x ∷ xs) [] = true
all_alike (x ∷ xs) (y ∷ ys) = (x == y) && all_alike xs ys

abbrev pub is_empty : List ℕ → Bool
is_empty [] = true
is_empty (c ∷ cols) = false
