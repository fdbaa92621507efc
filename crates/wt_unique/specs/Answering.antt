-- The answers of a node from those of its operands.
use Rattle.std.specs.Prelude.{Bool, false, ◌&&◌, ◌||◌, List, [], ◌∷◌}
use Rattle.wt_known.specs.Facts.{some_case}

-- both, and one of two, answer by answer
abbrev pub both_each : List Bool → List Bool → List Bool
both_each [] cs = []
both_each (b ∷ bs) [] = []
both_each (b ∷ bs) (c ∷ cs) = (b && c) ∷ both_each bs cs

abbrev pub either_each : List Bool → List Bool → List Bool
either_each [] cs = []
either_each (b ∷ bs) [] = []
either_each (b ∷ bs) (c ∷ cs) = (b || c) ∷ either_each bs cs

-- the three cases of a join, of which the own lists' answers are these
abbrev pub cases_each : Bool → Bool → List Bool → List Bool → List Bool
cases_each left_list right_list [] rs = []
cases_each left_list right_list (l ∷ ls) [] = []
cases_each left_list right_list (l ∷ ls) (r ∷ rs) = some_case l right_list r left_list ∷ cases_each left_list right_list ls rs

-- the answers of a join; the first of each operand is that of its own list
abbrev pub join_answers : List Bool → List Bool → List Bool
join_answers [] rs = []
join_answers (x ∷ ls) [] = []
join_answers (x ∷ ls) (y ∷ rs) = cases_each x y ls rs

-- the first answer
abbrev pub first : List Bool → Bool
first [] = false
first (b ∷ bs) = b
