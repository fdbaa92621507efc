-- The width of a plan whose nodes may be as wide as they are and name places that are there, node by node.
use Rattle.std.specs.Prelude.{◌==◌, ◌+◌, ◌^◌, ◌&&◌, ℕ, Bool, true, false, not, nat_lt, nat_le, Option, Some, None, List, length, slice_get}
use Rattle.std.specs.List.{list_all}
use Rattle.wt_schema.specs.declared.schema.Table.{Table}
use Rattle.wt_plan.specs.Tree.{PlanTree, table, proj, filtered, inner_join, left_join, in_sub, dedup}

-- the number, if the test holds
abbrev pub if_so : Bool → ℕ → Option ℕ
if_so true n = Some n
if_so false n = None

-- what the function makes of the number, if there is one
abbrev pub and_then : Option ℕ → (ℕ → Option ℕ) → Option ℕ
and_then (Some n) f = f n
and_then None f = None

abbrev pub is_narrow : ℕ → Bool
is_narrow width = nat_le width 16384

abbrev pub all_below : ℕ → List ℕ → Bool
all_below width cols = list_all (λ c. nat_lt c width) cols

abbrev pub are_places : ℕ → List ℕ → Bool
are_places width cols = not (length cols == 0) && all_below width cols

abbrev pub is_wide : Option Table → ℕ → Bool
is_wide (Some t) width = length t.columns == width
is_wide None width = false

abbrev pub table_width : List Table → ℕ → ℕ → Option ℕ
table_width S number width = if_so (is_wide (slice_get S number) width && nat_lt width (2 ^ 32)) width

abbrev pub listed_width : ℕ → List ℕ → Option ℕ
listed_width width cols = if_so (are_places width cols && is_narrow (length cols)) (length cols)

abbrev pub filtered_width : ℕ → List ℕ → Option ℕ
filtered_width width cols = if_so (are_places width cols) width

abbrev pub joined_width : ℕ → ℕ → List ℕ → List ℕ → Option ℕ
joined_width left right a b = if_so (((are_places left a && are_places right b) && (length a == length b)) && nat_lt (left + right) (2 ^ 32)) (left + right)

abbrev pub matched_width : ℕ → ℕ → List ℕ → Option ℕ
matched_width left right cols = if_so ((are_places left cols && (length cols == right)) && is_narrow right) left

abbrev pub narrow : ℕ → Option ℕ
narrow width = if_so (is_narrow width) width

abbrev pub fitting_width : List Table → PlanTree → Option ℕ
fitting_width S (table number width) = table_width S number width
fitting_width S (proj cols p) = and_then (fitting_width S p) (λ w. listed_width w cols)
fitting_width S (filtered pred cols p) = and_then (fitting_width S p) (λ w. filtered_width w cols)
fitting_width S (inner_join a b l r) = and_then (fitting_width S l) (λ m. and_then (fitting_width S r) (λ n. joined_width m n a b))
fitting_width S (left_join a b l r) = and_then (fitting_width S l) (λ m. and_then (fitting_width S r) (λ n. joined_width m n a b))
fitting_width S (in_sub cols l r) = and_then (fitting_width S l) (λ m. and_then (fitting_width S r) (λ n. matched_width m n cols))
fitting_width S (dedup p) = and_then (fitting_width S p) narrow
