-- A FROM clause as a comma list: its operands, each with its plan and places, and its commas.
use Rattle.std.specs.Prelude.{◌≡◌, ℕ, Bool, ◌&&◌, not, List, [], ◌∷◌, ◌++◌, map, flat_map, length}
use Rattle.wt_ast.specs.declared.tree.Item.{Item}
use Rattle.wt_plan.specs.Tree.{PlanTree}
use Rattle.wt_ast.specs.Tree.{FromTree, table, derived, inner_join, left_join, right_join, comma}
use Rattle.wt_schema.specs.declared.schema.Table.{Table}
use Rattle.wt_query_rows.specs.Scopes.{scope_of}
use Rattle.wt_query_plan.specs.Building.{Conjunct, from_plan, places_of, at_place, item_places, is_sole_star, has_right, free_of, stacked, listed, deduped}
use Rattle.wt_joins.specs.declared.commas.Comma.{Comma}
use Rattle.wt_joins.specs.declared.commas.CommaList.{CommaList}
use Rattle.wt_joins.specs.Parts.{PartTree, operand, part_tree, part_trees}

abbrev pub from_operand : List Table → FromTree → PartTree
from_operand S f = operand (from_plan S [] f) (places_of S f)

abbrev pub first_operand : List Table → FromTree → PartTree
first_operand S (comma l r at) = first_operand S l
first_operand S (table name alias at alias_at) = from_operand S (table name alias at alias_at)
first_operand S (derived q alias columns at alias_at) = from_operand S (derived q alias columns at alias_at)
first_operand S (inner_join l r on at) = from_operand S (inner_join l r on at)
first_operand S (left_join l r on at) = from_operand S (left_join l r on at)
first_operand S (right_join l r on at) = from_operand S (right_join l r on at)

abbrev pub later_operands : List Table → FromTree → List PartTree
later_operands S (comma l r at) = later_operands S l ++ from_operand S r ∷ []
later_operands S (table name alias at alias_at) = []
later_operands S (derived q alias columns at alias_at) = []
later_operands S (inner_join l r on at) = []
later_operands S (left_join l r on at) = []
later_operands S (right_join l r on at) = []

abbrev pub comma_at : ℕ → ℕ → ℕ → Comma
comma_at columns next at = record { columns = columns; next = next; at = at }

abbrev pub commas_of : List Table → FromTree → List Comma
commas_of S (comma l r at) = commas_of S l ++ comma_at (length (scope_of S l)) (length (scope_of S l ++ scope_of S r)) at ∷ []
commas_of S (table name alias at alias_at) = []
commas_of S (derived q alias columns at alias_at) = []
commas_of S (inner_join l r on at) = []
commas_of S (left_join l r on at) = []
commas_of S (right_join l r on at) = []

abbrev pub IsList : PartTree → List PartTree → List Comma → CommaList → Type 0
IsList first later commas list = (part_tree list.first ≡ first) × (part_trees list.others.items ≡ later) × (list.commas.items ≡ commas)

-- the plan of a query whose WHERE has these conjuncts
abbrev pub planned_by : List Table → Bool → List Item → FromTree → List Conjunct → PlanTree
planned_by S distinct items f js =
    deduped distinct (listed (is_sole_star items && not (has_right f)) (map (at_place (places_of S f)) (flat_map (item_places (scope_of S f)) items)) (stacked (places_of S f) (free_of S f js) (from_plan S js f)))
