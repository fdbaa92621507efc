-- A join of two operands, told by the operand that it pads with NULLs: the right one of a LEFT JOIN, the left one of a RIGHT JOIN, none of an
-- inner join.
use Rattle.std.specs.Prelude.{ℕ, List, Option, Some, None}
use Rattle.wt_ast.specs.Tree.{FromTree, table, derived, inner_join, left_join, right_join, comma}
use Rattle.wt_query_plan.specs.Building.{Conjunct}
use Rattle.wt_query_plan.specs.Faults.{Fault, first_of, fault_if, outer_fault, unpaired}
use Rattle.wt_query_plan.specs.declared.fault.BuildFault.TheVariants.{NoJoinEquality}
use Rattle.wt_conjunct.specs.declared.stack.Side.{Side}
use Rattle.wt_conjunct.specs.declared.stack.Side.TheVariants.{Left, Right}
use Rattle.wt_conjunct.specs.Views.{is_on}
use Rattle.wt_joins.specs.Parts.{PartTree, inner_operand, left_operand, right_operand}

abbrev pub padded_by : FromTree → Option Side
padded_by (left_join l r on at) = Some Right
padded_by (right_join l r on at) = Some Left
padded_by (inner_join l r on at) = None
padded_by (table name alias at alias_at) = None
padded_by (derived q alias columns at alias_at) = None
padded_by (comma l r at) = None

abbrev pub joined_operand : Option Side → List Conjunct → PartTree → PartTree → PartTree
joined_operand None js l r = inner_operand js l r
joined_operand (Some Right) js l r = left_operand js l r
joined_operand (Some Left) js l r = right_operand js l r

-- its fault, where the left operand has n columns and the conjuncts stand at these offsets
abbrev pub join_fault : Option Side → ℕ → List Conjunct → List ℕ → ℕ → Fault
join_fault None n js ats at = fault_if (unpaired n js) NoJoinEquality at
join_fault (Some side) n js ats at = first_of (outer_fault (is_on side n) n js ats) (fault_if (unpaired n js) NoJoinEquality at)
