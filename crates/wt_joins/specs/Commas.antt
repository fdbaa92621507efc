-- A comma list, its operands in order: the commas that no WHERE conjunct links, the conjuncts that link none, and the plan.
use Rattle.std.specs.Prelude.{ℕ, ◌+◌, Bool, not, List, [], ◌∷◌, filter, length, None}
use Rattle.std.specs.List.{All, list_any}
use Rattle.wt_query_plan.specs.Building.{Conjunct, link, comma_of}
use Rattle.wt_query_plan.specs.Faults.{Fault, first_of, fault_if}
use Rattle.wt_query_plan.specs.declared.fault.BuildFault.TheVariants.{NoJoinEquality}
use Rattle.wt_joins.specs.declared.commas.Comma.{Comma}
use Rattle.wt_joins.specs.Parts.{PartTree, operand, onward, Within}

abbrev pub links_at : Comma → Conjunct → Bool
links_at c j = link c.columns c.next j

-- the first comma that no conjunct links
abbrev pub commas_refused : List Conjunct → List Comma → Fault
commas_refused js [] = None
commas_refused js (c ∷ cs) = first_of (fault_if (not (list_any (links_at c) js)) NoJoinEquality c.at) (commas_refused js cs)

-- the conjuncts that link no comma
abbrev pub free_at : List Comma → List Conjunct → List Conjunct
free_at cs js = filter (λ j. not (list_any (λ c. links_at c j) cs)) js

-- two operands with a comma between them
abbrev pub comma_operand : List Conjunct → PartTree → PartTree → PartTree
comma_operand js l r = operand (comma_of (length l.places) (length l.places + length r.places) l.places r.places js l.plan r.plan) (onward l.places r.places)

-- an operand and those behind it
abbrev pub list_operand : List Conjunct → PartTree → List PartTree → PartTree
list_operand js l [] = l
list_operand js l (r ∷ rs) = list_operand js (comma_operand js l r) rs

-- how many columns they have
abbrev pub list_width : PartTree → List PartTree → ℕ
list_width l [] = length l.places
list_width l (r ∷ rs) = length l.places + list_width r rs

-- each operand's places are those of a row
abbrev pub AllWithin : List PartTree → Type 0
AllWithin ps = All (λ p. Within p.places) ps
