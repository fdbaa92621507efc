-- What is told of a select list and of commas, told of the FROM clause.
use Rattle.std.proofs.Common.{◌≡◌, Bool, ◌&&◌, not, List, ◌∙◌}
use Rattle.std.specs.Prelude.{flat_map}
use Rattle.wt_ast.specs.Tree.{FromTree}
use Rattle.wt_ast.specs.declared.tree.Item.{Item}
use Rattle.wt_schema.specs.declared.schema.Table.{Table}
use Rattle.wt_plan.specs.Tree.{plan_tree}
use Rattle.wt_query_rows.specs.Scopes.{scope_of, item_names}
use Rattle.wt_query_plan.specs.Building.{Conjunct, is_sole_star, has_right}
use Rattle.wt_query_plan.specs.Faults.{first_of, kinds_of, item_kinds, items_fault, commas_fault}
use Rattle.wt_resolve.specs.declared.lookup.Scope.{Scope}
use Rattle.wt_resolve.specs.Scoping.{inside, outside}
use Rattle.wt_select.specs.declared.list.Selected.{Selected}
use Rattle.wt_select.specs.Listing.{Lists}
use Rattle.wt_joins.specs.declared.commas.Comma.{Comma}
use Rattle.wt_joins.specs.declared.commas.CommaList.{CommaList}
use Rattle.wt_joins.specs.Parts.{part_tree, part_trees}
use Rattle.wt_joins.specs.Commas.{commas_refused, free_at, list_operand}
use Rattle.wt_joins.specs.Wholes.{whole}
use Rattle.wt_sources.specs.declared.sources.Built.{Built}
use Rattle.wt_clause.specs.Lists.{first_operand, later_operands, commas_of, planned_by, IsList}
use Rattle.wt_clause.specs.Walking.{Seen}
use Rattle.wt_clause.proofs.Finishing.{refused_is, whole_is, columns_are, names_are, kinds_are, fault_is}

abbrev pub IsFinished : List Table → Bool → List Item → FromTree → List Conjunct → Built → Type 0
IsFinished S distinct items f js b = (plan_tree b.plan ≡ planned_by S distinct items f js) × (b.names.items ≡ flat_map (item_names (scope_of S f)) items) × (b.kinds.items ≡ flat_map (item_kinds (scope_of S f) (kinds_of S f)) items)

abbrev pub IsWhole : Bool → Bool → Selected → CommaList → List Conjunct → Built → Type 0
IsWhole distinct sole s list js b = (plan_tree b.plan ≡ whole distinct sole s.places.items (free_at list.commas.items js) (list_operand js (part_tree list.first) (part_trees list.others.items))) × (b.names.items ≡ s.names.items) × (b.kinds.items ≡ s.kinds.items)

module _ (scope : Scope) (f : FromTree) (h : Seen f scope) (list : CommaList) (is : IsList (first_operand scope.schema.now.tables f) (later_operands scope.schema.now.tables f) (commas_of scope.schema.now.tables f) list) where
  abbrev S : List Table
  S = scope.schema.now.tables

  pub fault_same : (cs : List Comma) (js js' : List Conjunct) (items : List Item) → cs ≡ list.commas.items → js ≡ js'
      → first_of (commas_refused js cs) (items_fault (outside scope) (inside scope) scope.kinds.now 0 items) ≡ first_of (commas_fault S js' f) (items_fault (outside scope) (scope_of S f) (kinds_of S f) 0 items)
  fault_same cs js js' items e k =
      (λ i. first_of (commas_refused (k i) (e i)) (items_fault (outside scope) (inside scope) scope.kinds.now 0 items)) ∙ (λ i. first_of (refused_is S f list is js' i) (fault_is scope f h (outside scope) items i))

  pub built_same : (distinct sole : Bool) (items : List Item) (js : List Conjunct) (s : Selected) (b : Built) → Lists (inside scope) scope.kinds.now items s → sole ≡ (is_sole_star items && not (has_right f)) → IsWhole distinct sole s list js b → IsFinished S distinct items f js b
  built_same distinct sole items js s b sel k w =
      (w.0 ∙ whole_is S f list is distinct items js s.places.items sole (sel.2 ∙ columns_are scope f h items) k, w.1 ∙ sel.0 ∙ names_are scope f h items, w.2 ∙ sel.1 ∙ kinds_are scope f h items)
