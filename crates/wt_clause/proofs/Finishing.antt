-- The plan of a query from its operands.
use Rattle.std.proofs.Common.{◌≡◌, ℕ, ◌<◌, ◌^◌, Bool, ◌&&◌, not, List, length, sym, ap, subst, ◌∙◌}
use Rattle.std.specs.Prelude.{flat_map}
use Rattle.wt_ast.specs.Tree.{FromTree}
use Rattle.wt_ast.specs.declared.tree.Item.{Item}
use Rattle.wt_schema.specs.declared.schema.Table.{Table}
use Rattle.wt_query_rows.specs.declared.scope.ScopeColumn.{ScopeColumn}
use Rattle.wt_query_rows.specs.Scopes.{scope_of, item_names}
use Rattle.wt_query_plan.specs.Building.{Conjunct, item_places, is_sole_star, has_right}
use Rattle.wt_query_plan.specs.Faults.{kinds_of, item_kinds, items_fault, commas_fault}
use Rattle.wt_resolve.specs.declared.lookup.Scope.{Scope}
use Rattle.wt_resolve.specs.Scoping.{inside}
use Rattle.wt_joins.specs.declared.commas.CommaList.{CommaList}
use Rattle.wt_joins.specs.Parts.{part_tree, part_trees}
use Rattle.wt_joins.specs.Commas.{commas_refused, free_at, list_operand, list_width, AllWithin}
use Rattle.wt_joins.specs.Wholes.{whole}
use Rattle.wt_clause.specs.Lists.{first_operand, later_operands, commas_of, planned_by, IsList}
use Rattle.wt_clause.specs.Walking.{Seen}
use Rattle.wt_clause.proofs.Commas.{whole_list, list_wide, later_within, commas_are, free_are}
use Rattle.wt_clause.proofs.Walks.{seen_inside}

module _ (S : List Table) (f : FromTree) (list : CommaList) (is : IsList (first_operand S f) (later_operands S f) (commas_of S f) list) where
  pub list_narrow : length (scope_of S f) < 2 ^ 32 → list_width (part_tree list.first) (part_trees list.others.items) < 2 ^ 32
  list_narrow h = subst (λ n. n < 2 ^ 32) (sym ((λ i. list_width (is.0 i) (is.1 i)) ∙ list_wide S f)) h

  pub list_within : AllWithin (part_trees list.others.items)
  list_within = subst AllWithin (sym is.1) (later_within S f)

  pub refused_is : (js : List Conjunct) → commas_refused js list.commas.items ≡ commas_fault S js f
  refused_is js = ap (commas_refused js) is.2 ∙ commas_are S js f

  pub whole_is : (distinct : Bool) (items : List Item) (js : List Conjunct) (cols : List ℕ) (sole : Bool) → cols ≡ flat_map (item_places (scope_of S f)) items → sole ≡ (is_sole_star items && not (has_right f))
      → whole distinct sole cols (free_at list.commas.items js) (list_operand js (part_tree list.first) (part_trees list.others.items)) ≡ planned_by S distinct items f js
  whole_is distinct items js cols sole e k =
      (λ i. whole distinct (k i) (e i) ((ap (λ cs. free_at cs js) is.2 ∙ free_are S f js) i) (((λ j. list_operand js (is.0 j) (is.1 j)) ∙ whole_list S js f) i))

-- the select list over the columns in scope
module _ (scope : Scope) (f : FromTree) (h : Seen f scope) where
  pub columns_are : (items : List Item) → flat_map (item_places (inside scope)) items ≡ flat_map (item_places (scope_of scope.schema.now.tables f)) items
  columns_are items = ap (λ c. flat_map (item_places c) items) (seen_inside scope f h)

  pub names_are : (items : List Item) → flat_map (item_names (inside scope)) items ≡ flat_map (item_names (scope_of scope.schema.now.tables f)) items
  names_are items = ap (λ c. flat_map (item_names c) items) (seen_inside scope f h)

  pub kinds_are : (items : List Item) → flat_map (item_kinds (inside scope) scope.kinds.now) items ≡ flat_map (item_kinds (scope_of scope.schema.now.tables f) (kinds_of scope.schema.now.tables f)) items
  kinds_are items = λ i. flat_map (item_kinds (seen_inside scope f h i) (h.kinds i)) items

  pub fault_is : (outer : List ScopeColumn) (items : List Item) → items_fault outer (inside scope) scope.kinds.now 0 items ≡ items_fault outer (scope_of scope.schema.now.tables f) (kinds_of scope.schema.now.tables f) 0 items
  fault_is outer items = λ i. items_fault outer (seen_inside scope f h i) (h.kinds i) 0 items
