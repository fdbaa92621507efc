-- What one step of the walk over a query tells, told of the FROM clause or of the condition.
use Rattle.std.proofs.Common.{◌≡◌, ◌⊎◌, inl, inr, ℕ, ◌+◌, ◌-◌, ◌<◌, ◌≤◌, ◌^◌, nat_eq, not, List, [], ◌∷◌, ◌++◌, map, length, length-append, append_assoc, None, Some, Result, Ok, Err, refl, sym, ap, subst, ◌∙◌, arith}
use Rattle.wt_ast.specs.Tree.{QueryTree, FromTree, CondTree, filter_by, in_query, inner_join, left_join, right_join, comma, query_tree, from_tree, filter_tree, condition_tree}
use Rattle.wt_ast.specs.declared.tree.Query.{Query, out-Query}
use Rattle.wt_ast.specs.declared.tree.Condition.{Condition}
use Rattle.wt_ast.specs.declared.tree.ColumnName.{ColumnName}
use Rattle.wt_ast.proofs.Views.{query_view}
use Rattle.wt_schema.specs.declared.schema.ColKind.{ColKind}
use Rattle.wt_schema.specs.declared.schema.Table.{Table}
use Rattle.wt_schema.specs.Lawful.{IsSchema}
use Rattle.wt_plan.specs.Regular.{kind_at}
use Rattle.wt_plan.proofs.Upto.{length_map}
use Rattle.wt_query_rows.specs.declared.scope.ScopeColumn.{ScopeColumn}
use Rattle.wt_query_rows.specs.Scopes.{scope_of}
use Rattle.wt_query_plan.specs.declared.fault.BuildError.{BuildError}
use Rattle.wt_query_plan.specs.declared.fault.BuildFault.TheVariants.{InWidth, TypeMismatch}
use Rattle.wt_query_plan.specs.Building.{Conjunct, place_of, conjuncts}
use Rattle.wt_query_plan.specs.Faults.{Fault, first_of, fault_if, from_fault, joins_fault, cond_fault, columns_fault, query_fault, conjunct_places, aliases_of, kinds_of, kinds_same, column_kind, output_kinds}
use Rattle.wt_query_plan.specs.Telling.{Tells}
use Rattle.wt_resolve.specs.declared.lookup.ScopeItem.{ScopeItem}
use Rattle.wt_resolve.specs.declared.lookup.Scope.{Scope}
use Rattle.wt_resolve.specs.Scoping.{columns_of, inside}
use Rattle.wt_joins.specs.declared.commas.CommaList.{CommaList}
use Rattle.wt_joins.specs.Parts.{PartTree, part_tree, part_trees}
use Rattle.wt_joins.specs.Commas.{list_operand}
use Rattle.wt_query_bounds.specs.Bounds.{items_in, items_in_from, items_in_filter, items_in_cond}
use Rattle.wt_clause.specs.Items.{LeavesTree, leaves_of, items_of, aliases}
use Rattle.wt_clause.specs.Lists.{from_operand, first_operand, later_operands, commas_of, comma_at, IsList}
use Rattle.wt_clause.specs.Walking.{from_of, filter_of, Ready, Halves}
use Rattle.wt_clause.proofs.Clauses.{aliases_next, columns_append, scope_items}
use Rattle.wt_clause.proofs.Commas.{whole_list}
use Rattle.wt_clause.proofs.Joined as joined
use Rattle.wt_clause.proofs.Walks.{seen_clause, inner_halves, left_halves, right_halves}
use Rattle.wt_from.specs.Joins.{padded_by, joined_operand, join_fault}
use Rattle.wt_from.proofs.Telling.{refused}
use Rattle.wt_build.specs.Walk.{both_faults, on_fault, on_conjuncts}

-- the same in other words
pub told_as : {T : Type 0} (F G : Fault) (P Q : T → Type 0) (r : Result T BuildError) → F ≡ G → ((x : T) → P x → Q x) → Tells F P r → Tells G Q r
told_as F G P Q (Ok x) same f h = (sym same ∙ h.0, f x h.1)
told_as F G P Q (Err e) same f h = refused F G P Q e same h

-- lists that grew twice
pub counted_by : {X : Type 0} (old add new : List X) (n m : ℕ) → n ≡ length new → m ≡ length old → new ≡ old ++ add → n - m ≡ length add
counted_by old add new n m a b e = let k : length new ≡ length (old ++ add) = ap length e in omega (arith, a, b, k, length-append old add)

pub added_twice : {X : Type 0} (old mid new a b : List X) → mid ≡ old ++ a → new ≡ mid ++ b → new ≡ old ++ (a ++ b)
added_twice old mid new a b e f = f ∙ ap (λ m. m ++ b) e ∙ append_assoc old a b

module _ (S : List Table) (outer : List ScopeColumn) (l r : FromTree) where
  pub next_fault : (old mid : List ScopeItem) → from_fault S outer (aliases old) l ≡ None → mid ≡ old ++ items_of S l → from_fault S outer (aliases mid) r ≡ both_faults S outer (aliases old) l r
  next_fault old mid none e = ap (λ b. from_fault S outer b r) (aliases_next S l old mid e) ∙ ap (λ f. first_of f (from_fault S outer (aliases old ++ aliases_of l) r)) (sym none)

pub few_on : (l r : FromTree) (on : CondTree) → (items_in_from l + items_in_from r) + items_in_cond on ≤ 256 → items_in_cond on ≤ 256
few_on l r on h = omega (arith, h)

pub few_two : (l r : FromTree) (n : ℕ) → (items_in_from l + items_in_from r) + n ≤ 256 → items_in_from l + items_in_from r ≤ 256
few_two l r n h = omega (arith, h)

pub one_of_four : {A B C D E : Type 0} → A ⊎ (B ⊎ (C ⊎ D)) → (A → E) → (B → E) → (C → E) → (D → E) → E
one_of_four (inl a) f g h k = f a
one_of_four (inr (inl b)) f g h k = g b
one_of_four (inr (inr (inl c))) f g h k = h c
one_of_four (inr (inr (inr d))) f g h k = k d

pub one_of_three : {A B C E : Type 0} → A ⊎ (B ⊎ C) → (A → E) → (B → E) → (C → E) → E
one_of_three (inl a) f g h = f a
one_of_three (inr (inl b)) f g h = g b
one_of_three (inr (inr c)) f g h = h c

pub each_as : {X Y : Type 0} (f : X → Y) {x a b c : X} → (x ≡ a) ⊎ ((x ≡ b) ⊎ (x ≡ c)) → (f x ≡ f a) ⊎ ((f x ≡ f b) ⊎ (f x ≡ f c))
each_as f (inl e) = inl (ap f e)
each_as f (inr (inl e)) = inr (inl (ap f e))
each_as f (inr (inr e)) = inr (inr (ap f e))

-- a query whose items are gathered
module _ (q : Query) where
  pub few_items : items_in (query_tree q) ≤ 256 → items_in_from (from_tree (out-Query q).from) ≤ 256
  few_items h = let k = subst (λ t. items_in t ≤ 256) (query_view q) h in omega (arith, k)

  pub few_in_filter : (c : Condition) → (out-Query q).filter ≡ Some c → items_in (query_tree q) ≤ 256 → items_in_cond (condition_tree c) ≤ 256
  few_in_filter c e h =
      let k = subst (λ t. items_in t ≤ 256) (query_view q) h in
      let n : items_in_filter (filter_tree (out-Query q).filter) ≡ items_in_cond (condition_tree c) = ap (λ o. items_in_filter (filter_tree o)) e in
      omega (arith, k, n)

  pub filter_some : (c : Condition) → (out-Query q).filter ≡ Some c → filter_of (query_tree q) ≡ filter_by (condition_tree c)
  filter_some c e = ap filter_of (query_view q) ∙ ap filter_tree e

  pub from_is : from_of (query_tree q) ≡ from_tree (out-Query q).from
  from_is = ap from_of (query_view q)

  pub ready_clause : (scope : Scope) (outer : List ScopeColumn) (leaves : LeavesTree) → IsSchema scope.schema.now.tables → items_in (query_tree q) ≤ 256
      → from_fault scope.schema.now.tables outer [] (from_tree (out-Query q).from) ≡ None → leaves ≡ leaves_of scope.schema.now.tables (from_tree (out-Query q).from)
      → scope.items.now ≡ items_of scope.schema.now.tables (from_tree (out-Query q).from) → scope.kinds.now ≡ kinds_of scope.schema.now.tables (from_tree (out-Query q).from) → Ready (from_of (query_tree q)) scope leaves
  ready_clause scope outer leaves lawful small none is items kinds =
      subst (λ f. Ready f scope leaves) (sym from_is) (record {
        small = few_items small;
        leaves_are = is;
        seen = seen_clause scope (from_tree (out-Query q).from) outer lawful (few_items small) none items kinds;
      })

-- the conjuncts of ON
module _ (scope : Scope) (l r : FromTree) (leaves : LeavesTree) (h : Halves l r scope leaves) where
  abbrev S : List Table
  S = scope.schema.now.tables

  pub both_inside : inside scope ≡ scope_of S l ++ scope_of S r
  both_inside = ap columns_of h.items ∙ columns_append (items_of S l) (items_of S r) ∙ (λ i. scope_items S l i ++ scope_items S r i)

  pub both_narrow : length (inside scope) < 2 ^ 32
  both_narrow = let e : length (inside scope) ≡ length (scope_of S l ++ scope_of S r) = ap length both_inside in omega (arith, e, length-append (scope_of S l) (scope_of S r), h.narrow)

  pub on_same : (outer block : List ScopeColumn) (on : CondTree) → first_of (joins_fault S outer block l) (joins_fault S outer block r) ≡ None → cond_fault S outer block (inside scope) scope.kinds.now on ≡ on_fault S outer block l r on
  on_same outer block on none =
      (λ i. cond_fault S outer block (both_inside i) (h.kinds i) on) ∙ ap (λ f. first_of f (cond_fault S outer block (scope_of S l ++ scope_of S r) (kinds_of S l ++ kinds_of S r) on)) (sym none)

  pub on_is : (on : CondTree) → conjuncts S (inside scope) on ≡ on_conjuncts S l r on
  on_is on = ap (λ c. conjuncts S c on) both_inside

-- a list, joined, and a list with one operand more
module _ (S : List Table) where
  pub single_is : (f : FromTree) (list : CommaList) → IsList (first_operand S f) (later_operands S f) (commas_of S f) list → list_operand [] (part_tree list.first) (part_trees list.others.items) ≡ from_operand S f
  single_is f list is = (λ i. list_operand [] (is.0 i) (is.1 i)) ∙ whole_list S [] f

  pub longer_is : (l r : FromTree) (at : ℕ) (list new : CommaList) (p : PartTree) (n m : ℕ) → IsList (first_operand S l) (later_operands S l) (commas_of S l) list → p ≡ from_operand S r → n ≡ length (scope_of S l) → m ≡ length (scope_of S l ++ scope_of S r)
      → IsList (part_tree list.first) (part_trees list.others.items ++ p ∷ []) (list.commas.items ++ comma_at n m at ∷ []) new → IsList (first_operand S (comma l r at)) (later_operands S (comma l r at)) (commas_of S (comma l r at)) new
  longer_is l r at list new p n m is e a b h = (h.0 ∙ is.0, h.1 ∙ (λ i. is.1 i ++ e i ∷ []), h.2 ∙ (λ i. is.2 i ++ comma_at (a i) (b i) at ∷ []))

-- a subquery
module _ (S : List Table) (outer block scope : List ScopeColumn) (ks : List ColKind) where
  kinds_at_places : (cs : List ColumnName) → map (λ k. kind_at ks k) (map (place_of scope) cs) ≡ map (column_kind scope ks) cs
  kinds_at_places [] = refl
  kinds_at_places (c ∷ cs) = ap (λ l. column_kind scope ks c ∷ l) (kinds_at_places cs)

  abbrev member_fault : List ℕ → List ColKind → ℕ → Fault
  member_fault cols kinds at = first_of (fault_if (not (nat_eq (length cols) (length kinds))) InWidth at) (fault_if (not (kinds_same (map (λ k. kind_at ks k) cols) kinds)) TypeMismatch at)

  pub member_same : (at : ℕ) (cs : List ColumnName) (q : QueryTree) (word_at : ℕ) (cols : List ℕ) (kinds : List ColKind) → cols ≡ map (place_of scope) cs → kinds ≡ output_kinds S q → columns_fault outer scope cs ≡ None → query_fault S (outer ++ block) q ≡ None
      → member_fault cols kinds word_at ≡ cond_fault S outer block scope ks (in_query at cs q word_at)
  member_same at cs q word_at cols kinds e k none known =
      (λ i. member_fault (e i) (k i) word_at)
      ∙ (λ i. first_of (fault_if (not (nat_eq (length_map (place_of scope) cs i) (length (output_kinds S q)))) InWidth word_at) (fault_if (not (kinds_same (kinds_at_places cs i) (output_kinds S q))) TypeMismatch word_at))
      ∙ (λ i. first_of (sym none i) (first_of (sym known i) (first_of (fault_if (not (nat_eq (length cs) (length (output_kinds S q)))) InWidth word_at) (fault_if (not (kinds_same (map (column_kind scope ks) cs) (output_kinds S q))) TypeMismatch word_at))))

-- a join of two operands, whichever it is
abbrev pub IsJoin : FromTree → FromTree → FromTree → CondTree → ℕ → Type 0
IsJoin f l r on at = (f ≡ inner_join l r on at) ⊎ ((f ≡ left_join l r on at) ⊎ (f ≡ right_join l r on at))

module _ (scope : Scope) (f l r : FromTree) (on : CondTree) (at : ℕ) (leaves : LeavesTree) where
  pub few_and_halves : IsJoin f l r on at → Ready f scope leaves → (items_in_cond on ≤ 256) × Halves l r scope leaves
  few_and_halves (inl e) h = let k = subst (λ g. Ready g scope leaves) e h in (few_on l r on k.small, inner_halves scope l r on at leaves k)
  few_and_halves (inr (inl e)) h = let k = subst (λ g. Ready g scope leaves) e h in (few_on l r on k.small, left_halves scope l r on at leaves k)
  few_and_halves (inr (inr e)) h = let k = subst (λ g. Ready g scope leaves) e h in (few_on l r on k.small, right_halves scope l r on at leaves k)

-- what it told of its operands, told of the clause
module _ (S : List Table) (outer block : List ScopeColumn) (l r : FromTree) (on : CondTree) (at : ℕ) (js : List Conjunct) (one other : PartTree) (result : Result CommaList BuildError)
    (parts : first_of (joins_fault S outer block l) (joins_fault S outer block r) ≡ None) (none : cond_fault S outer block (scope_of S l ++ scope_of S r) (kinds_of S l ++ kinds_of S r) on ≡ None)
    (is : js ≡ conjuncts S (scope_of S l ++ scope_of S r) on) (left : one ≡ from_operand S l) (right : other ≡ from_operand S r) where
  abbrev ToldOfClause : FromTree → Type 0
  ToldOfClause f = Tells (joins_fault S outer block f) (IsList (first_operand S f) (later_operands S f) (commas_of S f)) result

  abbrev ToldOfJoin : FromTree → Type 0
  ToldOfJoin f = Tells (join_fault (padded_by f) (length one.places) js (conjunct_places on) at) (IsList (joined_operand (padded_by f) js one other) [] []) result

  pub join_told : (f : FromTree) → IsJoin f l r on at → ToldOfJoin f → ToldOfClause f
  join_told f (inl e) h = subst ToldOfClause (sym e) (joined.inner_told S outer block (scope_of S l ++ scope_of S r) (kinds_of S l ++ kinds_of S r) l r on at js one other result parts none refl refl is left right (subst ToldOfJoin e h))
  join_told f (inr (inl e)) h = subst ToldOfClause (sym e) (joined.left_told S outer block (scope_of S l ++ scope_of S r) (kinds_of S l ++ kinds_of S r) l r on at js one other result parts none refl refl is left right (subst ToldOfJoin e h))
  join_told f (inr (inr e)) h = subst ToldOfClause (sym e) (joined.right_told S outer block (scope_of S l ++ scope_of S r) (kinds_of S l ++ kinds_of S r) l r on at js one other result parts none refl refl is left right (subst ToldOfJoin e h))
