-- What a walk over a FROM clause knows of its parts.
use Rattle.std.proofs.Common.{◌≡◌, ℕ, ◌+◌, ◌<◌, ◌≤◌, ◌^◌, List, [], ◌∷◌, ◌++◌, length, length-append, take, drop, None, refl, sym, ap, subst, ◌∙◌, arith}
use Rattle.wt_ast.specs.Tree.{FromTree, CondTree, inner_join, left_join, right_join, comma}
use Rattle.wt_schema.specs.declared.schema.Table.{Table}
use Rattle.wt_schema.specs.Lawful.{IsSchema}
use Rattle.wt_query_rows.specs.declared.scope.ScopeColumn.{ScopeColumn}
use Rattle.wt_query_rows.specs.Scopes.{scope_of}
use Rattle.wt_query_plan.specs.Faults.{kinds_of, from_fault}
use Rattle.wt_resolve.specs.declared.lookup.Scope.{Scope}
use Rattle.wt_resolve.specs.Scoping.{columns_of, inside}
use Rattle.wt_clause.specs.Items.{LeavesTree, leaf, fork, leaves_of, items_of, IsPart, IsFork}
use Rattle.wt_query_bounds.specs.Bounds.{items_in_from, items_in_cond, Even}
use Rattle.wt_clause.specs.Walking.{Seen, Ready, Halves}
use Rattle.wt_clause.proofs.Clauses.{scope_items}
use Rattle.wt_query_bounds.proofs.Clauses.{even_all}
use Rattle.wt_query_bounds.proofs.Bounded.{from_even, from_few}

-- a clause without a fault of its items is seen
pub seen_clause : (scope : Scope) (f : FromTree) (outer : List ScopeColumn) → IsSchema scope.schema.now.tables → items_in_from f ≤ 256 → from_fault scope.schema.now.tables outer [] f ≡ None
    → scope.items.now ≡ items_of scope.schema.now.tables f → scope.kinds.now ≡ kinds_of scope.schema.now.tables f → Seen f scope
seen_clause scope f outer lawful small none items kinds =
    let few = from_few scope.schema.now.tables lawful f outer [] none in
    record {
      items = items;
      kinds = kinds;
      even = from_even scope.schema.now.tables f outer [] none;
      narrow = omega (arith, few, small);
    }

-- the columns in scope
pub seen_inside : (scope : Scope) (f : FromTree) → Seen f scope → inside scope ≡ scope_of scope.schema.now.tables f
seen_inside scope f h = ap columns_of h.items ∙ scope_items scope.schema.now.tables f

pub seen_narrow : (scope : Scope) (f : FromTree) → Seen f scope → length (inside scope) < 2 ^ 32
seen_narrow scope f h = subst (λ l. length l < 2 ^ 32) (sym (seen_inside scope f h)) h.narrow

pub seen_even : (scope : Scope) (f : FromTree) → Seen f scope → length scope.kinds.now ≡ length (inside scope)
seen_even scope f h = ap length h.kinds ∙ even_all scope.schema.now.tables f h.even ∙ ap length (sym (seen_inside scope f h))

pub seen_width : (scope : Scope) (f : FromTree) → Seen f scope → length scope.kinds.now ≡ length (scope_of scope.schema.now.tables f)
seen_width scope f h = ap length h.kinds ∙ even_all scope.schema.now.tables f h.even

-- the operands of a join or a comma
halves : (scope : Scope) (l r : FromTree) (leaves : LeavesTree) (m : ℕ) → (items_in_from l + items_in_from r) + m ≤ 256
    → leaves ≡ fork (leaves_of scope.schema.now.tables l) (leaves_of scope.schema.now.tables r) (length (items_of scope.schema.now.tables l)) (length (kinds_of scope.schema.now.tables l))
    → scope.items.now ≡ items_of scope.schema.now.tables l ++ items_of scope.schema.now.tables r → scope.kinds.now ≡ kinds_of scope.schema.now.tables l ++ kinds_of scope.schema.now.tables r
    → Even scope.schema.now.tables l → Even scope.schema.now.tables r → length (scope_of scope.schema.now.tables l ++ scope_of scope.schema.now.tables r) < 2 ^ 32 → Halves l r scope leaves
halves scope l r leaves m small is items kinds a b narrow = record {
  small = omega (arith, small);
  leaves_are = is;
  items = items;
  kinds = kinds;
  even_left = a;
  even_right = b;
  narrow = omega (arith, narrow, length-append (scope_of scope.schema.now.tables l) (scope_of scope.schema.now.tables r));
}

pub inner_halves : (scope : Scope) (l r : FromTree) (on : CondTree) (at : ℕ) (leaves : LeavesTree) → Ready (inner_join l r on at) scope leaves → Halves l r scope leaves
inner_halves scope l r on at leaves h = halves scope l r leaves (items_in_cond on) h.small h.leaves_are h.seen.items h.seen.kinds h.seen.even.0 h.seen.even.1 h.seen.narrow

pub left_halves : (scope : Scope) (l r : FromTree) (on : CondTree) (at : ℕ) (leaves : LeavesTree) → Ready (left_join l r on at) scope leaves → Halves l r scope leaves
left_halves scope l r on at leaves h = halves scope l r leaves (items_in_cond on) h.small h.leaves_are h.seen.items h.seen.kinds h.seen.even.0 h.seen.even.1 h.seen.narrow

pub right_halves : (scope : Scope) (l r : FromTree) (on : CondTree) (at : ℕ) (leaves : LeavesTree) → Ready (right_join l r on at) scope leaves → Halves l r scope leaves
right_halves scope l r on at leaves h = halves scope l r leaves (items_in_cond on) h.small h.leaves_are h.seen.items h.seen.kinds h.seen.even.0 h.seen.even.1 h.seen.narrow

pub comma_halves : (scope : Scope) (l r : FromTree) (at : ℕ) (leaves : LeavesTree) → Ready (comma l r at) scope leaves → Halves l r scope leaves
comma_halves scope l r at leaves h = halves scope l r leaves 0 (omega (arith, h.small)) h.leaves_are h.seen.items h.seen.kinds h.seen.even.0 h.seen.even.1 h.seen.narrow

-- the parts of a scope
taken : {X : Type 0} (xs ys : List X) → take (length xs) (xs ++ ys) ≡ xs
taken [] ys = refl
taken (x ∷ xs) ys = ap (λ l. x ∷ l) (taken xs ys)

dropped : {X : Type 0} (xs ys : List X) → drop (length xs) (xs ++ ys) ≡ ys
dropped [] ys = refl
dropped (x ∷ xs) ys = dropped xs ys

abbrev left_leaves : LeavesTree → LeavesTree → LeavesTree
left_leaves other (leaf plan) = other
left_leaves other (fork a b n m) = a

abbrev right_leaves : LeavesTree → LeavesTree → LeavesTree
right_leaves other (leaf plan) = other
right_leaves other (fork a b n m) = b

abbrev item_count : LeavesTree → ℕ
item_count (leaf plan) = 0
item_count (fork a b n m) = n

abbrev column_count : LeavesTree → ℕ
column_count (leaf plan) = 0
column_count (fork a b n m) = m

pub is_fork : (scope : Scope) (l r : FromTree) (leaves : LeavesTree) → Halves l r scope leaves → IsFork leaves
is_fork scope l r leaves h = subst IsFork (sym h.leaves_are) tt

module _ (scope : Scope) (l r : FromTree) (leaves a b : LeavesTree) (n m : ℕ) (h : Halves l r scope leaves) (e : leaves ≡ fork a b n m) where
  abbrev S : List Table
  S = scope.schema.now.tables

  counted : n ≡ length (items_of S l)
  counted = ap item_count (sym e ∙ h.leaves_are)

  columns_counted : m ≡ length (kinds_of S l)
  columns_counted = ap column_count (sym e ∙ h.leaves_are)

  pub items_there : n ≤ length scope.items.now
  items_there = let k : length scope.items.now ≡ length (items_of S l ++ items_of S r) = ap length h.items in omega (arith, counted, k, length-append (items_of S l) (items_of S r))

  pub columns_there : m ≤ length scope.kinds.now
  columns_there = let k : length scope.kinds.now ≡ length (kinds_of S l ++ kinds_of S r) = ap length h.kinds in omega (arith, columns_counted, k, length-append (kinds_of S l) (kinds_of S r))

  pub left_ready : (part : Scope) → IsPart scope (take n scope.items.now) (take m scope.kinds.now) part → Ready l part a
  left_ready part p =
      let items : part.items.now ≡ items_of S l = p.items_are ∙ (λ i. take (counted i) (h.items i)) ∙ taken (items_of S l) (items_of S r) in
      let kinds : part.kinds.now ≡ kinds_of S l = p.kinds_are ∙ (λ i. take (columns_counted i) (h.kinds i)) ∙ taken (kinds_of S l) (kinds_of S r) in
      let small : items_in_from l ≤ 256 = omega (arith, h.small) in
      let narrow : length (scope_of S l) < 2 ^ 32 = omega (arith, h.narrow) in
      let leaves_are : a ≡ leaves_of S l = ap (left_leaves a) (sym e ∙ h.leaves_are) in
      record {
        small = small;
        leaves_are = subst (λ t. a ≡ leaves_of t.now.tables l) (sym p.schema) leaves_are;
        seen = record {
          items = subst (λ t. part.items.now ≡ items_of t.now.tables l) (sym p.schema) items;
          kinds = subst (λ t. part.kinds.now ≡ kinds_of t.now.tables l) (sym p.schema) kinds;
          even = subst (λ t. Even t.now.tables l) (sym p.schema) h.even_left;
          narrow = subst (λ t. length (scope_of t.now.tables l) < 2 ^ 32) (sym p.schema) narrow;
        };
      }

  pub right_ready : (part : Scope) → IsPart scope (drop n scope.items.now) (drop m scope.kinds.now) part → Ready r part b
  right_ready part p =
      let items : part.items.now ≡ items_of S r = p.items_are ∙ (λ i. drop (counted i) (h.items i)) ∙ dropped (items_of S l) (items_of S r) in
      let kinds : part.kinds.now ≡ kinds_of S r = p.kinds_are ∙ (λ i. drop (columns_counted i) (h.kinds i)) ∙ dropped (kinds_of S l) (kinds_of S r) in
      let small : items_in_from r ≤ 256 = omega (arith, h.small) in
      let narrow : length (scope_of S r) < 2 ^ 32 = omega (arith, h.narrow) in
      let leaves_are : b ≡ leaves_of S r = ap (right_leaves b) (sym e ∙ h.leaves_are) in
      record {
        small = small;
        leaves_are = subst (λ t. b ≡ leaves_of t.now.tables r) (sym p.schema) leaves_are;
        seen = record {
          items = subst (λ t. part.items.now ≡ items_of t.now.tables r) (sym p.schema) items;
          kinds = subst (λ t. part.kinds.now ≡ kinds_of t.now.tables r) (sym p.schema) kinds;
          even = subst (λ t. Even t.now.tables r) (sym p.schema) h.even_right;
          narrow = subst (λ t. length (scope_of t.now.tables r) < 2 ^ 32) (sym p.schema) narrow;
        };
      }
