-- A FROM clause's items, columns, kinds and places.
use Rattle.std.proofs.Common.{◌≡◌, ◌<◌, List, [], ◌∷◌, ◌++◌, map, length, refl, sym, ap, subst, ◌∙◌, append_assoc}
use Rattle.std.specs.Option.{unwrap_or}
use Rattle.wt_bag.specs.Bags.{Each}
use Rattle.wt_bag.proofs.EachLaws.{all_from_each}
use Rattle.wt_ast.specs.Tree.{FromTree, table, derived, inner_join, left_join, right_join, comma}
use Rattle.wt_schema.specs.declared.schema.Table.{Table}
use Rattle.wt_query_rows.specs.Scopes.{in_scope, columns_named, column_names, scope_of, output_names}
use Rattle.wt_query_plan.specs.Building.{places_of}
use Rattle.wt_query_plan.specs.Faults.{aliases_of}
use Rattle.wt_resolve.specs.declared.lookup.ScopeItem.{ScopeItem}
use Rattle.wt_resolve.specs.Scoping.{item_columns, columns_of}
use Rattle.wt_joins.specs.Parts.{Within}
use Rattle.wt_clause.specs.Items.{items_of, aliases}
use Rattle.wt_query_bounds.proofs.Clauses.{places_length, in_scope_all}

map_append : {X Y : Type 0} (f : X → Y) (xs ys : List X) → map f (xs ++ ys) ≡ map f xs ++ map f ys
map_append f [] ys = refl
map_append f (x ∷ xs) ys = ap (λ l. f x ∷ l) (map_append f xs ys)

nothing_behind : {X : Type 0} (xs : List X) → xs ++ [] ≡ xs
nothing_behind [] = refl
nothing_behind (x ∷ xs) = ap (λ l. x ∷ l) (nothing_behind xs)

pub columns_append : (xs ys : List ScopeItem) → columns_of (xs ++ ys) ≡ columns_of xs ++ columns_of ys
columns_append [] ys = refl
columns_append (x ∷ xs) ys = ap (λ l. item_columns x ++ l) (columns_append xs ys) ∙ sym (append_assoc (item_columns x) (columns_of xs) (columns_of ys))

module _ (S : List Table) where
  both_scopes : (l r : FromTree) → columns_of (items_of S l) ≡ scope_of S l → columns_of (items_of S r) ≡ scope_of S r → columns_of (items_of S l ++ items_of S r) ≡ scope_of S l ++ scope_of S r
  both_scopes l r e f = columns_append (items_of S l) (items_of S r) ∙ (λ i. e i ++ f i)

  pub scope_items : (f : FromTree) → columns_of (items_of S f) ≡ scope_of S f
  scope_items (table name alias at alias_at) = nothing_behind (map (in_scope (unwrap_or alias name)) (column_names (columns_named S name)))
  scope_items (derived q alias columns at alias_at) = nothing_behind (map (in_scope alias) (unwrap_or columns (output_names S q)))
  scope_items (inner_join l r on at) = both_scopes l r (scope_items l) (scope_items r)
  scope_items (left_join l r on at) = both_scopes l r (scope_items l) (scope_items r)
  scope_items (right_join l r on at) = both_scopes l r (scope_items l) (scope_items r)
  scope_items (comma l r at) = both_scopes l r (scope_items l) (scope_items r)

  both_aliases : (l r : FromTree) → aliases (items_of S l) ≡ aliases_of l → aliases (items_of S r) ≡ aliases_of r → aliases (items_of S l ++ items_of S r) ≡ aliases_of l ++ aliases_of r
  both_aliases l r e f = map_append (λ (i : ScopeItem). i.alias) (items_of S l) (items_of S r) ∙ (λ i. e i ++ f i)

  pub alias_items : (f : FromTree) → aliases (items_of S f) ≡ aliases_of f
  alias_items (table name alias at alias_at) = refl
  alias_items (derived q alias columns at alias_at) = refl
  alias_items (inner_join l r on at) = both_aliases l r (alias_items l) (alias_items r)
  alias_items (left_join l r on at) = both_aliases l r (alias_items l) (alias_items r)
  alias_items (right_join l r on at) = both_aliases l r (alias_items l) (alias_items r)
  alias_items (comma l r at) = both_aliases l r (alias_items l) (alias_items r)

  -- the aliases so far, with those of one more operand
  pub aliases_next : (f : FromTree) (old now : List ScopeItem) → now ≡ old ++ items_of S f → aliases now ≡ aliases old ++ aliases_of f
  aliases_next f old now e = ap aliases e ∙ map_append (λ (i : ScopeItem). i.alias) old (items_of S f) ∙ ap (λ l. aliases old ++ l) (alias_items f)

  -- the places of a clause are those of its rows
  pub places_within : (f : FromTree) → Within (places_of S f)
  places_within f = all_from_each (λ k. k < length (places_of S f)) (places_of S f) (subst (λ n. Each (λ k. k < n) (places_of S f)) (sym (places_length S f)) (in_scope_all S f))
