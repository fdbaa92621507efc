-- Tables by name, and aliases of items.
use Rattle.std.proofs.Common.{◌≡◌, ℕ, suc, ◌+◌, nat_lt, Bool, true, false, ◌||◌, not, cond, List, [], ◌∷◌, length, slice_get, Some, None, refl, sym, ap, ◌∙◌, arith}
use Rattle.std.proofs.lemmas.Bool.{ltb-true, ltb-false, lt-ltb, le-ltb}
use Rattle.std.specs.List.{list_any, position_or_len}
use Rattle.std.specs.Option.{option_map}
use Rattle.std.specs.Str.{bytes_eq}
use Rattle.wt_schema.specs.declared.schema.Column.{Column}
use Rattle.wt_schema.specs.declared.schema.Table.{Table}
use Rattle.wt_schema.specs.Lookup as schema
use Rattle.wt_resolve.specs.declared.lookup.ScopeItem.{ScopeItem}
use Rattle.wt_query_rows.specs.Scopes.{columns_named}
use Rattle.wt_query_plan.specs.Building.{table_number}
use Rattle.wt_clause.specs.Items.{aliases}

abbrev known : List Table → List ℕ → Bool
known S name = list_any (λ (t : Table). bytes_eq t.name name) S

number_is : (S : List Table) (name : List ℕ) → position_or_len (λ (t : Table). bytes_eq t.name name) S ≡ table_number S name
number_is [] name = refl
number_is (t ∷ S) name = here (bytes_eq t.name name) (number_is S name)
  where
    here : (b : Bool) → position_or_len (λ (u : Table). bytes_eq u.name name) S ≡ table_number S name → cond (not b) (1 + position_or_len (λ (u : Table). bytes_eq u.name name) S) 0 ≡ cond b 0 (suc (table_number S name))
    here true e = refl
    here false e = omega (arith, e)

lt_suc : (a b : ℕ) → nat_lt (suc a) (suc b) ≡ nat_lt a b
lt_suc a b = here (nat_lt a b) refl
  where
    here : (c : Bool) → nat_lt a b ≡ c → nat_lt (suc a) (suc b) ≡ c
    here true e = lt-ltb _ _ (omega (arith, ltb-true a b e))
    here false e = le-ltb _ _ (omega (arith, ltb-false a b e))

found_is : (S : List Table) (name : List ℕ) → nat_lt (table_number S name) (length S) ≡ known S name
found_is [] name = refl
found_is (t ∷ S) name = here (bytes_eq t.name name) (found_is S name)
  where
    here : (b : Bool) → nat_lt (table_number S name) (length S) ≡ known S name → nat_lt (cond b 0 (suc (table_number S name))) (length (t ∷ S)) ≡ (b || known S name)
    here true e = lt-ltb _ _ (omega arith)
    here false e = lt_suc (table_number S name) (length S) ∙ e

looked_up : (S : List Table) (name : List ℕ) → schema.table_number S name ≡ cond (known S name) (Some (table_number S name)) None
looked_up S name = λ i. cond ((ap (λ n. nat_lt n (length S)) (number_is S name) ∙ found_is S name) i) (Some (number_is S name i)) None

found : (b : Bool) (n m : ℕ) → cond b (Some m) None ≡ Some n → (b ≡ true) × (n ≡ m)
found true n m e = (refl, cc)
found false n m e = absurd cc

lost : (b : Bool) (m : ℕ) → cond b (Some m) None ≡ None → b ≡ false
lost true m e = absurd cc
lost false m e = refl

pub known_any : (S : List Table) (name : List ℕ) (n : ℕ) → schema.table_number S name ≡ Some n → known S name ≡ true
known_any S name n e = (found (known S name) n (table_number S name) (sym (looked_up S name) ∙ e)).0

pub known_number : (S : List Table) (name : List ℕ) (n : ℕ) → schema.table_number S name ≡ Some n → n ≡ table_number S name
known_number S name n e = (found (known S name) n (table_number S name) (sym (looked_up S name) ∙ e)).1

pub unknown_any : (S : List Table) (name : List ℕ) → schema.table_number S name ≡ None → known S name ≡ false
unknown_any S name e = lost (known S name) (table_number S name) (sym (looked_up S name) ∙ e)

abbrev columns_of : Table → List Column
columns_of t = t.columns

columns_found : (S : List Table) (name : List ℕ) (columns : List Column) → option_map columns_of (slice_get S (table_number S name)) ≡ Some columns → columns ≡ columns_named S name
columns_found [] name columns e = absurd cc
columns_found (t ∷ S) name columns e = here (bytes_eq t.name name) (columns_found S name columns) e
  where
    here : (b : Bool) → (option_map columns_of (slice_get S (table_number S name)) ≡ Some columns → columns ≡ columns_named S name)
        → option_map columns_of (slice_get (t ∷ S) (cond b 0 (suc (table_number S name)))) ≡ Some columns → columns ≡ cond b t.columns (columns_named S name)
    here true f e = cc
    here false f e = f e

pub known_columns : (S : List Table) (name : List ℕ) (n : ℕ) (columns : List Column) → schema.table_number S name ≡ Some n → option_map (λ (t : Table). t.columns) (slice_get S n) ≡ Some columns → columns ≡ columns_named S name
known_columns S name n columns e f = columns_found S name columns (ap (λ k. option_map columns_of (slice_get S k)) (sym (known_number S name n e)) ∙ f)

pub ruleset tables = (known_any, known_number, known_columns, unknown_any)

pub has_alias_is : (alias : List ℕ) (items : List ScopeItem) → list_any (λ (i : ScopeItem). bytes_eq alias i.alias) items ≡ list_any (bytes_eq alias) (aliases items)
has_alias_is alias [] = refl
has_alias_is alias (i ∷ items) = ap (λ b. bytes_eq alias i.alias || b) (has_alias_is alias items)
