-- Names among the columns of FROM items, item by item.
use Rattle.std.proofs.Common.{◌≡◌, ℕ, suc, ◌+◌, ◌-◌, ◌^◌, ◌<◌, ◌≤◌, Bool, true, false, cond, List, [], ◌∷◌, ◌++◌, map, length, length-append, filter, drop, Some, slice_get, refl, ap, ◌∙◌, arith}
use Rattle.std.specs.Prelude.{min}
use Rattle.std.specs.Str.{bytes_eq}
use Rattle.std.specs.Option.{option_map}
use Rattle.std.proofs.lemmas.List.{drop_more}
use Rattle.std.proofs.lemmas.Option.{slice_get-map, slice_get_within, get_or_from_slice_get}
use Rattle.wt_ast.specs.declared.tree.ColumnName.{ColumnName}
use Rattle.wt_query_rows.specs.declared.scope.ScopeColumn.{ScopeColumn}
use Rattle.wt_query_rows.specs.Scopes.{in_scope, alias_fits, fits}
use Rattle.wt_query_plan.specs.Building.{place_of}
use Rattle.wt_resolve.specs.declared.lookup.ScopeItem.{ScopeItem}
use Rattle.wt_resolve.specs.Scoping.{item_columns, columns_of, named_at}
use Rattle.wt_plan.proofs.Upto.{length_map}
use Rattle.wt_schema.specs.declared.schema.Column.{Column}
use Rattle.wt_query_rows.specs.Scopes.{column_names}

-- a list from one of its elements on
pub get_drop : {X : Type 0} (xs : List X) (i : ℕ) (x : X) → slice_get xs i ≡ Some x → drop i xs ≡ x ∷ drop (i + 1) xs
get_drop xs i x e = drop_more xs i x (slice_get_within xs i x e) ∙ ap (λ y. y ∷ drop (i + 1) xs) (get_or_from_slice_get xs i x x e)

-- the name of a table's column
pub name_at : (columns : List Column) (i : ℕ) (c : Column) → slice_get columns i ≡ Some c → slice_get (column_names columns) i ≡ Some c.name
name_at columns i c e = slice_get-map (λ (d : Column). d.name) columns i ∙ ap (option_map (λ (d : Column). d.name)) e

filter_length : {X : Type 0} (p : X → Bool) (xs ys : List X) → length (filter p (xs ++ ys)) ≡ length (filter p xs) + length (filter p ys)
filter_length p [] ys = omega arith
filter_length p (x ∷ xs) ys = here (p x) (filter_length p xs ys)
  where
    here : (b : Bool) → length (filter p (xs ++ ys)) ≡ length (filter p xs) + length (filter p ys)
        → length (cond b (x ∷ filter p (xs ++ ys)) (filter p (xs ++ ys))) ≡ length (cond b (x ∷ filter p xs) (filter p xs)) + length (filter p ys)
    here true e = omega (arith, e)
    here false e = e

-- how many columns of one item a name fits
pub fitting_item : (c : ColumnName) (i : ScopeItem) (b : Bool) → alias_fits c.table i.alias ≡ b → length (filter (fits c) (item_columns i)) ≡ cond b (length (filter (bytes_eq c.name) i.names)) 0
fitting_item c i b e = names_of i.names b e
  where
    names_of : (names : List (List ℕ)) (b : Bool) → alias_fits c.table i.alias ≡ b → length (filter (fits c) (map (in_scope i.alias) names)) ≡ cond b (length (filter (bytes_eq c.name) names)) 0
    names_of [] true e = refl
    names_of [] false e = refl
    names_of (n ∷ names) b e = one b e (bytes_eq c.name n) refl (names_of names b e)
      where
        one : (b : Bool) → alias_fits c.table i.alias ≡ b → (d : Bool) → bytes_eq c.name n ≡ d → length (filter (fits c) (map (in_scope i.alias) names)) ≡ cond b (length (filter (bytes_eq c.name) names)) 0
            → length (filter (fits c) (map (in_scope i.alias) (n ∷ names))) ≡ cond b (length (filter (bytes_eq c.name) (n ∷ names))) 0
        one true e true f h = rw (e, f) (ap suc h)
        one true e false f h = rw (e, f) h
        one false e d f h = rw e h

-- one more item of a count that stands at 2 ^ 64 - 1 where it would pass it
pub fitting_step : (c : ColumnName) (i : ScopeItem) (rest : List ScopeItem) (count more k : ℕ) → k ≡ length (filter (fits c) (item_columns i)) → more ≡ min (2 ^ 64 - 1) (count + k)
    → min (2 ^ 64 - 1) (count + length (filter (fits c) (columns_of (i ∷ rest)))) ≡ min (2 ^ 64 - 1) (more + length (filter (fits c) (columns_of rest)))
fitting_step c i rest count more k e f =
    let split : length (filter (fits c) (columns_of (i ∷ rest))) ≡ length (filter (fits c) (item_columns i)) + length (filter (fits c) (columns_of rest)) = filter_length (fits c) (item_columns i) (columns_of rest) in
    rw (split, f, e) (two (length (filter (fits c) (item_columns i))) (length (filter (fits c) (columns_of rest))))
  where
    two : (x y : ℕ) → min (2 ^ 64 - 1) (count + (x + y)) ≡ min (2 ^ 64 - 1) (min (2 ^ 64 - 1) (count + x) + y)
    two x y = grind arith

-- the place of a name in one item
pub place_item : (c : ColumnName) (i : ScopeItem) (b : Bool) → alias_fits c.table i.alias ≡ b → place_of (item_columns i) c ≡ cond b (named_at i.names c.name) (length i.names)
place_item c i b e = names_of i.names b e
  where
    names_of : (names : List (List ℕ)) (b : Bool) → alias_fits c.table i.alias ≡ b → place_of (map (in_scope i.alias) names) c ≡ cond b (named_at names c.name) (length names)
    names_of [] true e = refl
    names_of [] false e = refl
    names_of (n ∷ names) b e = one b e (bytes_eq c.name n) refl (names_of names b e)
      where
        one : (b : Bool) → alias_fits c.table i.alias ≡ b → (d : Bool) → bytes_eq c.name n ≡ d → place_of (map (in_scope i.alias) names) c ≡ cond b (named_at names c.name) (length names)
            → place_of (map (in_scope i.alias) (n ∷ names)) c ≡ cond b (named_at (n ∷ names) c.name) (length (n ∷ names))
        one true e true f h = rw (e, f) refl
        one true e false f h = rw (e, f) (ap suc h)
        one false e d f h = rw e (ap suc h)

place_at_most : (scope : List ScopeColumn) (c : ColumnName) → place_of scope c ≤ length scope
place_at_most [] c = omega arith
place_at_most (s ∷ scope) c = here (fits c s) (place_at_most scope c)
  where
    here : (b : Bool) → place_of scope c ≤ length scope → cond b 0 (suc (place_of scope c)) ≤ length (s ∷ scope)
    here true h = omega arith
    here false h = omega (arith, h)

-- a name that is in the first columns stands there, another behind them
place_there : (xs ys : List ScopeColumn) (c : ColumnName) → place_of xs c < length xs → place_of (xs ++ ys) c ≡ place_of xs c
place_there [] ys c h = absurd (let bad : ⊥ = omega (arith, h) in bad)
place_there (s ∷ xs) ys c h = here (fits c s) h (place_there xs ys c)
  where
    here : (b : Bool) → cond b 0 (suc (place_of xs c)) < length (s ∷ xs) → (place_of xs c < length xs → place_of (xs ++ ys) c ≡ place_of xs c) → cond b 0 (suc (place_of (xs ++ ys) c)) ≡ cond b 0 (suc (place_of xs c))
    here true h k = refl
    here false h k = ap suc (k (omega (arith, h)))

place_behind : (xs ys : List ScopeColumn) (c : ColumnName) → length xs ≤ place_of xs c → place_of (xs ++ ys) c ≡ length xs + place_of ys c
place_behind [] ys c h = omega arith
place_behind (s ∷ xs) ys c h = here (fits c s) h (place_behind xs ys c)
  where
    here : (b : Bool) → length (s ∷ xs) ≤ cond b 0 (suc (place_of xs c)) → (length xs ≤ place_of xs c → place_of (xs ++ ys) c ≡ length xs + place_of ys c) → cond b 0 (suc (place_of (xs ++ ys) c)) ≡ length (s ∷ xs) + place_of ys c
    here true h k = absurd (let bad : ⊥ = omega (arith, h) in bad)
    here false h k = let e = k (omega (arith, h)) in omega (arith, e)

-- found in this item
pub place_found : (c : ColumnName) (i : ScopeItem) (rest : List ScopeItem) (before k whole : ℕ) → k ≡ place_of (item_columns i) c → k < length i.names → before + place_of (columns_of (i ∷ rest)) c ≡ whole → before + k ≡ whole
place_found c i rest before k whole e h f =
    let l : length (item_columns i) ≡ length i.names = length_map (in_scope i.alias) i.names in
    let there = place_there (item_columns i) (columns_of rest) c (omega (arith, e, h, l)) in
    omega (arith, e, f, there)

-- passed over
pub place_passed : (c : ColumnName) (i : ScopeItem) (rest : List ScopeItem) (before k whole : ℕ) → k ≡ place_of (item_columns i) c → length i.names ≤ k → before + place_of (columns_of (i ∷ rest)) c ≡ whole
    → (before + k) + place_of (columns_of rest) c ≡ whole
place_passed c i rest before k whole e h f =
    let l : length (item_columns i) ≡ length i.names = length_map (in_scope i.alias) i.names in
    let most = place_at_most (item_columns i) c in
    let behind = place_behind (item_columns i) (columns_of rest) c (omega (arith, e, h, l)) in
    omega (arith, e, f, behind, l, most)

-- how many columns there are, one item more
pub columns_counted : (i : ScopeItem) (rest : List ScopeItem) → length (columns_of (i ∷ rest)) ≡ length i.names + length (columns_of rest)
columns_counted i rest = length-append (item_columns i) (columns_of rest) ∙ ap (λ n. n + length (columns_of rest)) (length_map (in_scope i.alias) i.names)

pub place_within : (c : ColumnName) (i : ScopeItem) → place_of (item_columns i) c ≤ length i.names
place_within c i = let l : length (item_columns i) ≡ length i.names = length_map (in_scope i.alias) i.names in omega (arith, l, place_at_most (item_columns i) c)
