-- The columns of FROM items: their names, those of one alias, and where these stand.
use Rattle.std.proofs.Common.{◌≡◌, ℕ, suc, ◌+◌, Bool, true, false, ◌||◌, not, cond, List, [], ◌∷◌, ◌++◌, map, length, length-append, filter, refl, sym, ap, ◌∙◌, arith}
use Rattle.std.specs.Prelude.{flat_map}
use Rattle.std.specs.List.{list_any}
use Rattle.std.specs.Str.{bytes_eq}
use Rattle.wt_schema.specs.declared.schema.ColKind.{ColKind}
use Rattle.wt_ast.specs.declared.tree.Item.{Item}
use Rattle.wt_ast.specs.declared.tree.Item.TheVariants.{Star, AllOf, Column}
use Rattle.wt_query_rows.specs.declared.scope.ScopeColumn.{ScopeColumn}
use Rattle.wt_query_rows.specs.Scopes.{in_scope, is_of}
use Rattle.wt_plan.specs.Regular.{upto, kind_at, kinds_at}
use Rattle.wt_plan.proofs.Upto.{length_map}
use Rattle.wt_query_plan.specs.Building.{places_where, item_places}
use Rattle.wt_query_plan.specs.Faults.{is_empty, item_kinds}
use Rattle.wt_resolve.specs.declared.lookup.ScopeItem.{ScopeItem}
use Rattle.wt_resolve.specs.Scoping.{item_columns, columns_of}
use Rattle.wt_select.proofs.Ranges.{map_append}

abbrev pub name_of : ScopeColumn → List ℕ
name_of s = s.name

pub item_named : (i : ScopeItem) → map name_of (item_columns i) ≡ i.names
item_named i = here i.names
  where
    here : (names : List (List ℕ)) → map name_of (map (in_scope i.alias) names) ≡ names
    here [] = refl
    here (n ∷ names) = ap (λ l. n ∷ l) (here names)

-- the columns of one item under an alias: all of them or none
pub item_under : (alias : List ℕ) (i : ScopeItem) (b : Bool) → bytes_eq alias i.alias ≡ b → filter (is_of alias) (item_columns i) ≡ cond b (item_columns i) []
item_under alias i b e = here i.names b e
  where
    here : (names : List (List ℕ)) (b : Bool) → bytes_eq alias i.alias ≡ b → filter (is_of alias) (map (in_scope i.alias) names) ≡ cond b (map (in_scope i.alias) names) []
    here [] true e = refl
    here [] false e = refl
    here (n ∷ names) true e = rw e (ap (λ l. in_scope i.alias n ∷ l) (here names true e))
    here (n ∷ names) false e = rw e (here names false e)

pub item_places_under : (alias : List ℕ) (i : ScopeItem) (b : Bool) → bytes_eq alias i.alias ≡ b → places_where (is_of alias) (item_columns i) ≡ cond b (upto (length i.names)) []
item_places_under alias i b e = here i.names b e
  where
    here : (names : List (List ℕ)) (b : Bool) → bytes_eq alias i.alias ≡ b → places_where (is_of alias) (map (in_scope i.alias) names) ≡ cond b (upto (length names)) []
    here [] true e = refl
    here [] false e = refl
    here (n ∷ names) true e = rw e (ap (λ l. 0 ∷ map suc l) (here names true e))
    here (n ∷ names) false e = rw e (ap (map suc) (here names false e))

moved_twice : (n : ℕ) (xs : List ℕ) → map suc (map (λ k. n + k) xs) ≡ map (λ k. suc n + k) xs
moved_twice n [] = refl
moved_twice n (x ∷ xs) = let e : suc (n + x) ≡ suc n + x = omega arith in λ i. e i ∷ moved_twice n xs i

moved_none : (xs : List ℕ) → xs ≡ map (λ k. 0 + k) xs
moved_none [] = refl
moved_none (x ∷ xs) = let e : x ≡ 0 + x = omega arith in λ i. e i ∷ moved_none xs i

pub where_append : (t : ScopeColumn → Bool) (xs ys : List ScopeColumn) → places_where t (xs ++ ys) ≡ places_where t xs ++ map (λ k. length xs + k) (places_where t ys)
where_append t [] ys = moved_none (places_where t ys)
where_append t (x ∷ xs) ys = here (t x) (ap (map suc) (where_append t xs ys) ∙ map_append suc (places_where t xs) (map (λ k. length xs + k) (places_where t ys)) ∙ ap (λ l. map suc (places_where t xs) ++ l) (moved_twice (length xs) (places_where t ys) ∙ ap (λ n. map (λ k. n + k) (places_where t ys)) more))
  where
    more : suc (length xs) ≡ length (x ∷ xs)
    more = omega arith

    here : (b : Bool) → map suc (places_where t (xs ++ ys)) ≡ map suc (places_where t xs) ++ map (λ k. length (x ∷ xs) + k) (places_where t ys)
        → cond b (0 ∷ map suc (places_where t (xs ++ ys))) (map suc (places_where t (xs ++ ys))) ≡ cond b (0 ∷ map suc (places_where t xs)) (map suc (places_where t xs)) ++ map (λ k. length (x ∷ xs) + k) (places_where t ys)
    here true e = ap (λ l. 0 ∷ l) e
    here false e = e

-- whether a place is there says whether a column passes
pub places_tell : (t : ScopeColumn → Bool) (xs : List ScopeColumn) → not (is_empty (places_where t xs)) ≡ list_any t xs
places_tell t [] = refl
places_tell t (x ∷ xs) = here (t x) (places_tell t xs)
  where
    moved : (l : List ℕ) → is_empty (map suc l) ≡ is_empty l
    moved [] = refl
    moved (k ∷ l) = refl

    here : (b : Bool) → not (is_empty (places_where t xs)) ≡ list_any t xs → not (is_empty (cond b (0 ∷ map suc (places_where t xs)) (map suc (places_where t xs)))) ≡ (b || list_any t xs)
    here true e = refl
    here false e = ap not (moved (places_where t xs)) ∙ e

-- the kinds at all places
kinds_moved : (k : ColKind) (ks : List ColKind) (cols : List ℕ) → kinds_at (k ∷ ks) (map suc cols) ≡ kinds_at ks cols
kinds_moved k ks [] = refl
kinds_moved k ks (c ∷ cols) = ap (λ l. kind_at ks c ∷ l) (kinds_moved k ks cols)

pub kinds_upto : (ks : List ColKind) → kinds_at ks (upto (length ks)) ≡ ks
kinds_upto [] = refl
kinds_upto (k ∷ ks) = ap (λ l. k ∷ l) (kinds_moved k ks (upto (length ks)) ∙ kinds_upto ks)

pub item_kinds_at : (scope : List ScopeColumn) (ks : List ColKind) (i : Item) → length ks ≡ length scope → kinds_at ks (item_places scope i) ≡ item_kinds scope ks i
item_kinds_at scope ks (Star at) e = ap (λ n. kinds_at ks (upto n)) (sym e) ∙ kinds_upto ks
item_kinds_at scope ks (AllOf alias at) e = refl
item_kinds_at scope ks (Column column output) e = refl

pub item_width : (scope : List ScopeColumn) (ks : List ColKind) (i : Item) → length ks ≡ length scope → length (item_kinds scope ks i) ≡ length (item_places scope i)
item_width scope ks i e = ap length (sym (item_kinds_at scope ks i e)) ∙ length_map (kind_at ks) (item_places scope i)

-- one more item of a list, as loops go over it
pub under_next : (alias : List ℕ) (i : ScopeItem) (rest : List ScopeItem) (b : Bool) (first : ℕ) (old now whole : List ℕ) → bytes_eq alias i.alias ≡ b
    → now ≡ old ++ map (λ k. first + k) (cond b (upto (length i.names)) [])
    → old ++ map (λ k. first + k) (places_where (is_of alias) (columns_of (i ∷ rest))) ≡ whole
    → now ++ map (λ k. (first + length i.names) + k) (places_where (is_of alias) (columns_of rest)) ≡ whole
under_next alias i rest b first old now whole e f g =
    let l : length (item_columns i) ≡ length i.names = length_map (in_scope i.alias) i.names in
    let later : map (λ k. first + k) (map (λ k. length (item_columns i) + k) (places_where (is_of alias) (columns_of rest))) ≡ map (λ k. (first + length i.names) + k) (places_where (is_of alias) (columns_of rest)) =
    moved (places_where (is_of alias) (columns_of rest)) ∙ ap (λ n. map (λ k. (first + n) + k) (places_where (is_of alias) (columns_of rest))) l in
    let split : map (λ k. first + k) (places_where (is_of alias) (columns_of (i ∷ rest))) ≡ map (λ k. first + k) (cond b (upto (length i.names)) []) ++ map (λ k. (first + length i.names) + k) (places_where (is_of alias) (columns_of rest)) =
    ap (map (λ k. first + k)) (where_append (is_of alias) (item_columns i) (columns_of rest))
    ∙ map_append (λ k. first + k) (places_where (is_of alias) (item_columns i)) (map (λ k. length (item_columns i) + k) (places_where (is_of alias) (columns_of rest)))
    ∙ (λ j. map (λ k. first + k) (item_places_under alias i b e j) ++ later j) in
    ap (λ l. l ++ map (λ k. (first + length i.names) + k) (places_where (is_of alias) (columns_of rest))) f
    ∙ Rattle.wt_select.proofs.Ranges.append_append old _ _ ∙ ap (λ l. old ++ l) (sym split) ∙ g
  where
    moved : (xs : List ℕ) → map (λ k. first + k) (map (λ k. length (item_columns i) + k) xs) ≡ map (λ k. (first + length (item_columns i)) + k) xs
    moved [] = refl
    moved (x ∷ xs) = let e : first + (length (item_columns i) + x) ≡ (first + length (item_columns i)) + x = omega arith in λ j. e j ∷ moved xs j

pub counted_next : (i : ScopeItem) (rest : List ScopeItem) → length (columns_of (i ∷ rest)) ≡ length i.names + length (columns_of rest)
counted_next i rest = length-append (item_columns i) (columns_of rest) ∙ ap (λ n. n + length (columns_of rest)) (length_map (in_scope i.alias) i.names)

-- all names, and those under an alias, item by item
pub all_named : (items : List ScopeItem) → map (λ (s : ScopeColumn). s.name) (columns_of items) ≡ flat_map (λ (i : ScopeItem). i.names) items
all_named [] = refl
all_named (i ∷ items) = map_append name_of (item_columns i) (columns_of items) ∙ (λ j. item_named i j ++ all_named items j)

filter_append : (t : ScopeColumn → Bool) (xs ys : List ScopeColumn) → filter t (xs ++ ys) ≡ filter t xs ++ filter t ys
filter_append t [] ys = refl
filter_append t (x ∷ xs) ys = here (t x) (filter_append t xs ys)
  where
    here : (b : Bool) → filter t (xs ++ ys) ≡ filter t xs ++ filter t ys → cond b (x ∷ filter t (xs ++ ys)) (filter t (xs ++ ys)) ≡ cond b (x ∷ filter t xs) (filter t xs) ++ filter t ys
    here true e = ap (λ l. x ∷ l) e
    here false e = e

pub under_named : (alias : List ℕ) (items : List ScopeItem) → map (λ (s : ScopeColumn). s.name) (filter (is_of alias) (columns_of items)) ≡ flat_map (λ (i : ScopeItem). cond (bytes_eq alias i.alias) i.names []) items
under_named alias [] = refl
under_named alias (i ∷ items) =
    ap (map name_of) (filter_append (is_of alias) (item_columns i) (columns_of items)) ∙ map_append name_of (filter (is_of alias) (item_columns i)) (filter (is_of alias) (columns_of items))
    ∙ (λ j. one (bytes_eq alias i.alias) refl j ++ under_named alias items j)
  where
    one : (b : Bool) → bytes_eq alias i.alias ≡ b → map name_of (filter (is_of alias) (item_columns i)) ≡ cond b i.names []
    one true e = ap (map name_of) (item_under alias i true e) ∙ item_named i
    one false e = ap (map name_of) (item_under alias i false e)
