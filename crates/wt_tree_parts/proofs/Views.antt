-- Conditions in a Vec, and names and columns by place.
use Rattle.std.specs.Str.{bytes_eq}
use Rattle.wt_query_rows.specs.declared.scope.ScopeColumn.{ScopeColumn}
use Rattle.std.proofs.Common.{◌≡◌, ◌≢◌, ℕ, zero, suc, ◌+◌, ◌-◌, ◌<◌, ◌≤◌, true, ◌&&◌, drop, List, [], ◌∷◌, ◌++◌, map, length, get_or, refl, sym, ap, ◌∙◌, arith}
use Rattle.wt_schema.specs.declared.schema.Table.{Table}
use Rattle.wt_ast.specs.declared.tree.Condition.{Condition}
use Rattle.wt_ast.specs.Tree.{CondTree, CondTrees, cond_then, condition_tree, condition_trees, trees_of}
use Rattle.wt_ast.specs.Tree as trees
use Rattle.wt_ast.proofs.Lists as lists
use Rattle.wt_query_rows.specs.Scopes.{column_names}
use Rattle.std.proofs.lemmas.List.{get_or-map}
use Rattle.wt_plan.specs.Regular.{upto}
use Rattle.wt_plan.proofs.Upto.{length_upto}
use Rattle.wt_blocks.proofs.Numbering.{get_upto}
use Rattle.wt_blocks.proofs.Zones.{names_count}
use Rattle.wt_blocks.specs.Printed.{place_name, place_names, table_name, table_columns, together, where_of, have_names}

pub ruleset befores = (lists.before_none, lists.before_last)

pub trees_of_map : (cs : List Condition) → trees_of (map condition_tree cs) ≡ condition_trees cs
trees_of_map [] = refl
trees_of_map (c ∷ cs) = ap (cond_then (condition_tree c)) (trees_of_map cs)

-- conditions that are not one alone
pub together_many : (cs : List Condition) → length cs ≢ 1 → trees.all_of 0 (condition_trees cs) ≡ together (map condition_tree cs)
together_many [] h = refl
together_many (c ∷ []) h = absurd (h refl)
together_many (c ∷ d ∷ cs) h = ap (trees.all_of 0) (sym (trees_of_map (c ∷ d ∷ cs)))

pub together_one : (cs new : List Condition) (c : Condition) → length cs ≡ 1 → cs ≡ new ++ c ∷ [] → condition_tree c ≡ together (map condition_tree cs)
together_one cs [] c l e = ap (λ l'. together (map condition_tree l')) (sym e)
together_one cs (x ∷ []) c l e = absurd (let bad : ⊥ = omega (arith, ap length e, l) in bad)
together_one cs (x ∷ y ∷ new) c l e = absurd (let bad : ⊥ = omega (arith, ap length e, l) in bad)

-- ---- one more name

map_suc_last : (n : ℕ) (xs : List ℕ) → map suc (xs ++ n ∷ []) ≡ map suc xs ++ suc n ∷ []
map_suc_last n [] = refl
map_suc_last n (x ∷ xs) = ap (λ l. suc x ∷ l) (map_suc_last n xs)

upto_last : (n : ℕ) → upto (suc n) ≡ upto n ++ n ∷ []
upto_last zero = refl
upto_last (suc n) = ap (λ l. 0 ∷ l) (ap (map suc) (upto_last n) ∙ map_suc_last n (upto n))

map_last : (f : ℕ → List ℕ) (xs : List ℕ) (x : ℕ) → map f (xs ++ x ∷ []) ≡ map f xs ++ f x ∷ []
map_last f [] x = refl
map_last f (y ∷ xs) x = ap (λ l. f y ∷ l) (map_last f xs x)

pub next_name : (k : ℕ) → place_names (k + 1) ≡ place_names k ++ place_name k ∷ []
next_name k = let e : k + 1 ≡ suc k = omega arith in ap place_names e ∙ ap (map place_name) (upto_last k) ∙ map_last place_name (upto k) k

-- ---- tables by number

pub columns_there : (S : List Table) (n : ℕ) (t : Table) → n < length S → column_names (get_or S n t).columns ≡ table_columns S n
columns_there [] n t l = absurd (let bad : ⊥ = omega (arith, l) in bad)
columns_there (s ∷ S) zero t l = refl
columns_there (s ∷ S) (suc n) t l = columns_there S n t (omega (arith, l))

pub columns_past : (S : List Table) (n : ℕ) → length S ≤ n → [] ≡ table_columns S n
columns_past [] n l = refl
columns_past (s ∷ S) zero l = absurd (let bad : ⊥ = omega (arith, l) in bad)
columns_past (s ∷ S) (suc n) l = columns_past S n (omega (arith, l))

pub name_there : (S : List Table) (n : ℕ) (t : Table) → n < length S → (get_or S n t).name ≡ table_name S n
name_there [] n t l = absurd (let bad : ⊥ = omega (arith, l) in bad)
name_there (s ∷ S) zero t l = refl
name_there (s ∷ S) (suc n) t l = name_there S n t (omega (arith, l))

pub name_past : (S : List Table) (n : ℕ) → length S ≤ n → [] ≡ table_name S n
name_past [] n l = refl
name_past (s ∷ S) zero l = absurd (let bad : ⊥ = omega (arith, l) in bad)
name_past (s ∷ S) (suc n) l = name_past S n (omega (arith, l))

pub ruleset tables = (columns_there, columns_past, name_there, name_past)

-- ---- columns by place

pub count_places : (w : ℕ) → length (place_names w) ≡ w
count_places w = names_count w

pub place_named : (w k : ℕ) (d : List ℕ) → k < w → get_or (place_names w) k d ≡ place_name k
place_named w k d l =
    let n : k < length (upto w) = omega (arith, l, length_upto w) in
    get_or-map place_name (upto w) k 0 d n ∙ ap place_name (get_upto w k 0 l)

pub ruleset places = (count_places, place_named)

-- ---- names of columns from a place on

pub same_here : (scope : List ScopeColumn) (names : List (List ℕ)) (k : ℕ) (d : ScopeColumn) (e : List ℕ) → k < length scope → k < length names
    → have_names (drop k scope) (drop k names) ≡ bytes_eq (get_or scope k d).name (get_or names k e) && have_names (drop (suc k) scope) (drop (suc k) names)
same_here [] names k d e l m = absurd (let bad : ⊥ = omega (arith, l) in bad)
same_here (s ∷ scope) [] k d e l m = absurd (let bad : ⊥ = omega (arith, m) in bad)
same_here (s ∷ scope) (n ∷ names) zero d e l m = refl
same_here (s ∷ scope) (n ∷ names) (suc k) d e l m = same_here scope names k d e (omega (arith, l)) (omega (arith, m))

pub nothing_left : (scope : List ScopeColumn) (names : List (List ℕ)) (k : ℕ) → length scope ≡ length names → length names ≤ k → have_names (drop k scope) (drop k names) ≡ true
nothing_left [] [] zero e l = refl
nothing_left [] [] (suc k) e l = refl
nothing_left [] (n ∷ names) k e l = absurd (let bad : ⊥ = omega (arith, e) in bad)
nothing_left (s ∷ scope) [] k e l = absurd (let bad : ⊥ = omega (arith, e) in bad)
nothing_left (s ∷ scope) (n ∷ names) zero e l = absurd (let bad : ⊥ = omega (arith, l) in bad)
nothing_left (s ∷ scope) (n ∷ names) (suc k) e l = nothing_left scope names k (omega (arith, e)) (omega (arith, l))
