-- The plan of a query before placement. Names become places in the columns in scope, in the order of the text.
use Rattle.std.specs.Prelude.{ℕ, zero, suc, ◌+◌, ◌-◌, nat_lt, Bool, true, false, ◌&&◌, ◌||◌, not, List, [], ◌∷◌, ◌++◌, map, filter, flat_map, length, get_or, if◌then◌else◌, Option, Some, None, is_some}
use Rattle.std.specs.List.{list_all}
use Rattle.std.specs.Str.{bytes_eq}
use Rattle.wt_value.specs.declared.value.Value.{Value}
use Rattle.wt_pred.specs.declared.tree.Cmp.TheVariants as signs
use Rattle.wt_pred.specs.declared.tree.Operand.{Operand}
use Rattle.wt_pred.specs.declared.tree.Operand.TheVariants as operands
use Rattle.wt_pred.specs.Tree.{PredTree, PredTrees}
use Rattle.wt_pred.specs.Tree as preds
use Rattle.wt_pred.specs.Columns.{columns, occurring, renumbered, place_in}
use Rattle.wt_schema.specs.declared.schema.Table.{Table}
use Rattle.wt_ast.specs.declared.tree.ColumnName.{ColumnName}
use Rattle.wt_ast.specs.declared.tree.CmpWord.{CmpWord}
use Rattle.wt_ast.specs.declared.tree.Item.{Item}
use Rattle.wt_ast.specs.declared.tree.Item.TheVariants.{Star, AllOf, Column}
use Rattle.wt_ast.specs.declared.tree.Scalar.{Scalar}
use Rattle.wt_ast.specs.declared.tree.Scalar.TheVariants as scalars
use Rattle.wt_ast.specs.Tree.{QueryTree, FilterTree, FromTree, CondTree, CondTrees, select, no_filter, filter_by, table, derived, inner_join, left_join, right_join, comma, compare, is_null, is_not_null, in_list, in_query, all_of, any_of, negated, no_conds, cond_then}
use Rattle.wt_query_rows.specs.declared.scope.ScopeColumn.{ScopeColumn}
use Rattle.wt_query_rows.specs.Scopes.{fits, is_of, columns_named, scope_of}
use Rattle.wt_query_rows.specs.Rows.{sign_of}
use Rattle.wt_plan.specs.Tree.{PlanTree}
use Rattle.wt_plan.specs.Rows.{plan_rows}
use Rattle.wt_plan.specs.Regular.{upto}
use Rattle.wt_plan.specs.Tree as plans

-- the number of the table of a name
abbrev pub table_number : List Table → List ℕ → ℕ
table_number [] name = 0
table_number (t ∷ ts) name = if bytes_eq t.name name then 0 else suc (table_number ts name)

-- the place of the first column that the name fits, the number of columns where there is none
abbrev pub place_of : List ScopeColumn → ColumnName → ℕ
place_of [] c = 0
place_of (s ∷ scope) c = if fits c s then 0 else suc (place_of scope c)

abbrev pub operand_of : List ScopeColumn → Scalar → Operand
operand_of scope (scalars.Column c) = operands.Column (place_of scope c)
operand_of scope (scalars.Literal v at) = operands.Constant v

abbrev pub compared : List ScopeColumn → CmpWord → Scalar → Scalar → PredTree
compared scope word a b = preds.compare (sign_of word) (operand_of scope a) (operand_of scope b)

abbrev pub listed_in : List ScopeColumn → ColumnName → List Value → PredTree
listed_in scope c vs = preds.in_list (place_of scope c) vs

abbrev mutual
  pub pred_of : List ScopeColumn → CondTree → PredTree
  pred_of scope (compare at sign a b word_at) = preds.compare (sign_of sign) (operand_of scope a) (operand_of scope b)
  pred_of scope (is_null at c) = preds.is_null (place_of scope c)
  pred_of scope (is_not_null at c) = preds.is_not_null (place_of scope c)
  pred_of scope (in_list at c vs word_at) = preds.in_list (place_of scope c) vs
  pred_of scope (in_query at cs q word_at) = preds.any_of preds.no_preds
  pred_of scope (all_of at cs) = preds.all_of (preds_of scope cs)
  pred_of scope (any_of at cs) = preds.any_of (preds_of scope cs)
  pred_of scope (negated at c) = preds.negated (pred_of scope c)

  pub preds_of : List ScopeColumn → CondTrees → PredTrees
  preds_of scope no_conds = preds.no_preds
  preds_of scope (cond_then c cs) = preds.pred_then (pred_of scope c) (preds_of scope cs)

-- a conjunct over places: a predicate, or the columns of a subquery IN and the subquery's plan
pub data Conjunct : Type 0 where
  keeps : PredTree → Conjunct
  is_in : List ℕ → PlanTree → Conjunct

abbrev pub conjunct_columns : Conjunct → List ℕ
conjunct_columns (keeps p) = occurring p
conjunct_columns (is_in cols q) = cols

-- whether the first place is on the left of a join whose left operand has n columns, and the second on the right
abbrev pub across : ℕ → ℕ → ℕ → Option (ℕ × ℕ)
across n x y = if nat_lt x n && not (nat_lt y n) then Some (x, y - n) else (if nat_lt y n && not (nat_lt x n) then Some (y, x - n) else None)

-- the pair of a conjunct `left column = right column`, either way round
abbrev pub pair_of : ℕ → Conjunct → Option (ℕ × ℕ)
pair_of n (keeps (preds.compare signs.Eq (operands.Column x) (operands.Column y))) = across n x y
pair_of n _ = None

abbrev pub pairs_of : ℕ → List Conjunct → List (ℕ × ℕ)
pairs_of n [] = []
pairs_of n (j ∷ js) = with_pair (pair_of n j) (pairs_of n js)
  where
    with_pair : Option (ℕ × ℕ) → List (ℕ × ℕ) → List (ℕ × ℕ)
    with_pair None ps = ps
    with_pair (Some p) ps = p ∷ ps

abbrev pub others_of : ℕ → List Conjunct → List Conjunct
others_of n js = filter (λ j. not (is_some (pair_of n j))) js

-- a conjunct on right columns alone, over the right operand
abbrev pub on_right : ℕ → Conjunct → Conjunct
on_right n (keeps p) = keeps (renumbered (λ k. k - n) p)
on_right n (is_in cols q) = is_in (map (λ k. k - n) cols) q

-- the place in the plan's rows of a place in the text, past the end for one past the end
abbrev pub at_place : List ℕ → ℕ → ℕ
at_place places k = get_or places k (length places)

abbrev pub kept : List ℕ → PredTree → PlanTree → PlanTree
kept places p plan = plans.filtered (renumbered (place_in (columns p)) p) (map (at_place places) (columns p)) plan

abbrev pub above : List ℕ → Conjunct → PlanTree → PlanTree
above places (keeps p) plan = kept places p plan
above places (is_in cols q) plan = plans.in_sub (map (at_place places) cols) plan q

-- the first one is the lowest
abbrev pub stacked : List ℕ → List Conjunct → PlanTree → PlanTree
stacked places [] plan = plan
stacked places (j ∷ js) plan = stacked places js (above places j plan)

abbrev pub firsts : List (ℕ × ℕ) → List ℕ
firsts ps = map (λ (p : ℕ × ℕ). p.0) ps

abbrev pub seconds : List (ℕ × ℕ) → List ℕ
seconds ps = map (λ (p : ℕ × ℕ). p.1) ps

-- where the columns of a FROM clause, in the order of the text, stand in its plan's rows
abbrev pub places_of : List Table → FromTree → List ℕ
places_of S (table name alias at alias_at) = upto (length (scope_of S (table name alias at alias_at)))
places_of S (derived q alias cols at alias_at) = upto (length (scope_of S (derived q alias cols at alias_at)))
places_of S (inner_join l r on at) = places_of S l ++ map (λ k. length (scope_of S l) + k) (places_of S r)
places_of S (left_join l r on at) = places_of S l ++ map (λ k. length (scope_of S l) + k) (places_of S r)
places_of S (comma l r at) = places_of S l ++ map (λ k. length (scope_of S l) + k) (places_of S r)
places_of S (right_join l r on at) = map (λ k. length (scope_of S r) + k) (places_of S l) ++ places_of S r

abbrev pub has_right : FromTree → Bool
has_right (table name alias at alias_at) = false
has_right (derived q alias columns at alias_at) = false
has_right (inner_join l r on at) = has_right l || has_right r
has_right (left_join l r on at) = has_right l || has_right r
has_right (right_join l r on at) = true
has_right (comma l r at) = has_right l || has_right r

-- the places of the columns that pass
abbrev pub places_where : (ScopeColumn → Bool) → List ScopeColumn → List ℕ
places_where test [] = []
places_where test (s ∷ scope) = if test s then 0 ∷ map suc (places_where test scope) else map suc (places_where test scope)

abbrev pub item_places : List ScopeColumn → Item → List ℕ
item_places scope (Star at) = upto (length scope)
item_places scope (AllOf alias at) = places_where (is_of alias) scope
item_places scope (Column column output) = place_of scope column ∷ []

abbrev pub is_sole_star : List Item → Bool
is_sole_star (Star at ∷ []) = true
is_sole_star _ = false

-- the select list; the sole item `*` needs none, where the plan's columns are in the order of the text
abbrev pub listed : Bool → List ℕ → PlanTree → PlanTree
listed true cols plan = plan
listed false cols plan = plans.proj cols plan

abbrev pub deduped : Bool → PlanTree → PlanTree
deduped true plan = plans.dedup plan
deduped false plan = plan

abbrev pub inner_of : ℕ → List ℕ → List ℕ → List ℕ → List Conjunct → PlanTree → PlanTree → PlanTree
inner_of n lefts rights places js l r =
    stacked places (others_of n js) (plans.inner_join (map (at_place lefts) (firsts (pairs_of n js))) (map (at_place rights) (seconds (pairs_of n js))) l r)

abbrev pub left_of : ℕ → List ℕ → List ℕ → List Conjunct → PlanTree → PlanTree → PlanTree
left_of n lefts rights js l r =
    plans.left_join (map (at_place lefts) (firsts (pairs_of n js))) (map (at_place rights) (seconds (pairs_of n js))) l (stacked rights (map (on_right n) (others_of n js)) r)

-- the kept operand is the right one
abbrev pub right_of : ℕ → List ℕ → List ℕ → List Conjunct → PlanTree → PlanTree → PlanTree
right_of n lefts rights js l r =
    plans.left_join (map (at_place rights) (seconds (pairs_of n js))) (map (at_place lefts) (firsts (pairs_of n js))) r (stacked lefts (others_of n js) l)

-- a conjunct on the first m columns alone
abbrev pub within : ℕ → Conjunct → Bool
within m j = list_all (λ k. nat_lt k m) (conjunct_columns j)

-- whether a WHERE conjunct links the comma before the columns n to m
abbrev pub link : ℕ → ℕ → Conjunct → Bool
link n m j = within m j && is_some (pair_of n j)

abbrev pub comma_of : ℕ → ℕ → List ℕ → List ℕ → List Conjunct → PlanTree → PlanTree → PlanTree
comma_of n m lefts rights ws l r = plans.inner_join (map (at_place lefts) (firsts (pairs_of n (filter (within m) ws)))) (map (at_place rights) (seconds (pairs_of n (filter (within m) ws)))) l r

-- whether a WHERE conjunct links some comma of a list
abbrev pub links : List Table → FromTree → Conjunct → Bool
links S (comma l r at) j = link (length (scope_of S l)) (length (scope_of S l ++ scope_of S r)) j || links S l j
links S (table name alias at alias_at) j = false
links S (derived q alias columns at alias_at) j = false
links S (inner_join l r on at) j = false
links S (left_join l r on at) j = false
links S (right_join l r on at) j = false

abbrev pub free_of : List Table → FromTree → List Conjunct → List Conjunct
free_of S f ws = filter (λ j. not (links S f j)) ws

-- The plan of a query, of a FROM clause, and the conjuncts of a condition over the columns in scope.
abbrev mutual
  pub planned : List Table → QueryTree → PlanTree
  planned S (select distinct items from keep) =
      deduped distinct (listed (is_sole_star items && not (has_right from)) (map (at_place (places_of S from)) (flat_map (item_places (scope_of S from)) items))
      (stacked (places_of S from) (free_of S from (kept_by S (scope_of S from) keep)) (from_plan S (kept_by S (scope_of S from) keep) from)))

  pub from_plan : List Table → List Conjunct → FromTree → PlanTree
  from_plan S ws (table name alias at alias_at) = plans.table (table_number S name) (length (columns_named S name))
  from_plan S ws (derived q alias columns at alias_at) = planned S q
  from_plan S ws (inner_join l r on at) =
      inner_of (length (scope_of S l)) (places_of S l) (places_of S r) (places_of S (inner_join l r on at)) (conjuncts S (scope_of S l ++ scope_of S r) on) (from_plan S [] l) (from_plan S [] r)
  from_plan S ws (left_join l r on at) = left_of (length (scope_of S l)) (places_of S l) (places_of S r) (conjuncts S (scope_of S l ++ scope_of S r) on) (from_plan S [] l) (from_plan S [] r)
  from_plan S ws (right_join l r on at) = right_of (length (scope_of S l)) (places_of S l) (places_of S r) (conjuncts S (scope_of S l ++ scope_of S r) on) (from_plan S [] l) (from_plan S [] r)
  from_plan S ws (comma l r at) = comma_of (length (scope_of S l)) (length (scope_of S l ++ scope_of S r)) (places_of S l) (places_of S r) ws (from_plan S ws l) (from_plan S [] r)

  pub kept_by : List Table → List ScopeColumn → FilterTree → List Conjunct
  kept_by S scope no_filter = []
  kept_by S scope (filter_by c) = conjuncts S scope c

  pub conjuncts : List Table → List ScopeColumn → CondTree → List Conjunct
  conjuncts S scope (all_of at cs) = all_conjuncts S scope cs
  conjuncts S scope (in_query at cols q word_at) = is_in (map (place_of scope) cols) (planned S q) ∷ []
  conjuncts S scope c = keeps (pred_of scope c) ∷ []

  pub all_conjuncts : List Table → List ScopeColumn → CondTrees → List Conjunct
  all_conjuncts S scope no_conds = []
  all_conjuncts S scope (cond_then c cs) = conjuncts S scope c ++ all_conjuncts S scope cs
