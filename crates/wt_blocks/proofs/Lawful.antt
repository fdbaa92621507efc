-- The predicates of a lawful query's plan have a text, and its output names are names.
use Rattle.std.proofs.Common.{◌≡◌, ℕ, ◌+◌, ◌-◌, ◌≤◌, Bool, true, false, ◌&&◌, not, cond, List, [], ◌∷◌, ◌++◌, map, filter, length, Option, Some, None, is_some, refl, sym, ap, subst, ◌∙◌}
use Rattle.std.specs.Prelude.{flat_map}
use Rattle.std.specs.List.{All, AllByRecursion}
use Rattle.std.specs.Option.{unwrap_or}
use Rattle.std.specs.Str.{bytes_eq}
use Rattle.std.proofs.lemmas.List.Elements.{All-head, All-tail}
use Rattle.wt_bag.specs.Bags.{Each}
use Rattle.wt_bag.proofs.EachLaws.{each_append, each_filter, each_map, each_implies}
use Rattle.wt_pred.specs.Tree.{PredTree, PredTrees}
use Rattle.wt_pred.specs.Tree as preds
use Rattle.wt_pred.specs.Columns.{columns, renumbered, all_renumbered, place_in}
use Rattle.wt_schema.specs.declared.schema.Column as schema_columns
use Rattle.wt_schema.specs.declared.schema.Table.{Table}
use Rattle.wt_schema.specs.Lawful.{IsSchema, IsTable}
use Rattle.wt_ast.specs.declared.tree.Item.{Item}
use Rattle.wt_ast.specs.declared.tree.Item.TheVariants as items
use Rattle.wt_ast.specs.declared.marks.Mark.{Mark}
use Rattle.wt_ast.specs.declared.marks.Marked.TheVariants.{HiddenIn}
use Rattle.wt_ast.specs.Marks.{marks, marks_in_from, marks_in_filter, marks_in_cond, marks_in_conds, same, places}
use Rattle.wt_ast.specs.Lawful.{IsName, OneOrMore, IsItem, IsFormed, IsFilter, IsFrom, IsCond, AreConds, IsLawful}
use Rattle.wt_ast.specs.Lawful as asts
use Rattle.wt_ast.specs.Tree.{QueryTree, FilterTree, FromTree, CondTree, CondTrees, select, no_filter, filter_by, table, derived, inner_join, left_join, right_join, comma, compare, is_null, is_not_null, in_list, in_query, all_of, any_of, negated, no_conds, cond_then}
use Rattle.wt_query_rows.specs.declared.scope.ScopeColumn.{ScopeColumn}
use Rattle.wt_query_rows.specs.Scopes.{in_scope, is_of, item_names, column_names, columns_named, scope_of, output_names}
use Rattle.wt_plan.specs.Tree.{PlanTree}
use Rattle.wt_plan.specs.Tree as plans
use Rattle.wt_plan.specs.Measures.{width}
use Rattle.wt_place.specs.Placing.{Condition, test, moved, put, stand, in_left, in_right, in_both, settle, conditions, bare, placed}
use Rattle.wt_place.specs.Placing as placing
use Rattle.wt_query_plan.specs.Building.{Conjunct, keeps, is_in, pair_of, others_of, on_right, above, stacked, listed, deduped, free_of, links, kept_by, conjuncts, all_conjuncts, planned, from_plan, pred_of, preds_of, at_place, places_of, item_places, is_sole_star, has_right}
use Rattle.wt_blocks.specs.Parts.{HasParts, AllHaveParts, PlanParts}
use Rattle.wt_blocks.specs.Parts as parts

-- ---- nothing hidden

places_append : (ms ns : List Mark) → places HiddenIn (ms ++ ns) ≡ places HiddenIn ms ++ places HiddenIn ns
places_append [] ns = refl
places_append (m ∷ ms) ns = here (same m.what HiddenIn) (places_append ms ns)
  where
    here : (b : Bool) → places HiddenIn (ms ++ ns) ≡ places HiddenIn ms ++ places HiddenIn ns
        → cond b (m.at ∷ places HiddenIn (ms ++ ns)) (places HiddenIn (ms ++ ns)) ≡ cond b (m.at ∷ places HiddenIn ms) (places HiddenIn ms) ++ places HiddenIn ns
    here true e = ap (λ l. m.at ∷ l) e
    here false e = e

none_left : (xs ys : List ℕ) → xs ++ ys ≡ [] → xs ≡ []
none_left [] ys e = refl
none_left (x ∷ xs) ys e = cc

none_right : (xs ys : List ℕ) → xs ++ ys ≡ [] → ys ≡ []
none_right [] ys e = e
none_right (x ∷ xs) ys e = cc

abbrev Open : List Mark → Type 0
Open ms = places HiddenIn ms ≡ []

open_left : (ms ns : List Mark) → Open (ms ++ ns) → Open ms
open_left ms ns e = none_left (places HiddenIn ms) (places HiddenIn ns) (sym (places_append ms ns) ∙ e)

open_right : (ms ns : List Mark) → Open (ms ++ ns) → Open ns
open_right ms ns e = none_right (places HiddenIn ms) (places HiddenIn ns) (sym (places_append ms ns) ∙ e)

-- ---- predicates

module _ (f : ℕ → ℕ) where
  count_there : (ps : PredTrees) → parts.part_count (all_renumbered f ps) ≡ parts.part_count ps
  count_there preds.no_preds = refl
  count_there (preds.pred_then p ps) = ap (λ n. 1 + n) (count_there ps)

  mutual
    parts_there : (p : PredTree) → HasParts p → HasParts (renumbered f p)
    parts_there (preds.compare s a b) h = tt
    parts_there (preds.is_null k) h = tt
    parts_there (preds.is_not_null k) h = tt
    parts_there (preds.in_list k vs) h = h
    parts_there (preds.all_of ps) h = (subst (λ n. 2 ≤ n) (sym (count_there ps)) h.0, all_parts_there ps h.1)
    parts_there (preds.any_of ps) h = (subst (λ n. 2 ≤ n) (sym (count_there ps)) h.0, all_parts_there ps h.1)
    parts_there (preds.negated p) h = parts_there p h

    all_parts_there : (ps : PredTrees) → AllHaveParts ps → AllHaveParts (all_renumbered f ps)
    all_parts_there preds.no_preds h = tt
    all_parts_there (preds.pred_then p ps) h = (parts_there p h.0, all_parts_there ps h.1)

module _ (scope : List ScopeColumn) where
  count_of : (cs : CondTrees) → parts.part_count (preds_of scope cs) ≡ asts.part_count cs
  count_of no_conds = refl
  count_of (cond_then c cs) = ap (λ n. 1 + n) (count_of cs)

  mutual
    -- below an Or or a Not no subquery stands
    parts_of : (c : CondTree) → IsCond c → Open (marks_in_cond true c) → HasParts (pred_of scope c)
    parts_of (compare at sign a b word_at) h o = tt
    parts_of (is_null at c) h o = tt
    parts_of (is_not_null at c) h o = tt
    parts_of (in_list at c vs word_at) h o = h.1.0
    parts_of (in_query at cs q word_at) h o = absurd (let bad : (word_at ∷ places HiddenIn (marks q)) ≡ [] = o in cc)
    parts_of (all_of at cs) h o = (subst (λ n. 2 ≤ n) (sym (count_of cs)) h.0, all_parts_of cs h.1 o)
    parts_of (any_of at cs) h o = (subst (λ n. 2 ≤ n) (sym (count_of cs)) h.0, all_parts_of cs h.1 o)
    parts_of (negated at c) h o = parts_of c h o

    all_parts_of : (cs : CondTrees) → AreConds cs → Open (marks_in_conds true cs) → AllHaveParts (preds_of scope cs)
    all_parts_of no_conds h o = tt
    all_parts_of (cond_then c cs) h o = (parts_of c h.0 (open_left (marks_in_cond true c) (marks_in_conds true cs) o), all_parts_of cs h.1 (open_right (marks_in_cond true c) (marks_in_conds true cs) o))

-- ---- conjuncts

abbrev ConjunctParts : Conjunct → Type 0
ConjunctParts (keeps p) = HasParts p
ConjunctParts (is_in cols q) = PlanParts q

above_parts : (places : List ℕ) (j : Conjunct) (p : PlanTree) → ConjunctParts j → PlanParts p → PlanParts (above places j p)
above_parts places (keeps q) p h k = (parts_there (place_in (columns q)) q h, k)
above_parts places (is_in cols q) p h k = (k, h)

stacked_parts : (places : List ℕ) (js : List Conjunct) (p : PlanTree) → Each ConjunctParts js → PlanParts p → PlanParts (stacked places js p)
stacked_parts places [] p h k = k
stacked_parts places (j ∷ js) p h k = stacked_parts places js (above places j p) h.1 (above_parts places j p h.0 k)

right_parts : (n : ℕ) (js : List Conjunct) → Each ConjunctParts js → Each ConjunctParts (map (on_right n) js)
right_parts n [] h = tt
right_parts n (keeps p ∷ js) h = (parts_there (λ k. k - n) p h.0, right_parts n js h.1)
right_parts n (is_in cols q ∷ js) h = (h.0, right_parts n js h.1)

other_parts : (n : ℕ) (js : List Conjunct) → Each ConjunctParts js → Each ConjunctParts (others_of n js)
other_parts n js h = each_filter ConjunctParts (λ j. not (is_some (pair_of n j))) js h

listed_parts : (b : Bool) (cols : List ℕ) (p : PlanTree) → PlanParts p → PlanParts (listed b cols p)
listed_parts true cols p h = h
listed_parts false cols p h = h

deduped_parts : (b : Bool) (p : PlanTree) → PlanParts p → PlanParts (deduped b p)
deduped_parts true p h = h
deduped_parts false p h = h

module _ (S : List Table) where
  mutual
    pub query_parts : (q : QueryTree) → IsFormed q → Open (marks q) → PlanParts (planned S q)
    query_parts (select distinct items from keep) h o =
        let ws = kept_by S (scope_of S from) keep in
        let js = filter_parts keep h.2 (open_right (marks_in_from from) (marks_in_filter keep) o) (scope_of S from) in
        deduped_parts distinct _ (listed_parts (is_sole_star items && not (has_right from)) (map (at_place (places_of S from)) (flat_map (item_places (scope_of S from)) items)) _
        (stacked_parts (places_of S from) (free_of S from ws) (from_plan S ws from) (each_filter ConjunctParts (λ j. not (links S from j)) ws js)
        (from_parts from h.1 (open_left (marks_in_from from) (marks_in_filter keep) o) ws)))

    from_parts : (f : FromTree) → IsFrom f → Open (marks_in_from f) → (ws : List Conjunct) → PlanParts (from_plan S ws f)
    from_parts (table name alias at alias_at) h o ws = tt
    from_parts (derived q alias cols at alias_at) h o ws = query_parts q h.0 o
    from_parts (inner_join l r on at) h o ws =
        let more = marks_in_from r ++ marks_in_cond false on in
        let n = length (scope_of S l) in
        let js = conjuncts S (scope_of S l ++ scope_of S r) on in
        let back = open_right (marks_in_from l) more o in
        stacked_parts (places_of S (inner_join l r on at)) (others_of n js) _ (other_parts n js (cond_parts on h.4 (open_right (marks_in_from r) (marks_in_cond false on) back) (scope_of S l ++ scope_of S r)))
        (from_parts l h.0 (open_left (marks_in_from l) more o) [], from_parts r h.2 (open_left (marks_in_from r) (marks_in_cond false on) back) [])
    from_parts (left_join l r on at) h o ws =
        let more = marks_in_from r ++ marks_in_cond false on in
        let n = length (scope_of S l) in
        let js = conjuncts S (scope_of S l ++ scope_of S r) on in
        let back = open_right (marks_in_from l) more o in (
          from_parts l h.0 (open_left (marks_in_from l) more o) [],
          stacked_parts (places_of S r) (map (on_right n) (others_of n js)) (from_plan S [] r)
              (right_parts n (others_of n js) (other_parts n js (cond_parts on h.4 (open_right (marks_in_from r) (marks_in_cond false on) back) (scope_of S l ++ scope_of S r))))
              (from_parts r h.2 (open_left (marks_in_from r) (marks_in_cond false on) back) []),
        )
    from_parts (right_join l r on at) h o ws =
        let more = marks_in_from r ++ marks_in_cond false on in
        let n = length (scope_of S l) in
        let js = conjuncts S (scope_of S l ++ scope_of S r) on in
        let back = open_right (marks_in_from l) more o in (
          from_parts r h.2 (open_left (marks_in_from r) (marks_in_cond false on) back) [],
          stacked_parts (places_of S l) (others_of n js) (from_plan S [] l)
              (other_parts n js (cond_parts on h.4 (open_right (marks_in_from r) (marks_in_cond false on) back) (scope_of S l ++ scope_of S r)))
              (from_parts l h.0 (open_left (marks_in_from l) more o) []),
        )
    from_parts (comma l r at) h o ws =
        (from_parts l h.0 (open_left (marks_in_from l) (marks_in_from r) o) ws, from_parts r h.1 (open_right (marks_in_from l) (marks_in_from r) o) [])

    filter_parts : (k : FilterTree) → IsFilter k → Open (marks_in_filter k) → (scope : List ScopeColumn) → Each ConjunctParts (kept_by S scope k)
    filter_parts no_filter h o scope = tt
    filter_parts (filter_by c) h o scope = cond_parts c h o scope

    cond_parts : (c : CondTree) → IsCond c → Open (marks_in_cond false c) → (scope : List ScopeColumn) → Each ConjunctParts (conjuncts S scope c)
    cond_parts (compare at sign a b word_at) h o scope = (tt, tt)
    cond_parts (is_null at c) h o scope = (tt, tt)
    cond_parts (is_not_null at c) h o scope = (tt, tt)
    cond_parts (in_list at c vs word_at) h o scope = (h.1.0, tt)
    cond_parts (in_query at cs q word_at) h o scope = (query_parts q h.1 o, tt)
    cond_parts (all_of at cs) h o scope = conds_parts cs h.1 o scope
    cond_parts (any_of at cs) h o scope = ((subst (λ n. 2 ≤ n) (sym (count_of scope cs)) h.0, all_parts_of scope cs h.1 o), tt)
    cond_parts (negated at c) h o scope = (parts_of scope c h o, tt)

    conds_parts : (cs : CondTrees) → AreConds cs → Open (marks_in_conds false cs) → (scope : List ScopeColumn) → Each ConjunctParts (all_conjuncts S scope cs)
    conds_parts no_conds h o scope = tt
    conds_parts (cond_then c cs) h o scope =
        each_append ConjunctParts (conjuncts S scope c) (all_conjuncts S scope cs) (cond_parts c h.0 (open_left (marks_in_cond false c) (marks_in_conds false cs) o) scope)
        (conds_parts cs h.1 (open_right (marks_in_cond false c) (marks_in_conds false cs) o) scope)

-- ---- placed

abbrev ConditionParts : Condition → Type 0
ConditionParts (test q cols) = HasParts q
ConditionParts (placing.member cols r) = PlanParts r

moved_parts : (f : ℕ → ℕ) (c : Condition) → ConditionParts c → ConditionParts (moved f c)
moved_parts f (test q cols) h = h
moved_parts f (placing.member cols r) h = h

all_moved_parts : (f : ℕ → ℕ) (cs : List Condition) → Each ConditionParts cs → Each ConditionParts (map (moved f) cs)
all_moved_parts f cs h = each_map ConditionParts (moved f) cs (each_implies ConditionParts (λ c. ConditionParts (moved f c)) cs (moved_parts f) h)

put_parts : (c : Condition) (p : PlanTree) → ConditionParts c → PlanParts p → PlanParts (put c p)
put_parts (test q cols) p h k = (h, k)
put_parts (placing.member cols r) p h k = (k, h)

stand_parts : (cs : List Condition) (p : PlanTree) → Each ConditionParts cs → PlanParts p → PlanParts (stand cs p)
stand_parts [] p h k = k
stand_parts (c ∷ cs) p h k = stand_parts cs (put c p) h.1 (put_parts c p h.0 k)

settle_parts : (cs : List Condition) (p : PlanTree) → Each ConditionParts cs → PlanParts p → PlanParts (settle cs p)
settle_parts cs (plans.table n w) h k = stand_parts cs (plans.table n w) h k
settle_parts cs (plans.proj cols p) h k = stand_parts cs (plans.proj cols p) h k
settle_parts cs (plans.dedup p) h k = stand_parts cs (plans.dedup p) h k
settle_parts cs (plans.filtered q cols p) h k = stand_parts cs (plans.filtered q cols p) h k
settle_parts cs (plans.in_sub cols l r) h k = stand_parts cs (plans.in_sub cols l r) h k
settle_parts cs (plans.inner_join a b l r) h k =
    let n = width l in
    stand_parts (filter (in_both n) cs) _ (each_filter ConditionParts (in_both n) cs h)
    (settle_parts (filter (in_left n) cs) l (each_filter ConditionParts (in_left n) cs h) k.0, settle_parts (map (moved (λ k. k - n)) (filter (in_right n) cs)) r (all_moved_parts (λ k. k - n) (filter (in_right n) cs) (each_filter ConditionParts (in_right n) cs h)) k.1)
settle_parts cs (plans.left_join a b l r) h k =
    let n = width l in
    stand_parts (filter (λ c. not (in_left n c)) cs) _ (each_filter ConditionParts (λ c. not (in_left n c)) cs h) (settle_parts (filter (in_left n) cs) l (each_filter ConditionParts (in_left n) cs h) k.0, k.1)

record Parted (p : PlanTree) : Type 0 where
  pub above : Each ConditionParts (conditions p)
  pub zone : PlanParts (bare p)

placing_parts : (p : PlanTree) → Parted p → PlanParts (placed p)
placing_parts p h = settle_parts (conditions p) (bare p) h.above h.zone

parted : (p : PlanTree) → PlanParts p → Parted p
parted (plans.table n w) h = record { above = tt; zone = tt }
parted (plans.proj cols p) h = record { above = tt; zone = placing_parts p (parted p h) }
parted (plans.dedup p) h = record { above = tt; zone = placing_parts p (parted p h) }
parted (plans.filtered q cols p) h = let k = parted p h.1 in record { above = each_append ConditionParts (conditions p) (test q cols ∷ []) k.above (h.0, tt); zone = k.zone }
parted (plans.in_sub cols l r) h =
    let k = parted l h.0 in
    record { above = each_append ConditionParts (conditions l) (placing.member cols (placed r) ∷ []) k.above (placing_parts r (parted r h.1), tt); zone = k.zone }
parted (plans.inner_join a b l r) h =
    let k = parted l h.0 in
    let g = parted r h.1 in
    record { above = each_append ConditionParts (conditions l) (map (moved (λ k. width l + k)) (conditions r)) k.above (all_moved_parts (λ k. width l + k) (conditions r) g.above); zone = (k.zone, g.zone) }
parted (plans.left_join a b l r) h = let k = parted l h.0 in record { above = k.above; zone = (k.zone, placing_parts r (parted r h.1)) }

pub placed_parts : (p : PlanTree) → PlanParts p → PlanParts (placed p)
placed_parts p h = placing_parts p (parted p h)

pub lawful_parts : (S : List Table) (q : QueryTree) → IsLawful q → PlanParts (placed (planned S q))
lawful_parts S q h = placed_parts (planned S q) (query_parts S q h.formed h.in_conjuncts)

-- ---- output names

by_each : {X : Type 0} (P : X → Type 0) (xs : List X) → Each P xs → AllByRecursion P xs
by_each P [] h = tt
by_each P (x ∷ xs) h = (h.0, by_each P xs h.1)

each_by : {X : Type 0} (P : X → Type 0) (xs : List X) → AllByRecursion P xs → Each P xs
each_by P [] h = tt
each_by P (x ∷ xs) h = (h.0, each_by P xs h.1)

abbrev Named : ScopeColumn → Type 0
Named s = IsName s.name

names_of : (scope : List ScopeColumn) → Each Named scope → Each IsName (map (λ (s : ScopeColumn). s.name) scope)
names_of scope h = each_map IsName (λ (s : ScopeColumn). s.name) scope h

written_name : (output : Option (List ℕ)) (name : List ℕ) → asts.IfWritten IsName output → IsName name → IsName (unwrap_or output name)
written_name None name h k = k
written_name (Some n) name h k = h

item_named : (scope : List ScopeColumn) → Each Named scope → (i : Item) → IsItem i → Each IsName (item_names scope i)
item_named scope h (items.Star at) k = names_of scope h
item_named scope h (items.AllOf alias at) k = names_of (filter (is_of alias) scope) (each_filter Named (is_of alias) scope h)
item_named scope h (items.Column c output) k = (written_name output c.name k.1 k.0.1, tt)

items_named : (scope : List ScopeColumn) → Each Named scope → (is : List Item) → AllByRecursion IsItem is → Each IsName (flat_map (item_names scope) is)
items_named scope h [] k = tt
items_named scope h (i ∷ is) k = each_append IsName (item_names scope i) (flat_map (item_names scope) is) (item_named scope h i k.0) (items_named scope h is k.1)

columns_of : (cs : List schema_columns.Column) → All (λ (c : schema_columns.Column). IsName c.name) cs → Each IsName (column_names cs)
columns_of [] h = tt
columns_of (c ∷ cs) h = (All-head (λ (c : schema_columns.Column). IsName c.name) c cs h, columns_of cs (All-tail (λ (c : schema_columns.Column). IsName c.name) c cs h))

table_names : (all ts : List Table) → All (IsTable all) ts → (name : List ℕ) → Each IsName (column_names (columns_named ts name))
table_names all [] h name = tt
table_names all (t ∷ ts) h name = here (bytes_eq t.name name)
    (let is : IsTable all t = All-head (IsTable all) t ts h in columns_of t.columns is.columns.named) (table_names all ts (All-tail (IsTable all) t ts h) name)
  where
    here : (b : Bool) → Each IsName (column_names t.columns) → Each IsName (column_names (columns_named ts name)) → Each IsName (column_names (cond b t.columns (columns_named ts name)))
    here true k more = k
    here false k more = more

scoped : (alias : List ℕ) (names : List (List ℕ)) → Each IsName names → Each Named (map (in_scope alias) names)
scoped alias names h = each_map Named (in_scope alias) names h

listed_or : (cols : Option (List (List ℕ))) (names : List (List ℕ)) → asts.IfWritten (OneOrMore IsName) cols → Each IsName names → Each IsName (unwrap_or cols names)
listed_or None names h k = k
listed_or (Some cs) names h k = each_by IsName cs h.1

module _ (S : List Table) (schema : IsSchema S) where
  mutual
    output_named : (q : QueryTree) → IsFormed q → Each IsName (output_names S q)
    output_named (select distinct items from keep) h = items_named (scope_of S from) (scope_named from h.1) items h.0.1

    scope_named : (f : FromTree) → IsFrom f → Each Named (scope_of S f)
    scope_named (table name alias at alias_at) h = scoped (unwrap_or alias name) (column_names (columns_named S name)) (table_names S S schema.each name)
    scope_named (derived q alias cols at alias_at) h = scoped alias (unwrap_or cols (output_names S q)) (listed_or cols (output_names S q) h.2 (output_named q h.0))
    scope_named (inner_join l r on at) h = each_append Named (scope_of S l) (scope_of S r) (scope_named l h.0) (scope_named r h.2)
    scope_named (left_join l r on at) h = each_append Named (scope_of S l) (scope_of S r) (scope_named l h.0) (scope_named r h.2)
    scope_named (right_join l r on at) h = each_append Named (scope_of S l) (scope_of S r) (scope_named l h.0) (scope_named r h.2)
    scope_named (comma l r at) h = each_append Named (scope_of S l) (scope_of S r) (scope_named l h.0) (scope_named r h.1)

  pub lawful_names : (q : QueryTree) → IsFormed q → AllByRecursion IsName (output_names S q)
  lawful_names q h = by_each IsName (output_names S q) (output_named q h)
