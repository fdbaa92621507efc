-- The tree of a block has no fault.
use Rattle.std.proofs.Common.{◌≡◌, ◌≢◌, ℕ, zero, suc, ◌+◌, ◌<◌, ◌≤◌, ◌^◌, nat_lt, nat_eq, Bool, true, false, ◌&&◌, ◌||◌, not, cond, List, [], ◌∷◌, ◌++◌, append-nil, map, length, length-append, get_or, Option, Some, None, is_some, refl, sym, ap, subst, ◌∙◌, arith, eq-eqb}
use Rattle.std.specs.Prelude.{flat_map}
use Rattle.std.specs.List.{list_any, list_all}
use Rattle.std.specs.Str.{bytes_eq}
use Rattle.std.proofs.lemmas.Bool.{le-ltb}
use Rattle.std.proofs.lemmas.List.{get_or-map, get_or-append-add, get_or_append_left}
use Rattle.wt_bag.specs.Bags.{Each, distinct}
use Rattle.wt_bag.proofs.EachLaws.{each_append, each_map, each_for, each_implies}
use Rattle.wt_pred.specs.Tree.{PredTree}
use Rattle.wt_pred.specs.Tree as preds
use Rattle.wt_pred.specs.Columns.{occurring, columns, renumbered}
use Rattle.wt_schema.specs.declared.schema.ColKind.{ColKind}
use Rattle.wt_schema.specs.declared.schema.ColKind.TheVariants as kinds
use Rattle.wt_schema.specs.declared.schema.Table.{Table}
use Rattle.wt_schema.specs.Lawful.{IsSchema}
use Rattle.wt_ast.specs.declared.tree.Item.{Item}
use Rattle.wt_ast.specs.declared.tree.Item.TheVariants as items
use Rattle.wt_ast.specs.Tree.{CondTree, CondTrees, FromTree, FilterTree, QueryTree, select, trees_of}
use Rattle.wt_ast.specs.Tree as trees
use Rattle.wt_query_rows.specs.declared.scope.ScopeColumn.{ScopeColumn}
use Rattle.wt_query_rows.specs.Scopes.{scope_of, output_names, item_names}
use Rattle.wt_plan.specs.Regular.{upto, IsNoAnd, kind_at, kinds_at}
use Rattle.wt_plan.proofs.Upto.{length_map}
use Rattle.wt_place.specs.Placing.{test}
use Rattle.wt_place.specs.Placing as places
use Rattle.wt_query_plan.specs.Building.{Conjunct, conjunct_columns, conjuncts, place_of, pred_of, pair_of, kept_by, is_in}
use Rattle.wt_query_plan.specs.declared.fault.BuildFault.TheVariants as faults
use Rattle.wt_query_plan.specs.Faults.{Fault, first_of, fault_if, query_fault, from_fault, joins_fault, filter_fault, cond_fault, conds_fault, conjunct_fault, compare_fault, test_fault, columns_fault, commas_fault, items_fault, item_fault, item_kinds, outer_one, outer_fault, conjunct_places, unpaired, is_empty, kinds_of, output_kinds, kinds_same, kind_same, column_kind, aliases_of, alias_fault}
use Rattle.wt_query_plan.proofs.Lookup.{map_append}
use Rattle.wt_blocks.specs.Blocks.{Block, Zone, block, table, derived, kept, member, inner_join, left_join}
use Rattle.wt_blocks.specs.Counting.{block_width, zone_width, block_items, from_items, condition_items}
use Rattle.wt_blocks.specs.Printed.{alias_of, column_at, columns_at, zone_columns, place_names, items_of, test_tree, pair_trees, together, where_of, block_tree, from_tree, condition_trees}
use Rattle.wt_blocks.proofs.Rebuilt.{built, zone_conditions}
use Rattle.wt_blocks.proofs.Fitting.{BlockFits, ZoneFits, ListFits, block_kinds, zone_kinds, zone_kinds_length, block_kinds_length}
use Rattle.wt_blocks.proofs.Naming.{AllDiffer, Stands, stands_whole, stands_left, stands_right, other_bytes, alias_injective}
use Rattle.wt_blocks.proofs.Numbering.{numbers}
use Rattle.wt_blocks.proofs.Tested.{KindsStand, kinds_themselves, no_mismatch, place_there, no_column_fault, no_columns_fault, kinds_there, test_resolved, no_test_fault}
use Rattle.wt_blocks.proofs.Tables.{known}
use Rattle.wt_blocks.proofs.Zones.{columns_width, columns_apart, scope_there, names_count}
use Rattle.wt_blocks.proofs.Conjuncts.{as_conjunct, all_of, pair_conjuncts, stands_first, stands_second}
use Rattle.wt_blocks.proofs.Planned.{Takes, TakesList, list_takes, on_conjuncts, kept_law}

-- ---- chains of faults

pub neither : {f g : Fault} → f ≡ None → g ≡ None → first_of f g ≡ None
neither {f} {g} e k = (λ i. first_of (e i) g) ∙ k

holds : (b : Bool) (f : _) (at : ℕ) → b ≡ true → fault_if (not b) f at ≡ None
holds b f at e = ap (λ t. fault_if (not t) f at) e

-- ---- what a select list takes

module _ (columns : List ScopeColumn) (apart : AllDiffer columns) where
  place_here : (k : ℕ) → k < length columns → place_of columns (column_at columns k) ≡ k
  place_here k l = let e : 0 + k ≡ k = omega arith in place_there columns apart 0 columns (stands_whole columns) k l ∙ e

  pub taken_kinds : (ks : List ColKind) (cols : List ℕ) → Each (λ k. k < length columns) cols → (is : List Item) → Takes columns cols is → flat_map (item_kinds columns ks) is ≡ kinds_at ks cols
  taken_kinds ks [] h [] t = refl
  taken_kinds ks [] h (i ∷ is) t = absurd t
  taken_kinds ks (k ∷ cols) h [] t = absurd t
  taken_kinds ks (k ∷ cols) h (items.Star at ∷ is) t = absurd t
  taken_kinds ks (k ∷ cols) h (items.AllOf alias at ∷ is) t = absurd t
  taken_kinds ks (k ∷ cols) h (items.Column c output ∷ is) t = λ i. kind_at ks ((ap (place_of columns) t.0 ∙ place_here k h.0) i) ∷ taken_kinds ks cols h.1 is t.1 i

  taken_faultless : (outer : List ScopeColumn) (ks : List ColKind) (n : ℕ) (cols : List ℕ) → Each (λ k. k < length columns) cols → n + length cols ≤ 16384 → (is : List Item) → Takes columns cols is → items_fault outer columns ks n is ≡ None
  taken_faultless outer ks n [] h few [] t = refl
  taken_faultless outer ks n [] h few (i ∷ is) t = absurd t
  taken_faultless outer ks n (k ∷ cols) h few [] t = absurd t
  taken_faultless outer ks n (k ∷ cols) h few (items.Star at ∷ is) t = absurd t
  taken_faultless outer ks n (k ∷ cols) h few (items.AllOf alias at ∷ is) t = absurd t
  taken_faultless outer ks n (k ∷ cols) h few (items.Column c output ∷ is) t =
      neither (ap (λ d. Rattle.wt_query_plan.specs.Faults.column_fault outer columns d) t.0 ∙ no_column_fault columns apart 0 columns (stands_whole columns) outer k h.0)
      (neither (ap (λ b. fault_if b faults.TooWide c.at) (le-ltb 16384 (n + 1) (omega (arith, few)))) (taken_faultless outer ks (n + 1) cols h.1 (omega (arith, few)) is t.1))

taken_names : (columns : List ScopeColumn) (cols : List ℕ) (is : List Item) → Takes columns cols is → length (flat_map (item_names columns) is) ≡ length cols
taken_names columns [] [] t = refl
taken_names columns [] (i ∷ is) t = absurd t
taken_names columns (k ∷ cols) [] t = absurd t
taken_names columns (k ∷ cols) (items.Star at ∷ is) t = absurd t
taken_names columns (k ∷ cols) (items.AllOf alias at ∷ is) t = absurd t
taken_names columns (k ∷ cols) (items.Column c output ∷ is) t = omega (arith, taken_names columns cols is t.1)

-- ---- aliases

abbrev pub Before : ℕ → List ℕ → Type 0
Before n alias = (i : ℕ) × (i < n) × (alias ≡ alias_of i)

new_alias : (n : ℕ) → n < 2 ^ 64 → (before : List (List ℕ)) → Each (Before n) before → list_any (bytes_eq (alias_of n)) before ≡ false
new_alias n room [] h = refl
new_alias n room (alias ∷ before) h =
    (λ i. other_bytes (alias_of n) alias (λ e. let same : n ≡ h.0.0 = alias_injective n h.0.0 room (omega (arith, h.0.1, room)) (e ∙ h.0.2) in let bad : ⊥ = omega (arith, h.0.1, same) in bad) i || list_any (bytes_eq (alias_of n)) before)
    ∙ new_alias n room before h.1

below : (n m : ℕ) → n ≤ m → (before : List (List ℕ)) → Each (Before n) before → Each (Before m) before
below n m l before h = each_implies (Before n) (Before m) before (λ a b. (b.0, omega (arith, b.1, l), b.2)) h

module _ (S : List Table) where
  aliases_below : (n : ℕ) (z : Zone) → Each (Before (n + from_items z)) (aliases_of (from_tree S n z))
  aliases_below n (table t w) = ((n, omega arith, refl), tt)
  aliases_below n (derived b) = ((n, omega arith, refl), tt)
  aliases_below n (kept q cols z) = aliases_below n z
  aliases_below n (member cols z b) = aliases_below n z
  aliases_below n (inner_join a b l r) =
      let k = n + (from_items l + from_items r) in
      each_append (Before k) (aliases_of (from_tree S n l)) (aliases_of (from_tree S (n + from_items l) r)) (below (n + from_items l) k (omega arith) (aliases_of (from_tree S n l)) (aliases_below n l))
      (below ((n + from_items l) + from_items r) k (omega arith) (aliases_of (from_tree S (n + from_items l) r)) (aliases_below (n + from_items l) r))
  aliases_below n (left_join a b l r) =
      let k = n + (from_items l + (from_items r + condition_items r)) in
      each_append (Before k) (aliases_of (from_tree S n l)) (aliases_of (from_tree S (n + from_items l) r)) (below (n + from_items l) k (omega arith) (aliases_of (from_tree S n l)) (aliases_below n l))
      (below ((n + from_items l) + from_items r) k (omega arith) (aliases_of (from_tree S (n + from_items l) r)) (aliases_below (n + from_items l) r))

  no_commas : (n : ℕ) (z : Zone) (ws : List Conjunct) → commas_fault S ws (from_tree S n z) ≡ None
  no_commas n (table t w) ws = refl
  no_commas n (derived b) ws = refl
  no_commas n (kept q cols z) ws = no_commas n z ws
  no_commas n (member cols z b) ws = no_commas n z ws
  no_commas n (inner_join a b l r) ws = refl
  no_commas n (left_join a b l r) ws = refl

  -- ---- conditions joined by AND

  module _ (outer query scope : List ScopeColumn) (ks : List ColKind) where
    abbrev pub Fine : CondTree → Type 0
    Fine c = cond_fault S outer query scope ks c ≡ None

    fine_trees : (cs : List CondTree) → Each Fine cs → conds_fault S outer query scope ks (trees_of cs) ≡ None
    fine_trees [] h = refl
    fine_trees (c ∷ cs) h = neither h.0 (fine_trees cs h.1)

    pub fine_together : (cs : List CondTree) → Each Fine cs → Fine (together cs)
    fine_together [] h = refl
    fine_together (c ∷ []) h = h.0
    fine_together (c ∷ d ∷ cs) h = fine_trees (c ∷ d ∷ cs) h

    -- a test
    fine_test : (columns : List ScopeColumn) (cols : List ℕ) (q : PredTree) → IsNoAnd q → conjunct_fault outer scope ks 0 (test_tree columns cols q) ≡ None → Fine (test_tree columns cols q)
    fine_test columns cols (preds.compare s a b) h e = e
    fine_test columns cols (preds.is_null k) h e = e
    fine_test columns cols (preds.is_not_null k) h e = e
    fine_test columns cols (preds.in_list k vs) h e = e
    fine_test columns cols (preds.all_of ps) h e = absurd h
    fine_test columns cols (preds.any_of ps) h e = e
    fine_test columns cols (preds.negated q) h e = e

  fine_where : (outer query : List ScopeColumn) (ks : List ColKind) (cs : List CondTree) → Each (Fine outer query query ks) cs → filter_fault S outer query ks (where_of cs) ≡ None
  fine_where outer query ks [] h = refl
  fine_where outer query ks (c ∷ cs) h = fine_together outer query query ks (c ∷ cs) h

some_columns : (xs : List ℕ) (at : ℕ) → xs ≢ [] → fault_if (is_empty xs) faults.ConditionWithoutColumn at ≡ None
some_columns [] at h = absurd (h refl)
some_columns (x ∷ xs) at h = refl

-- a predicate that names no column has no list
no_columns : (f : ℕ → ℕ) (q : PredTree) (cols : List ℕ) → columns q ≡ upto (length cols) → occurring (renumbered f q) ≡ [] → cols ≡ []
no_columns f q cols in_order e = none cols (sym in_order ∙ ap (distinct nat_eq) (unmapped (occurring q) (sym (numbers f q) ∙ e)))
  where
    unmapped : (xs : List ℕ) → map f xs ≡ [] → xs ≡ []
    unmapped [] h = refl
    unmapped (x ∷ xs) h = cc

    none : (cs : List ℕ) → upto (length cs) ≡ [] → cs ≡ []
    none [] h = refl
    none (c ∷ cs) h = cc

-- ---- kinds that stand among others

pub kinds_whole : (ks : List ColKind) → KindsStand ks 0 ks
kinds_whole ks k l = let e : 0 + k ≡ k = omega arith in ap (kind_at ks) e

pub kinds_first : (ks ms : List ColKind) → KindsStand (ks ++ ms) 0 ks
kinds_first ks ms k l = let e : 0 + k ≡ k = omega arith in ap (kind_at (ks ++ ms)) e ∙ get_or_append_left ks ms kinds.Int k l

pub kinds_second : (ks ms : List ColKind) (n : ℕ) → length ks ≡ n → KindsStand (ks ++ ms) n ms
kinds_second ks ms n e k l = ap (λ m. kind_at (ks ++ ms) (m + k)) (sym e) ∙ get_or-append-add ks ms k kinds.Int

kinds_left : (all : List ColKind) (d : ℕ) (ks ms : List ColKind) → KindsStand all d (ks ++ ms) → KindsStand all d ks
kinds_left all d ks ms h k l = h k (omega (arith, l, length-append ks ms)) ∙ get_or_append_left ks ms kinds.Int k l

kinds_right : (all : List ColKind) (d n : ℕ) (ks ms : List ColKind) → length ks ≡ n → KindsStand all d (ks ++ ms) → KindsStand all (d + n) ms
kinds_right all d n ks ms e h k l =
    let up : (d + n) + k ≡ d + (length ks + k) = omega (arith, e) in
    ap (kind_at all) up ∙ h (length ks + k) (omega (arith, l, length-append ks ms)) ∙ get_or-append-add ks ms k kinds.Int

-- ---- an ON

-- a conjunct that is a pair, or on columns of the right operand alone
abbrev Placed : ℕ → Conjunct → Type 0
Placed n j = (is_some (pair_of n j) || list_all (λ k. not (nat_lt k n)) (conjunct_columns j)) ≡ true

all_placed : (n : ℕ) (js : List Conjunct) → Each (Placed n) js → (ats : List ℕ) → outer_fault (λ k. not (nat_lt k n)) n js ats ≡ None
all_placed n [] h ats = refl
all_placed n (j ∷ js) h [] = refl
all_placed n (j ∷ js) h (at ∷ ats) = neither (holds (is_some (pair_of n j) || list_all (λ k. not (nat_lt k n)) (conjunct_columns j)) _ at h.0) (all_placed n js h.1 ats)

or_true : (b : Bool) → (b || true) ≡ true
or_true true = refl
or_true false = refl

high_columns : (n : ℕ) (cols : List ℕ) → Each (λ k. n ≤ k) cols → list_all (λ k. not (nat_lt k n)) cols ≡ true
high_columns n [] h = refl
high_columns n (k ∷ cols) h = (λ i. not (le-ltb k n h.0 i) && list_all (λ j. not (nat_lt j n)) cols) ∙ high_columns n cols h.1

raised : (n d : ℕ) → n ≤ d → (cols : List ℕ) → Each (λ k. n ≤ k) (map (λ k. d + k) cols)
raised n d l cols = each_map (λ k. n ≤ k) (λ k. d + k) cols (each_for cols (λ k. omega (arith, l)))

pairs_placed : (n : ℕ) (a b : List ℕ) → Each (λ k. k < n) a → Each (Placed n) (pair_conjuncts n a b)
pairs_placed n [] b h = tt
pairs_placed n (x ∷ a) [] h = tt
pairs_placed n (x ∷ a) (y ∷ b) h = (ap (λ o. is_some o || list_all (λ k. not (nat_lt k n)) (x ∷ (n + y) ∷ [])) (Rattle.wt_blocks.proofs.Conjuncts.one_pair n x y h.0), pairs_placed n a b h.1)

pairs_some : (n : ℕ) (a b : List ℕ) (os : List Conjunct) → a ≢ [] → length a ≡ length b → Each (λ k. k < n) a → unpaired n (pair_conjuncts n a b ++ os) ≡ false
pairs_some n [] b os some e h = absurd (some refl)
pairs_some n (x ∷ a) [] os some e h = absurd (let bad : ⊥ = omega (arith, e) in bad)
pairs_some n (x ∷ a) (y ∷ b) os some e h = ap (λ o. not (is_some o || list_any (λ j. is_some (pair_of n j)) (pair_conjuncts n a b ++ os))) (Rattle.wt_blocks.proofs.Conjuncts.one_pair n x y h.0)

module _ (S : List Table) where
  conditions_placed : (n d : ℕ) (z : Zone) → ZoneFits S z → n ≤ d → Each (Placed n) (map as_conjunct (zone_conditions d z))
  conditions_placed n d (table t w) h l = tt
  conditions_placed n d (derived b) h l = tt
  conditions_placed n d (kept q cols z) h l =
      let high = map (λ k. d + k) cols in
      subst (Each (Placed n)) (sym (map_append as_conjunct (zone_conditions d z) (test q high ∷ [])))
      (each_append (Placed n) (map as_conjunct (zone_conditions d z)) (as_conjunct (test q high) ∷ []) (conditions_placed n d z h.1 l) (
        ap (λ b. is_some (pair_of n (as_conjunct (test q high))) || b)
            (ap (list_all (λ k. not (nat_lt k n))) (numbers (λ k. get_or high k 0) q)
            ∙ high_columns n (map (λ k. get_or high k 0) (occurring q))
            (each_map (λ k. n ≤ k) (λ k. get_or high k 0) (occurring q) (each_implies (λ k. k < length cols) (λ k. n ≤ get_or high k 0) (occurring q) (λ k m. let e = get_or-map (λ j. d + j) cols k 0 0 m in omega (arith, e, l)) h.0.there)))
            ∙ or_true (is_some (pair_of n (as_conjunct (test q high)))),
        tt,
      ))
  conditions_placed n d (member cols z b) h l =
      subst (Each (Placed n)) (sym (map_append as_conjunct (zone_conditions d z) (places.member (map (λ k. d + k) cols) (built b) ∷ [])))
      (each_append (Placed n) (map as_conjunct (zone_conditions d z)) (is_in (map (λ k. d + k) cols) (built b) ∷ []) (conditions_placed n d z h.1 l) (high_columns n (map (λ k. d + k) cols) (raised n d l cols), tt))
  conditions_placed n d (inner_join a b m r) h l =
      subst (Each (Placed n)) (sym (map_append as_conjunct (zone_conditions d m) (zone_conditions (d + zone_width m) r)))
      (each_append (Placed n) (map as_conjunct (zone_conditions d m)) (map as_conjunct (zone_conditions (d + zone_width m) r)) (conditions_placed n d m h.1 l) (conditions_placed n (d + zone_width m) r h.2 (omega (arith, l))))
  conditions_placed n d (left_join a b m r) h l = conditions_placed n d m h.1 l

head_kind : (k m : ColKind) (ks ms : List ColKind) → k ∷ ks ≡ m ∷ ms → k ≡ m
head_kind k m ks ms e = ap (λ l. get_or l 0 k) e

tail_kinds : (k m : ColKind) (ks ms : List ColKind) → k ∷ ks ≡ m ∷ ms → ks ≡ ms
tail_kinds k m ks ms e = ap (Rattle.std.proofs.Common.drop 1) e

module _ (S : List Table) (schema : IsSchema S) where
  -- ---- a pair of columns

  pairs_fine : (outer query : List ScopeColumn) (lefts rights : List ScopeColumn) → AllDiffer (lefts ++ rights) → (ks ms : List ColKind) → length ks ≡ length lefts → length ms ≡ length rights
      → (a b : List ℕ) → Each (λ k. k < length lefts) a → Each (λ k. k < length rights) b → kinds_at ks a ≡ kinds_at ms b → Each (Fine S outer query (lefts ++ rights) (ks ++ ms)) (pair_trees lefts rights a b)
  pairs_fine outer query lefts rights apart ks ms el er [] b h k e = tt
  pairs_fine outer query lefts rights apart ks ms el er (x ∷ a) [] h k e = tt
  pairs_fine outer query lefts rights apart ks ms el er (x ∷ a) (y ∷ b) h k e =
      let scope = lefts ++ rights in
      let all = ks ++ ms in
      let kx : kind_at all (place_of scope (column_at lefts x)) ≡ kind_at ks x =
      ap (kind_at all) (place_there scope apart 0 lefts (stands_first lefts rights) x h.0) ∙ kinds_first ks ms x (omega (arith, h.0, el))
      in
      let ky : kind_at all (place_of scope (column_at rights y)) ≡ kind_at ms y =
      ap (kind_at all) (place_there scope apart (length lefts) rights (stands_second lefts rights) y k.0) ∙ kinds_second ks ms (length lefts) el y (omega (arith, k.0, er))
      in (
        neither (neither (no_column_fault scope apart 0 lefts (stands_first lefts rights) outer x h.0) (neither (no_column_fault scope apart (length lefts) rights (stands_second lefts rights) outer y k.0)
            (no_mismatch (kind_at all (place_of scope (column_at lefts x))) (kind_at all (place_of scope (column_at rights y))) 0 (kx ∙ head_kind (kind_at ks x) (kind_at ms y) (kinds_at ks a) (kinds_at ms b) e ∙ sym ky)))) refl,
        pairs_fine outer query lefts rights apart ks ms el er a b h.1 k.1 (tail_kinds (kind_at ks x) (kind_at ms y) (kinds_at ks a) (kinds_at ms b) e),
      )

  -- ---- kinds of the tree

  -- of a block, given those of its zone
  output_goes : (n : ℕ) (z : Zone) → ZoneFits S z → n + from_items z ≤ 2 ^ 64 → kinds_of S (from_tree S n z) ≡ zone_kinds S z → (once : Bool) (list : Option (List ℕ)) → ListFits S (zone_width z) list
      → (is : List Item) → TakesList (zone_columns S n z) list is → (keep : FilterTree) → output_kinds S (select once is (from_tree S n z) keep) ≡ block_kinds S (block once list z)
  output_goes n z h room e once None f is t keep =
      (λ i. flat_map (item_kinds (scope_of S (from_tree S n z)) (e i)) (t i)) ∙ append-nil (zone_kinds S z)
  output_goes n z h room e once (Some cols) f is t keep =
      let w = columns_width S n z h in
      (λ i. flat_map (item_kinds (scope_there S schema n z h i) (e i)) is)
      ∙ taken_kinds (zone_columns S n z) (columns_apart S schema n z h room) (zone_kinds S z) cols (subst (λ m. Each (λ k. k < m) cols) (sym w) f.within) is t

  mutual
    pub block_output : (n : ℕ) (b : Block) → BlockFits S b → n + block_items b ≤ 2 ^ 64 → output_kinds S (block_tree S n b) ≡ block_kinds S b
    block_output n (block once list z) h room =
        output_goes n z h.2 (omega (arith, room)) (zone_output n z h.2 (omega (arith, room))) once list h.0 (items_of list (zone_columns S n z)) (list_takes (zone_columns S n z) list) (where_of (condition_trees S n (n + from_items z) z))

    pub zone_output : (n : ℕ) (z : Zone) → ZoneFits S z → n + from_items z ≤ 2 ^ 64 → kinds_of S (from_tree S n z) ≡ zone_kinds S z
    zone_output n (table t w) h room = (known S schema t h.0).kinds
    zone_output n (derived b) h room = block_output (suc n) b h (omega (arith, room))
    zone_output n (kept q cols z) h room = zone_output n z h.1 room
    zone_output n (member cols z b) h room = zone_output n z h.1 room
    zone_output n (inner_join a b l r) h room = λ i. zone_output n l h.1 (omega (arith, room)) i ++ zone_output (n + from_items l) r h.2 (omega (arith, room)) i
    zone_output n (left_join a b l r) h room = λ i. zone_output n l h.1 (omega (arith, room)) i ++ zone_output (n + from_items l) r h.2 (omega (arith, room)) i

  -- how many columns
  pub names_goes : (n : ℕ) (z : Zone) → ZoneFits S z → (once : Bool) (list : Option (List ℕ)) (is : List Item) → TakesList (zone_columns S n z) list is → (keep : FilterTree)
      → length (output_names S (select once is (from_tree S n z) keep)) ≡ block_width (block once list z)
  names_goes n z h once None is t keep =
      let columns = zone_columns S n z in
      let w = columns_width S n z h in
      (λ i. length (flat_map (item_names (scope_there S schema n z h i)) (t i)))
      ∙ ap length (append-nil (map (λ (s : ScopeColumn). s.name) columns)) ∙ length_map (λ (s : ScopeColumn). s.name) columns ∙ w
  names_goes n z h once (Some cols) is t keep = (λ i. length (flat_map (item_names (scope_there S schema n z h i)) is)) ∙ taken_names (zone_columns S n z) cols is t

  pub block_names : (n : ℕ) (b : Block) → BlockFits S b → length (output_names S (block_tree S n b)) ≡ block_width b
  block_names n (block once list z) h = names_goes n z h.2 once list (items_of list (zone_columns S n z)) (list_takes (zone_columns S n z) list) (where_of (condition_trees S n (n + from_items z) z))

  -- ---- faults of a block, given its zone

  pub record ZoneFine (n : ℕ) (z : Zone) (outer : List ScopeColumn) : Type 0 where
    pub from : from_fault S outer [] (from_tree S n z) ≡ None
    pub joins : joins_fault S outer (zone_columns S n z) (from_tree S n z) ≡ None
    pub conditions : Each (Fine S outer (zone_columns S n z) (zone_columns S n z) (zone_kinds S z)) (condition_trees S n (n + from_items z) z)

  pub faultless_goes : (n : ℕ) (z : Zone) (outer : List ScopeColumn) → ZoneFits S z → n + from_items z ≤ 2 ^ 64 → ZoneFine n z outer → (once : Bool) (list : Option (List ℕ)) → ListFits S (zone_width z) list
      → block_width (block once list z) ≤ 16384 → (is : List Item) → TakesList (zone_columns S n z) list is → query_fault S outer (select once is (from_tree S n z) (where_of (condition_trees S n (n + from_items z) z))) ≡ None
  faultless_goes n z outer h room fine once list f few is t =
      let columns = zone_columns S n z in
      let from = from_tree S n z in
      let keep = where_of (condition_trees S n (n + from_items z) z) in
      let scope = scope_there S schema n z h in
      let ks = zone_output n z h room in
      neither fine.from
      (neither (ap (λ s. joins_fault S outer s from) scope ∙ fine.joins)
      (neither ((λ i. filter_fault S outer (scope i) (ks i) keep) ∙ fine_where S outer columns (zone_kinds S z) (condition_trees S n (n + from_items z) z) fine.conditions)
      (neither (no_commas S n z (kept_by S (scope_of S from) keep)) ((λ i. items_fault outer (scope i) (ks i) 0 is) ∙ chosen list f few is t))))
    where
      chosen : (list : Option (List ℕ)) → ListFits S (zone_width z) list → block_width (block once list z) ≤ 16384 → (is : List Item) → TakesList (zone_columns S n z) list is → items_fault outer (zone_columns S n z) (zone_kinds S z) 0 is ≡ None
      chosen None f few is t =
          let w = zone_kinds_length S z h in
          (λ i. items_fault outer (zone_columns S n z) (zone_kinds S z) 0 (t i))
          ∙ neither (ap (λ b. fault_if b faults.TooWide 0) (le-ltb 16384 (0 + length (zone_kinds S z)) (omega (arith, few, w)))) refl
      chosen (Some cols) f few is t =
          let w = columns_width S n z h in
          taken_faultless (zone_columns S n z) (columns_apart S schema n z h room) outer (zone_kinds S z) 0 cols (subst (λ m. Each (λ k. k < m) cols) (sym w) f.within) (omega (arith, few)) is t

  -- ---- all zones

  mutual
    pub block_fine : (n : ℕ) (b : Block) → BlockFits S b → n + block_items b ≤ 2 ^ 64 → (outer : List ScopeColumn) → query_fault S outer (block_tree S n b) ≡ None
    block_fine n (block once list z) h room outer =
        faultless_goes n z outer h.2 (omega (arith, room)) (record {
          from = from_fine n z h.2 (omega (arith, room)) outer [] tt;
          joins = joins_fine n z h.2 (omega (arith, room)) outer (zone_columns S n z);
          conditions = conditions_fine n (n + from_items z) z (zone_columns S n z) 0 (zone_kinds S z) h.2 (columns_apart S schema n z h.2 (omega (arith, room))) (stands_whole (zone_columns S n z)) (kinds_whole (zone_kinds S z)) (omega (arith, room)) outer (zone_columns S n z);
        }) once list h.0 h.1 (items_of list (zone_columns S n z)) (list_takes (zone_columns S n z) list)

    pub from_fine : (n : ℕ) (z : Zone) → ZoneFits S z → n + from_items z ≤ 2 ^ 64 → (outer : List ScopeColumn) (before : List (List ℕ)) → Each (Before n) before → from_fault S outer before (from_tree S n z) ≡ None
    from_fine n (table t w) h room outer before new =
        neither (holds _ faults.UnknownTable 0 (known S schema t h.0).there) (ap (λ b. fault_if b faults.DuplicateAlias 0) (new_alias n (omega (arith, room)) before new))
    from_fine n (derived b) h room outer before new =
        neither (block_fine (suc n) b h (omega (arith, room)) outer)
        (neither (holds _ faults.ColumnListWidth 0 (eq-eqb (length (place_names (block_width b))) (length (output_names S (block_tree S (suc n) b))) (names_count (block_width b) ∙ sym (block_names (suc n) b h))))
        (ap (λ t. fault_if t faults.DuplicateAlias 0) (new_alias n (omega (arith, room)) before new)))
    from_fine n (kept q cols z) h room outer before new = from_fine n z h.1 room outer before new
    from_fine n (member cols z b) h room outer before new = from_fine n z h.1 room outer before new
    from_fine n (inner_join a b l r) h room outer before new =
        neither (from_fine n l h.1 (omega (arith, room)) outer before new) (from_fine (n + from_items l) r h.2 (omega (arith, room)) outer (before ++ aliases_of (from_tree S n l))
        (each_append (Before (n + from_items l)) before (aliases_of (from_tree S n l)) (below n (n + from_items l) (omega arith) before new) (aliases_below S n l)))
    from_fine n (left_join a b l r) h room outer before new =
        neither (from_fine n l h.1 (omega (arith, room)) outer before new) (from_fine (n + from_items l) r h.2 (omega (arith, room)) outer (before ++ aliases_of (from_tree S n l))
        (each_append (Before (n + from_items l)) before (aliases_of (from_tree S n l)) (below n (n + from_items l) (omega arith) before new) (aliases_below S n l)))

    pub joins_fine : (n : ℕ) (z : Zone) → ZoneFits S z → n + from_items z ≤ 2 ^ 64 → (outer query : List ScopeColumn) → joins_fault S outer query (from_tree S n z) ≡ None
    joins_fine n (table t w) h room outer query = refl
    joins_fine n (derived b) h room outer query = refl
    joins_fine n (kept q cols z) h room outer query = joins_fine n z h.1 room outer query
    joins_fine n (member cols z b) h room outer query = joins_fine n z h.1 room outer query
    joins_fine n (inner_join a b l r) h room outer query =
        let m = n + from_items l in
        let lefts = zone_columns S n l in
        let rights = zone_columns S m r in
        let wl = columns_width S n l h.1 in
        let wr = columns_width S m r h.2 in
        let in_left : Each (λ k. k < length lefts) a = subst (λ v. Each (λ k. k < v) a) (sym wl) h.0.pairs.lefts.within in
        let in_right : Each (λ k. k < length rights) b = subst (λ v. Each (λ k. k < v) b) (sym wr) h.0.pairs.rights.within in
        let apart = columns_apart S schema n (inner_join a b l r) h room in
        let on = together (pair_trees lefts rights a b) in
        let sl = scope_there S schema n l h.1 in
        let sr = scope_there S schema m r h.2 in
        let kl = zone_output n l h.1 (omega (arith, room)) in
        let kr = zone_output m r h.2 (omega (arith, room)) in
        let js = ap (λ cs. conjuncts S (scope_of S (from_tree S n l) ++ scope_of S (from_tree S m r)) (together cs)) (sym (append-nil (pair_trees lefts rights a b)))
        ∙ on_conjuncts S schema n m l r h.1 h.2 apart a b in_left in_right [] [] refl in
        neither (neither (joins_fine n l h.1 (omega (arith, room)) outer query) (joins_fine m r h.2 (omega (arith, room)) outer query))
        (neither ((λ i. cond_fault S outer query (sl i ++ sr i) (kl i ++ kr i) on)
        ∙ fine_together S outer query (lefts ++ rights) (zone_kinds S l ++ zone_kinds S r) (pair_trees lefts rights a b)
        (pairs_fine outer query lefts rights apart (zone_kinds S l) (zone_kinds S r) (zone_kinds_length S l h.1 ∙ sym wl) (zone_kinds_length S r h.2 ∙ sym wr) a b in_left in_right h.0.kinds))
        ((λ i. fault_if (unpaired (length (sl i)) (js i)) faults.NoJoinEquality 0) ∙ ap (λ b. fault_if b faults.NoJoinEquality 0) (pairs_some (length lefts) a b [] h.0.pairs.lefts.some h.0.pairs.equally_many in_left)))
    joins_fine n (left_join a b l r) h room outer query =
        let m = n + from_items l in
        let lefts = zone_columns S n l in
        let rights = zone_columns S m r in
        let wl = columns_width S n l h.1 in
        let wr = columns_width S m r h.2 in
        let in_left : Each (λ k. k < length lefts) a = subst (λ v. Each (λ k. k < v) a) (sym wl) h.0.pairs.lefts.within in
        let in_right : Each (λ k. k < length rights) b = subst (λ v. Each (λ k. k < v) b) (sym wr) h.0.pairs.rights.within in
        let apart = columns_apart S schema n (left_join a b l r) h room in
        let cs = condition_trees S m (m + from_items r) r in
        let on = together (pair_trees lefts rights a b ++ cs) in
        let os = map as_conjunct (zone_conditions (length lefts) r) in
        let sl = scope_there S schema n l h.1 in
        let sr = scope_there S schema m r h.2 in
        let kl = zone_output n l h.1 (omega (arith, room)) in
        let kr = zone_output m r h.2 (omega (arith, room)) in
        let js = on_conjuncts S schema n m l r h.1 h.2 apart a b in_left in_right cs os (kept_law S schema m (m + from_items r) r (lefts ++ rights) (length lefts) h.2 apart (stands_second lefts rights) (omega (arith, room))) in
        neither (neither (joins_fine n l h.1 (omega (arith, room)) outer query) (joins_fine m r h.2 (omega (arith, room)) outer query))
        (neither ((λ i. cond_fault S outer query (sl i ++ sr i) (kl i ++ kr i) on)
        ∙ fine_together S outer query (lefts ++ rights) (zone_kinds S l ++ zone_kinds S r) (pair_trees lefts rights a b ++ cs)
        (each_append (Fine S outer query (lefts ++ rights) (zone_kinds S l ++ zone_kinds S r)) (pair_trees lefts rights a b) cs
        (pairs_fine outer query lefts rights apart (zone_kinds S l) (zone_kinds S r) (zone_kinds_length S l h.1 ∙ sym wl) (zone_kinds_length S r h.2 ∙ sym wr) a b in_left in_right h.0.kinds)
        (conditions_fine m (m + from_items r) r (lefts ++ rights) (length lefts) (zone_kinds S l ++ zone_kinds S r) h.2 apart (stands_second lefts rights) (kinds_second (zone_kinds S l) (zone_kinds S r) (length lefts) (zone_kinds_length S l h.1 ∙ sym wl)) (omega (arith, room)) outer query)))
        (neither ((λ i. outer_fault (λ k. not (nat_lt k (length (sl i)))) (length (sl i)) (js i) (conjunct_places on))
        ∙ all_placed (length lefts) (pair_conjuncts (length lefts) a b ++ os) (each_append (Placed (length lefts)) (pair_conjuncts (length lefts) a b) os (pairs_placed (length lefts) a b in_left) (conditions_placed S (length lefts) (length lefts) r h.2 (omega arith))) (conjunct_places on))
        ((λ i. fault_if (unpaired (length (sl i)) (js i)) faults.NoJoinEquality 0) ∙ ap (λ b. fault_if b faults.NoJoinEquality 0) (pairs_some (length lefts) a b os h.0.pairs.lefts.some h.0.pairs.equally_many in_left))))

    pub conditions_fine : (n m : ℕ) (z : Zone) (scope : List ScopeColumn) (d : ℕ) (all : List ColKind) → ZoneFits S z → AllDiffer scope → Stands scope d (zone_columns S n z) → KindsStand all d (zone_kinds S z)
        → m + condition_items z ≤ 2 ^ 64 → (outer query : List ScopeColumn) → Each (Fine S outer query scope all) (condition_trees S n m z)
    conditions_fine n m (table t w) scope d all h apart stands ks room outer query = tt
    conditions_fine n m (derived b) scope d all h apart stands ks room outer query = tt
    conditions_fine n m (kept q cols z) scope d all h apart stands ks room outer query =
        let columns = zone_columns S n z in
        let w = columns_width S n z h.1 in
        let within : Each (λ k. k < length columns) cols = subst (λ v. Each (λ k. k < v) cols) (sym w) h.0.places.within in
        let named : length (zone_kinds S z) ≡ length columns = zone_kinds_length S z h.1 ∙ sym w in
        let low = map (λ k. d + k) cols in
        each_append (Fine S outer query scope all) (condition_trees S n m z) (test_tree columns cols q ∷ []) (conditions_fine n m z scope d all h.1 apart stands ks room outer query) (
          fine_test S outer query scope all columns cols q h.0.regular.no_and (neither (no_test_fault scope apart d columns stands cols within outer all (zone_kinds S z) named ks q h.0.there h.0.regular.typed)
              (some_columns (occurring (pred_of scope (test_tree columns cols q))) 0
              (subst (λ p. occurring p ≢ []) (sym (test_resolved scope apart d columns stands cols within q h.0.there))
              (λ e. h.0.places.some (no_columns (λ k. get_or low k 0) q cols h.0.regular.in_order e))))),
          tt,
        )
    conditions_fine n m (member cols z b) scope d all h apart stands ks room outer query =
        let columns = zone_columns S n z in
        let w = columns_width S n z h.1 in
        let within : Each (λ k. k < length columns) cols = subst (λ v. Each (λ k. k < v) cols) (sym w) h.0.places.within in
        let named : length (zone_kinds S z) ≡ length columns = zone_kinds_length S z h.1 ∙ sym w in
        let at = m + condition_items z in
        let out = block_output at b h.2 (omega (arith, room)) in
        let many : length (columns_at columns cols) ≡ length (output_kinds S (block_tree S at b)) =
        length_map (column_at columns) cols ∙ h.0.equally_many ∙ sym (ap length out ∙ block_kinds_length S b h.2)
        in
        each_append (Fine S outer query scope all) (condition_trees S n m z) (trees.in_query 0 (columns_at columns cols) (block_tree S at b) 0 ∷ []) (conditions_fine n m z scope d all h.1 apart stands ks (omega (arith, room)) outer query) (
          neither (no_columns_fault scope apart d columns stands outer cols within)
              (neither (block_fine at b h.2 (omega (arith, room)) (outer ++ query))
              (neither (holds _ faults.InWidth 0 (eq-eqb (length (columns_at columns cols)) (length (output_kinds S (block_tree S at b))) many))
              (holds _ faults.TypeMismatch 0 ((λ i. kinds_same ((kinds_there scope apart d columns stands all (zone_kinds S z) named ks cols within ∙ h.0.kinds) i) (out i)) ∙ kinds_themselves (block_kinds S b))))),
          tt,
        )
    conditions_fine n m (inner_join a b l r) scope d all h apart stands ks room outer query =
        let lefts = zone_columns S n l in
        let rights = zone_columns S (n + from_items l) r in
        let w = columns_width S n l h.1 in
        let second : Stands scope (d + zone_width l) rights = subst (λ v. Stands scope (d + v) rights) w (stands_right scope d lefts rights stands) in
        each_append (Fine S outer query scope all) (condition_trees S n m l) (condition_trees S (n + from_items l) (m + condition_items l) r)
        (conditions_fine n m l scope d all h.1 apart (stands_left scope d lefts rights stands) (kinds_left all d (zone_kinds S l) (zone_kinds S r) ks) (omega (arith, room)) outer query)
        (conditions_fine (n + from_items l) (m + condition_items l) r scope (d + zone_width l) all h.2 apart second (kinds_right all d (zone_width l) (zone_kinds S l) (zone_kinds S r) (zone_kinds_length S l h.1) ks) (omega (arith, room)) outer query)
    conditions_fine n m (left_join a b l r) scope d all h apart stands ks room outer query =
        conditions_fine n m l scope d all h.1 apart (stands_left scope d (zone_columns S n l) (zone_columns S (n + from_items l) r) stands) (kinds_left all d (zone_kinds S l) (zone_kinds S r) ks) room outer query
