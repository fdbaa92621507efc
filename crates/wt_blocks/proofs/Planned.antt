-- The tree of a block is built to the block's plan.
use Rattle.std.proofs.Common.{◌≡◌, ℕ, suc, ◌+◌, ◌<◌, ◌≤◌, ◌^◌, Bool, false, ◌&&◌, not, List, [], ◌∷◌, ◌++◌, append-nil, map, length, Option, Some, None, refl, sym, ap, subst, ◌∙◌, arith}
use Rattle.std.specs.Prelude.{flat_map}
use Rattle.wt_bag.specs.Bags.{Each}
use Rattle.wt_schema.specs.declared.schema.Table.{Table}
use Rattle.wt_schema.specs.Lawful.{IsSchema}
use Rattle.wt_ast.specs.declared.tree.Item.{Item}
use Rattle.wt_ast.specs.declared.tree.Item.TheVariants as items
use Rattle.wt_ast.specs.Tree.{CondTree, FromTree, QueryTree, select}
use Rattle.wt_ast.specs.Tree as trees
use Rattle.wt_query_rows.specs.declared.scope.ScopeColumn.{ScopeColumn}
use Rattle.wt_query_rows.specs.Scopes.{scope_of}
use Rattle.wt_plan.specs.Tree.{PlanTree}
use Rattle.wt_plan.specs.Tree as plans
use Rattle.wt_plan.specs.Regular.{upto}
use Rattle.wt_place.specs.Placing.{Condition, stand}
use Rattle.wt_place.specs.Placing as places
use Rattle.wt_query_plan.specs.Building.{Conjunct, at_place, stacked, free_of, has_right, is_sole_star, item_places, listed, deduped, place_of, places_of, kept_by, conjuncts, planned, from_plan, inner_of, left_of, pairs_of, on_right, firsts, seconds, is_in, keeps}
use Rattle.wt_query_plan.proofs.Lookup.{map_append}
use Rattle.wt_blocks.specs.Blocks.{Block, Zone, block, table, derived, kept, member, inner_join, left_join}
use Rattle.wt_blocks.specs.Counting.{zone_width, block_items, from_items, condition_items}
use Rattle.wt_blocks.specs.Printed.{column_at, columns_at, zone_columns, items_of, test_tree, pair_trees, together, where_of, block_tree, from_tree, condition_trees}
use Rattle.wt_blocks.proofs.Rebuilt.{of_list, built, built_from, zone_conditions}
use Rattle.wt_blocks.proofs.Fitting.{BlockFits, ZoneFits, ListFits}
use Rattle.wt_blocks.proofs.Naming.{AllDiffer, Stands, stands_whole, stands_left, stands_right, found_there}
use Rattle.wt_blocks.proofs.Numbering.{places_upto}
use Rattle.wt_blocks.proofs.Tested.{places_there, test_resolved}
use Rattle.wt_blocks.proofs.Tables.{known}
use Rattle.wt_blocks.proofs.Zones.{columns_width, columns_apart, scope_there, no_right, all_free, in_text_order}
use Rattle.wt_blocks.proofs.Conjuncts.{as_conjunct, all_of, conjuncts_together, conjuncts_where, conjuncts_append, test_conjunct, stacked_again, conditions_stand, lowered_again, none_pairs, pair_conjuncts, pair_conjuncts_of, stands_second, lefts_of, rights_of, others_left}

-- ---- the select list

-- items that take these columns, under whatever names
abbrev pub Takes : List ScopeColumn → List ℕ → List Item → Type 0
Takes columns [] [] = Unit {0}
Takes columns (k ∷ cols) (items.Column c output ∷ is) = (c ≡ column_at columns k) × Takes columns cols is
Takes columns _ _ = ⊥

abbrev pub TakesList : List ScopeColumn → Option (List ℕ) → List Item → Type 0
TakesList columns None is = is ≡ items.Star 0 ∷ []
TakesList columns (Some cols) is = Takes columns cols is

pub items_take : (columns : List ScopeColumn) (cols : List ℕ) → Takes columns cols (map (λ k. items.Column (column_at columns k) None) cols)
items_take columns [] = tt
items_take columns (k ∷ cols) = (refl, items_take columns cols)

pub list_takes : (columns : List ScopeColumn) (list : Option (List ℕ)) → TakesList columns list (items_of list columns)
list_takes columns None = refl
list_takes columns (Some cols) = items_take columns cols

taken_places : (columns : List ScopeColumn) → AllDiffer columns → (cols : List ℕ) → Each (λ k. k < length columns) cols → (is : List Item) → Takes columns cols is → flat_map (item_places columns) is ≡ cols
taken_places columns d [] h [] t = refl
taken_places columns d [] h (i ∷ is) t = absurd t
taken_places columns d (k ∷ cols) h [] t = absurd t
taken_places columns d (k ∷ cols) h (items.Star at ∷ is) t = absurd t
taken_places columns d (k ∷ cols) h (items.AllOf alias at ∷ is) t = absurd t
taken_places columns d (k ∷ cols) h (items.Column c output ∷ is) t =
    let e : 0 + k ≡ k = omega arith in
    let f = found_there columns d 0 columns (stands_whole columns) k h.0 in
    λ i. (ap (place_of columns) t.0 ∙ f.place ∙ e) i ∷ taken_places columns d cols h.1 is t.1 i

no_star : (columns : List ScopeColumn) (cols : List ℕ) (is : List Item) → Takes columns cols is → is_sole_star is ≡ false
no_star columns cols [] t = refl
no_star columns [] (i ∷ is) t = absurd t
no_star columns (k ∷ cols) (items.Star at ∷ is) t = absurd t
no_star columns (k ∷ cols) (items.AllOf alias at ∷ is) t = absurd t
no_star columns (k ∷ cols) (items.Column c output ∷ is) t = refl

flat_single : {X Y : Type 0} (f : X → Y) (xs : List X) → flat_map (λ x. f x ∷ []) xs ≡ map f xs
flat_single f [] = refl
flat_single f (x ∷ xs) = ap (λ l. f x ∷ l) (flat_single f xs)

module _ (S : List Table) (schema : IsSchema S) where
  -- ---- a block, given its zone

  -- the plan of FROM, and the conjuncts of WHERE
  pub record ZonePlan (n : ℕ) (z : Zone) : Type 0 where
    pub from : (ws : List Conjunct) → from_plan S ws (from_tree S n z) ≡ built_from z
    pub kept : all_of S (zone_columns S n z) (condition_trees S n (n + from_items z) z) ≡ map as_conjunct (zone_conditions 0 z)

  module _ (n : ℕ) (z : Zone) (fits : ZoneFits S z) (room : n + from_items z ≤ 2 ^ 64) (h : ZonePlan n z) where
    abbrev columns : List ScopeColumn
    columns = zone_columns S n z

    abbrev from : FromTree
    from = from_tree S n z

    abbrev keep : trees.FilterTree
    keep = where_of (condition_trees S n (n + from_items z) z)

    in_place : places_of S from ≡ upto (length columns)
    in_place = in_text_order S n z ∙ ap (λ s. upto (length s)) (scope_there S schema n z fits)

    where_conjuncts : free_of S from (kept_by S (scope_of S from) keep) ≡ map as_conjunct (zone_conditions 0 z)
    where_conjuncts =
        all_free S n z (kept_by S (scope_of S from) keep)
        ∙ ap (λ s. kept_by S s keep) (scope_there S schema n z fits)
        ∙ conjuncts_where S columns (condition_trees S n (n + from_items z) z)
        ∙ h.kept

    conditioned : stacked (places_of S from) (free_of S from (kept_by S (scope_of S from) keep)) (from_plan S (kept_by S (scope_of S from) keep) from) ≡ stand (zone_conditions 0 z) (built_from z)
    conditioned =
        let w = columns_width S n z fits in
        (λ i. stacked (in_place i) (where_conjuncts i) (h.from (kept_by S (scope_of S from) keep) i))
        ∙ stacked_again (length columns) (zone_conditions 0 z) (conditions_stand S 0 (length columns) z fits (omega (arith, w))) (built_from z)

    select_list : (list : Option (List ℕ)) → ListFits S (zone_width z) list → (is : List Item) → TakesList columns list is → (p : PlanTree)
        → listed (is_sole_star is && not (has_right from)) (map (at_place (places_of S from)) (flat_map (item_places (scope_of S from)) is)) p ≡ of_list list p
    select_list None f is t p =
        (λ i. listed (is_sole_star (t i) && not (no_right S n z i)) (map (at_place (places_of S from)) (flat_map (item_places (scope_of S from)) is)) p)
    select_list (Some cols) f is t p =
        let w = columns_width S n z fits in
        let within : Each (λ k. k < length columns) cols = subst (λ m. Each (λ k. k < m) cols) (sym w) f.within in
        (λ i. listed (no_star columns cols is t i && not (has_right from)) (map (at_place (in_place i)) (flat_map (item_places (scope_there S schema n z fits i)) is)) p)
        ∙ ap (λ l. plans.proj (map (at_place (upto (length columns))) l) p) (taken_places columns (columns_apart S schema n z fits room) cols within is t)
        ∙ ap (λ l. plans.proj l p) (places_upto (length columns) cols within)

    pub block_goes : (once : Bool) (list : Option (List ℕ)) → ListFits S (zone_width z) list → (is : List Item) → TakesList columns list is
        → planned S (select once is from keep) ≡ built (block once list z)
    block_goes once list f is t =
        ap (deduped once) (ap (listed (is_sole_star is && not (has_right from)) (map (at_place (places_of S from)) (flat_map (item_places (scope_of S from)) is))) conditioned
        ∙ select_list list f is t (stand (zone_conditions 0 z) (built_from z)))

  -- ---- the conjuncts of an ON: its pairs, and those of further conditions

  pub on_conjuncts : (n m : ℕ) (l r : Zone) → ZoneFits S l → ZoneFits S r → AllDiffer (zone_columns S n l ++ zone_columns S m r) → (a b : List ℕ) → Each (λ k. k < length (zone_columns S n l)) a
      → Each (λ k. k < length (zone_columns S m r)) b → (cs : List CondTree) (os : List Conjunct) → all_of S (zone_columns S n l ++ zone_columns S m r) cs ≡ os
      → conjuncts S (scope_of S (from_tree S n l) ++ scope_of S (from_tree S m r)) (together (pair_trees (zone_columns S n l) (zone_columns S m r) a b ++ cs)) ≡ pair_conjuncts (length (zone_columns S n l)) a b ++ os
  on_conjuncts n m l r fl fr apart a b in_left in_right cs os e =
      let lefts = zone_columns S n l in
      let rights = zone_columns S m r in
      (λ i. conjuncts S (scope_there S schema n l fl i ++ scope_there S schema m r fr i) (together (pair_trees lefts rights a b ++ cs)))
      ∙ conjuncts_together S (lefts ++ rights) (pair_trees lefts rights a b ++ cs)
      ∙ conjuncts_append S (lefts ++ rights) (pair_trees lefts rights a b) cs
      ∙ (λ i. pair_conjuncts_of S lefts rights apart a b in_left in_right i ++ e i)

  -- ---- all zones

  mutual
    pub block_plan : (n : ℕ) (b : Block) → BlockFits S b → n + block_items b ≤ 2 ^ 64 → planned S (block_tree S n b) ≡ built b
    block_plan n (block once list z) h room =
        block_goes n z h.2 (omega (arith, room)) (record {
          from = from_law n z h.2 (omega (arith, room));
          kept = kept_law n (n + from_items z) z (zone_columns S n z) 0 h.2 (columns_apart S schema n z h.2 (omega (arith, room))) (stands_whole (zone_columns S n z)) (omega (arith, room));
        }) once list h.0 (items_of list (zone_columns S n z)) (list_takes (zone_columns S n z) list)

    pub from_law : (n : ℕ) (z : Zone) → ZoneFits S z → n + from_items z ≤ 2 ^ 64 → (ws : List Conjunct) → from_plan S ws (from_tree S n z) ≡ built_from z
    from_law n (table t w) h room ws = let k = known S schema t h.0 in λ i. plans.table (k.number i) ((k.as_many ∙ sym h.1) i)
    from_law n (derived b) h room ws = block_plan (suc n) b h (omega (arith, room))
    from_law n (kept q cols z) h room ws = from_law n z h.1 room ws
    from_law n (member cols z b) h room ws = from_law n z h.1 room ws
    from_law n (inner_join a b l r) h room ws =
        let m = n + from_items l in
        let lefts = zone_columns S n l in
        let rights = zone_columns S m r in
        let wl = columns_width S n l h.1 in
        let wr = columns_width S m r h.2 in
        let in_left : Each (λ k. k < length lefts) a = subst (λ v. Each (λ k. k < v) a) (sym wl) h.0.pairs.lefts.within in
        let in_right : Each (λ k. k < length rights) b = subst (λ v. Each (λ k. k < v) b) (sym wr) h.0.pairs.rights.within in
        let on = together (pair_trees lefts rights a b) in
        let apart = columns_apart S schema n (inner_join a b l r) h room in
        let js : conjuncts S (scope_of S (from_tree S n l) ++ scope_of S (from_tree S m r)) on ≡ pair_conjuncts (length lefts) a b ++ [] =
        ap (λ cs. conjuncts S (scope_of S (from_tree S n l) ++ scope_of S (from_tree S m r)) (together cs)) (sym (append-nil (pair_trees lefts rights a b)))
        ∙ on_conjuncts n m l r h.1 h.2 apart a b in_left in_right [] [] refl
        in
        let place_l : places_of S (from_tree S n l) ≡ upto (length lefts) = in_text_order S n l ∙ ap (λ s. upto (length s)) (scope_there S schema n l h.1) in
        let place_r : places_of S (from_tree S m r) ≡ upto (length rights) = in_text_order S m r ∙ ap (λ s. upto (length s)) (scope_there S schema m r h.2) in
        (λ i. inner_of (length (scope_there S schema n l h.1 i)) (place_l i) (place_r i) (places_of S (from_tree S n (inner_join a b l r))) (js i) (from_law n l h.1 (omega (arith, room)) [] i) (from_law m r h.2 (omega (arith, room)) [] i))
        ∙ ap (λ os. stacked (places_of S (from_tree S n (inner_join a b l r))) os (plans.inner_join (map (at_place (upto (length lefts))) (firsts (pairs_of (length lefts) (pair_conjuncts (length lefts) a b ++ []))))
        (map (at_place (upto (length rights))) (seconds (pairs_of (length lefts) (pair_conjuncts (length lefts) a b ++ [])))) (built_from l) (built_from r))) (others_left (length lefts) [] tt a b in_left)
        ∙ (λ i. plans.inner_join (map (at_place (upto (length lefts))) (lefts_of (length lefts) [] tt a b h.0.pairs.equally_many in_left i)) (map (at_place (upto (length rights))) (rights_of (length lefts) [] tt a b h.0.pairs.equally_many in_left i)) (built_from l) (built_from r))
        ∙ (λ i. plans.inner_join (places_upto (length lefts) a in_left i) (places_upto (length rights) b in_right i) (built_from l) (built_from r))
    from_law n (left_join a b l r) h room ws =
        let m = n + from_items l in
        let lefts = zone_columns S n l in
        let rights = zone_columns S m r in
        let wl = columns_width S n l h.1 in
        let wr = columns_width S m r h.2 in
        let in_left : Each (λ k. k < length lefts) a = subst (λ v. Each (λ k. k < v) a) (sym wl) h.0.pairs.lefts.within in
        let in_right : Each (λ k. k < length rights) b = subst (λ v. Each (λ k. k < v) b) (sym wr) h.0.pairs.rights.within in
        let cs = condition_trees S m (m + from_items r) r in
        let on = together (pair_trees lefts rights a b ++ cs) in
        let apart = columns_apart S schema n (left_join a b l r) h room in
        let os = map as_conjunct (zone_conditions (length lefts) r) in
        let none = none_pairs S (length lefts) (length lefts) r h.2 (omega arith) in
        let js : conjuncts S (scope_of S (from_tree S n l) ++ scope_of S (from_tree S m r)) on ≡ pair_conjuncts (length lefts) a b ++ os =
        on_conjuncts n m l r h.1 h.2 apart a b in_left in_right cs os (kept_law m (m + from_items r) r (lefts ++ rights) (length lefts) h.2 apart (stands_second lefts rights) (omega (arith, room)))
        in
        let place_l : places_of S (from_tree S n l) ≡ upto (length lefts) = in_text_order S n l ∙ ap (λ s. upto (length s)) (scope_there S schema n l h.1) in
        let place_r : places_of S (from_tree S m r) ≡ upto (length rights) = in_text_order S m r ∙ ap (λ s. upto (length s)) (scope_there S schema m r h.2) in
        let zero : length lefts ≡ length lefts + 0 = omega arith in
        let low : map (on_right (length lefts)) os ≡ map as_conjunct (zone_conditions 0 r) =
        ap (λ d. map (on_right (length lefts)) (map as_conjunct (zone_conditions d r))) zero ∙ lowered_again S (length lefts) 0 r h.2
        in
        (λ i. left_of (length (scope_there S schema n l h.1 i)) (place_l i) (place_r i) (js i) (from_law n l h.1 (omega (arith, room)) [] i) (from_law m r h.2 (omega (arith, room)) [] i))
        ∙ (λ i. plans.left_join (map (at_place (upto (length lefts))) (lefts_of (length lefts) os none a b h.0.pairs.equally_many in_left i))
        (map (at_place (upto (length rights))) (rights_of (length lefts) os none a b h.0.pairs.equally_many in_left i)) (built_from l)
        (stacked (upto (length rights)) (map (on_right (length lefts)) (others_left (length lefts) os none a b in_left i)) (built_from r)))
        ∙ (λ i. plans.left_join (places_upto (length lefts) a in_left i) (places_upto (length rights) b in_right i) (built_from l)
        ((ap (λ ks. stacked (upto (length rights)) ks (built_from r)) low ∙ stacked_again (length rights) (zone_conditions 0 r) (conditions_stand S 0 (length rights) r h.2 (omega (arith, wr))) (built_from r)) i))

    pub kept_law : (n m : ℕ) (z : Zone) (scope : List ScopeColumn) (d : ℕ) → ZoneFits S z → AllDiffer scope → Stands scope d (zone_columns S n z) → m + condition_items z ≤ 2 ^ 64
        → all_of S scope (condition_trees S n m z) ≡ map as_conjunct (zone_conditions d z)
    kept_law n m (table t w) scope d h apart stands room = refl
    kept_law n m (derived b) scope d h apart stands room = refl
    kept_law n m (kept q cols z) scope d h apart stands room =
        let columns = zone_columns S n z in
        let w = columns_width S n z h.1 in
        let within : Each (λ k. k < length columns) cols = subst (λ v. Each (λ k. k < v) cols) (sym w) h.0.places.within in
        conjuncts_append S scope (condition_trees S n m z) (test_tree columns cols q ∷ [])
        ∙ (λ i. kept_law n m z scope d h.1 apart stands room i ++ (append-nil (conjuncts S scope (test_tree columns cols q)) ∙ test_conjunct S scope columns cols q h.0.regular.no_and
        ∙ ap (λ p. keeps p ∷ []) (test_resolved scope apart d columns stands cols within q h.0.there)) i)
        ∙ sym (map_append as_conjunct (zone_conditions d z) (places.test q (map (λ k. d + k) cols) ∷ []))
    kept_law n m (member cols z b) scope d h apart stands room =
        let columns = zone_columns S n z in
        let w = columns_width S n z h.1 in
        let within : Each (λ k. k < length columns) cols = subst (λ v. Each (λ k. k < v) cols) (sym w) h.0.places.within in
        conjuncts_append S scope (condition_trees S n m z) (trees.in_query 0 (columns_at columns cols) (block_tree S (m + condition_items z) b) 0 ∷ [])
        ∙ (λ i. kept_law n m z scope d h.1 apart stands (omega (arith, room)) i ++ is_in (places_there scope apart d columns stands cols within i) (block_plan (m + condition_items z) b h.2 (omega (arith, room)) i) ∷ [])
        ∙ sym (map_append as_conjunct (zone_conditions d z) (places.member (map (λ k. d + k) cols) (built b) ∷ []))
    kept_law n m (inner_join a b l r) scope d h apart stands room =
        let lefts = zone_columns S n l in
        let rights = zone_columns S (n + from_items l) r in
        let w = columns_width S n l h.1 in
        let second : Stands scope (d + zone_width l) rights = subst (λ v. Stands scope (d + v) rights) w (stands_right scope d lefts rights stands) in
        conjuncts_append S scope (condition_trees S n m l) (condition_trees S (n + from_items l) (m + condition_items l) r)
        ∙ (λ i. kept_law n m l scope d h.1 apart (stands_left scope d lefts rights stands) (omega (arith, room)) i
        ++ kept_law (n + from_items l) (m + condition_items l) r scope (d + zone_width l) h.2 apart second (omega (arith, room)) i)
        ∙ sym (map_append as_conjunct (zone_conditions d l) (zone_conditions (d + zone_width l) r))
    kept_law n m (left_join a b l r) scope d h apart stands room =
        kept_law n m l scope d h.1 apart (stands_left scope d (zone_columns S n l) (zone_columns S (n + from_items l) r) stands) room

  -- a whole zone
  pub zone_plan : (n : ℕ) (z : Zone) → ZoneFits S z → n + (from_items z + condition_items z) ≤ 2 ^ 64 → ZonePlan n z
  zone_plan n z h room = record {
    from = from_law n z h (omega (arith, room));
    kept = kept_law n (n + from_items z) z (zone_columns S n z) 0 h (columns_apart S schema n z h (omega (arith, room))) (stands_whole (zone_columns S n z)) (omega (arith, room));
  }
