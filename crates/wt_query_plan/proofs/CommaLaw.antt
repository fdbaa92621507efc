-- A comma list joined by the WHERE conjuncts that link its commas has the rows of all choices at which they hold.
use Rattle.std.proofs.Common.{◌≡◌, ℕ, ◌+◌, ◌-◌, ◌<◌, nat_lt, Bool, true, false, ◌&&◌, ◌||◌, not, cond, List, [], ◌∷◌, ◌++◌, map, length, length-append, filter, Option, Some, None, is_some, refl, sym, ap, subst, ◌∙◌, arith}
use Rattle.std.specs.List.{list_all}
use Rattle.std.proofs.lemmas.Bool.{lt-ltb, ltb-true}
use Rattle.wt_bag.specs.Bags.{total, only, Each}
use Rattle.wt_bag.proofs.EachLaws.{each_implies, each_map, each_filter, each_flat_map}
use Rattle.wt_bag.proofs.TotalLaws.{total_each, total-filter, total_ext, only-and, only-total}
use Rattle.wt_value.specs.Values.{Tuple, value_matches, row_matches, value_at, pick}
use Rattle.wt_pred.specs.declared.tree.Cmp.TheVariants as signs
use Rattle.wt_pred.specs.declared.tree.Operand.TheVariants as operands
use Rattle.wt_pred.specs.Tree as preds
use Rattle.wt_ast.specs.Tree.{FromTree, table, derived, inner_join, left_join, right_join, comma}
use Rattle.wt_query_rows.specs.Scopes.{scope_of}
use Rattle.wt_query_rows.specs.Rows.{from_rows}
use Rattle.wt_plan.specs.Rows.{plan_rows, joined}
use Rattle.wt_plan.specs.Measures.{width}
use Rattle.wt_query_plan.specs.Building.{Conjunct, keeps, is_in, conjunct_columns, pair_of, pairs_of, firsts, seconds, at_place, within, link, links, free_of, stacked, places_of, from_plan}
use Rattle.wt_query_plan.proofs.Stacking.{holds_at, all_at, pick_places, stacked_rows, width_stacked}
use Rattle.wt_query_plan.proofs.Joining.{pairs_match, pair_holds, left_holds}
use Rattle.wt_query_plan.proofs.Operands.{Operand, pick_onward}
use Rattle.wt_plan.proofs.Upto.{length_map}
use Rattle.wt_place.proofs.PlaceSums.{partners, inner_sum, meet}
use Rattle.wt_schema.specs.declared.schema.Table.{Table}
use Rattle.wt_plan.proofs.Widths.{Wide}

-- a conjunct on left columns alone is no pair
no_pair : (n : ℕ) (j : Conjunct) → Each (λ k. k < n) (conjunct_columns j) → pair_of n j ≡ None
no_pair n (keeps (preds.compare signs.Eq (operands.Column a) (operands.Column b))) h = here (nat_lt a n) (nat_lt b n) (a, b - n) (b, a - n) (lt-ltb a n h.0) (lt-ltb b n h.1.0)
  where
    here : (s t : Bool) (p q : ℕ × ℕ) → s ≡ true → t ≡ true → cond (s && not t) (Some p) (cond (t && not s) (Some q) None) ≡ None
    here true true p q e f = refl
    here true false p q e f = cc
    here false t p q e f = cc
no_pair n (keeps (preds.compare signs.Eq (operands.Column a) (operands.Constant w))) h = refl
no_pair n (keeps (preds.compare signs.Eq (operands.Constant v) b)) h = refl
no_pair n (keeps (preds.compare signs.Ne a b)) h = refl
no_pair n (keeps (preds.compare signs.Lt a b)) h = refl
no_pair n (keeps (preds.compare signs.Le a b)) h = refl
no_pair n (keeps (preds.compare signs.Gt a b)) h = refl
no_pair n (keeps (preds.compare signs.Ge a b)) h = refl
no_pair n (keeps (preds.is_null c)) h = refl
no_pair n (keeps (preds.is_not_null c)) h = refl
no_pair n (keeps (preds.in_list c vs)) h = refl
no_pair n (keeps (preds.all_of ps)) h = refl
no_pair n (keeps (preds.any_of ps)) h = refl
no_pair n (keeps (preds.negated q)) h = refl
no_pair n (is_in cols q) h = refl

below_all : (m : ℕ) (cols : List ℕ) → list_all (λ k. nat_lt k m) cols ≡ true → Each (λ k. k < m) cols
below_all m [] e = tt
below_all m (k ∷ cols) e = here (nat_lt k m) refl e (below_all m cols)
  where
    here : (b : Bool) → nat_lt k m ≡ b → (b && list_all (λ j. nat_lt j m) cols) ≡ true → (list_all (λ j. nat_lt j m) cols ≡ true → Each (λ j. j < m) cols) → (k < m) × Each (λ j. j < m) cols
    here true f e more = (ltb-true k m f, more e)
    here false f e more = cc

-- what links a comma of a list is on the list's columns
links_within : (S : List Table) (f : FromTree) (j : Conjunct) → links S f j ≡ true → Each (λ k. k < length (scope_of S f)) (conjunct_columns j)
links_within S (table name alias at alias_at) j e = cc
links_within S (derived q alias columns at alias_at) j e = cc
links_within S (inner_join l r on at) j e = cc
links_within S (left_join l r on at) j e = cc
links_within S (right_join l r on at) j e = cc
links_within S (comma l r at) j e =
    here (within (length (scope_of S l ++ scope_of S r)) j) (is_some (pair_of (length (scope_of S l)) j)) (links S l j) refl e (links_within S l j)
  where
    here : (t o s : Bool) → within (length (scope_of S l ++ scope_of S r)) j ≡ t → ((t && o) || s) ≡ true → (s ≡ true → Each (λ k. k < length (scope_of S l)) (conjunct_columns j))
        → Each (λ k. k < length (scope_of S l ++ scope_of S r)) (conjunct_columns j)
    here true o s f e more = below_all (length (scope_of S l ++ scope_of S r)) (conjunct_columns j) f
    here false o true f e more = each_implies (λ k. k < length (scope_of S l)) (λ k. k < length (scope_of S l ++ scope_of S r)) (conjunct_columns j) (λ k c. omega (arith, c, length-append (scope_of S l) (scope_of S r))) (more refl)
    here false o false f e more = cc

-- the links of a list are those of the list before its last comma, and the pairs of that comma
module _ (base : List (List Tuple)) (m : ℕ) (before : Conjunct → Bool) (x y : Tuple) (low : (j : Conjunct) → before j ≡ true → Each (λ k. k < length x) (conjunct_columns j)) where
  links_split : (ws : List Conjunct) → all_at base (filter (λ j. link (length x) m j || before j) ws) (x ++ y) ≡ all_at base (filter before ws) x && pairs_match base x y (pairs_of (length x) (filter (within m) ws))
  links_split [] = refl
  links_split (j ∷ ws) = here (before j) (within m j) (pair_of (length x) j) refl refl (links_split ws)
    where
      and_and : (a b c : Bool) → (a && (b && c)) ≡ ((a && b) && c)
      and_and true b c = refl
      and_and false b c = refl

      swap : (a b c : Bool) → (a && (b && c)) ≡ (b && (a && c))
      swap true b c = refl
      swap false true c = refl
      swap false false c = refl

      first : (t : Bool) → before j ≡ true → pair_of (length x) j ≡ None → all_at base (filter (λ i. link (length x) m i || before i) ws) (x ++ y) ≡ all_at base (filter before ws) x && pairs_match base x y (pairs_of (length x) (filter (within m) ws))
          → (holds_at base j (x ++ y) && all_at base (filter (λ i. link (length x) m i || before i) ws) (x ++ y))
          ≡ (holds_at base j x && all_at base (filter before ws) x) && pairs_match base x y (pairs_of (length x) (cond t (j ∷ filter (within m) ws) (filter (within m) ws)))
      first false b o ih = (λ i. sym (left_holds base x y j (low j b)) i && ih i) ∙ and_and (holds_at base j x) (all_at base (filter before ws) x) (pairs_match base x y (pairs_of (length x) (filter (within m) ws)))
      first true b o ih = rw o ((λ i. sym (left_holds base x y j (low j b)) i && ih i) ∙ and_and (holds_at base j x) (all_at base (filter before ws) x) (pairs_match base x y (pairs_of (length x) (filter (within m) ws))))

      here : (s t : Bool) (o : Option (ℕ × ℕ)) → before j ≡ s → pair_of (length x) j ≡ o → all_at base (filter (λ i. link (length x) m i || before i) ws) (x ++ y) ≡ all_at base (filter before ws) x && pairs_match base x y (pairs_of (length x) (filter (within m) ws))
          → all_at base (cond ((t && is_some o) || s) (j ∷ filter (λ i. link (length x) m i || before i) ws) (filter (λ i. link (length x) m i || before i) ws)) (x ++ y)
          ≡ all_at base (cond s (j ∷ filter before ws) (filter before ws)) x && pairs_match base x y (pairs_of (length x) (cond t (j ∷ filter (within m) ws) (filter (within m) ws)))
      here true true None b e ih = first true b e ih
      here true false None b e ih = first false b e ih
      here true t (Some p) b e ih = let none = no_pair (length x) j (low j b) in let bad : None ≡ Some p = sym none ∙ e in cc
      here false false o b e ih = ih
      here false true None b e ih = rw e ih
      here false true (Some p) b e ih = rw e ((λ i. pair_holds base x y j p e i && ih i) ∙ swap (value_matches (value_at x p.0) (value_at y p.1)) (all_at base (filter before ws) x) (pairs_match base x y (pairs_of (length x) (filter (within m) ws))))

module _ (S : List Table) (base : List (List Tuple)) where
  -- the operands of the commas of a list
  abbrev pub Parts : FromTree → Type 0
  Parts (comma l r at) = Parts l × Operand base (scope_of S l) (places_of S l) (from_plan S [] l) (from_rows S base l) × Operand base (scope_of S r) (places_of S r) (from_plan S [] r) (from_rows S base r)
  Parts (table name alias at alias_at) = Unit {0}
  Parts (derived q alias columns at alias_at) = Unit {0}
  Parts (inner_join l r on at) = Unit {0}
  Parts (left_join l r on at) = Unit {0}
  Parts (right_join l r on at) = Unit {0}

  none_left : (ws : List Conjunct) → filter (λ (j : Conjunct). false) ws ≡ []
  none_left [] = refl
  none_left (j ∷ ws) = none_left ws

  pub record Linked (ws : List Conjunct) (f : FromTree) : Type 0 where
    pub sums : (g : Tuple → ℕ) → total g (plan_rows base (from_plan S ws f)) ≡ total (λ v. only (all_at base (filter (links S f) ws) (pick (places_of S f) v)) (g v)) (plan_rows base (from_plan S [] f))
    pub wide : Wide (length (places_of S f)) (plan_rows base (from_plan S ws f))
    pub planned_width : width (from_plan S ws f) ≡ length (places_of S f)

  abbrev Whole : FromTree → Type 0
  Whole f = Operand base (scope_of S f) (places_of S f) (from_plan S [] f) (from_rows S base f)

  no_links : (ws : List Conjunct) (places : List ℕ) (g : Tuple → ℕ) (rows : List Tuple) → total g rows ≡ total (λ v. only (all_at base (filter (λ (j : Conjunct). false) ws) (pick places v)) (g v)) rows
  no_links ws places g rows = ap (λ js. total (λ v. only (all_at base js (pick places v)) (g v)) rows) (sym (none_left ws))

  pub linked : (ws : List Conjunct) (f : FromTree) → Parts f → Whole f → Linked ws f
  linked ws (table name alias at alias_at) h o = record { sums = λ g. no_links ws (places_of S (table name alias at alias_at)) g _; wide = o.wide; planned_width = o.planned_width }
  linked ws (derived q alias columns at alias_at) h o = record { sums = λ g. no_links ws (places_of S (derived q alias columns at alias_at)) g _; wide = o.wide; planned_width = o.planned_width }
  linked ws (inner_join l r on at) h o = record { sums = λ g. no_links ws (places_of S (inner_join l r on at)) g _; wide = o.wide; planned_width = o.planned_width }
  linked ws (left_join l r on at) h o = record { sums = λ g. no_links ws (places_of S (left_join l r on at)) g _; wide = o.wide; planned_width = o.planned_width }
  linked ws (right_join l r on at) h o = record { sums = λ g. no_links ws (places_of S (right_join l r on at)) g _; wide = o.wide; planned_width = o.planned_width }
  linked ws (comma l r at) h o =
      let k = linked ws l h.0 h.1 in
      let ol = h.1 in
      let or = h.2 in
      let m = length (scope_of S l ++ scope_of S r) in
      let ps = pairs_of (length (scope_of S l)) (filter (within m) ws) in
      let a = map (at_place (places_of S l)) (firsts ps) in
      let b = map (at_place (places_of S r)) (seconds ps) in
      let ls = filter (links S l) ws in
      let all : List Conjunct = filter (links S (comma l r at)) ws in
      let R = plan_rows base (from_plan S [] r) in
      let n : length (places_of S (comma l r at)) ≡ length (places_of S l) + length (places_of S r) = omega (arith, length-append (places_of S l) (map (λ k. length (scope_of S l) + k) (places_of S r)), length_map (λ k. length (scope_of S l) + k) (places_of S r)) in
      record {
        sums = λ g.
            inner_sum a b g (plan_rows base (from_plan S ws l)) R
            ∙ k.sums (partners a b g R)
            ∙ total_each _ _ (plan_rows base (from_plan S [] l)) (each_implies (λ u. length u ≡ length (places_of S l))
            (λ u. only (all_at base ls (pick (places_of S l) u)) (partners a b g R u) ≡ partners [] [] (λ w. only (all_at base all (pick (places_of S (comma l r at)) w)) (g w)) R u) (plan_rows base (from_plan S [] l))
            (λ u e. only-total (all_at base ls (pick (places_of S l) u)) (λ v. only (meet a b u v) (g (u ++ v))) R
            ∙ total_each _ _ R (each_implies (λ v. length v ≡ length (places_of S r))
            (λ v. only (all_at base ls (pick (places_of S l) u)) (only (meet a b u v) (g (u ++ v))) ≡ only (all_at base all (pick (places_of S (comma l r at)) (u ++ v))) (g (u ++ v))) R
            (λ v f. sym (only-and (all_at base ls (pick (places_of S l) u)) (meet a b u v) (g (u ++ v))) ∙ ap (λ t. only t (g (u ++ v))) (sym (step u v e f))) or.wide)) ol.wide)
            ∙ sym (inner_sum [] [] (λ w. only (all_at base all (pick (places_of S (comma l r at)) w)) (g w)) (plan_rows base (from_plan S [] l)) R);
        wide = each_flat_map (λ w. length w ≡ length (places_of S (comma l r at))) (λ u. joined a b u R) (plan_rows base (from_plan S ws l))
            (each_implies (λ u. length u ≡ length (places_of S l)) (λ u. Wide (length (places_of S (comma l r at))) (joined a b u R)) (plan_rows base (from_plan S ws l))
            (λ u e. each_map (λ w. length w ≡ length (places_of S (comma l r at))) (λ v. u ++ v) (filter (λ v. row_matches (pick a u) (pick b v)) R)
            (each_filter (λ v. length (u ++ v) ≡ length (places_of S (comma l r at))) (λ v. row_matches (pick a u) (pick b v)) R
            (each_implies (λ v. length v ≡ length (places_of S r)) (λ v. length (u ++ v) ≡ length (places_of S (comma l r at))) R (λ v f. omega (arith, length-append u v, n)) or.wide))) k.wide);
        planned_width = omega (arith, k.planned_width, or.planned_width, n);
      }
    where
      step : (u v : Tuple) → length u ≡ length (places_of S l) → length v ≡ length (places_of S r)
          → all_at base (filter (links S (comma l r at)) ws) (pick (places_of S (comma l r at)) (u ++ v))
          ≡ all_at base (filter (links S l) ws) (pick (places_of S l) u)
          && row_matches (pick (map (at_place (places_of S l)) (firsts (pairs_of (length (scope_of S l)) (filter (within (length (scope_of S l ++ scope_of S r))) ws)))) u)
          (pick (map (at_place (places_of S r)) (seconds (pairs_of (length (scope_of S l)) (filter (within (length (scope_of S l ++ scope_of S r))) ws)))) v)
      step u v e f =
          let x = pick (places_of S l) u in
          let y = pick (places_of S r) v in
          let len : length x ≡ length (scope_of S l) = length_map (value_at u) (places_of S l) ∙ h.1.same_length in
          let m = length (scope_of S l ++ scope_of S r) in
          let ps = pairs_of (length (scope_of S l)) (filter (within m) ws) in
          ap (all_at base (filter (links S (comma l r at)) ws)) (pick_onward base (scope_of S l) (scope_of S r) (places_of S l) (places_of S r) (from_plan S [] l) (from_plan S [] r) (from_rows S base l) (from_rows S base r) h.1 h.2 [] (λ z. true) (λ z e. refl) u v e)
          ∙ subst (λ k. all_at base (filter (λ j. link k m j || links S l j) ws) (x ++ y) ≡ all_at base (filter (links S l) ws) x && pairs_match base x y (pairs_of k (filter (within m) ws))) len
          (links_split base m (links S l) x y (λ j b. subst (λ k. Each (λ c. c < k) (conjunct_columns j)) (sym len) (links_within S l j b)) ws)
          ∙ (λ i. all_at base (filter (links S l) ws) x && row_matches (sym (pick_places u (places_of S l) e (firsts ps)) i) (sym (pick_places v (places_of S r) f (seconds ps)) i))

  split_all : (t : Conjunct → Bool) (js : List Conjunct) (z : Tuple) → all_at base js z ≡ all_at base (filter t js) z && all_at base (filter (λ j. not (t j)) js) z
  split_all t [] z = refl
  split_all t (j ∷ js) z = here (t j) (split_all t js z)
    where
      here : (b : Bool) → all_at base js z ≡ all_at base (filter t js) z && all_at base (filter (λ i. not (t i)) js) z
          → (holds_at base j z && all_at base js z) ≡ all_at base (cond b (j ∷ filter t js) (filter t js)) z && all_at base (cond (not b) (j ∷ filter (λ i. not (t i)) js) (filter (λ i. not (t i)) js)) z
      here true ih = ap (λ c. holds_at base j z && c) ih ∙ both (holds_at base j z) (all_at base (filter t js) z) (all_at base (filter (λ i. not (t i)) js) z)
        where
          both : (a b c : Bool) → (a && (b && c)) ≡ ((a && b) && c)
          both true b c = refl
          both false b c = refl
      here false ih = ap (λ c. holds_at base j z && c) ih ∙ swap (holds_at base j z) (all_at base (filter t js) z) (all_at base (filter (λ i. not (t i)) js) z)
        where
          swap : (a b c : Bool) → (a && (b && c)) ≡ (b && (a && c))
          swap true b c = refl
          swap false true c = refl
          swap false false c = refl

  -- the conditions that link no comma, over the list joined by the others
  pub free_sums : (ws : List Conjunct) (f : FromTree) → Linked ws f → (g : Tuple → ℕ)
      → total g (plan_rows base (stacked (places_of S f) (free_of S f ws) (from_plan S ws f))) ≡ total (λ v. only (all_at base ws (pick (places_of S f) v)) (g v)) (plan_rows base (from_plan S [] f))
  free_sums ws f k g =
      ap (total g) (stacked_rows base (places_of S f) (free_of S f ws) (from_plan S ws f) k.wide)
      ∙ total-filter g (λ v. all_at base (free_of S f ws) (pick (places_of S f) v)) (plan_rows base (from_plan S ws f))
      ∙ k.sums (λ v. only (all_at base (free_of S f ws) (pick (places_of S f) v)) (g v))
      ∙ total_ext _ _ (plan_rows base (from_plan S [] f)) (λ v. sym (only-and (all_at base (filter (links S f) ws) (pick (places_of S f) v)) (all_at base (free_of S f ws) (pick (places_of S f) v)) (g v))
      ∙ ap (λ t. only t (g v)) (sym (split_all (links S f) ws (pick (places_of S f) v))))

  pub free_wide : (ws : List Conjunct) (f : FromTree) → Linked ws f → Wide (length (places_of S f)) (plan_rows base (stacked (places_of S f) (free_of S f ws) (from_plan S ws f)))
  free_wide ws f k = subst (Wide (length (places_of S f))) (sym (stacked_rows base (places_of S f) (free_of S f ws) (from_plan S ws f) k.wide))
      (each_filter (λ v. length v ≡ length (places_of S f)) (λ v. all_at base (free_of S f ws) (pick (places_of S f) v)) (plan_rows base (from_plan S ws f)) k.wide)

  pub free_width : (ws : List Conjunct) (f : FromTree) → Linked ws f → width (stacked (places_of S f) (free_of S f ws) (from_plan S ws f)) ≡ length (places_of S f)
  free_width ws f k = width_stacked base (places_of S f) (free_of S f ws) (from_plan S ws f) ∙ k.planned_width
