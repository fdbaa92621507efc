-- The columns of a zone are those that its FROM clause has in scope, and no two of them have the same alias and name.
use Rattle.std.proofs.Common.{◌≡◌, ◌≢◌, ℕ, zero, suc, ◌+◌, ◌<◌, ◌≤◌, ◌^◌, Bool, true, false, ◌||◌, List, [], ◌∷◌, ◌++◌, append-nil, map, filter, length, length-append, Some, None, refl, sym, ap, subst, ◌∙◌, arith}
use Rattle.wt_bag.specs.Bags.{Each}
use Rattle.wt_bag.specs.Choices.{Apart}
use Rattle.wt_bag.proofs.EachLaws.{each_append, each_map, each_for, each_implies}
use Rattle.wt_schema.specs.declared.schema.Table.{Table}
use Rattle.wt_schema.specs.Lawful.{IsSchema}
use Rattle.wt_ast.specs.Lawful.{is_comma}
use Rattle.wt_query_rows.specs.declared.scope.ScopeColumn.{ScopeColumn}
use Rattle.wt_query_rows.specs.Scopes.{in_scope, scope_of}
use Rattle.wt_plan.specs.Regular.{upto}
use Rattle.wt_plan.proofs.Upto.{length_map, length_upto, upto_within}
use Rattle.wt_query_plan.specs.Building.{Conjunct, has_right, links, free_of, places_of}
use Rattle.wt_query_plan.proofs.Selecting.{text_order}
use Rattle.wt_blocks.specs.Blocks.{Block, Zone, block, table, derived, kept, member, inner_join, left_join}
use Rattle.wt_blocks.specs.Counting.{block_width, zone_width, block_items, from_items, condition_items}
use Rattle.wt_blocks.specs.Printed.{alias_of, place_name, place_names, zone_columns, from_tree, table_columns}
use Rattle.wt_blocks.proofs.Fitting.{BlockFits, ZoneFits}
use Rattle.wt_blocks.proofs.Naming.{alias_injective, place_injective, apart_named, Differ, AllDiffer, other_alias, differ_append, differ_named}
use Rattle.wt_blocks.proofs.Tables.{known, columns_differ, columns_count}

-- numbers below a number, each once
apart_upto : (n : ℕ) → Apart (upto n)
apart_upto zero = tt
apart_upto (suc n) = (
  each_map (λ y. 0 ≢ y) suc (upto n) (each_for (upto n) (λ y e. let bad : ⊥ = omega (arith, e) in bad)),
  apart_suc (upto n) (apart_upto n),
)
  where
    others : (x : ℕ) (ys : List ℕ) → Each (λ y. x ≢ y) ys → Each (λ y. suc x ≢ y) (map suc ys)
    others x [] h = tt
    others x (y ∷ ys) h = ((λ e. h.0 (omega (arith, e))), others x ys h.1)

    apart_suc : (xs : List ℕ) → Apart xs → Apart (map suc xs)
    apart_suc [] h = tt
    apart_suc (x ∷ xs) h = (others x xs h.0, apart_suc xs h.1)

pub names_apart : (w : ℕ) → w ≤ 16384 → Apart (place_names w)
names_apart w few =
    apart_named place_name (λ k. k < w) (λ x y l m e. place_injective x y (omega (arith, l, few)) (omega (arith, m, few)) e) (upto w) (upto_within w) (apart_upto w)

pub names_count : (w : ℕ) → length (place_names w) ≡ w
names_count w = length_map place_name (upto w) ∙ length_upto w

module _ (S : List Table) where
  -- ---- how many columns, and their aliases

  pub columns_width : (n : ℕ) (z : Zone) → ZoneFits S z → length (zone_columns S n z) ≡ zone_width z
  columns_width n (table t w) h = length_map (in_scope (alias_of n)) (table_columns S t) ∙ columns_count S t ∙ sym h.1
  columns_width n (derived b) h = length_map (in_scope (alias_of n)) (place_names (block_width b)) ∙ names_count (block_width b)
  columns_width n (kept q cols z) h = columns_width n z h.1
  columns_width n (member cols z b) h = columns_width n z h.1
  columns_width n (inner_join a b l r) h = omega (arith, length-append (zone_columns S n l) (zone_columns S (n + from_items l) r), columns_width n l h.1, columns_width (n + from_items l) r h.2)
  columns_width n (left_join a b l r) h = omega (arith, length-append (zone_columns S n l) (zone_columns S (n + from_items l) r), columns_width n l h.1, columns_width (n + from_items l) r h.2)

  -- the number of the column's alias
  abbrev pub Numbered : ℕ → ℕ → ScopeColumn → Type 0
  Numbered low high s = (i : ℕ) × (low ≤ i) × (i < high) × (s.alias ≡ alias_of i)

  lower : (a b c d : ℕ) (s : ScopeColumn) → c ≤ a → b ≤ d → Numbered a b s → Numbered c d s
  lower a b c d s l m h = (h.0, omega (arith, h.1, l), omega (arith, h.2, m), h.3)

  pub numbered : (n : ℕ) (z : Zone) → Each (Numbered n (n + from_items z)) (zone_columns S n z)
  numbered n (table t w) = each_map (Numbered n (n + 1)) (in_scope (alias_of n)) (table_columns S t) (each_for (table_columns S t) (λ m. (n, omega arith, omega arith, refl)))
  numbered n (derived b) =
      each_map (Numbered n (n + (1 + block_items b))) (in_scope (alias_of n)) (place_names (block_width b)) (each_for (place_names (block_width b)) (λ m. (n, omega arith, omega arith, refl)))
  numbered n (kept q cols z) = numbered n z
  numbered n (member cols z b) = numbered n z
  numbered n (inner_join a b l r) =
      let k = from_items l + from_items r in
      each_append (Numbered n (n + k)) (zone_columns S n l) (zone_columns S (n + from_items l) r)
      (each_implies (Numbered n (n + from_items l)) (Numbered n (n + k)) (zone_columns S n l) (λ s h. lower n (n + from_items l) n (n + k) s (omega arith) (omega arith) h) (numbered n l))
      (each_implies (Numbered (n + from_items l) ((n + from_items l) + from_items r)) (Numbered n (n + k)) (zone_columns S (n + from_items l) r)
      (λ s h. lower (n + from_items l) ((n + from_items l) + from_items r) n (n + k) s (omega arith) (omega arith) h) (numbered (n + from_items l) r))
  numbered n (left_join a b l r) =
      let k = from_items l + (from_items r + condition_items r) in
      each_append (Numbered n (n + k)) (zone_columns S n l) (zone_columns S (n + from_items l) r)
      (each_implies (Numbered n (n + from_items l)) (Numbered n (n + k)) (zone_columns S n l) (λ s h. lower n (n + from_items l) n (n + k) s (omega arith) (omega arith) h) (numbered n l))
      (each_implies (Numbered (n + from_items l) ((n + from_items l) + from_items r)) (Numbered n (n + k)) (zone_columns S (n + from_items l) r)
      (λ s h. lower (n + from_items l) ((n + from_items l) + from_items r) n (n + k) s (omega arith) (omega arith) h) (numbered (n + from_items l) r))

  -- columns with lower and with higher aliases
  pub apart_by_number : (m hi : ℕ) (xs ys : List ScopeColumn) (lo : ℕ) → hi ≤ 2 ^ 64 → Each (Numbered lo m) xs → Each (Numbered m hi) ys → Each (λ s. Each (Differ s) ys) xs
  apart_by_number m hi xs ys lo room h k =
      each_implies (Numbered lo m) (λ s. Each (Differ s) ys) xs (λ s a. each_implies (Numbered m hi) (Differ s) ys (λ t b. other_alias s t (λ e. let same : a.0 ≡ b.0 =
      alias_injective a.0 b.0 (omega (arith, a.2, b.1, b.2, room)) (omega (arith, b.2, room)) (sym a.3 ∙ e ∙ b.3) in let bad : ⊥ = omega (arith, a.2, b.1, same) in bad)) k) h

  module _ (schema : IsSchema S) where
    pub columns_apart : (n : ℕ) (z : Zone) → ZoneFits S z → n + from_items z ≤ 2 ^ 64 → AllDiffer (zone_columns S n z)
    columns_apart n (table t w) h room = differ_named (alias_of n) (table_columns S t) (columns_differ S schema t)
    columns_apart n (derived b) h room = differ_named (alias_of n) (place_names (block_width b)) (names_apart (block_width b) (few b h))
      where
        few : (b : Block) → BlockFits S b → block_width b ≤ 16384
        few (block once list z) h = h.1
    columns_apart n (kept q cols z) h room = columns_apart n z h.1 room
    columns_apart n (member cols z b) h room = columns_apart n z h.1 room
    columns_apart n (inner_join a b l r) h room =
        differ_append (zone_columns S n l) (zone_columns S (n + from_items l) r) (columns_apart n l h.1 (omega (arith, room))) (columns_apart (n + from_items l) r h.2 (omega (arith, room)))
        (apart_by_number (n + from_items l) ((n + from_items l) + from_items r) (zone_columns S n l) (zone_columns S (n + from_items l) r) n (omega (arith, room)) (numbered n l) (numbered (n + from_items l) r))
    columns_apart n (left_join a b l r) h room =
        differ_append (zone_columns S n l) (zone_columns S (n + from_items l) r) (columns_apart n l h.1 (omega (arith, room))) (columns_apart (n + from_items l) r h.2 (omega (arith, room)))
        (apart_by_number (n + from_items l) ((n + from_items l) + from_items r) (zone_columns S n l) (zone_columns S (n + from_items l) r) n (omega (arith, room)) (numbered n l) (numbered (n + from_items l) r))

    -- ---- the FROM clause

    pub scope_there : (n : ℕ) (z : Zone) → ZoneFits S z → scope_of S (from_tree S n z) ≡ zone_columns S n z
    scope_there n (table t w) h = ap (map (in_scope (alias_of n))) (known S schema t h.0).names
    scope_there n (derived b) h = refl
    scope_there n (kept q cols z) h = scope_there n z h.1
    scope_there n (member cols z b) h = scope_there n z h.1
    scope_there n (inner_join a b l r) h = λ i. scope_there n l h.1 i ++ scope_there (n + from_items l) r h.2 i
    scope_there n (left_join a b l r) h = λ i. scope_there n l h.1 i ++ scope_there (n + from_items l) r h.2 i

  -- it has no RIGHT join and no comma
  pub no_right : (n : ℕ) (z : Zone) → has_right (from_tree S n z) ≡ false
  no_right n (table t w) = refl
  no_right n (derived b) = refl
  no_right n (kept q cols z) = no_right n z
  no_right n (member cols z b) = no_right n z
  no_right n (inner_join a b l r) = λ i. no_right n l i || no_right (n + from_items l) r i
  no_right n (left_join a b l r) = λ i. no_right n l i || no_right (n + from_items l) r i

  pub no_comma : (n : ℕ) (z : Zone) → is_comma (from_tree S n z) ≡ false
  no_comma n (table t w) = refl
  no_comma n (derived b) = refl
  no_comma n (kept q cols z) = no_comma n z
  no_comma n (member cols z b) = no_comma n z
  no_comma n (inner_join a b l r) = refl
  no_comma n (left_join a b l r) = refl

  no_link : (n : ℕ) (z : Zone) (j : Conjunct) → links S (from_tree S n z) j ≡ false
  no_link n (table t w) j = refl
  no_link n (derived b) j = refl
  no_link n (kept q cols z) j = no_link n z j
  no_link n (member cols z b) j = no_link n z j
  no_link n (inner_join a b l r) j = refl
  no_link n (left_join a b l r) j = refl

  pub all_free : (n : ℕ) (z : Zone) (js : List Conjunct) → free_of S (from_tree S n z) js ≡ js
  all_free n z [] = refl
  all_free n z (j ∷ js) = ap (λ b. Rattle.std.proofs.Common.cond (Rattle.std.proofs.Common.not b) (j ∷ free_of S (from_tree S n z) js) (free_of S (from_tree S n z) js)) (no_link n z j) ∙ ap (λ l. j ∷ l) (all_free n z js)

  pub in_text_order : (n : ℕ) (z : Zone) → places_of S (from_tree S n z) ≡ upto (length (scope_of S (from_tree S n z)))
  in_text_order n z = text_order S (from_tree S n z) (no_right n z)
