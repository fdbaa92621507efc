-- The tree of a plan with names is built to the plan with these names again, without a fault.
use Rattle.std.proofs.Common.{◌≡◌, ℕ, ◌+◌, ◌≤◌, ◌^◌, Bool, true, false, ◌&&◌, not, List, [], ◌∷◌, append-nil, map, length, Some, None, refl, sym, ap, ◌∙◌, arith, eq-eqb}
use Rattle.std.specs.Prelude.{flat_map}
use Rattle.std.specs.Str.{bytes_eq}
use Rattle.std.proofs.lemmas.Bool.{le-ltb}
use Rattle.std.proofs.lemmas.Slice.Eq.{bytes_eq-Decides}
use Rattle.wt_schema.specs.declared.schema.Table.{Table}
use Rattle.wt_schema.specs.Lawful.{IsSchema}
use Rattle.wt_query_rows.specs.declared.scope.ScopeColumn.{ScopeColumn}
use Rattle.wt_query_rows.specs.Scopes.{in_scope, scope_of, output_names, item_names}
use Rattle.wt_plan.specs.Tree.{PlanTree}
use Rattle.wt_plan.specs.Measures.{width}
use Rattle.wt_plan.specs.Regular.{Regular}
use Rattle.wt_place.specs.Placing.{placed}
use Rattle.wt_query_plan.specs.Building.{planned, deduped}
use Rattle.wt_query_plan.specs.declared.fault.BuildFault.TheVariants as faults
use Rattle.wt_query_plan.specs.Faults.{fault_if, query_fault, output_kinds}
use Rattle.wt_blocks.specs.Blocks.{Block, Zone, block, zone_of, plan_block}
use Rattle.wt_blocks.specs.Counting.{block_width, zone_width, block_items, from_items, condition_items}
use Rattle.wt_blocks.specs.Printed.{alias_of, zone_columns, named_items, have_names, star_tree, named_tree, printed, block_tree, from_tree}
use Rattle.wt_blocks.proofs.Rebuilt.{built, placed_again, width_block, width_zone}
use Rattle.wt_blocks.proofs.Fitting.{BlockFits, ZoneFits, zone_kinds, block_kinds_length, plan_fits, items_in_block}
use Rattle.wt_blocks.proofs.Naming.{stands_whole}
use Rattle.wt_blocks.proofs.Zones.{columns_apart, scope_there}
use Rattle.wt_blocks.proofs.Planned.{Takes, block_goes, block_plan, zone_plan}
use Rattle.wt_blocks.proofs.Faults.{neither, ZoneFine, faultless_goes, block_fine, from_fine, joins_fine, conditions_fine, kinds_whole, block_output, block_names}

named_take : (columns : List ScopeColumn) (cols : List ℕ) (names : List (List ℕ)) → length names ≡ length cols → Takes columns cols (named_items columns cols names)
named_take columns [] [] e = tt
named_take columns [] (name ∷ names) e = absurd (let bad : ⊥ = omega (arith, e) in bad)
named_take columns (k ∷ cols) [] e = absurd (let bad : ⊥ = omega (arith, e) in bad)
named_take columns (k ∷ cols) (name ∷ names) e = (refl, named_take columns cols names (omega (arith, e)))

-- names of a select list with names, and of columns that have these names
named_names : (scope columns : List ScopeColumn) (cols : List ℕ) (names : List (List ℕ)) → length names ≡ length cols → flat_map (item_names scope) (named_items columns cols names) ≡ names
named_names scope columns [] [] e = refl
named_names scope columns [] (name ∷ names) e = absurd (let bad : ⊥ = omega (arith, e) in bad)
named_names scope columns (k ∷ cols) [] e = absurd (let bad : ⊥ = omega (arith, e) in bad)
named_names scope columns (k ∷ cols) (name ∷ names) e = ap (λ l. name ∷ l) (named_names scope columns cols names (omega (arith, e)))

own_names : (columns : List ScopeColumn) (names : List (List ℕ)) → have_names columns names ≡ true → map (λ (s : ScopeColumn). s.name) columns ≡ names
own_names [] [] e = refl
own_names [] (name ∷ names) e = cc
own_names (s ∷ columns) [] e = cc
own_names (s ∷ columns) (name ∷ names) e = here (bytes_eq s.name name) refl e (own_names columns names)
  where
    here : (b : Bool) → bytes_eq s.name name ≡ b → (b && have_names columns names) ≡ true → (have_names columns names ≡ true → map (λ (t : ScopeColumn). t.name) columns ≡ names) → map (λ (t : ScopeColumn). t.name) (s ∷ columns) ≡ name ∷ names
    here true f h more = λ i. (bytes_eq-Decides s.name name).0 f i ∷ more h i
    here false f h more = cc

listed_names : (alias : List ℕ) (names : List (List ℕ)) → map (λ (s : ScopeColumn). s.name) (map (in_scope alias) names) ≡ names
listed_names alias [] = refl
listed_names alias (name ∷ names) = ap (λ l. name ∷ l) (listed_names alias names)

module _ (S : List Table) (schema : IsSchema S) where
  zone_fine : (n : ℕ) (z : Zone) → ZoneFits S z → n + (from_items z + condition_items z) ≤ 2 ^ 64 → (outer : List ScopeColumn) → ZoneFine S schema n z outer
  zone_fine n z h few outer = record {
    from = from_fine S schema n z h (omega (arith, few)) outer [] tt;
    joins = joins_fine S schema n z h (omega (arith, few)) outer (zone_columns S n z);
    conditions = conditions_fine S schema n (n + from_items z) z (zone_columns S n z) 0 (zone_kinds S z) h (columns_apart S schema n z h (omega (arith, few))) (stands_whole (zone_columns S n z))
        (kinds_whole (zone_kinds S z)) (omega (arith, few)) outer (zone_columns S n z);
  }

  -- ---- the plan

  star_plan : (same : Bool) (once : Bool) (z : Zone) (names : List (List ℕ)) → ZoneFits S z → zone_width z ≤ 16384 → 1 + (from_items z + condition_items z) ≤ 2 ^ 64 → planned S (star_tree same S once z names) ≡ built (block once None z)
  star_plan true once z names h few room = block_plan S schema 0 (block once None z) (tt, few, h) (omega (arith, room))
  star_plan false once z names h few room = ap (deduped once) (block_plan S schema 1 (block false None z) (tt, few, h) room)

  pub root_plan : (b : Block) (names : List (List ℕ)) → BlockFits S b → 1 + block_items b ≤ 2 ^ 64 → length names ≡ block_width b → planned S (named_tree S b names) ≡ built b
  root_plan (block once (Some cols) z) names h room e =
      let few : 0 + (from_items z + condition_items z) ≤ 2 ^ 64 = omega (arith, room) in
      block_goes S schema 0 z h.2 (omega (arith, few)) (zone_plan S schema 0 z h.2 few) once (Some cols) h.0 (named_items (zone_columns S 0 z) cols names) (named_take (zone_columns S 0 z) cols names e)
  root_plan (block once None z) names h room e = star_plan (have_names (zone_columns S 0 z) names) once z names h.2 h.1 room

  -- ---- the names

  star_names : (same : Bool) (once : Bool) (z : Zone) (names : List (List ℕ)) → have_names (zone_columns S 0 z) names ≡ same → ZoneFits S z → output_names S (star_tree same S once z names) ≡ names
  star_names true once z names e h =
      append-nil (map (λ (s : ScopeColumn). s.name) (scope_of S (from_tree S 0 z)))
      ∙ ap (map (λ (s : ScopeColumn). s.name)) (scope_there S schema 0 z h)
      ∙ own_names (zone_columns S 0 z) names e
  star_names false once z names e h = append-nil (map (λ (s : ScopeColumn). s.name) (map (in_scope (alias_of 0)) names)) ∙ listed_names (alias_of 0) names

  pub root_names : (b : Block) (names : List (List ℕ)) → BlockFits S b → length names ≡ block_width b → output_names S (named_tree S b names) ≡ names
  root_names (block once (Some cols) z) names h e = named_names (scope_of S (from_tree S 0 z)) (zone_columns S 0 z) cols names e
  root_names (block once None z) names h e = star_names (have_names (zone_columns S 0 z) names) once z names refl h.2

  -- ---- no fault

  star_fine : (same : Bool) (once : Bool) (z : Zone) (names : List (List ℕ)) (outer : List ScopeColumn) → ZoneFits S z → zone_width z ≤ 16384 → 1 + (from_items z + condition_items z) ≤ 2 ^ 64 → length names ≡ zone_width z
      → query_fault S outer (star_tree same S once z names) ≡ None
  star_fine true once z names outer h few room e = block_fine S schema 0 (block once None z) (tt, few, h) (omega (arith, room)) outer
  star_fine false once z names outer h few room e =
      let inner = block false None z in
      let q = block_tree S 1 inner in
      let many : length (output_names S q) ≡ zone_width z = block_names S schema 1 inner (tt, few, h) in
      let out : length (output_kinds S q) ≡ zone_width z = ap length (block_output S schema 1 inner (tt, few, h) room) ∙ block_kinds_length S inner (tt, few, h) in
      neither (neither (block_fine S schema 1 inner (tt, few, h) room outer) (neither (ap (λ t. fault_if (not t) faults.ColumnListWidth 0) (eq-eqb (length names) (length (output_names S q)) (e ∙ sym many))) refl))
      (neither refl (neither refl (neither refl (neither (ap (λ t. fault_if t faults.TooWide 0) (le-ltb 16384 (0 + length (output_kinds S q)) (omega (arith, out, few)))) refl))))

  pub root_fine : (b : Block) (names : List (List ℕ)) → BlockFits S b → 1 + block_items b ≤ 2 ^ 64 → length names ≡ block_width b → (outer : List ScopeColumn) → query_fault S outer (named_tree S b names) ≡ None
  root_fine (block once (Some cols) z) names h room e outer =
      let few : 0 + (from_items z + condition_items z) ≤ 2 ^ 64 = omega (arith, room) in
      faultless_goes S schema 0 z outer h.2 (omega (arith, few)) (zone_fine 0 z h.2 few outer) once (Some cols) h.0 h.1 (named_items (zone_columns S 0 z) cols names) (named_take (zone_columns S 0 z) cols names e)
  root_fine (block once None z) names h room e outer = star_fine (have_names (zone_columns S 0 z) names) once z names outer h.2 h.1 room e

  -- ---- of a regular plan

  module _ (p : PlanTree) (regular : Regular S p) (names : List (List ℕ)) (named : length names ≡ width p) where
    fits : BlockFits S (plan_block p)
    fits = plan_fits S p regular.well_formed.places regular.nodes regular.few_columns

    room : 1 + block_items (plan_block p) ≤ 2 ^ 64
    room = let few = items_in_block p in let cheap = regular.well_formed.cheap in omega (arith, few, cheap)

    as_many : length names ≡ block_width (plan_block p)
    as_many = named ∙ sym (width_block (zone_of p) ∙ width_zone p)

    pub printed_plan : placed (planned S (printed S p names)) ≡ placed p
    printed_plan = ap placed (root_plan (plan_block p) names fits room as_many) ∙ placed_again p

    pub printed_names : output_names S (printed S p names) ≡ names
    printed_names = root_names (plan_block p) names fits as_many

    pub printed_fine : (outer : List ScopeColumn) → query_fault S outer (printed S p names) ≡ None
    printed_fine outer = root_fine (plan_block p) names fits room as_many outer
