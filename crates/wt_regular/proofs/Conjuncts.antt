-- A conjunct over columns of some kinds, put above a plan that has them.
use Rattle.std.proofs.Common.{◌≡◌, ◌≢◌, ℕ, zero, suc, ◌+◌, ◌-◌, ◌<◌, ◌≤◌, nat_eq, List, [], ◌∷◌, ◌++◌, map, length, length-append, get_or, refl, sym, ap, subst, ◌∙◌, arith}
use Rattle.wt_bag.specs.Bags.{Each, distinct}
use Rattle.wt_bag.specs.Choices.{Apart, Has}
use Rattle.wt_bag.proofs.EachLaws.{each_implies, each_map, each_distinct}
use Rattle.wt_pred.specs.Columns.{occurring, columns, renumbered, place_in}
use Rattle.wt_pred.proofs.Using.{columns_there}
use Rattle.wt_schema.specs.declared.schema.ColKind.{ColKind}
use Rattle.wt_schema.specs.declared.schema.ColKind.TheVariants.{Int}
use Rattle.wt_schema.specs.declared.schema.Table.{Table}
use Rattle.wt_plan.specs.Tree.{PlanTree}
use Rattle.wt_plan.specs.Measures.{width}
use Rattle.wt_plan.specs.WellFormed.{PlacesFit}
use Rattle.wt_plan.specs.Regular.{upto, kind_at, kinds_at, plan_kinds, Typed, HasConstants, IsNoAnd, RegularNodes}
use Rattle.wt_plan.proofs.Upto.{length_map}
use Rattle.wt_place.proofs.Regularity.{apart_map, kind_left, kind_right, kinds_left, kinds_down}
use Rattle.wt_query_plan.specs.Building.{Conjunct, keeps, is_in, conjunct_columns, on_right, at_place, above, stacked}
use Rattle.wt_regular.proofs.Renumbering.{apart_distinct, at_first, place_low, numbers, no_and_there, constants_there, own_columns, Same, typed_there, typed_among}

-- ---- places of a list

kind_get : (K : List ColKind) (places : List ℕ) (k d : ℕ) → k < length places → kind_at K (get_or places k d) ≡ kind_at (kinds_at K places) k
kind_get K [] k d h = absurd (let bad : ⊥ = omega (arith, h) in bad)
kind_get K (p ∷ places) zero d h = refl
kind_get K (p ∷ places) (suc k) d h = kind_get K places k d (omega (arith, h))

-- the kinds at places of places
pub kinds_get : (K : List ColKind) (places cols : List ℕ) → Each (λ k. k < length places) cols → kinds_at K (map (at_place places) cols) ≡ kinds_at (kinds_at K places) cols
kinds_get K places [] h = refl
kinds_get K places (k ∷ cols) h = λ i. kind_get K places k (length places) h.0 i ∷ kinds_get K places cols h.1 i

get_below : (w : ℕ) (places : List ℕ) (k d : ℕ) → Each (λ j. j < w) places → k < length places → get_or places k d < w
get_below w [] k d h l = absurd (let bad : ⊥ = omega (arith, l) in bad)
get_below w (p ∷ places) zero d h l = h.0
get_below w (p ∷ places) (suc k) d h l = get_below w places k d h.1 (omega (arith, l))

pub gets_below : (w : ℕ) (places cols : List ℕ) → Each (λ j. j < w) places → Each (λ k. k < length places) cols → Each (λ k. k < w) (map (at_place places) cols)
gets_below w places cols h l = each_map (λ k. k < w) (at_place places) cols (each_implies (λ k. k < length places) (λ k. at_place places k < w) cols (λ k m. get_below w places k (length places) h m) l)

get_other : (x : ℕ) (places : List ℕ) (k d : ℕ) → Each (λ y. x ≢ y) places → k < length places → x ≢ get_or places k d
get_other x [] k d h l = absurd (let bad : ⊥ = omega (arith, l) in bad)
get_other x (p ∷ places) zero d h l = h.0
get_other x (p ∷ places) (suc k) d h l = get_other x places k d h.1 (omega (arith, l))

get_apart : (places : List ℕ) (d e j k : ℕ) → Apart places → j < length places → k < length places → get_or places j d ≡ get_or places k e → j ≡ k
get_apart [] d e j k h l m same = absurd (let bad : ⊥ = omega (arith, l) in bad)
get_apart (p ∷ places) d e zero zero h l m same = refl
get_apart (p ∷ places) d e zero (suc k) h l m same = absurd (get_other p places k e h.0 (omega (arith, m)) same)
get_apart (p ∷ places) d e (suc j) zero h l m same = absurd (get_other p places j d h.0 (omega (arith, l)) (sym same))
get_apart (p ∷ places) d e (suc j) (suc k) h l m same = ap suc (get_apart places d e j k h.1 (omega (arith, l)) (omega (arith, m)) same)

pub not_empty : (f : ℕ → ℕ) (xs : List ℕ) → xs ≢ [] → map f xs ≢ []
not_empty f [] h e = h refl
not_empty f (x ∷ xs) h e = cc

distinct_some : (xs : List ℕ) → xs ≢ [] → distinct nat_eq xs ≢ []
distinct_some [] h e = h refl
distinct_some (x ∷ xs) h e = cc

shifted : (n m : ℕ) (cols : List ℕ) → Each (λ k. k < n + m) cols → Each (λ k. n ≤ k) cols → Each (λ k. k < m) (map (λ k. k - n) cols)
shifted n m [] h l = tt
shifted n m (k ∷ cols) h l = let a = h.0 in let b = l.0 in (omega (arith, a, b), shifted n m cols h.1 l.1)

module _ (S : List Table) where
  -- a conjunct over columns of these kinds
  abbrev pub Good : List ColKind → Conjunct → Type 0
  Good ks (keeps p) = Each (λ k. k < length ks) (occurring p) × (occurring p ≢ []) × IsNoAnd p × Typed ks p × HasConstants p
  Good ks (is_in cols q) = Each (λ k. k < length ks) cols × (cols ≢ []) × (kinds_at ks cols ≡ plan_kinds S q) × (length cols ≡ width q) × (width q ≤ 16384) × PlacesFit q × RegularNodes S q

  good_columns : (ks : List ColKind) (j : Conjunct) → Good ks j → Each (λ k. k < length ks) (conjunct_columns j)
  good_columns ks (keeps p) h = h.0
  good_columns ks (is_in cols q) h = h.0

  -- a conjunct that is on the first columns alone
  pub good_low : (ks rest : List ColKind) (j : Conjunct) → Each (λ k. k < length ks) (conjunct_columns j) → Good (ks ++ rest) j → Good ks j
  good_low ks rest (keeps p) low g = (low, g.1, g.2, typed_among (ks ++ rest) ks p (each_implies (λ k. k < length ks) (λ k. kind_at ks k ≡ kind_at (ks ++ rest) k) (occurring p) (λ k l. sym (kind_left ks rest k l)) low) g.3, g.4)
  good_low ks rest (is_in cols q) low g = (low, g.1, sym (kinds_left ks rest (length ks) refl cols low) ∙ g.2, g.3, g.4, g.5, g.6)

  -- a conjunct that is on the right columns alone
  pub good_high : (ks ms : List ColKind) (n : ℕ) → length ks ≡ n → (j : Conjunct) → Each (λ k. n ≤ k) (conjunct_columns j) → Good (ks ++ ms) j → Good ms (on_right n j)
  good_high ks ms n is (keeps p) high g =
      let both : length (ks ++ ms) ≡ n + length ms = omega (arith, length-append ks ms, is) in (
        subst (Each (λ k. k < length ms)) (sym (numbers (λ k. k - n) p)) (shifted n (length ms) (occurring p) (subst (λ m. Each (λ k. k < m) (occurring p)) both g.0) high),
        (λ e. not_empty (λ k. k - n) (occurring p) g.1 (sym (numbers (λ k. k - n) p) ∙ e)),
        no_and_there (λ k. k - n) p g.2,
        typed_there (λ k. k - n) (ks ++ ms) ms p
            (each_implies (λ k. n ≤ k) (Same (λ k. k - n) (ks ++ ms) ms) (occurring p) (λ k l. sym (kind_right ks ms k (omega (arith, is, l)) ∙ ap (λ m. kind_at ms (k - m)) is)) high) g.3,
        constants_there (λ k. k - n) p g.4,
      )
  good_high ks ms n is (is_in cols q) high g =
      let both : length (ks ++ ms) ≡ n + length ms = omega (arith, length-append ks ms, is) in (
        shifted n (length ms) cols (subst (λ m. Each (λ k. k < m) cols) both g.0) high,
        not_empty (λ k. k - n) cols g.1,
        sym (kinds_down ks ms n is cols high) ∙ g.2,
        length_map (λ k. k - n) cols ∙ g.3,
        g.4,
        g.5,
        g.6,
      )

  -- a plan with the places of columns of these kinds in its rows
  pub record Part (ks : List ColKind) (places : List ℕ) (plan : PlanTree) : Type 0 where
    pub apart : Apart places
    pub within : Each (λ k. k < width plan) places
    pub kinds : kinds_at (plan_kinds S plan) places ≡ ks
    pub fit : PlacesFit plan
    pub nodes : RegularNodes S plan

  pub part_length : (ks : List ColKind) (places : List ℕ) (plan : PlanTree) → Part ks places plan → length places ≡ length ks
  part_length ks places plan h = sym (length_map (kind_at (plan_kinds S plan)) places) ∙ ap length h.kinds

  pub part_kinds : (ks : List ColKind) (places : List ℕ) (plan : PlanTree) → Part ks places plan → (cols : List ℕ) → Each (λ k. k < length ks) cols → kinds_at (plan_kinds S plan) (map (at_place places) cols) ≡ kinds_at ks cols
  part_kinds ks places plan h cols low =
      kinds_get (plan_kinds S plan) places cols (subst (λ m. Each (λ k. k < m) cols) (sym (part_length ks places plan h)) low) ∙ ap (λ m. kinds_at m cols) h.kinds

  pub part_below : (ks : List ColKind) (places : List ℕ) (plan : PlanTree) → Part ks places plan → (cols : List ℕ) → Each (λ k. k < length ks) cols → Each (λ k. k < width plan) (map (at_place places) cols)
  part_below ks places plan h cols low = gets_below (width plan) places cols h.within (subst (λ m. Each (λ k. k < m) cols) (sym (part_length ks places plan h)) low)

  pub part_above : (ks : List ColKind) (places : List ℕ) (j : Conjunct) (plan : PlanTree) → Good ks j → Part ks places plan → Part ks places (above places j plan)
  part_above ks places (keeps p) plan g h =
      let cols = columns p in
      let n = part_length ks places plan h in
      let low : Each (λ k. k < length ks) cols = each_distinct (λ k. k < length ks) nat_eq (occurring p) g.0 in
      let here : Each (λ k. k < length places) cols = subst (λ m. Each (λ k. k < m) cols) (sym n) low in
      let there : Each (λ c. Has c cols) (occurring p) = columns_there [] cols p refl in
      let many : length (map (at_place places) cols) ≡ length cols = length_map (at_place places) cols in
      record {
        apart = h.apart;
        within = h.within;
        kinds = h.kinds;
        fit = (
          record { some = not_empty (at_place places) cols (distinct_some (occurring p) g.1); within = part_below ks places plan h cols low },
          subst (Each (λ k. k < length (map (at_place places) cols))) (sym (numbers (place_in cols) p))
              (each_map (λ k. k < length (map (at_place places) cols)) (place_in cols) (occurring p)
              (each_implies (λ c. Has c cols) (λ c. place_in cols c < length (map (at_place places) cols)) (occurring p) (λ c has. subst (λ m. place_in cols c < m) (sym many) (place_low c cols has)) there)),
          h.fit,
        );
        nodes = (
          record {
            apart = apart_map (at_place places) (λ k. k < length places) (λ x y l m e. get_apart places (length places) (length places) x y h.apart l m e) cols here (apart_distinct (occurring p));
            in_order = own_columns p ∙ ap upto (sym many);
            no_and = no_and_there (place_in cols) p g.2;
            typed = subst (λ ms. Typed ms (renumbered (place_in cols) p)) (sym (part_kinds ks places plan h cols low))
                (typed_there (place_in cols) ks (kinds_at ks cols) p
                (each_implies (λ c. Has c cols) (Same (place_in cols) ks (kinds_at ks cols)) (occurring p) (λ c has. at_first (kind_at ks) Int c cols has) there) g.3);
            constants = constants_there (place_in cols) p g.4;
          },
          h.nodes,
        );
      }
  part_above ks places (is_in cols q) plan g h = record {
    apart = h.apart;
    within = h.within;
    kinds = h.kinds;
    fit = (record { some = not_empty (at_place places) cols g.1; within = part_below ks places plan h cols g.0 }, length_map (at_place places) cols ∙ g.3, h.fit, g.5);
    nodes = (part_kinds ks places plan h cols g.0 ∙ g.2, g.4, h.nodes, g.6);
  }

  pub part_stacked : (ks : List ColKind) (places : List ℕ) (js : List Conjunct) (plan : PlanTree) → Each (Good ks) js → Part ks places plan → Part ks places (stacked places js plan)
  part_stacked ks places [] plan g h = h
  part_stacked ks places (j ∷ js) plan g h = part_stacked ks places js (above places j plan) g.1 (part_above ks places j plan g.0 h)
