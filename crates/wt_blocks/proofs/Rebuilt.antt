-- The plan that the tree of a block is built to: the conditions of each zone stand above it. Placed, it is the plan that the
-- block was cut from, placed.
use Rattle.std.proofs.Common.{◌≡◌, ℕ, ◌+◌, true, false, List, [], ◌∷◌, ◌++◌, append-nil, append_assoc, map, Option, Some, None, refl, sym, ap, ◌∙◌, arith}
use Rattle.wt_plan.specs.Tree.{PlanTree}
use Rattle.wt_plan.specs.Tree as plans
use Rattle.wt_plan.specs.Measures.{width}
use Rattle.wt_place.specs.Placing.{Condition, test, moved, put, stand, settle, conditions, bare, placed}
use Rattle.wt_place.specs.Placing as places
use Rattle.wt_query_plan.specs.Building.{deduped}
use Rattle.wt_query_plan.proofs.Lookup.{map_append}
use Rattle.wt_blocks.specs.Blocks.{Block, Zone, block, table, derived, kept, member, inner_join, left_join, block_of, distinct, zone_of, plan_block}
use Rattle.wt_blocks.specs.Counting.{block_width, zone_width}

abbrev pub of_list : Option (List ℕ) → PlanTree → PlanTree
of_list None p = p
of_list (Some cols) p = plans.proj cols p

-- of a block, of a zone's FROM clause, and the conditions of a zone whose columns begin at d
abbrev mutual
  pub built : Block → PlanTree
  built (block once list z) = deduped once (of_list list (stand (zone_conditions 0 z) (built_from z)))

  pub built_from : Zone → PlanTree
  built_from (table n w) = plans.table n w
  built_from (derived b) = built b
  built_from (kept q cols z) = built_from z
  built_from (member cols z b) = built_from z
  built_from (inner_join a b l r) = plans.inner_join a b (built_from l) (built_from r)
  built_from (left_join a b l r) = plans.left_join a b (built_from l) (stand (zone_conditions 0 r) (built_from r))

  pub zone_conditions : ℕ → Zone → List Condition
  zone_conditions d (table n w) = []
  zone_conditions d (derived b) = []
  zone_conditions d (kept q cols z) = zone_conditions d z ++ test q (map (λ k. d + k) cols) ∷ []
  zone_conditions d (member cols z b) = zone_conditions d z ++ places.member (map (λ k. d + k) cols) (built b) ∷ []
  zone_conditions d (inner_join a b l r) = zone_conditions d l ++ zone_conditions (d + zone_width l) r
  zone_conditions d (left_join a b l r) = zone_conditions d l

-- ---- widths

pub width_block : (z : Zone) → block_width (block_of z) ≡ zone_width z
width_block (table n w) = refl
width_block (derived b) = refl
width_block (kept q cols z) = refl
width_block (member cols z b) = refl
width_block (inner_join a b l r) = refl
width_block (left_join a b l r) = refl

pub width_distinct : (b : Block) → block_width (distinct b) ≡ block_width b
width_distinct (block false list z) = refl
width_distinct (block true list z) = refl

pub width_zone : (p : PlanTree) → zone_width (zone_of p) ≡ width p
width_zone (plans.table n w) = refl
width_zone (plans.proj cols p) = refl
width_zone (plans.filtered q cols p) = width_zone p
width_zone (plans.inner_join a b l r) = λ i. width_zone l i + width_zone r i
width_zone (plans.left_join a b l r) = λ i. width_zone l i + width_zone r i
width_zone (plans.in_sub cols l r) = width_zone l
width_zone (plans.dedup p) = width_distinct (plan_block p) ∙ width_block (zone_of p) ∙ width_zone p

-- ---- columns moved

pub map_zero : (cols : List ℕ) → map (λ k. 0 + k) cols ≡ cols
map_zero [] = refl
map_zero (k ∷ cols) = let e : 0 + k ≡ k = omega arith in λ i. e i ∷ map_zero cols i

map_twice : (d n : ℕ) (cols : List ℕ) → map (λ k. (d + n) + k) cols ≡ map (λ k. d + k) (map (λ k. n + k) cols)
map_twice d n [] = refl
map_twice d n (k ∷ cols) = let e : (d + n) + k ≡ d + (n + k) = omega arith in λ i. e i ∷ map_twice d n cols i

moved_zero : (c : Condition) → moved (λ k. 0 + k) c ≡ c
moved_zero (test q cols) = ap (test q) (map_zero cols)
moved_zero (places.member cols r) = ap (λ l. places.member l r) (map_zero cols)

all_moved_zero : (cs : List Condition) → map (moved (λ k. 0 + k)) cs ≡ cs
all_moved_zero [] = refl
all_moved_zero (c ∷ cs) = λ i. moved_zero c i ∷ all_moved_zero cs i

moved_twice : (d n : ℕ) (c : Condition) → moved (λ k. (d + n) + k) c ≡ moved (λ k. d + k) (moved (λ k. n + k) c)
moved_twice d n (test q cols) = ap (test q) (map_twice d n cols)
moved_twice d n (places.member cols r) = ap (λ l. places.member l r) (map_twice d n cols)

all_moved_twice : (d n : ℕ) (cs : List Condition) → map (moved (λ k. (d + n) + k)) cs ≡ map (moved (λ k. d + k)) (map (moved (λ k. n + k)) cs)
all_moved_twice d n [] = refl
all_moved_twice d n (c ∷ cs) = λ i. moved_twice d n c i ∷ all_moved_twice d n cs i

-- ---- conditions that stand are gathered again

-- with the subquery's plan placed
abbrev pub settled : Condition → Condition
settled (test q cols) = test q cols
settled (places.member cols r) = places.member cols (placed r)

conditions_put : (c : Condition) (p : PlanTree) → conditions (put c p) ≡ conditions p ++ settled c ∷ []
conditions_put (test q cols) p = refl
conditions_put (places.member cols r) p = refl

pub conditions_stand : (cs : List Condition) (p : PlanTree) → conditions (stand cs p) ≡ conditions p ++ map settled cs
conditions_stand [] p = sym (append-nil (conditions p))
conditions_stand (c ∷ cs) p = conditions_stand cs (put c p) ∙ ap (λ l. l ++ map settled cs) (conditions_put c p) ∙ append_assoc (conditions p) (settled c ∷ []) (map settled cs)

bare_put : (c : Condition) (p : PlanTree) → bare (put c p) ≡ bare p
bare_put (test q cols) p = refl
bare_put (places.member cols r) p = refl

pub bare_stand : (cs : List Condition) (p : PlanTree) → bare (stand cs p) ≡ bare p
bare_stand [] p = refl
bare_stand (c ∷ cs) p = bare_stand cs (put c p) ∙ bare_put c p

-- ---- the law

built_block : (z : Zone) → built (block_of z) ≡ stand (zone_conditions 0 z) (built_from z)
built_block (table n w) = refl
built_block (derived b) = refl
built_block (kept q cols z) = refl
built_block (member cols z b) = refl
built_block (inner_join a b l r) = refl
built_block (left_join a b l r) = refl

built_distinct : (b : Block) → built (distinct b) ≡ plans.dedup (built b)
built_distinct (block false list z) = refl
built_distinct (block true list z) = refl

-- a zone without its conditions, and these
record Gathered (p : PlanTree) : Type 0 where
  pub bares : conditions (built_from (zone_of p)) ≡ []
  pub zone : bare (built_from (zone_of p)) ≡ bare p
  pub above : (d : ℕ) → map settled (zone_conditions d (zone_of p)) ≡ map (moved (λ k. d + k)) (conditions p)

-- its conditions put above a zone
placed_above : (p : PlanTree) → Gathered p → placed (stand (zone_conditions 0 (zone_of p)) (built_from (zone_of p))) ≡ placed p
placed_above p h =
    let z = zone_of p in
    let cs : conditions (stand (zone_conditions 0 z) (built_from z)) ≡ conditions p =
    conditions_stand (zone_conditions 0 z) (built_from z) ∙ ap (λ l. l ++ map settled (zone_conditions 0 z)) h.bares ∙ h.above 0 ∙ all_moved_zero (conditions p)
    in
    let b : bare (stand (zone_conditions 0 z) (built_from z)) ≡ bare p = bare_stand (zone_conditions 0 z) (built_from z) ∙ h.zone in
    λ i. settle (cs i) (b i)

placed_block : (p : PlanTree) → Gathered p → placed (built (plan_block p)) ≡ placed p
placed_block p h = ap placed (built_block (zone_of p)) ∙ placed_above p h

gathered : (p : PlanTree) → Gathered p
gathered (plans.table n w) = record { bares = refl; zone = refl; above = λ d. refl }
gathered (plans.proj cols p) = record { bares = refl; zone = ap (plans.proj cols) (placed_above p (gathered p)); above = λ d. refl }
gathered (plans.dedup p) =
    let e = built_distinct (plan_block p) in
    record {
      bares = ap conditions e;
      zone = ap bare e ∙ ap plans.dedup (placed_block p (gathered p));
      above = λ d. refl;
    }
gathered (plans.filtered q cols p) =
    let h = gathered p in
    record {
      bares = h.bares;
      zone = h.zone;
      above = λ d.
          map_append settled (zone_conditions d (zone_of p)) (test q (map (λ k. d + k) cols) ∷ [])
          ∙ ap (λ l. l ++ test q (map (λ k. d + k) cols) ∷ []) (h.above d)
          ∙ sym (map_append (moved (λ k. d + k)) (conditions p) (test q cols ∷ []));
    }
gathered (plans.in_sub cols l r) =
    let h = gathered l in
    record {
      bares = h.bares;
      zone = h.zone;
      above = λ d.
          map_append settled (zone_conditions d (zone_of l)) (places.member (map (λ k. d + k) cols) (built (plan_block r)) ∷ [])
          ∙ (λ i. h.above d i ++ places.member (map (λ k. d + k) cols) (placed_block r (gathered r) i) ∷ [])
          ∙ sym (map_append (moved (λ k. d + k)) (conditions l) (places.member cols (placed r) ∷ []));
    }
gathered (plans.inner_join a b l r) =
    let h = gathered l in
    let g = gathered r in
    record {
      bares = (λ i. h.bares i ++ map (moved (λ k. width (built_from (zone_of l)) + k)) (g.bares i));
      zone = λ i. plans.inner_join a b (h.zone i) (g.zone i);
      above = λ d.
          map_append settled (zone_conditions d (zone_of l)) (zone_conditions (d + zone_width (zone_of l)) (zone_of r))
          ∙ (λ i. h.above d i ++ (ap (λ w. map settled (zone_conditions (d + w) (zone_of r))) (width_zone l) ∙ g.above (d + width l) ∙ all_moved_twice d (width l) (conditions r)) i)
          ∙ sym (map_append (moved (λ k. d + k)) (conditions l) (map (moved (λ k. width l + k)) (conditions r)));
    }
gathered (plans.left_join a b l r) =
    let h = gathered l in
    record {
      bares = h.bares;
      zone = λ i. plans.left_join a b (h.zone i) (placed_above r (gathered r) i);
      above = h.above;
    }

-- a placed plan is what its block is built to, placed
pub placed_again : (p : PlanTree) → placed (built (plan_block p)) ≡ placed p
placed_again p = placed_block p (gathered p)
