-- What a regular plan says of the zones that it is cut into.
use Rattle.std.proofs.Common.{◌≡◌, ℕ, zero, suc, ◌+◌, ◌<◌, ◌≤◌, true, false, List, [], ◌∷◌, ◌++◌, length, length-append, Option, Some, None, refl, sym, ap, subst, ◌∙◌, arith}
use Rattle.wt_bag.specs.Bags.{Each}
use Rattle.wt_pred.specs.Tree.{PredTree}
use Rattle.wt_pred.specs.Columns.{occurring}
use Rattle.wt_schema.specs.declared.schema.ColKind.{ColKind}
use Rattle.wt_schema.specs.declared.schema.Table.{Table}
use Rattle.wt_schema.specs.Lawful.{width_of}
use Rattle.wt_plan.specs.Tree.{PlanTree}
use Rattle.wt_plan.specs.Tree as plans
use Rattle.wt_plan.specs.Measures.{width, cost}
use Rattle.wt_plan.specs.WellFormed.{Places, Pairs, PlacesFit}
use Rattle.wt_plan.specs.Regular.{kind_at, kinds_at, table_kinds, plan_kinds, RegularFilter, RegularNodes}
use Rattle.wt_plan.proofs.Upto.{length_map}
use Rattle.wt_blocks.specs.Blocks.{Block, Zone, block, table, derived, kept, member, inner_join, left_join, block_of, distinct, zone_of, plan_block}
use Rattle.wt_blocks.specs.Counting.{block_width, zone_width, block_items, from_items, condition_items}
use Rattle.wt_blocks.proofs.Rebuilt.{width_block, width_zone}

table_width : (S : List Table) (n : ℕ) → length (table_kinds S n) ≡ width_of S n
table_width [] n = refl
table_width (t ∷ S) zero = length_map _ t.columns
table_width (t ∷ S) (suc n) = table_width S n

module _ (S : List Table) where
  abbrev mutual
    pub block_kinds : Block → List ColKind
    block_kinds (block once (Some cols) z) = kinds_at (zone_kinds z) cols
    block_kinds (block once None z) = zone_kinds z

    pub zone_kinds : Zone → List ColKind
    zone_kinds (table t w) = table_kinds S t
    zone_kinds (derived b) = block_kinds b
    zone_kinds (kept q cols z) = zone_kinds z
    zone_kinds (member cols z b) = zone_kinds z
    zone_kinds (inner_join a b l r) = zone_kinds l ++ zone_kinds r
    zone_kinds (left_join a b l r) = zone_kinds l ++ zone_kinds r

  abbrev pub ListFits : ℕ → Option (List ℕ) → Type 0
  ListFits w None = Unit {0}
  ListFits w (Some cols) = Places w cols

  -- a test over a zone, a subquery's columns, and the columns that a join compares
  pub record TestFits (z : Zone) (q : PredTree) (cols : List ℕ) : Type 0 where
    pub places : Places (zone_width z) cols
    pub there : Each (λ k. k < length cols) (occurring q)
    pub regular : RegularFilter (zone_kinds z) q cols

  pub record MemberFits (z : Zone) (cols : List ℕ) (b : Block) : Type 0 where
    pub places : Places (zone_width z) cols
    pub equally_many : length cols ≡ block_width b
    pub kinds : kinds_at (zone_kinds z) cols ≡ block_kinds b

  pub record JoinFits (l r : Zone) (a b : List ℕ) : Type 0 where
    pub pairs : Pairs (zone_width l) (zone_width r) a b
    pub kinds : kinds_at (zone_kinds l) a ≡ kinds_at (zone_kinds r) b

  abbrev mutual
    pub BlockFits : Block → Type 0
    BlockFits (block once list z) = ListFits (zone_width z) list × (block_width (block once list z) ≤ 16384) × ZoneFits z

    pub ZoneFits : Zone → Type 0
    ZoneFits (table t w) = (t < length S) × (w ≡ width_of S t)
    ZoneFits (derived b) = BlockFits b
    ZoneFits (kept q cols z) = TestFits z q cols × ZoneFits z
    ZoneFits (member cols z b) = MemberFits z cols b × ZoneFits z × BlockFits b
    ZoneFits (inner_join a b l r) = JoinFits l r a b × ZoneFits l × ZoneFits r
    ZoneFits (left_join a b l r) = JoinFits l r a b × ZoneFits l × ZoneFits r

  -- ---- kinds

  pub kinds_block : (z : Zone) → block_kinds (block_of z) ≡ zone_kinds z
  kinds_block (table n w) = refl
  kinds_block (derived b) = refl
  kinds_block (kept q cols z) = refl
  kinds_block (member cols z b) = refl
  kinds_block (inner_join a b l r) = refl
  kinds_block (left_join a b l r) = refl

  kinds_distinct : (b : Block) → block_kinds (distinct b) ≡ block_kinds b
  kinds_distinct (block false (Some cols) z) = refl
  kinds_distinct (block false None z) = refl
  kinds_distinct (block true list z) = refl

  pub kinds_zone : (p : PlanTree) → zone_kinds (zone_of p) ≡ plan_kinds S p
  kinds_zone (plans.table n w) = refl
  kinds_zone (plans.proj cols p) = ap (λ ks. kinds_at ks cols) (kinds_zone p)
  kinds_zone (plans.filtered q cols p) = kinds_zone p
  kinds_zone (plans.inner_join a b l r) = λ i. kinds_zone l i ++ kinds_zone r i
  kinds_zone (plans.left_join a b l r) = λ i. kinds_zone l i ++ kinds_zone r i
  kinds_zone (plans.in_sub cols l r) = kinds_zone l
  kinds_zone (plans.dedup p) = kinds_distinct (plan_block p) ∙ kinds_block (zone_of p) ∙ kinds_zone p

  mutual
    pub block_kinds_length : (b : Block) → BlockFits b → length (block_kinds b) ≡ block_width b
    block_kinds_length (block once (Some cols) z) h = length_map (kind_at (zone_kinds z)) cols
    block_kinds_length (block once None z) h = zone_kinds_length z h.2

    pub zone_kinds_length : (z : Zone) → ZoneFits z → length (zone_kinds z) ≡ zone_width z
    zone_kinds_length (table t w) h = table_width S t ∙ sym h.1
    zone_kinds_length (derived b) h = block_kinds_length b h
    zone_kinds_length (kept q cols z) h = zone_kinds_length z h.1
    zone_kinds_length (member cols z b) h = zone_kinds_length z h.1
    zone_kinds_length (inner_join a b l r) h = omega (arith, length-append (zone_kinds l) (zone_kinds r), zone_kinds_length l h.1, zone_kinds_length r h.2)
    zone_kinds_length (left_join a b l r) h = omega (arith, length-append (zone_kinds l) (zone_kinds r), zone_kinds_length l h.1, zone_kinds_length r h.2)

  -- ---- zones of regular plans

  pub block_fits : (z : Zone) → ZoneFits z → zone_width z ≤ 16384 → BlockFits (block_of z)
  block_fits (table n w) h few = (tt, few, h)
  block_fits (derived b) h few = h
  block_fits (kept q cols z) h few = (tt, few, h)
  block_fits (member cols z b) h few = (tt, few, h)
  block_fits (inner_join a b l r) h few = (tt, few, h)
  block_fits (left_join a b l r) h few = (tt, few, h)

  distinct_fits : (b : Block) → BlockFits b → BlockFits (distinct b)
  distinct_fits (block false (Some cols) z) h = h
  distinct_fits (block false None z) h = h
  distinct_fits (block true (Some cols) z) h = (tt, h.1, h)
  distinct_fits (block true None z) h = (tt, h.1, h)

  fits_few : (p : PlanTree) → ZoneFits (zone_of p) → width p ≤ 16384 → BlockFits (plan_block p)
  fits_few p h few = block_fits (zone_of p) h (subst (λ w. w ≤ 16384) (sym (width_zone p)) few)

  join_fits : (l r : PlanTree) (a b : List ℕ) → Pairs (width l) (width r) a b → kinds_at (plan_kinds S l) a ≡ kinds_at (plan_kinds S r) b → JoinFits (zone_of l) (zone_of r) a b
  join_fits l r a b p k = record {
    pairs = subst (λ n. Pairs n (zone_width (zone_of r)) a b) (sym (width_zone l)) (subst (λ m. Pairs (width l) m a b) (sym (width_zone r)) p);
    kinds = ap (λ ks. kinds_at ks a) (kinds_zone l) ∙ k ∙ ap (λ ks. kinds_at ks b) (sym (kinds_zone r));
  }

  pub zone_fits : (p : PlanTree) → PlacesFit p → RegularNodes S p → ZoneFits (zone_of p)
  zone_fits (plans.table n w) f h = h
  zone_fits (plans.proj cols p) f h = (subst (λ w. Places w cols) (sym (width_zone p)) f.0, h.0, zone_fits p f.1 h.1)
  zone_fits (plans.filtered q cols p) f h = (
    record {
      places = subst (λ w. Places w cols) (sym (width_zone p)) f.0;
      there = f.1;
      regular = subst (λ ks. RegularFilter ks q cols) (sym (kinds_zone p)) h.0;
    },
    zone_fits p f.2 h.1,
  )
  zone_fits (plans.inner_join a b l r) f h = (join_fits l r a b f.0 h.0, zone_fits l f.1 h.1, zone_fits r f.2 h.2)
  zone_fits (plans.left_join a b l r) f h = (join_fits l r a b f.0 h.0, zone_fits l f.1 h.1, zone_fits r f.2 h.2)
  zone_fits (plans.in_sub cols l r) f h = (
    record {
      places = subst (λ w. Places w cols) (sym (width_zone l)) f.0;
      equally_many = f.1 ∙ sym (width_block (zone_of r) ∙ width_zone r);
      kinds = ap (λ ks. kinds_at ks cols) (kinds_zone l) ∙ h.0 ∙ sym (kinds_block (zone_of r) ∙ kinds_zone r);
    },
    zone_fits l f.2 h.2,
    fits_few r (zone_fits r f.3 h.3) h.1,
  )
  zone_fits (plans.dedup p) f h = distinct_fits (plan_block p) (fits_few p (zone_fits p f h.1) h.0)

  pub plan_fits : (p : PlanTree) → PlacesFit p → RegularNodes S p → width p ≤ 16384 → BlockFits (plan_block p)
  plan_fits p f h few = fits_few p (zone_fits p f h) few

-- ---- FROM items

items_block : (z : Zone) → block_items (block_of z) ≤ from_items z + condition_items z
items_block (table n w) = omega arith
items_block (derived b) = omega arith
items_block (kept q cols z) = omega arith
items_block (member cols z b) = omega arith
items_block (inner_join a b l r) = omega arith
items_block (left_join a b l r) = omega arith

items_distinct : (b : Block) → block_items (distinct b) ≤ 1 + block_items b
items_distinct (block false list z) = omega arith
items_distinct (block true list z) = omega arith

pub items_few : (p : PlanTree) → from_items (zone_of p) + condition_items (zone_of p) ≤ cost p
items_few (plans.table n w) = omega arith
items_few (plans.proj cols p) = omega (arith, items_few p)
items_few (plans.filtered q cols p) = omega (arith, items_few p)
items_few (plans.inner_join a b l r) = omega (arith, items_few l, items_few r)
items_few (plans.left_join a b l r) = omega (arith, items_few l, items_few r)
items_few (plans.in_sub cols l r) = omega (arith, items_few l, items_few r, items_block (zone_of r))
items_few (plans.dedup p) = omega (arith, items_few p, items_block (zone_of p), items_distinct (plan_block p))

pub items_in_block : (p : PlanTree) → block_items (plan_block p) ≤ cost p
items_in_block p = omega (arith, items_few p, items_block (zone_of p))
