-- The rows of a side filled in are the values of the side's rows on the instance of the assigned plans.
use Rattle.std.proofs.Common.{◌≡◌, ℕ, zero, suc, ◌+◌, ◌<◌, Bool, true, false, List, [], ◌∷◌, ◌++◌, map, filter, length, refl, sym, ap, ◌∙◌, subst, inl, inr, arith}
use Rattle.std.specs.Prelude.{◌==◌, ◌&&◌, flat_map, slice_index_or, if◌then◌else◌}
use Rattle.std.specs.List.{list_any}
use Rattle.std.proofs.lemmas.Bool.{false≢true}
use Rattle.wt_bag.specs.Bags.{Each, distinct, among}
use Rattle.wt_bag.specs.Choices.{Has}
use Rattle.wt_bag.proofs.BagLaws.{filter-map}
use Rattle.wt_bag.proofs.EachLaws.{each_map, each_flat_map, each_implies, each_both, each_for, each_filter, each_distinct, each_append, filter_each}
use Rattle.wt_bag.proofs.HasLaws.{has_map, has_flat_map, list_any_has, has_list_any}
use Rattle.wt_value.specs.declared.value.Value.{Value}
use Rattle.wt_value.specs.declared.value.Value.TheVariants.{Null}
use Rattle.wt_value.specs.Values.{Tuple, row_same, row_matches}
use Rattle.wt_value.proofs.Comparing.{row_same_decides}
use Rattle.wt_pred.specs.Meaning.{truth}
use Rattle.wt_symbol.specs.Sides as sides
use Rattle.wt_symbol.specs.Sides.{SideTree}
use Rattle.wt_symbol.specs.Heads.{anchor}
use Rattle.wt_instance.specs.declared.instance.Instance.{Instance}
use Rattle.wt_instance.specs.declared.named.Column.{Column}
use Rattle.wt_instance.specs.declared.named.Cell.{Cell}
use Rattle.wt_instance.specs.Instances.{numbers, table, is_true, IsWide}
use Rattle.wt_instance.specs.Rows as named_rows_of
use Rattle.wt_instance.specs.Rows.{Named, cell, values, names, value_at, values_at, cells_at, named, leaf_columns, columns_of, joined, or_nulls, named_same, named_rows, rows_of, HaveColumns}
use Rattle.wt_value.specs.Values.{pick}
use Rattle.wt_instance.proofs.Columns.{rows_named, distinct_values}
use Rattle.wt_plan.specs.Tree as plans
use Rattle.wt_plan.specs.Tree.{PlanTree}
use Rattle.wt_plan.specs.Measures.{width}
use Rattle.wt_plan.specs.Rows.{plan_rows, null_row}
use Rattle.wt_known.proofs.Agreeing.{or_null_row}
use Rattle.wt_matching.specs.Filling.{Assigned, leaf_plan, pred_of, header, place, places, fill}
use Rattle.wt_matching.proofs.Assigning.{Covers, all_rows, values_of, true_rows, instance_of}
use Rattle.wt_plan.proofs.Upto.{length_map}
use Rattle.wt_bag.proofs.HasLaws.{has_filter}
use Rattle.wt_known.proofs.Lists.{map_map, map_each, has_index, from_filter}
use Rattle.wt_matching.proofs.Lists.{at_place, is_so, pairs, both_parts, map_ext, map_append, length_append, flat_map_map, map_flat_map, flat_map_each, list_any_map, index_map}

-- values of a row with names
values_append : (v w : Named) → values (v ++ w) ≡ values v ++ values w
values_append v w = map_append (λ (c : Cell). c.value) v w

values_named : (r n : ℕ) (row : Tuple) → values (named r n row) ≡ row
values_named r n [] = refl
values_named r n (v ∷ row) = ap (λ (l : Tuple). v ∷ l) (values_named r (suc n) row)

values_nulls : (cs : List Column) → values (named_rows_of.nulls cs) ≡ null_row (length cs)
values_nulls [] = refl
values_nulls (c ∷ cs) = ap (λ (l : Tuple). Null ∷ l) (values_nulls cs)

-- the value under a name is the value at the name's first place
value_placed : (row : Named) (r n : ℕ) → value_at row r n ≡ at_place (values row) (place (names row) r n)
value_placed [] r n = refl
value_placed (c ∷ row) r n = here ((c.column.leaf == r) && (c.column.number == n)) (value_placed row r n)
  where
    here : (b : Bool) → value_at row r n ≡ at_place (values row) (place (names row) r n) →
        (if b then c.value else value_at row r n) ≡ at_place (c.value ∷ values row) (if b then 0 else suc (place (names row) r n))
    here true ih = refl
    here false ih = ih

pick_placed : (columns : List Column) (row : Named) (r : ℕ) (ns : List ℕ) → names row ≡ columns → pick (map (place columns r) ns) (values row) ≡ map (value_at row r) ns
pick_placed columns row r ns e =
    map_map (place columns r) (at_place (values row)) ns
    ∙ map_ext (λ n. at_place (values row) (place columns r n)) (value_at row r) ns
    (λ n. sym (value_placed row r n ∙ ap (λ (cs : List Column). at_place (values row) (place cs r n)) e))

pub length_leaf_columns : (r n k : ℕ) → length (leaf_columns r n k) ≡ k
length_leaf_columns r n zero = refl
length_leaf_columns r n (suc k) = ap suc (length_leaf_columns r (suc n) k)

-- rows over some values
has_all_rows : (vs : List Value) (k : ℕ) (row : Tuple) → length row ≡ k → Each (λ v. Has v vs) row → Has row (all_rows vs k)
has_all_rows vs zero [] e h = inl refl
has_all_rows vs zero (v ∷ row) e h = absurd (omega (arith, e))
has_all_rows vs (suc k) [] e h = absurd (omega (arith, e))
has_all_rows vs (suc k) (v ∷ row) e h =
    has_flat_map v (v ∷ row) (λ w. map (λ (l : Tuple). w ∷ l) (all_rows vs k)) vs h.0
    (has_map row (λ (l : Tuple). v ∷ l) (all_rows vs k) (has_all_rows vs k row (omega (arith, e)) h.1))

-- a row of the list is among those that pass exactly where it passes
among_passing : (q : Tuple → Bool) (row : Tuple) (rows : List Tuple) → Has row rows → among row_same (filter q rows) row ≡ q row
among_passing q row rows h = here (q row) refl
  where
    not_there : (b : Bool) → among row_same (filter q rows) row ≡ b → q row ≡ false → b ≡ false
    not_there false e f = refl
    not_there true e f =
        let found = has_list_any (λ y. row_same row y) (filter q rows) e in
        let same : row ≡ found.0 = row_same_decides.sound row found.0 found.2 in
        absurd (false≢true (sym f ∙ ap q same ∙ (from_filter q found.0 rows found.1).1))

    here : (b : Bool) → q row ≡ b → among row_same (filter q rows) row ≡ q row
    here true e = list_any_has (λ y. row_same row y) row (filter q rows) (has_filter q row rows h e) (row_same_decides.reflexive row) ∙ sym e
    here false e = not_there _ refl e ∙ sym e

or_same : (w : ℕ) (v : Named) (cs : List Column) (rows : List Named) → w ≡ length cs → or_null_row w (values v) (map values rows) ≡ map values (or_nulls v cs rows)
or_same w v cs [] e = ap (λ (l : Tuple). l ∷ []) (ap (λ k. values v ++ null_row k) e ∙ sym (values_append v (named_rows_of.nulls cs) ∙ ap (λ (l : Tuple). values v ++ l) (values_nulls cs)))
or_same w v cs (row ∷ rows) e = refl

-- the header is that of the instance
header_is : (base : List (List Tuple)) (A : List ℕ) (m : Assigned) (s : SideTree) → header s A m ≡ columns_of s A (instance_of base m)
header_is base A m (sides.input r) = refl
header_is base A m (sides.proj a s) = refl
header_is base A m (sides.filtered p a s) = header_is base A m s
header_is base A m (sides.inner_join a b s t) = both_parts _ _ _ _ (header_is base A m s) (header_is base A m t)
header_is base A m (sides.left_join a b s t) = both_parts _ _ _ _ (header_is base A m s) (header_is base A m t)
header_is base A m (sides.in_sub a s t) = header_is base A m s
header_is base A m (sides.dedup s) = header_is base A m s

-- the width of a leaf, none past the last leaf
pub leaf_width : (leaves : List PlanTree) (r : ℕ) → slice_index_or (map width leaves) r 0 ≡ width (slice_index_or leaves r (plans.table 0 0))
leaf_width [] r = refl
leaf_width (p ∷ leaves) zero = refl
leaf_width (p ∷ leaves) (suc r) = leaf_width leaves r

pub header_leaf : (A : List ℕ) (m : Assigned) (r : ℕ) → width (leaf_plan m r) ≡ length (header (sides.input r) A m)
header_leaf A m r = sym (length_leaf_columns r 0 (slice_index_or (map width m.leaves) r 0) ∙ leaf_width m.leaves r)

-- a side filled in is as wide as its header
pub sum_same : (x y : ℕ) (xs ys : List Column) → x ≡ length xs → y ≡ length ys → x + y ≡ length (xs ++ ys)
sum_same x y xs ys e f = let both = length_append xs ys in omega (arith, e, f, both)

pub fill_width : (A : List ℕ) (m : Assigned) (s : SideTree) → width (fill s A m) ≡ length (header s A m)
fill_width A m (sides.input r) = header_leaf A m r
fill_width A m (sides.proj a s) = length_map _ (slice_index_or m.lists a []) ∙ sym (length_map _ (slice_index_or m.lists a []))
fill_width A m (sides.filtered p a s) = fill_width A m s
fill_width A m (sides.inner_join a b s t) = sum_same _ _ (header s A m) (header t A m) (fill_width A m s) (fill_width A m t)
fill_width A m (sides.left_join a b s t) = sum_same _ _ (header s A m) (header t A m) (fill_width A m s) (fill_width A m t)
fill_width A m (sides.in_sub a s t) = fill_width A m s
fill_width A m (sides.dedup s) = fill_width A m s

module _ (base : List (List Tuple)) (A : List ℕ) (m : Assigned) where
  abbrev I : Instance
  I = instance_of base m

  abbrev InPool : Value → Type 0
  InPool v = Has v (values_of base m)

  abbrev PooledRow : Named → Type 0
  PooledRow row = Each InPool (values row)

  null_pooled : InPool Null
  null_pooled = inl refl

  -- each value is NULL or occurs in a leaf's rows
  table_pooled : (r : ℕ) → r < length m.leaves → Each (λ row. Each InPool row) (plan_rows base (leaf_plan m r))
  table_pooled r lt = whole (plan_rows base (leaf_plan m r)) (λ row h. h)
    where
      inside : (row : Tuple) → Has row (plan_rows base (leaf_plan m r)) → (part : Tuple) → ((v : Value) → Has v part → Has v row) → Each InPool part
      inside row h [] sub = tt
      inside row h (v ∷ part) sub = (
        inr (has_flat_map (leaf_plan m r) v (λ p. flat_map (λ (l : Tuple). l) (plan_rows base p)) m.leaves (has_index m.leaves r (plans.table 0 0) lt)
            (has_flat_map row v (λ (l : Tuple). l) (plan_rows base (leaf_plan m r)) h (sub v (inl refl)))),
        inside row h part (λ w k. sub w (inr k)),
      )

      whole : (rows : List Tuple) → ((row : Tuple) → Has row rows → Has row (plan_rows base (leaf_plan m r))) → Each (λ row. Each InPool row) rows
      whole [] sub = tt
      whole (row ∷ rows) sub = (inside row (sub row (inl refl)) row (λ v k. k), whole rows (λ l k. sub l (inr k)))

  value_pooled : (row : Named) (r n : ℕ) → PooledRow row → InPool (value_at row r n)
  value_pooled [] r n h = null_pooled
  value_pooled (c ∷ row) r n h = here ((c.column.leaf == r) && (c.column.number == n)) (value_pooled row r n h.1)
    where
      here : (b : Bool) → InPool (value_at row r n) → InPool (if b then c.value else value_at row r n)
      here true k = h.0
      here false k = k

  values_pooled : (row : Named) (r : ℕ) (ns : List ℕ) → PooledRow row → Each InPool (map (value_at row r) ns)
  values_pooled row r ns h = each_map InPool (value_at row r) ns (each_for ns (λ n. value_pooled row r n h))

  cells_pooled : (row : Named) (a : ℕ) → PooledRow row → PooledRow (cells_at A I a row)
  cells_pooled row a h = subst (λ (l : Tuple). Each InPool l) (sym (map_map _ _ (numbers I a))) (values_pooled row (anchor A a) (numbers I a) h)

  append_pooled : (v w : Named) → PooledRow v → PooledRow w → PooledRow (v ++ w)
  append_pooled v w h k = subst (λ (l : Tuple). Each InPool l) (sym (values_append v w)) (each_append InPool (values v) (values w) h k)

  nulls_pooled : (cs : List Column) → PooledRow (named_rows_of.nulls cs)
  nulls_pooled [] = tt
  nulls_pooled (c ∷ cs) = (null_pooled, nulls_pooled cs)

  joined_pooled : (a b : ℕ) (v : Named) (ws : List Named) → PooledRow v → Each PooledRow ws → Each PooledRow (joined A I a b v ws)
  joined_pooled a b v ws h k =
      each_map PooledRow (λ w. v ++ w) (filter (λ w. row_matches (values_at A I a v) (values_at A I b w)) ws)
      (each_implies PooledRow (λ w. PooledRow (v ++ w)) (filter (λ w. row_matches (values_at A I a v) (values_at A I b w)) ws) (λ w p. append_pooled v w h p) (each_filter PooledRow _ ws k))

  or_nulls_pooled : (v : Named) (cs : List Column) (rows : List Named) → PooledRow v → Each PooledRow rows → Each PooledRow (or_nulls v cs rows)
  or_nulls_pooled v cs [] h k = (append_pooled v (named_rows_of.nulls cs) h (nulls_pooled cs), tt)
  or_nulls_pooled v cs (row ∷ rows) h k = k

  pooled : (s : SideTree) → Covers m s → Each PooledRow (named_rows s A I)
  pooled (sides.input r) c =
      let same : table I r ≡ plan_rows base (leaf_plan m r) = index_map (plan_rows base) m.leaves r (plans.table 0 0) [] c in
      each_map PooledRow (named r 0) (table I r)
      (each_implies (λ row. Each InPool row) (λ row. PooledRow (named r 0 row)) (table I r) (λ row h. subst (λ (l : Tuple). Each InPool l) (sym (values_named r 0 row)) h)
      (subst (λ (l : List Tuple). Each (λ row. Each InPool row) l) (sym same) (table_pooled r c)))
  pooled (sides.proj a s) c = each_map PooledRow (cells_at A I a) (named_rows s A I) (each_implies PooledRow (λ row. PooledRow (cells_at A I a row)) (named_rows s A I) (λ row h. cells_pooled row a h) (pooled s c.1))
  pooled (sides.filtered p a s) c = each_filter PooledRow _ (named_rows s A I) (pooled s c.2)
  pooled (sides.inner_join a b s t) c =
      each_flat_map PooledRow (λ v. joined A I a b v (named_rows t A I)) (named_rows s A I)
      (each_implies PooledRow (λ v. Each PooledRow (joined A I a b v (named_rows t A I))) (named_rows s A I) (λ v h. joined_pooled a b v (named_rows t A I) h (pooled t c.3)) (pooled s c.2))
  pooled (sides.left_join a b s t) c =
      each_flat_map PooledRow (λ v. or_nulls v (columns_of t A I) (joined A I a b v (named_rows t A I))) (named_rows s A I)
      (each_implies PooledRow (λ v. Each PooledRow (or_nulls v (columns_of t A I) (joined A I a b v (named_rows t A I)))) (named_rows s A I)
      (λ v h. or_nulls_pooled v (columns_of t A I) (joined A I a b v (named_rows t A I)) h (joined_pooled a b v (named_rows t A I) h (pooled t c.3))) (pooled s c.2))
  pooled (sides.in_sub a s t) c = each_filter PooledRow _ (named_rows s A I) (pooled s c.1)
  pooled (sides.dedup s) c = each_distinct PooledRow named_same (named_rows s A I) (pooled s c)

  -- a predicate symbol is True on such rows exactly where its predicate is
  listed : (p a : ℕ) (row : Tuple) → p < length m.preds → a < length m.lists → length row ≡ length (numbers I a) → Each InPool row → is_so (truth (pred_of m p) row) ≡ is_true I p row
  listed p a row hp ha e h =
      let there : Has row (flat_map (λ (list : List ℕ). all_rows (values_of base m) (length list)) m.lists) =
      has_flat_map (numbers I a) row (λ (list : List ℕ). all_rows (values_of base m) (length list)) m.lists (has_index m.lists a [] ha) (has_all_rows (values_of base m) (length (numbers I a)) row e h) in
      let rows : slice_index_or (map (true_rows base m) m.preds) p [] ≡ true_rows base m (pred_of m p) = index_map (true_rows base m) m.preds p _ [] hp in
      sym (ap (λ (l : List Tuple). among row_same l row) rows ∙ among_passing (λ l. is_so (truth (pred_of m p) l)) row (flat_map (λ (list : List ℕ). all_rows (values_of base m) (length list)) m.lists) there)

  module _ (wide : (r : ℕ) → IsWide I r) where
    picked : (s : SideTree) (a : ℕ) (row : Named) → names row ≡ columns_of s A I → pick (places s A m a) (values row) ≡ values_at A I a row
    picked s a row e = pick_placed (header s A m) row (anchor A a) (numbers I a) (e ∙ sym (header_is base A m s))

    all_picked : (s : SideTree) (a : ℕ) → Each (λ row. pick (places s A m a) (values row) ≡ values_at A I a row) (named_rows s A I)
    all_picked s a = each_implies (λ row. names row ≡ columns_of s A I) (λ row. pick (places s A m a) (values row) ≡ values_at A I a row) (named_rows s A I) (λ row e. picked s a row e) (rows_named A I wide s)

    pairs_same : (x y : List ℕ) (a b : ℕ) (v : Named) (rights : List Tuple) (ws : List Named) → rights ≡ map values ws → pick x (values v) ≡ values_at A I a v →
        Each (λ w. pick y (values w) ≡ values_at A I b w) ws → pairs x y (values v) rights ≡ map values (joined A I a b v ws)
    pairs_same x y a b v rights ws e f h =
        ap (λ (l : List Tuple). pairs x y (values v) l) e
        ∙ ap (λ (l : List Tuple). map (λ right. values v ++ right) l) (filter-map (λ right. row_matches (pick x (values v)) (pick y right)) values ws)
        ∙ map_map values (λ right. values v ++ right) (filter (λ w. row_matches (pick x (values v)) (pick y (values w))) ws)
        ∙ ap (λ (l : List Named). map (λ w. values v ++ values w) l)
        (filter_each (λ w. row_matches (pick x (values v)) (pick y (values w))) (λ w. row_matches (values_at A I a v) (values_at A I b w)) ws
        (each_implies (λ w. pick y (values w) ≡ values_at A I b w) (λ w. row_matches (pick x (values v)) (pick y (values w)) ≡ row_matches (values_at A I a v) (values_at A I b w)) ws
        (λ w g. ap (λ (l : Tuple). row_matches l (pick y (values w))) f ∙ ap (λ (l : Tuple). row_matches (values_at A I a v) l) g) h))
        ∙ map_ext (λ w. values v ++ values w) (λ w. values (v ++ w)) (filter (λ w. row_matches (values_at A I a v) (values_at A I b w)) ws) (λ w. sym (values_append v w))
        ∙ sym (map_map (λ w. v ++ w) values (filter (λ w. row_matches (values_at A I a v) (values_at A I b w)) ws))

    -- rows made of each left row, on both sides
    made_same : (f : Tuple → List Tuple) (g : Named → List Named) (lefts : List Tuple) (vs : List Named) → lefts ≡ map values vs → Each (λ v. f (values v) ≡ map values (g v)) vs → flat_map f lefts ≡ map values (flat_map g vs)
    made_same f g lefts vs e h =
        ap (λ (l : List Tuple). flat_map f l) e ∙ flat_map_map values f vs ∙ flat_map_each (λ v. f (values v)) (λ v. map values (g v)) vs h ∙ sym (map_flat_map g values vs)

    kept_same : (p : Tuple → Bool) (q : Named → Bool) (lefts : List Tuple) (vs : List Named) → lefts ≡ map values vs → Each (λ v. p (values v) ≡ q v) vs → filter p lefts ≡ map values (filter q vs)
    kept_same p q lefts vs e h = ap (λ (l : List Tuple). filter p l) e ∙ filter-map p values vs ∙ ap (λ (l : List Named). map values l) (filter_each (λ v. p (values v)) q vs h)

    -- the rows of a side filled in are the values of its rows on the instance
    pub fill_rows : (s : SideTree) → Covers m s → plan_rows base (fill s A m) ≡ rows_of s A I
    fill_rows (sides.input r) c =
        sym (map_map (named r 0) values (table I r) ∙ map_ext (λ row. values (named r 0 row)) (λ row. row) (table I r) (values_named r 0) ∙ map_same (table I r) ∙ index_map (plan_rows base) m.leaves r (plans.table 0 0) [] c)
      where
        map_same : (rows : List Tuple) → map (λ row. row) rows ≡ rows
        map_same [] = refl
        map_same (row ∷ rows) = ap (λ (l : List Tuple). row ∷ l) (map_same rows)
    fill_rows (sides.proj a s) c =
        ap (λ (l : List Tuple). map (pick (places s A m a)) l) (fill_rows s c.1)
        ∙ map_map values (pick (places s A m a)) (named_rows s A I)
        ∙ map_each (λ row. pick (places s A m a) (values row)) (λ row. values (cells_at A I a row)) (named_rows s A I)
        (each_implies (λ row. pick (places s A m a) (values row) ≡ values_at A I a row) (λ row. pick (places s A m a) (values row) ≡ values (cells_at A I a row)) (named_rows s A I)
        (λ row e. e ∙ sym (map_map _ _ (numbers I a))) (all_picked s a))
        ∙ sym (map_map (cells_at A I a) values (named_rows s A I))
    fill_rows (sides.filtered p a s) c =
        kept_same (λ row. is_so (truth (pred_of m p) (pick (places s A m a) row))) (λ row. is_true I p (values_at A I a row)) _ (named_rows s A I) (fill_rows s c.2)
        (each_both (λ row. pick (places s A m a) (values row) ≡ values_at A I a row) PooledRow (λ row. is_so (truth (pred_of m p) (pick (places s A m a) (values row))) ≡ is_true I p (values_at A I a row)) (named_rows s A I)
        (λ row e h. ap (λ (l : Tuple). is_so (truth (pred_of m p) l)) e ∙ listed p a (values_at A I a row) c.0 c.1 (length_map _ (numbers I a)) (values_pooled row (anchor A a) (numbers I a) h))
        (all_picked s a) (pooled s c.2))
    fill_rows (sides.inner_join a b s t) c =
        made_same (λ left. pairs (places s A m a) (places t A m b) left (plan_rows base (fill t A m))) (λ v. joined A I a b v (named_rows t A I)) _ (named_rows s A I) (fill_rows s c.2)
        (each_implies (λ v. pick (places s A m a) (values v) ≡ values_at A I a v) (λ v. pairs (places s A m a) (places t A m b) (values v) (plan_rows base (fill t A m)) ≡ map values (joined A I a b v (named_rows t A I))) (named_rows s A I)
        (λ v e. pairs_same (places s A m a) (places t A m b) a b v (plan_rows base (fill t A m)) (named_rows t A I) (fill_rows t c.3) e (all_picked t b)) (all_picked s a))
    fill_rows (sides.left_join a b s t) c =
        made_same (λ left. or_null_row (width (fill t A m)) left (pairs (places s A m a) (places t A m b) left (plan_rows base (fill t A m)))) (λ v. or_nulls v (columns_of t A I) (joined A I a b v (named_rows t A I))) _ (named_rows s A I) (fill_rows s c.2)
        (each_implies (λ v. pick (places s A m a) (values v) ≡ values_at A I a v)
        (λ v. or_null_row (width (fill t A m)) (values v) (pairs (places s A m a) (places t A m b) (values v) (plan_rows base (fill t A m))) ≡ map values (or_nulls v (columns_of t A I) (joined A I a b v (named_rows t A I)))) (named_rows s A I)
        (λ v e. ap (λ (l : List Tuple). or_null_row (width (fill t A m)) (values v) l) (pairs_same (places s A m a) (places t A m b) a b v (plan_rows base (fill t A m)) (named_rows t A I) (fill_rows t c.3) e (all_picked t b))
        ∙ or_same (width (fill t A m)) v (columns_of t A I) (joined A I a b v (named_rows t A I)) (fill_width A m t ∙ ap length (header_is base A m t))) (all_picked s a))
    fill_rows (sides.in_sub a s t) c =
        kept_same (λ left. list_any (λ right. row_matches (pick (places s A m a) left) right) (plan_rows base (fill t A m))) (λ v. list_any (λ w. row_matches (values_at A I a v) (values w)) (named_rows t A I)) _ (named_rows s A I) (fill_rows s c.1)
        (each_implies (λ v. pick (places s A m a) (values v) ≡ values_at A I a v) (λ v. list_any (λ right. row_matches (pick (places s A m a) (values v)) right) (plan_rows base (fill t A m)) ≡ list_any (λ w. row_matches (values_at A I a v) (values w)) (named_rows t A I)) (named_rows s A I)
        (λ v e. ap (λ (l : Tuple). list_any (λ right. row_matches l right) (plan_rows base (fill t A m))) e ∙ ap (λ (l : List Tuple). list_any (λ right. row_matches (values_at A I a v) right) l) (fill_rows t c.2)
        ∙ list_any_map (λ right. row_matches (values_at A I a v) right) values (named_rows t A I)) (all_picked s a))
    fill_rows (sides.dedup s) c = ap (λ (l : List Tuple). distinct row_same l) (fill_rows s c) ∙ sym (distinct_values A I wide s)
