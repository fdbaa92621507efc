-- The two sides of a sound rule are equally wide under a match: on the instance whose leaves have one row of equal
-- values each, either side gives one row, as long as its header.
use Rattle.std.proofs.Common.{◌≡◌, ℕ, zero, suc, ◌+◌, ◌<◌, Bool, true, false, cond, List, [], ◌∷◌, ◌++◌, map, filter, length, refl, sym, ap, ◌∙◌, arith}
use Rattle.std.specs.Prelude.{◌==◌, ◌&&◌, ◌||◌, flat_map, if◌then◌else◌}
use Rattle.std.specs.List.{list_any}
use Rattle.wt_bag.specs.Bags.{Each, OneBag, total, among, distinct}
use Rattle.wt_bag.proofs.HasLaws.{has_map, list_any_has}
use Rattle.wt_bag.proofs.BagLaws.{same_sums}
use Rattle.wt_value.specs.declared.value.Value.{Value}
use Rattle.wt_value.specs.declared.value.Value.TheVariants.{Text}
use Rattle.wt_value.specs.Values.{Tuple, HasNoNull, row_same, row_matches}
use Rattle.wt_value.proofs.Comparing.{row_same_decides, row_matches-Decides}
use Rattle.wt_pred.specs.Tree.{PredTree}
use Rattle.wt_symbol.specs.Sides as sides
use Rattle.wt_symbol.specs.Sides.{SideTree}
use Rattle.wt_symbol.specs.Heads.{anchor}
use Rattle.wt_instance.specs.declared.instance.Instance.{Instance}
use Rattle.wt_instance.specs.declared.named.Column.{Column}
use Rattle.wt_instance.specs.declared.named.Cell.{Cell}
use Rattle.wt_instance.specs.Instances.{is_true}
use Rattle.wt_instance.specs.Rows.{columns_of, named_same, Named, cell, column, values, value_at, values_at, cells_at, named, leaf_columns, joined, or_nulls, named_rows, rows_of}
use Rattle.wt_plan.specs.Tree as plans
use Rattle.wt_plan.specs.Measures.{width}
use Rattle.wt_matching.specs.Filling.{Assigned, leaf_plan, pred_of, header, place}
use Rattle.wt_matching.proofs.Assigning.{Covers}
use Rattle.wt_matching.specs.Filling.{list_of}
use Rattle.wt_matching.specs.Finding.{IsPlaced, ArePlaced}
use Rattle.wt_known.proofs.Lists.{has_index}
use Rattle.wt_matching.proofs.Lists.{index_map}

abbrev pub one : Value
one = Text []

abbrev pub all_one : ℕ → Tuple
all_one zero = []
all_one (suc k) = one ∷ all_one k

-- each leaf has one row of equal values, and each predicate is True on such rows
abbrev pub one_row_each : Assigned → Instance
one_row_each m = record { widths = map width m.leaves; tables = map (λ p. all_one (width p) ∷ []) m.leaves; lists = m.lists; trues = map (λ f. map (λ (list : List ℕ). all_one (length list)) m.lists) m.preds }

abbrev pub with_one : Column → Cell
with_one c = record { column = c; value = one }

-- the row of these columns
abbrev pub ones : List Column → Named
ones [] = []
ones (c ∷ cs) = with_one c ∷ ones cs

-- the lists of a join are equally long, and that of an InSub is as long as its right operand is wide
abbrev pub AreEven : SideTree → List ℕ → Assigned → Type 0
AreEven (sides.input r) A m = Unit {0}
AreEven (sides.proj a s) A m = AreEven s A m
AreEven (sides.filtered p a s) A m = AreEven s A m
AreEven (sides.inner_join a b s t) A m = (length (list_of m a) ≡ length (list_of m b)) × AreEven s A m × AreEven t A m
AreEven (sides.left_join a b s t) A m = (length (list_of m a) ≡ length (list_of m b)) × AreEven s A m × AreEven t A m
AreEven (sides.in_sub a s t) A m = (length (list_of m a) ≡ length (header t A m)) × AreEven s A m × AreEven t A m
AreEven (sides.dedup s) A m = AreEven s A m

ones_append : (cs ds : List Column) → ones (cs ++ ds) ≡ ones cs ++ ones ds
ones_append [] ds = refl
ones_append (c ∷ cs) ds = ap (λ (l : Named). with_one c ∷ l) (ones_append cs ds)

values_ones : (cs : List Column) → values (ones cs) ≡ all_one (length cs)
values_ones [] = refl
values_ones (c ∷ cs) = ap (λ (l : Tuple). one ∷ l) (values_ones cs)

named_ones : (r n k : ℕ) → named r n (all_one k) ≡ ones (leaf_columns r n k)
named_ones r n zero = refl
named_ones r n (suc k) = ap (λ (l : Named). cell r n one ∷ l) (named_ones r (suc n) k)

value_one : (cs : List Column) (r n : ℕ) → place cs r n < length cs → value_at (ones cs) r n ≡ one
value_one [] r n h = absurd (omega (arith, h))
value_one (c ∷ cs) r n h = here ((c.leaf == r) && (c.number == n)) h (value_one cs r n)
  where
    here : (b : Bool) → (if b then 0 else suc (place cs r n)) < suc (length cs) → (place cs r n < length cs → value_at (ones cs) r n ≡ one) → (if b then one else value_at (ones cs) r n) ≡ one
    here true h ih = refl
    here false h ih = ih (omega (arith, h))

picked_ones : (cs : List Column) (r : ℕ) (ns : List ℕ) → Each (λ n. place cs r n < length cs) ns → map (value_at (ones cs) r) ns ≡ all_one (length ns)
picked_ones cs r [] h = refl
picked_ones cs r (n ∷ ns) h = both _ _ _ _ (value_one cs r n h.0) (picked_ones cs r ns h.1)
  where
    both : (x v : Value) (l k : Tuple) → x ≡ v → l ≡ k → x ∷ l ≡ v ∷ k
    both x v l k e f = cc

cells_ones : (cs : List Column) (r : ℕ) (ns : List ℕ) → Each (λ n. place cs r n < length cs) ns → map (λ n. cell r n (value_at (ones cs) r n)) ns ≡ ones (map (column r) ns)
cells_ones cs r [] h = refl
cells_ones cs r (n ∷ ns) h = both _ _ _ _ (ap (cell r n) (value_one cs r n h.0)) (cells_ones cs r ns h.1)
  where
    both : (x v : Cell) (l k : Named) → x ≡ v → l ≡ k → x ∷ l ≡ v ∷ k
    both x v l k e f = cc

pub ones_match : (j k : ℕ) → j ≡ k → row_matches (all_one j) (all_one k) ≡ true
ones_match j k e = (row_matches-Decides (all_one j) (all_one k)).1 (ap all_one e, filled j)
  where
    filled : (k : ℕ) → HasNoNull (all_one k)
    filled zero = tt
    filled (suc k) = (λ n. cc, filled k)

module _ (A : List ℕ) (m : Assigned) where
  abbrev U : Instance
  U = one_row_each m

  kept_one : (p : Named → Bool) (row : Named) → p row ≡ true → filter p (row ∷ []) ≡ row ∷ []
  kept_one p row e = ap (λ b. cond b (row ∷ []) []) e

  values_one : (s : SideTree) (a : ℕ) → IsPlaced s A m a → values_at A U a (ones (header s A m)) ≡ all_one (length (list_of m a))
  values_one s a h = picked_ones (header s A m) (anchor A a) (list_of m a) h

  joined_one : (a b : ℕ) (s t : SideTree) → IsPlaced s A m a → IsPlaced t A m b → length (list_of m a) ≡ length (list_of m b) →
      joined A U a b (ones (header s A m)) (ones (header t A m) ∷ []) ≡ ones (header s A m ++ header t A m) ∷ []
  joined_one a b s t h k e =
      ap (λ (l : List Named). map (λ right. ones (header s A m) ++ right) l)
      (kept_one (λ right. row_matches (values_at A U a (ones (header s A m))) (values_at A U b right)) (ones (header t A m))
      (ap (λ (l : Tuple). row_matches l (values_at A U b (ones (header t A m)))) (values_one s a h) ∙ ap (λ (l : Tuple). row_matches (all_one (length (list_of m a))) l) (values_one t b k) ∙ ones_match _ _ e))
      ∙ ap (λ (l : Named). l ∷ []) (sym (ones_append (header s A m) (header t A m)))

  -- the side gives one row
  pub one_row : (s : SideTree) → Covers m s → ArePlaced s A m → AreEven s A m → named_rows s A U ≡ ones (header s A m) ∷ []
  one_row (sides.input r) c h e =
      ap (map (named r 0)) (index_map (λ p. all_one (width p) ∷ []) m.leaves r (plans.table 0 0) [] c)
      ∙ ap (λ (l : Named). l ∷ []) (named_ones r 0 (width (leaf_plan m r)) ∙ ap (λ k. ones (leaf_columns r 0 k)) (sym (index_map width m.leaves r (plans.table 0 0) 0 c)))
  one_row (sides.proj a s) c h e = ap (map (cells_at A U a)) (one_row s c.1 h.1 e) ∙ ap (λ (l : Named). l ∷ []) (cells_ones (header s A m) (anchor A a) (list_of m a) h.0)
  one_row (sides.filtered p a s) c h e =
      ap (filter (λ row. is_true U p (values_at A U a row))) (one_row s c.2 h.1 e)
      ∙ kept_one (λ row. is_true U p (values_at A U a row)) (ones (header s A m))
      (ap (is_true U p) (values_one s a h.0) ∙ ap (λ (l : List Tuple). among row_same l (all_one (length (list_of m a)))) (index_map (λ f. map (λ (list : List ℕ). all_one (length list)) m.lists) m.preds p (pred_default m p) [] c.0)
      ∙ list_any_has (λ y. row_same (all_one (length (list_of m a))) y) (all_one (length (list_of m a))) (map (λ (list : List ℕ). all_one (length list)) m.lists) (has_map (list_of m a) (λ (list : List ℕ). all_one (length list)) m.lists (has_index m.lists a [] c.1)) (row_same_decides.reflexive (all_one (length (list_of m a)))))
    where
      pred_default : Assigned → ℕ → PredTree
      pred_default m p = pred_of m p
  one_row (sides.inner_join a b s t) c h e =
      ap (λ (l : List Named). flat_map (λ left. joined A U a b left (named_rows t A U)) l) (one_row s c.2 h.2 e.1)
      ∙ ap (λ (l : List Named). joined A U a b (ones (header s A m)) l ++ []) (one_row t c.3 h.3 e.2)
      ∙ ap (λ (l : List Named). l ++ []) (joined_one a b s t h.0 h.1 e.0)
  one_row (sides.left_join a b s t) c h e =
      ap (λ (l : List Named). flat_map (λ left. or_nulls left (columns_of t A U) (joined A U a b left (named_rows t A U))) l) (one_row s c.2 h.2 e.1)
      ∙ ap (λ (l : List Named). or_nulls (ones (header s A m)) (columns_of t A U) (joined A U a b (ones (header s A m)) l) ++ []) (one_row t c.3 h.3 e.2)
      ∙ ap (λ (l : List Named). or_nulls (ones (header s A m)) (columns_of t A U) l ++ []) (joined_one a b s t h.0 h.1 e.0)
  one_row (sides.in_sub a s t) c h e =
      ap (filter (λ left. list_any (λ right. row_matches (values_at A U a left) (values right)) (named_rows t A U))) (one_row s c.1 h.1 e.1)
      ∙ kept_one (λ left. list_any (λ right. row_matches (values_at A U a left) (values right)) (named_rows t A U)) (ones (header s A m))
      (ap (λ (l : List Named). list_any (λ right. row_matches (values_at A U a (ones (header s A m))) (values right)) l) (one_row t c.2 h.2 e.2)
      ∙ ap (λ b. b || false) (ap (λ (l : Tuple). row_matches l (values (ones (header t A m)))) (values_one s a h.0) ∙ ap (λ (l : Tuple). row_matches (all_one (length (list_of m a))) l) (values_ones (header t A m)) ∙ ones_match _ _ e.0))
  one_row (sides.dedup s) c h e = ap (λ (l : List Named). distinct named_same l) (one_row s c h e)

  pub one_row_values : (s : SideTree) → Covers m s → ArePlaced s A m → AreEven s A m → rows_of s A U ≡ all_one (length (header s A m)) ∷ []
  one_row_values s c h e = ap (map values) (one_row s c h e) ∙ ap (λ (l : Tuple). l ∷ []) (values_ones (header s A m))

pub length_ones : (k : ℕ) → length (all_one k) ≡ k
length_ones zero = refl
length_ones (suc k) = ap suc (length_ones k)

-- two sides with one bag there have headers of one length
pub same_header_length : (A : List ℕ) (m : Assigned) (s d : SideTree) → Covers m s → Covers m d → ArePlaced s A m → ArePlaced d A m → AreEven s A m → AreEven d A m →
    OneBag row_same (rows_of s A (one_row_each m)) (rows_of d A (one_row_each m)) → length (header s A m) ≡ length (header d A m)
same_header_length A m s d cs cd hs hd es ed bag =
    let sums = same_sums row_same row_same_decides _ _ bag in
    let one = one_row_values A m s cs hs es in
    let two = one_row_values A m d cd hd ed in
    let both : total length (rows_of s A (one_row_each m)) ≡ total length (rows_of d A (one_row_each m)) = sums.sums length in
    let left : total length (rows_of s A (one_row_each m)) ≡ length (header s A m) + 0 = ap (total length) one ∙ ap (λ k. k + 0) (length_ones (length (header s A m))) in
    let right : total length (rows_of d A (one_row_each m)) ≡ length (header d A m) + 0 = ap (total length) two ∙ ap (λ k. k + 0) (length_ones (length (header d A m))) in
    omega (arith, both, left, right)
