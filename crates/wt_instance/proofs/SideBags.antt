-- Sums over the rows of a side: a LeftJoin's by its InnerJoin's, and a side's where its tables' are the same.
use Rattle.std.proofs.Common.{◌≡◌, ℕ, ◌+◌, Bool, true, false, ◌||◌, not, cond, List, [], ◌∷◌, ◌++◌, map, filter, refl, sym, ap, ◌∙◌, arith}
use Rattle.std.specs.List.{list_any}
use Rattle.std.proofs.lemmas.List.{map-append}
use Rattle.wt_bag.specs.Bags.{total, only, SameSums}
use Rattle.wt_bag.proofs.TotalLaws.{total-append, total-map, total-flat_map, total-filter, total_ext, total-add}
use Rattle.wt_bag.proofs.BagLaws.{one_bag, same_sums, same_elements, distinct_same}
use Rattle.wt_value.specs.Values.{Tuple, IsOneBag, row_same, row_matches}
use Rattle.wt_value.proofs.Comparing.{row_same_decides}
use Rattle.wt_symbol.specs.Sides.{SideTree, input, proj, filtered, inner_join, left_join, in_sub, dedup}
use Rattle.wt_instance.specs.declared.instance.Instance.{Instance}
use Rattle.wt_instance.specs.declared.named.Column.{Column}
use Rattle.wt_instance.specs.Instances.{table, is_true}
use Rattle.wt_instance.specs.Rows.{Named, values, values_at, cells_at, named, nulls, columns_of, joined, or_nulls, named_same, named_rows, rows_of}
use Rattle.wt_instance.specs.SideBags.{matching, unmatched_rows, with_tables}
use Rattle.wt_instance.proofs.NamedRows.{named_same_decides}

pub list_any-map : {X Y : Type 0} (p : Y → Bool) (f : X → Y) (xs : List X) → list_any p (map f xs) ≡ list_any (λ x. p (f x)) xs
list_any-map p f [] = refl
list_any-map p f (x ∷ xs) = ap (λ b. p (f x) || b) (list_any-map p f xs)

pub list_any-filter : {X : Type 0} (p : X → Bool) (xs : List X) → list_any (λ x. true) (filter p xs) ≡ list_any p xs
list_any-filter p [] = refl
list_any-filter p (x ∷ xs) = here (p x) (list_any-filter p xs)
  where
    here : (b : Bool) → list_any (λ y. true) (filter p xs) ≡ list_any p xs → list_any (λ y. true) (cond b (x ∷ filter p xs) (filter p xs)) ≡ (b || list_any p xs)
    here true e = refl
    here false e = e

module _ (A : List ℕ) (I : Instance) where
  -- a left row's rows: those that are joined, or itself with NULLs
  or_nulls-total : (g : Named → ℕ) (v : Named) (columns : List Column) (ws : List Named) → total g (or_nulls v columns ws) ≡ total g ws + only (not (list_any (λ w. true) ws)) (g (v ++ nulls columns))
  or_nulls-total g v columns [] = omega arith
  or_nulls-total g v columns (w ∷ ws) = omega arith

  pub joined-total : (g : Named → ℕ) (a b : ℕ) (v : Named) (ws : List Named) → total g (joined A I a b v ws) ≡ total (λ w. only (matching A I a b v w) (g (v ++ w))) ws
  joined-total g a b v ws = total-map g (λ w. v ++ w) (filter (matching A I a b v) ws) ∙ total-filter (λ w. g (v ++ w)) (matching A I a b v) ws

  pub padded-total : (g : Named → ℕ) (a b : ℕ) (v : Named) (columns : List Column) (ws : List Named) → total g (or_nulls v columns (joined A I a b v ws))
      ≡ total (λ w. only (matching A I a b v w) (g (v ++ w))) ws + only (not (list_any (matching A I a b v) ws)) (g (v ++ nulls columns))
  padded-total g a b v columns ws =
      or_nulls-total g v columns (joined A I a b v ws)
      ∙ ap (λ n. n + only (not (list_any (λ w. true) (joined A I a b v ws))) (g (v ++ nulls columns))) (joined-total g a b v ws)
      ∙ ap (λ z. total (λ w. only (matching A I a b v w) (g (v ++ w))) ws + only (not z) (g (v ++ nulls columns)))
      (list_any-map (λ w. true) (λ w. v ++ w) (filter (matching A I a b v) ws) ∙ list_any-filter (matching A I a b v) ws)

  -- the named rows of a LeftJoin
  left_join-total : (g : Named → ℕ) (a b : ℕ) (s t : SideTree) → total g (named_rows (left_join a b s t) A I) ≡ total g (named_rows (inner_join a b s t) A I) + total g (unmatched_rows A I a b s t)
  left_join-total g a b s t =
      total-flat_map g (λ v. or_nulls v (columns_of t A I) (joined A I a b v (named_rows t A I))) (named_rows s A I)
      ∙ total_ext _ (λ v. total g (joined A I a b v (named_rows t A I)) + only (not (list_any (matching A I a b v) (named_rows t A I))) (g (v ++ nulls (columns_of t A I)))) (named_rows s A I) one
      ∙ total-add _ _ (named_rows s A I)
      ∙ ap (λ n. n + total (λ v. only (not (list_any (matching A I a b v) (named_rows t A I))) (g (v ++ nulls (columns_of t A I)))) (named_rows s A I))
      (sym (total-flat_map g (λ v. joined A I a b v (named_rows t A I)) (named_rows s A I)))
      ∙ ap (λ n. total g (named_rows (inner_join a b s t) A I) + n)
      (sym (total-map g (λ v. v ++ nulls (columns_of t A I)) (filter (λ v. not (list_any (matching A I a b v) (named_rows t A I))) (named_rows s A I))
      ∙ total-filter (λ v. g (v ++ nulls (columns_of t A I))) (λ v. not (list_any (matching A I a b v) (named_rows t A I))) (named_rows s A I)))
    where
      one : (v : Named) → total g (or_nulls v (columns_of t A I) (joined A I a b v (named_rows t A I))) ≡ total g (joined A I a b v (named_rows t A I)) + only (not (list_any (matching A I a b v) (named_rows t A I))) (g (v ++ nulls (columns_of t A I)))
      one v =
          padded-total g a b v (columns_of t A I) (named_rows t A I)
          ∙ ap (λ n. n + only (not (list_any (matching A I a b v) (named_rows t A I))) (g (v ++ nulls (columns_of t A I)))) (sym (joined-total g a b v (named_rows t A I)))

  pub left_join_bag : (a b : ℕ) (s t : SideTree) → IsOneBag (rows_of (left_join a b s t) A I) (rows_of (inner_join a b s t) A I ++ map values (unmatched_rows A I a b s t))
  left_join_bag a b s t = one_bag row_same _ _ (record {
    sums = λ g.
        total-map g values (named_rows (left_join a b s t) A I)
        ∙ left_join-total (λ w. g (values w)) a b s t
        ∙ sym (total-map g values (named_rows (inner_join a b s t) A I ++ unmatched_rows A I a b s t) ∙ total-append (λ w. g (values w)) (named_rows (inner_join a b s t) A I) (unmatched_rows A I a b s t))
        ∙ ap (total g) (map-append values (named_rows (inner_join a b s t) A I) (unmatched_rows A I a b s t));
  })

module _ (A : List ℕ) (I : Instance) (tables : List (List Tuple)) (same : (r : ℕ) → IsOneBag (table I r) (table (with_tables I tables) r)) where
  abbrev R : SideTree → List Named
  R s = named_rows s A I

  abbrev S : SideTree → List Named
  S s = named_rows s A (with_tables I tables)

  -- rows joined with a left row, whichever instance the right rows are of
  joins_same : (g : Named → ℕ) (a b : ℕ) (v : Named) (ws us : List Named) → SameSums ws us → total g (joined A I a b v ws) ≡ total g (joined A (with_tables I tables) a b v us)
  joins_same g a b v ws us h = joined-total A I g a b v ws ∙ h.sums (λ w. only (matching A I a b v w) (g (v ++ w))) ∙ sym (joined-total A (with_tables I tables) g a b v us)

  pads_same : (g : Named → ℕ) (a b : ℕ) (v : Named) (columns : List Column) (ws us : List Named) → SameSums ws us →
      total g (or_nulls v columns (joined A I a b v ws)) ≡ total g (or_nulls v columns (joined A (with_tables I tables) a b v us))
  pads_same g a b v columns ws us h =
      padded-total A I g a b v columns ws
      ∙ ap (λ n. n + only (not (list_any (matching A I a b v) ws)) (g (v ++ nulls columns))) (h.sums (λ w. only (matching A I a b v w) (g (v ++ w))))
      ∙ ap (λ z. total (λ w. only (matching A I a b v w) (g (v ++ w))) us + only (not z) (g (v ++ nulls columns))) ((same_elements ws us h).tests (matching A I a b v))
      ∙ sym (padded-total A (with_tables I tables) g a b v columns us)

  columns_same : (s : SideTree) → columns_of s A I ≡ columns_of s A (with_tables I tables)
  columns_same (input r) = refl
  columns_same (proj a s) = refl
  columns_same (filtered p a s) = columns_same s
  columns_same (inner_join a b s t) = ap (λ l. l ++ columns_of t A I) (columns_same s) ∙ ap (λ l. columns_of s A (with_tables I tables) ++ l) (columns_same t)
  columns_same (left_join a b s t) = ap (λ l. l ++ columns_of t A I) (columns_same s) ∙ ap (λ l. columns_of s A (with_tables I tables) ++ l) (columns_same t)
  columns_same (in_sub a s t) = columns_same s
  columns_same (dedup s) = columns_same s

  sums_same : (s : SideTree) → SameSums (R s) (S s)
  sums_same (input r) = record {
    sums = λ g. total-map g (named r 0) (table I r) ∙ (same_sums row_same row_same_decides _ _ (same r)).sums (λ row. g (named r 0 row)) ∙ sym (total-map g (named r 0) (table (with_tables I tables) r));
  }
  sums_same (proj a s) = record { sums = λ g. total-map g (cells_at A I a) (R s) ∙ (sums_same s).sums (λ w. g (cells_at A I a w)) ∙ sym (total-map g (cells_at A I a) (S s)) }
  sums_same (filtered p a s) = record {
    sums = λ g.
        total-filter g (λ w. is_true I p (values_at A I a w)) (R s) ∙ (sums_same s).sums (λ w. only (is_true I p (values_at A I a w)) (g w)) ∙ sym (total-filter g (λ w. is_true I p (values_at A I a w)) (S s));
  }
  sums_same (inner_join a b s t) = record {
    sums = λ g.
        total-flat_map g (λ v. joined A I a b v (R t)) (R s)
        ∙ total_ext _ (λ v. total g (joined A (with_tables I tables) a b v (S t))) (R s) (λ v. joins_same g a b v (R t) (S t) (sums_same t))
        ∙ (sums_same s).sums (λ v. total g (joined A (with_tables I tables) a b v (S t)))
        ∙ sym (total-flat_map g (λ v. joined A (with_tables I tables) a b v (S t)) (S s));
  }
  sums_same (left_join a b s t) = record {
    sums = λ g.
        total-flat_map g (λ v. or_nulls v (columns_of t A I) (joined A I a b v (R t))) (R s)
        ∙ total_ext _ (λ v. total g (or_nulls v (columns_of t A (with_tables I tables)) (joined A (with_tables I tables) a b v (S t)))) (R s)
        (λ v. pads_same g a b v (columns_of t A I) (R t) (S t) (sums_same t) ∙ ap (λ c. total g (or_nulls v c (joined A (with_tables I tables) a b v (S t)))) (columns_same t))
        ∙ (sums_same s).sums (λ v. total g (or_nulls v (columns_of t A (with_tables I tables)) (joined A (with_tables I tables) a b v (S t))))
        ∙ sym (total-flat_map g (λ v. or_nulls v (columns_of t A (with_tables I tables)) (joined A (with_tables I tables) a b v (S t))) (S s));
  }
  sums_same (in_sub a s t) = record {
    sums = λ g.
        total-filter g (λ v. list_any (λ w. row_matches (values_at A I a v) (values w)) (R t)) (R s)
        ∙ total_ext _ (λ v. only (list_any (λ w. row_matches (values_at A I a v) (values w)) (S t)) (g v)) (R s) (λ v. ap (λ z. only z (g v)) ((same_elements (R t) (S t) (sums_same t)).tests (λ w. row_matches (values_at A I a v) (values w))))
        ∙ (sums_same s).sums (λ v. only (list_any (λ w. row_matches (values_at A I a v) (values w)) (S t)) (g v))
        ∙ sym (total-filter g (λ v. list_any (λ w. row_matches (values_at A I a v) (values w)) (S t)) (S s));
  }
  sums_same (dedup s) = distinct_same named_same named_same_decides (R s) (S s) (same_elements (R s) (S s) (sums_same s))

  pub side_bag : (s : SideTree) → IsOneBag (rows_of s A I) (rows_of s A (with_tables I tables))
  side_bag s = one_bag row_same _ _ (record { sums = λ g. total-map g values (R s) ∙ (sums_same s).sums (λ w. g (values w)) ∙ sym (total-map g values (S s)) })
