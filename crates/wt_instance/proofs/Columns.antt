-- Each row of a side has the side's columns.
use Rattle.std.proofs.Common.{◌≡◌, ℕ, suc, true, List, [], ◌∷◌, ◌++◌, map, filter, length, refl, sym, ap, ◌∙◌, subst, inl, inr, arith}
use Rattle.std.specs.Prelude.{◌==◌, ◌&&◌}
use Rattle.std.specs.List.{list_any}
use Rattle.std.proofs.lemmas.Grind.{common_steps}
use Rattle.std.proofs.lemmas.Bool.{cases_lt}
use Rattle.std.proofs.lemmas.List.{get_or_past}
use Rattle.wt_bag.specs.Bags.{Each}
use Rattle.wt_bag.proofs.EachLaws.{each_map, each_flat_map, each_implies, each_for, each_filter, each_distinct}
use Rattle.wt_bag.proofs.BagLaws.{distinct-map}
use Rattle.wt_value.specs.declared.value.Value.{Value}
use Rattle.wt_value.specs.Values.{Tuple, value_same, row_same, row_matches, distinct_rows}
use Rattle.wt_symbol.specs.Sides.{SideTree, input, proj, filtered, inner_join, left_join, in_sub, dedup, PairTree}
use Rattle.wt_symbol.specs.Heads.{anchor}
use Rattle.wt_instance.specs.declared.instance.Instance.{Instance}
use Rattle.wt_instance.specs.declared.named.Column.{Column}
use Rattle.wt_instance.specs.declared.named.Cell.{Cell}
use Rattle.wt_instance.specs.Instances.{width, table, numbers, is_true, IsWide, IsInstance}
use Rattle.wt_instance.specs.Rows.{Named, cell, column, names, values, value_at, values_at, cells_at, named, nulls, leaf_columns, columns_of, joined, or_nulls, named_same, named_rows, rows_of, HaveColumns}

-- a leaf's rows have its width, also where there is no such leaf
pub all_wide : (p : PairTree) (I : Instance) → IsInstance p I → (r : ℕ) → IsWide I r
all_wide p I is r =
    elim (cases_lt r (length I.tables)) [
      | inl lt ↦ is.wide r lt
      | inr ge ↦ subst (λ (l : List Tuple). Each (λ row. length row ≡ width I r) l) (sym (get_or_past I.tables r [] ge)) tt
    ]

named_names : (r n : ℕ) (row : Tuple) → names (named r n row) ≡ leaf_columns r n (length row)
named_names r n [] = refl
named_names r n (v ∷ row) = ap (λ (l : List Column). column r n ∷ l) (named_names r (suc n) row)

cells_names : (r : ℕ) (value : ℕ → Value) (ns : List ℕ) → names (map (λ n. cell r n (value n)) ns) ≡ map (column r) ns
cells_names r value [] = refl
cells_names r value (n ∷ ns) = ap (λ (l : List Column). column r n ∷ l) (cells_names r value ns)

nulls_names : (columns : List Column) → names (nulls columns) ≡ columns
nulls_names [] = refl
nulls_names (c ∷ columns) = ap (λ (l : List Column). c ∷ l) (nulls_names columns)

names_append : (v w : Named) → names (v ++ w) ≡ names v ++ names w
names_append [] w = refl
names_append (c ∷ v) w = ap (λ (l : List Column). c.column ∷ l) (names_append v w)

-- the names of two rows put together
together : (v w : Named) (cs ds : List Column) → names v ≡ cs → names w ≡ ds → names (v ++ w) ≡ cs ++ ds
together v w cs ds e f = names_append v w ∙ ap (λ (l : List Column). l ++ names w) e ∙ ap (λ (l : List Column). cs ++ l) f

or_nulls_named : (left : Named) (cs ds : List Column) (rows : List Named) → names left ≡ cs → Each (λ row. names row ≡ cs ++ ds) rows → Each (λ row. names row ≡ cs ++ ds) (or_nulls left ds rows)
or_nulls_named left cs ds [] e h = (together left (nulls ds) cs ds e (nulls_names ds), tt)
or_nulls_named left cs ds (row ∷ rows) e h = h

module _ (A : List ℕ) (I : Instance) where
  joined_named : (a b : ℕ) (left : Named) (rights : List Named) (cs ds : List Column) → names left ≡ cs → Each (λ row. names row ≡ ds) rights → Each (λ row. names row ≡ cs ++ ds) (joined A I a b left rights)
  joined_named a b left rights cs ds e h =
      each_map (λ row. names row ≡ cs ++ ds) (λ right. left ++ right) (filter (λ right. row_matches (values_at A I a left) (values_at A I b right)) rights)
      (each_implies (λ row. names row ≡ ds) (λ right. names (left ++ right) ≡ cs ++ ds) (filter (λ right. row_matches (values_at A I a left) (values_at A I b right)) rights)
      (λ right f. together left right cs ds e f)
      (each_filter (λ row. names row ≡ ds) (λ right. row_matches (values_at A I a left) (values_at A I b right)) rights h))

  pub rows_named : ((r : ℕ) → IsWide I r) → (s : SideTree) → HaveColumns s A I
  rows_named wide (input r) =
      each_map (λ row. names row ≡ leaf_columns r 0 (width I r)) (named r 0) (table I r)
      (each_implies (λ row. length row ≡ width I r) (λ row. names (named r 0 row) ≡ leaf_columns r 0 (width I r)) (table I r) (λ row e. named_names r 0 row ∙ ap (leaf_columns r 0) e) (wide r))
  rows_named wide (proj a s) =
      each_map (λ row. names row ≡ map (column (anchor A a)) (numbers I a)) (cells_at A I a) (named_rows s A I)
      (each_for (named_rows s A I) (λ row. cells_names (anchor A a) (λ n. value_at row (anchor A a) n) (numbers I a)))
  rows_named wide (filtered p a s) = each_filter (λ row. names row ≡ columns_of s A I) (λ row. is_true I p (values_at A I a row)) (named_rows s A I) (rows_named wide s)
  rows_named wide (inner_join a b s t) =
      each_flat_map (λ row. names row ≡ columns_of s A I ++ columns_of t A I) (λ left. joined A I a b left (named_rows t A I)) (named_rows s A I)
      (each_implies (λ row. names row ≡ columns_of s A I) (λ left. Each (λ row. names row ≡ columns_of s A I ++ columns_of t A I) (joined A I a b left (named_rows t A I))) (named_rows s A I)
      (λ left e. joined_named a b left (named_rows t A I) (columns_of s A I) (columns_of t A I) e (rows_named wide t)) (rows_named wide s))
  rows_named wide (left_join a b s t) =
      each_flat_map (λ row. names row ≡ columns_of s A I ++ columns_of t A I) (λ left. or_nulls left (columns_of t A I) (joined A I a b left (named_rows t A I))) (named_rows s A I)
      (each_implies (λ row. names row ≡ columns_of s A I) (λ left. Each (λ row. names row ≡ columns_of s A I ++ columns_of t A I) (or_nulls left (columns_of t A I) (joined A I a b left (named_rows t A I)))) (named_rows s A I)
      (λ left e. or_nulls_named left (columns_of s A I) (columns_of t A I) (joined A I a b left (named_rows t A I)) e (joined_named a b left (named_rows t A I) (columns_of s A I) (columns_of t A I) e (rows_named wide t))) (rows_named wide s))
  rows_named wide (in_sub a s t) =
      each_filter (λ row. names row ≡ columns_of s A I) (λ left. list_any (λ right. row_matches (values_at A I a left) (values right)) (named_rows t A I)) (named_rows s A I) (rows_named wide s)
  rows_named wide (dedup s) = each_distinct (λ row. names row ≡ columns_of s A I) named_same (named_rows s A I) (rows_named wide s)

heads_same : (v w : Named) (c d : Cell) → names (c ∷ v) ≡ names (d ∷ w) → c.column ≡ d.column
heads_same v w c d e = cc

tails_same : (v w : Named) (c d : Cell) → names (c ∷ v) ≡ names (d ∷ w) → names v ≡ names w
tails_same v w c d e = cc

number_itself : (n m : ℕ) → n ≡ m → (n == m) ≡ true
number_itself n m e = grind (arith, common_steps)

columns_pass : (c d : Column) → c ≡ d → ((c.leaf == d.leaf) && (c.number == d.number)) ≡ true
columns_pass c d e = rw (number_itself c.leaf d.leaf (ap (λ (x : Column). x.leaf) e), number_itself c.number d.number (ap (λ (x : Column). x.number) e)) refl

-- rows with the same names are the same where their values are
values_tell : (v w : Named) → names v ≡ names w → row_same (values v) (values w) ≡ named_same v w
values_tell [] [] e = refl
values_tell [] (d ∷ w) e = cc
values_tell (c ∷ v) [] e = cc
values_tell (c ∷ v) (d ∷ w) e =
    ap (λ b. value_same c.value d.value && b) (values_tell v w (tails_same v w c d e))
    ∙ ap (λ b. (b && value_same c.value d.value) && named_same v w) (sym (columns_pass c.column d.column (heads_same v w c d e)))

-- the distinct rows of a side are those of its values
pub distinct_values : (A : List ℕ) (I : Instance) → ((r : ℕ) → IsWide I r) → (s : SideTree) → rows_of (dedup s) A I ≡ distinct_rows (rows_of s A I)
distinct_values A I wide s =
    sym (distinct-map named_same row_same values (λ row. names row ≡ columns_of s A I) (λ v w e f. values_tell v w (e ∙ sym f)) (named_rows s A I) (rows_named A I wide s))
