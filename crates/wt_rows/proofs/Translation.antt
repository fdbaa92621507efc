-- The law of translation: the rows of a side and of its form are one bag.
use Rattle.std.proofs.Common.{ℕ, suc, ◌+◌, ◌<◌, Bool, true, false, not, List, [], ◌∷◌, ◌++◌, map, ◌≡◌, refl, sym, ap, ◌∙◌, arith, length}
use Rattle.std.specs.Prelude.{slice_index_or}
use Rattle.std.specs.List.{list_any}
use Rattle.std.proofs.lemmas.List.{length-map}
use Rattle.wt_bag.specs.Bags.{total, only, Each, SameSums, SameElements, DecidesEquality, distinct}
use Rattle.wt_bag.specs.Choices.{choices}
use Rattle.wt_bag.proofs.TotalLaws.{total-map, total-flat_map, total_ext, total_each, total-add}
use Rattle.wt_bag.proofs.ChoiceLaws.{total-choices_cons}
use Rattle.wt_bag.proofs.EachLaws.{each_implies, each_distinct}
use Rattle.wt_bag.proofs.BagLaws.{same_elements, distinct_same, distinct-map}
use Rattle.wt_value.specs.declared.value.Value.{Value}
use Rattle.wt_value.specs.Values.{Tuple, row_matches}
use Rattle.wt_symbol.specs.declared.head.Part.{Part}
use Rattle.wt_symbol.specs.declared.head.PartCols.{PartCols}
use Rattle.wt_symbol.specs.declared.head.PartCols.TheVariants.{Whole, List as Listed}
use Rattle.wt_symbol.specs.Sides.{SideTree, input, proj, filtered, inner_join, left_join, in_sub, dedup}
use Rattle.wt_symbol.specs.Heads.{anchor, head_of}
use Rattle.wt_form.specs.declared.form.Expr.{Expr}
use Rattle.wt_form.specs.Trees.{Terms, Ranges, no_ranges, range_then, distinct_of, Conds, no_conds, Pred, is_in, not_in}
use Rattle.wt_form.specs.Parts.{one_term, ranges_count}
use Rattle.wt_form.specs.FormOf.{each_term, list_of, list_part, proj_term, null_term, join_terms, part_pieces, side_terms}
use Rattle.wt_form.specs.Closed.{IsWithin}
use Rattle.wt_instance.specs.declared.instance.Instance.{Instance}
use Rattle.wt_instance.specs.Instances.{width, numbers, is_true, IsWide}
use Rattle.wt_instance.specs.Rows as rows
use Rattle.wt_instance.specs.Rows.{Named, values, values_at, columns_of, joined, or_nulls, named_same, named_rows}
use Rattle.wt_instance.specs.SideBags.{matching}
use Rattle.wt_instance.proofs.NamedRows.{named_same_decides}
use Rattle.wt_instance.proofs.SideBags.{joined-total, padded-total}
use Rattle.wt_rows.specs.FormRows.{Piece, Env, FormRow, form_row_same, label, labels, part_values, values_of, row_of, put_together, terms_rows, range_rows}
use Rattle.wt_rows.specs.Fits.{ValuesFit, RowFits}
use Rattle.wt_rows.proofs.Sums.{form_rows_decide, term_total}
use Rattle.wt_rows.proofs.Reading.{RowReads, row_reads}
use Rattle.wt_rows.proofs.Exist.{expr_within}
use Rattle.wt_rows.proofs.TermSums.{total-terms, terms_total-append, one_total}
use Rattle.wt_rows.proofs.Naming.{named_row, ListStands}
use Rattle.wt_rows.proofs.SideFits.{TermStands, SideStands, list_fits, side_stands, stands_rows}
use Rattle.wt_rows.proofs.SideRows.{named_total, column_values, law_proj, law_cond, law_inner, law_left, law_input, any_named, values_put}

-- rows that fit one head are equal where their values put together are
same_first : (v w : Value) (vs ws : Tuple) → v ∷ vs ≡ w ∷ ws → (v ≡ w) × (vs ≡ ws)
same_first v w vs ws q = ((let z : v ≡ w = cc in z), (let z : vs ≡ ws = cc in z))

split_equal : (xs xs' ys ys' : Tuple) → length xs ≡ length xs' → xs ++ ys ≡ xs' ++ ys' → (xs ≡ xs') × (ys ≡ ys')
split_equal [] [] ys ys' l q = (refl, q)
split_equal [] (x ∷ xs') ys ys' l q = let bad : ⊥ = omega (arith, l) in absurd bad
split_equal (x ∷ xs) [] ys ys' l q = let bad : ⊥ = omega (arith, l) in absurd bad
split_equal (x ∷ xs) (x' ∷ xs') ys ys' l q =
    let p = same_first x x' (xs ++ ys) (xs' ++ ys') q in
    let r = split_equal xs xs' ys ys' (omega (arith, l)) p.1 in
    (ap (λ z. z ∷ xs) p.0 ∙ ap (λ z. x' ∷ z) r.0, r.1)

values_length : (I : Instance) (r : ℕ) (c : PartCols) (vs : Tuple) → ValuesFit I r c vs → (n : ℕ) × (length vs ≡ n) × ((ws : Tuple) → ValuesFit I r c ws → length ws ≡ n)
values_length I r Whole vs f = (width I r, f, λ ws g. g)
values_length I r (Listed a) vs f = (length (numbers I a), ap length (sym f) ∙ length-map (numbers I a) _, λ ws g. ap length (sym g) ∙ length-map (numbers I a) _)

put_apart : (I : Instance) (hs : List Part) (x y : FormRow) → RowFits I hs x → RowFits I hs y → put_together x ≡ put_together y → x ≡ y
put_apart I [] [] [] f g q = refl
put_apart I [] [] (vs ∷ y) f g q = absurd g
put_apart I [] (vs ∷ x) y f g q = absurd f
put_apart I (h ∷ hs) [] y f g q = absurd f
put_apart I (h ∷ hs) (vs ∷ x) [] f g q = absurd g
put_apart I (h ∷ hs) (vs ∷ x) (ws ∷ y) f g q =
    let n = values_length I h.leaf h.cols vs f.0 in
    let p = split_equal vs ws (put_together x) (put_together y) (n.1 ∙ sym (n.2 ws g.0)) q in
    ap (λ z. z ∷ x) p.0 ∙ ap (λ z. ws ∷ z) (put_apart I hs x y f.1 g.1 p.1)

-- two tests of equality agree where the equations are one
same_tests : {X Y : Type 0} (p : X → X → Bool) (q : Y → Y → Bool) → DecidesEquality p → DecidesEquality q → (a b : X) (x y : Y) → (a ≡ b → x ≡ y) → (x ≡ y → a ≡ b) → p a b ≡ q x y
same_tests p q dp dq a b x y to back = go (p a b) refl (q x y) refl
  where
    go : (s : Bool) → p a b ≡ s → (t : Bool) → q x y ≡ t → s ≡ t
    go true e true f = refl
    go false e false f = refl
    go true e false f = sym (ap (λ z. q x z) (sym (to (dp.sound a b e))) ∙ dq.reflexive x) ∙ f
    go false e true f = sym e ∙ ap (λ z. p a z) (sym (back (dq.sound x y f))) ∙ dp.reflexive a

-- a row read from its labels, part by part
parts_read : (I : Instance) (hs : List Part) (row : FormRow) (k : ℕ) (all : List Piece) → RowReads I hs row → ((j : ℕ) → slice_index_or all (k + j) [] ≡ slice_index_or (labels I hs row) j []) → row_of I (part_pieces k hs) (all ∷ []) ≡ row
parts_read I [] [] k all f h = refl
parts_read I [] (vs ∷ row) k all f h = absurd f
parts_read I (p ∷ hs) [] k all f h = absurd f
parts_read I (p ∷ hs) (vs ∷ row) k all f h =
    let here : slice_index_or all k [] ≡ label I p.cols vs = ap (λ j. slice_index_or all j []) (let z : k ≡ k + 0 = omega arith in z) ∙ h 0 in
    let next : (j : ℕ) → suc k + j ≡ k + suc j = λ j. omega arith in
    ap (λ z. z ∷ row_of I (part_pieces (suc k) hs) (all ∷ [])) (ap (part_values I p.cols) here ∙ f.0)
    ∙ ap (λ z. vs ∷ z) (parts_read I hs row (suc k) all f.1 (λ j. ap (λ i. slice_index_or all i []) (next j) ∙ h (suc j)))

module _ (I : Instance) (A : List ℕ) (wide : (r : ℕ) → IsWide I r) where
  law_dedup : (hs : List Part) (ts : Terms) (old : List Named) → Each (RowFits I hs) (terms_rows ts I) → ((g : Named → ℕ) → total g old ≡ named_total I A wide g hs ts) →
      (g : Named → ℕ) → total g (distinct named_same old) ≡ named_total I A wide g hs (one_term (range_then (distinct_of hs ts) no_ranges) no_conds (part_pieces 0 hs))
  law_dedup hs ts old fits ih g =
      (distinct_same named_same named_same_decides old (map (named_row I hs) (terms_rows ts I)) same).sums g
      ∙ ap (total g) (distinct-map form_row_same named_same (named_row I hs) (RowFits I hs) agree (terms_rows ts I) fits)
      ∙ total-map g (named_row I hs) (distinct form_row_same (terms_rows ts I))
      ∙ total_each _ (λ row. F (labels I hs row)) (distinct form_row_same (terms_rows ts I)) (each_implies (RowFits I hs) _ (distinct form_row_same (terms_rows ts I))
      (λ row f. ap (λ q. g (named_row I hs q)) (sym (parts_read I hs row 0 (labels I hs row) (row_reads I hs row f) (λ j. ap (λ i. slice_index_or (labels I hs row) i []) (let z : 0 + j ≡ j = omega arith in z)))) ∙ plus_zero (G (labels I hs row ∷ [])))
      (each_distinct (RowFits I hs) form_row_same (terms_rows ts I) fits))
      ∙ sym (total-map F (labels I hs) (distinct form_row_same (terms_rows ts I)))
      ∙ sym (total-choices_cons G (range_rows (distinct_of hs ts) I) [])
      ∙ sym (one_total (term_total I (λ p. g (named_row I hs p))) (range_then (distinct_of hs ts) no_ranges) no_conds (part_pieces 0 hs))
    where
      G : Env → ℕ
      G e = g (named_row I hs (row_of I (part_pieces 0 hs) e))

      F : List Piece → ℕ
      F c = total (λ e. G (c ∷ e)) (choices [])

      plus_zero : (n : ℕ) → n ≡ n + 0
      plus_zero n = omega arith

      same : SameElements old (map (named_row I hs) (terms_rows ts I))
      same = same_elements _ _ (record { sums = λ k. ih k ∙ sym (total-terms I (λ p. k (named_row I hs p)) ts) ∙ sym (total-map k (named_row I hs) (terms_rows ts I)) })

      agree : (x y : FormRow) → RowFits I hs x → RowFits I hs y → named_same (named_row I hs x) (named_row I hs y) ≡ form_row_same x y
      agree x y fx fy = same_tests named_same form_row_same named_same_decides form_rows_decide (named_row I hs x) (named_row I hs y) x y
          (λ e. put_apart I hs x y fx fy (sym (values_put I A wide hs x (row_reads I hs x fx)) ∙ ap values e ∙ values_put I A wide hs y (row_reads I hs y fy))) (λ e. ap (named_row I hs) e)

  within : (hs : List Part) (a : ℕ) → ListStands I hs (anchor A a) a → a < length I.lists → (rs : Ranges) (cs : Conds) (ps : List Expr) → TermStands I hs rs cs ps → IsWithin (ranges_count rs) (list_of hs A a ps)
  within hs a st exists rs cs ps t = expr_within I rs (list_of hs A a ps) (list_fits I rs hs ps (anchor A a) a st exists t.cols t.leaves t.pieces).0

  -- by sums over the rows with the names of their columns
  pub law : (s : SideTree) → SideStands I A s → (g : Named → ℕ) → total g (named_rows s A I) ≡ named_total I A wide g (head_of s A) (side_terms s A)
  law (input r) h g = law_input I A wide r g
  law (proj a s) h g = law_proj I A wide (head_of s A) (side_terms s A) a (named_rows s A I) h.0.0 (side_stands I A wide s h.1) (law s h.1) g
  law (filtered p a s) h g =
      law_cond I A wide (head_of s A) (side_terms s A) (λ ps. Pred p (list_of (head_of s A) A a ps)) (λ w. is_true I p (values_at A I a w)) (named_rows s A I) (side_stands I A wide s h.2)
      (λ rs cs ps t e ch. ap (is_true I p) (sym (column_values I A wide (head_of s A) rs cs ps a h.0.0 t e ch))) (law s h.2) g
  law (inner_join a b s t) h g =
      total-flat_map g (λ v. joined A I a b v (named_rows t A I)) (named_rows s A I)
      ∙ total_ext _ _ (named_rows s A I) (λ v. joined-total A I g a b v (named_rows t A I))
      ∙ law_inner I A wide (head_of s A) (head_of t A) (side_terms s A) (side_terms t A) a b (named_rows s A I) (named_rows t A I) h.0.0 h.1.0 (side_stands I A wide s h.2) (side_stands I A wide t h.3) (within (head_of s A) a h.0.0 h.0.1) (law s h.2) (law t h.3) g
  law (left_join a b s t) h g =
      total-flat_map g (λ v. or_nulls v (columns_of t A I) (joined A I a b v (named_rows t A I))) (named_rows s A I)
      ∙ total_ext _ (λ v. total (λ w. only (matching A I a b v w) (g (v ++ w))) (named_rows t A I) + only (not (list_any (λ w. matching A I a b v w) (named_rows t A I))) (g (v ++ rows.nulls (columns_of t A I)))) (named_rows s A I) one
      ∙ total-add _ _ (named_rows s A I)
      ∙ ap (λ n. n + total (λ v. only (not (list_any (λ w. matching A I a b v w) (named_rows t A I))) (g (v ++ rows.nulls (columns_of t A I)))) (named_rows s A I))
      (law_inner I A wide (head_of s A) (head_of t A) (side_terms s A) (side_terms t A) a b (named_rows s A I) (named_rows t A I) h.0.0 h.1.0 (side_stands I A wide s h.2) (side_stands I A wide t h.3) (within (head_of s A) a h.0.0 h.0.1) (law s h.2) (law t h.3) g)
      ∙ ap (λ n. named_total I A wide g (head_of s A ++ head_of t A) (join_terms (list_of (head_of s A) A a) (list_of (head_of t A) A b) (side_terms s A) (side_terms t A)) + n)
      (law_left I A wide (head_of s A) t (side_terms s A) a b (named_rows s A I) (named_rows t A I) h.0.0 h.1.0 h.1.1 (side_stands I A wide s h.2) (side_stands I A wide t h.3) (law s h.2) (law t h.3) g)
      ∙ sym (terms_total-append (term_total I (λ p. g (named_row I (head_of s A ++ head_of t A) p)))
      (join_terms (list_of (head_of s A) A a) (list_of (head_of t A) A b) (side_terms s A) (side_terms t A))
      (each_term (null_term (λ ps. not_in (list_of (head_of s A) A a ps) (list_part A b ∷ []) (each_term (proj_term (list_of (head_of t A) A b)) (side_terms t A))) (head_of t A)) (side_terms s A)))
    where
      one : (v : Named) → total g (or_nulls v (columns_of t A I) (joined A I a b v (named_rows t A I)))
          ≡ total (λ w. only (matching A I a b v w) (g (v ++ w))) (named_rows t A I) + only (not (list_any (λ w. matching A I a b v w) (named_rows t A I))) (g (v ++ rows.nulls (columns_of t A I)))
      one v = padded-total A I g a b v (columns_of t A I) (named_rows t A I)
  law (in_sub a s t) h g =
      law_cond I A wide (head_of s A) (side_terms s A) (λ ps. is_in (list_of (head_of s A) A a ps) (head_of t A) (side_terms t A)) (λ v. list_any (λ w. row_matches (values_at A I a v) (values w)) (named_rows t A I)) (named_rows s A I) (side_stands I A wide s h.1)
      (λ rs cs ps t' e ch.
      sym (any_named I A wide (head_of t A) (side_terms t A) (named_rows t A I) (stands_rows I wide (head_of t A) (side_terms t A) (side_stands I A wide t h.2)) (law t h.2) (λ vs. row_matches (values_of I e (list_of (head_of s A) A a ps)) vs))
      ∙ ap (λ vs. list_any (λ w. row_matches vs (values w)) (named_rows t A I)) (sym (column_values I A wide (head_of s A) rs cs ps a h.0.0 t' e ch))) (law s h.1) g
  law (dedup s) h g = law_dedup (head_of s A) (side_terms s A) (named_rows s A I) (stands_rows I wide (head_of s A) (side_terms s A) (side_stands I A wide s h)) (law s h) g

  -- the rows of a side and those of its form, put together
  pub translated : (s : SideTree) → SideStands I A s → SameSums (rows.rows_of s A I) (map put_together (terms_rows (side_terms s A) I))
  translated s h = record {
    sums = λ g.
        total-map g values (named_rows s A I)
        ∙ law s h (λ w. g (values w))
        ∙ sym (total-terms I (λ p. g (values (named_row I (head_of s A) p))) (side_terms s A))
        ∙ total_each _ _ (terms_rows (side_terms s A) I) (each_implies (RowFits I (head_of s A)) _ (terms_rows (side_terms s A) I) (λ row f. ap g (values_put I A wide (head_of s A) row (row_reads I (head_of s A) row f)))
        (stands_rows I wide (head_of s A) (side_terms s A) (side_stands I A wide s h)))
        ∙ sym (total-map g put_together (terms_rows (side_terms s A) I));
  }
