-- Two variables that stand for one row become one.
use Rattle.std.proofs.Common.{ℕ, ◌<◌, Bool, true, false, List, [], ◌∷◌, ◌++◌, map, ◌≡◌, refl, sym, ap, ◌∙◌, subst, length, ◌⊎◌, inl, inr}
use Rattle.std.specs.Prelude.{slice_index_or}
use Rattle.std.proofs.lemmas.Bool.{false≢true}
use Rattle.wt_bag.specs.Bags.{total, only, SameSums}
use Rattle.wt_bag.specs.Choices.{choices, At, Has}
use Rattle.wt_bag.proofs.TotalLaws.{total-map, total_ext, total-zero, total_each}
use Rattle.wt_bag.proofs.EachLaws.{each_both}
use Rattle.wt_bag.proofs.ChoiceLaws.{length_choice, total-choices_at, total-choices_append}
use Rattle.wt_value.specs.Values.{Tuple, row_matches}
use Rattle.wt_value.proofs.Comparing.{row_matches_law}
use Rattle.wt_symbol.specs.declared.head.PartCols.TheVariants.{List as Listed}
use Rattle.wt_form.specs.declared.form.Expr.{Expr}
use Rattle.wt_form.specs.declared.form.Expr.TheVariants.{Of}
use Rattle.wt_form.specs.Trees.{Terms, Ranges, range_then, Rel, Conds, Cond}
use Rattle.wt_form.specs.Parts.{one_term, ranges_append, ranges_count, ranges_list, conds_list, conds_map}
use Rattle.wt_form.specs.Known.{Known}
use Rattle.wt_form.specs.Congruent.{expr_same}
use Rattle.wt_instance.specs.declared.instance.Instance.{Instance}
use Rattle.wt_instance.specs.Instances.{table, numbers}
use Rattle.wt_value.specs.Values.{pick}
use Rattle.wt_instance.specs.Meeting.{IsUnique}
use Rattle.wt_rows.specs.FormRows.{Env, FormRow, numbered, values_of, row_of, terms_rows, ranges_rows, range_rows, conds_hold}
use Rattle.wt_rows.specs.Holding.{KnownHolds}
use Rattle.wt_bag.proofs.UniqueLists.{diagonal}
use Rattle.wt_form.specs.Facts.{Joins}
use Rattle.wt_form.specs.Places.{itself}
use Rattle.wt_form.specs.Changes.{expr_onto}
use Rattle.wt_form.specs.Joining.{JoinedTogether, Merged}
use Rattle.wt_rows.proofs.Sums.{term_total, total-one, cond_there, ranges_rows-append, length-ranges_rows}
use Rattle.wt_rows.proofs.Values.{Chosen, each_chosen, row_chosen, values_picked, matches_itself, matched_not_null, matched_equal, same_values, joined_match}
use Rattle.wt_rows.proofs.Vars.{get_here, get_left, value_onto, conds_keep, row_keeps, at_before}

-- a sum over rows that count only where they match a row of a unique list
by_diagonal : (ns : List ℕ) (rows : List Tuple) (row : Tuple) (holds : Tuple → Bool) (n : Tuple → ℕ) → IsUnique ns rows → Has row rows →
    ((w : Tuple) → holds w ≡ true → row_matches (pick ns row) (pick ns w) ≡ true) → total (λ w. only (holds w) (n w)) rows ≡ only (holds row) (n row)
by_diagonal ns rows row holds n u h only_if = go (row_matches (pick ns row) (pick ns row)) refl
  where
    under : (w : Tuple) (b m : Bool) → (b ≡ true → m ≡ true) → only b (n w) ≡ only m (only b (n w))
    under w true m k = sym (ap (λ t. only t (n w)) (k refl))
    under w false true k = refl
    under w false false k = refl

    go : (b : Bool) → row_matches (pick ns row) (pick ns row) ≡ b → total (λ w. only (holds w) (n w)) rows ≡ only (holds row) (n row)
    go true q = total_ext _ _ rows (λ w. under w (holds w) (row_matches (pick ns row) (pick ns w)) (only_if w)) ∙ diagonal row_matches row_matches_law (pick ns) (λ w. only (holds w) (n w)) row rows u h q
    go false q = total_ext _ (λ w. 0) rows (λ w. ap (λ b. only b (n w)) (never w (holds w) refl)) ∙ total-zero rows ∙ sym (ap (λ b. only b (n row)) (never row (holds row) refl))
      where
        never : (w : Tuple) (b : Bool) → holds w ≡ b → holds w ≡ false
        never w false k = k
        never w true k = absurd (false≢true (sym q ∙ matches_itself (pick ns row) (matched_not_null (pick ns row) (pick ns w) (only_if w k))))

module _ (K : Known) (I : Instance) (means : KnownHolds K I) where
  -- the rows of two variables that are joined together match
  together : (rs : Ranges) (cs : Conds) (a x y : ℕ) (e : Env) (row row' : Tuple) → JoinedTogether K rs cs a x y → conds_hold cs I e ≡ true →
      slice_index_or e x [] ≡ numbered 0 row ∷ [] → slice_index_or e y [] ≡ numbered 0 row' ∷ [] → row_matches (pick (numbers I a) row) (pick (numbers I a) row') ≡ true
  together rs cs a x y e row row' j o p p' = go j.4
    where
      left : values_of I e (Of x 0 (Listed j.0)) ≡ pick (numbers I a) row
      left = values_picked I e x j.0 row p ∙ ap (λ ns. pick ns row) (means.lists j.0 a j.2)

      right : values_of I e (Of y 0 (Listed j.1)) ≡ pick (numbers I a) row'
      right = values_picked I e y j.1 row' p' ∙ ap (λ ns. pick ns row') (means.lists j.1 a j.3)

      go : ((q : Cond) × Has q (conds_list cs) × Joins (Of x 0 (Listed j.0)) (Of y 0 (Listed j.1)) q)
          ⊎ ((p : Cond) × (q : Cond) × (z : Expr) × (z' : Expr) × Has p (conds_list cs) × Has q (conds_list cs)
          × Joins (Of x 0 (Listed j.0)) z p × Joins (Of y 0 (Listed j.1)) z' q × (expr_same K (itself rs) z z' ≡ true)) → row_matches (pick (numbers I a) row) (pick (numbers I a) row') ≡ true
      go (inl k) = rw (sym left, sym right) (joined_match K I means e (Of x 0 (Listed j.0)) (Of y 0 (Listed j.1)) k.0 k.2 (cond_there I e k.0 cs k.1 o))
      go (inr k) =
          let m : row_matches (values_of I e (Of x 0 (Listed j.0))) (values_of I e k.2) ≡ true = joined_match K I means e (Of x 0 (Listed j.0)) k.2 k.0 k.6 (cond_there I e k.0 cs k.4 o) in
          let m' : row_matches (values_of I e (Of y 0 (Listed j.1))) (values_of I e k.3) ≡ true = joined_match K I means e (Of y 0 (Listed j.1)) k.3 k.1 k.7 (cond_there I e k.1 cs k.5 o) in
          let q : pick (numbers I a) row' ≡ values_of I e k.2 = sym right ∙ matched_equal (values_of I e (Of y 0 (Listed j.1))) (values_of I e k.3) m' ∙ same_values K I means rs e k.2 k.3 k.8 in
          ap (row_matches (pick (numbers I a) row)) q ∙ ap (λ vs. row_matches vs (values_of I e k.2)) (sym left) ∙ m

  merged_sums : (rs : Ranges) (cs : Conds) (ps : List Expr) (us : Terms) (s : Merged K rs cs ps us) (g : FormRow → ℕ) →
      term_total I g (ranges_append s.at.before (range_then (Rel s.s) s.at.after)) cs ps
      ≡ term_total I g (ranges_append s.at.before s.at.after) (conds_map (expr_onto s.x (ranges_count s.at.before)) cs) (map (expr_onto s.x (ranges_count s.at.before)) ps)
  merged_sums rs cs ps us s g =
      ap (λ l. total W (choices l)) (ranges_rows-append I s.at.before (range_then (Rel s.s) s.at.after))
      ∙ total-choices_at W (ranges_rows s.at.before I) (range_rows (Rel s.s) I) (ranges_rows s.at.after I)
      ∙ total_each _ _ (choices (ranges_rows s.at.before I)) (each_both _ _ _ (choices (ranges_rows s.at.before I)) (λ a l c. total_ext _ _ (choices (ranges_rows s.at.after I)) (λ b. here a b (l ∙ length-ranges_rows I s.at.before) c)) (length_choice (ranges_rows s.at.before I)) (each_chosen I s.at.before))
      ∙ sym (total-choices_append V (ranges_rows s.at.before I) (ranges_rows s.at.after I))
      ∙ ap (λ l. total V (choices l)) (sym (ranges_rows-append I s.at.before s.at.after))
    where
      W : Env → ℕ
      W e = only (conds_hold cs I e) (g (row_of I ps e))

      V : Env → ℕ
      V e = only (conds_hold (conds_map (expr_onto s.x (ranges_count s.at.before)) cs) I e) (g (row_of I (map (expr_onto s.x (ranges_count s.at.before)) ps) e))

      here : (a b : Env) → length a ≡ ranges_count s.at.before → Chosen I s.at.before a → total (λ c. W (a ++ c ∷ b)) (range_rows (Rel s.s) I) ≡ V (a ++ b)
      here a b l c =
          let x = row_chosen I s.r s.x (ranges_list s.at.before) a c (at_before (λ range. range ≡ Rel s.r) s.x s.at.before (range_then (Rel s.s) s.at.after) s.before (subst (λ qs. At (λ range. range ≡ Rel s.r) s.x (ranges_list qs)) s.at.is s.over)) in
          let same : table I s.r ≡ table I s.s = means.tables s.r s.s s.leaf in
          total-map (λ c. W (a ++ c ∷ b)) (λ row. numbered 0 row ∷ []) (table I s.s)
          ∙ by_diagonal (numbers I s.a) (table I s.s) x.0 (λ w. conds_hold cs I (a ++ (numbered 0 w ∷ []) ∷ b)) (λ w. g (row_of I ps (a ++ (numbered 0 w ∷ []) ∷ b)))
          (subst (λ t. IsUnique (numbers I s.a) t) same (means.unique s.r s.a s.unique)) (subst (Has x.0) same x.1)
          (λ w o. together rs cs s.a s.x (ranges_count s.at.before) (a ++ (numbered 0 w ∷ []) ∷ b) x.0 w s.joined o
          (get_left a ((numbered 0 w ∷ []) ∷ b) s.x (subst (λ n. s.x < n) (sym l) s.before) ∙ x.2) (get_here a b (numbered 0 w ∷ []) (ranges_count s.at.before) l))
          ∙ ap (λ p. W (a ++ p ∷ b)) (sym x.2)
          ∙ sym (rw (
            conds_keep I (expr_onto s.x (ranges_count s.at.before)) (a ++ slice_index_or a s.x [] ∷ b) (a ++ b) (λ z. value_onto I a b s.x (ranges_count s.at.before) z l s.before) cs,
            row_keeps I (expr_onto s.x (ranges_count s.at.before)) (a ++ slice_index_or a s.x [] ∷ b) (a ++ b) (λ z. value_onto I a b s.x (ranges_count s.at.before) z l s.before) ps,
          ) refl)

  pub merged_keeps : (rs : Ranges) (cs : Conds) (ps : List Expr) (us : Terms) → Merged K rs cs ps us → SameSums (terms_rows (one_term rs cs ps) I) (terms_rows us I)
  merged_keeps rs cs ps us s =
      subst (λ ts. SameSums (terms_rows (one_term rs cs ps) I) (terms_rows ts I)) (sym s.gives) (record {
        sums = λ g.
            total-one I g rs cs ps ∙ ap (λ qs. term_total I g qs cs ps) s.at.is ∙ merged_sums rs cs ps us s g
            ∙ sym (total-one I g (ranges_append s.at.before s.at.after) (conds_map (expr_onto s.x (ranges_count s.at.before)) cs) (map (expr_onto s.x (ranges_count s.at.before)) ps));
      })
