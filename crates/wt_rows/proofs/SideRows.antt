-- The rows of a side are those of its form.
use Rattle.std.proofs.Common.{ℕ, zero, suc, ◌+◌, ◌<◌, Bool, ◌&&◌, ◌||◌, not, List, [], ◌∷◌, ◌++◌, map, filter, ◌≡◌, refl, sym, ap, ◌∙◌, subst, arith, length}
use Rattle.std.specs.List.{list_any}
use Rattle.std.proofs.lemmas.List.{append-nil, append_assoc, map-append, length-map}
use Rattle.wt_bag.specs.Bags.{total, only, Each}
use Rattle.wt_bag.specs.Choices.{choices}
use Rattle.wt_bag.proofs.TotalLaws.{total-map, total-filter, total_ext, total_each, only-total, only-and}
use Rattle.wt_bag.proofs.ChoiceLaws.{total-choices_cons, total-choices_append, length_choice}
use Rattle.wt_bag.proofs.EachLaws.{each_implies}
use Rattle.wt_bag.proofs.BagLaws.{positive, list_any-total}
use Rattle.wt_value.specs.declared.value.Value.TheVariants.{Null}
use Rattle.wt_value.specs.Values.{Tuple, row_matches}
use Rattle.wt_symbol.specs.declared.head.Part.{Part}
use Rattle.wt_symbol.specs.declared.head.PartCols.{PartCols}
use Rattle.wt_symbol.specs.declared.head.PartCols.TheVariants.{Whole, List as Listed}
use Rattle.wt_symbol.specs.Sides.{SideTree, input, proj, filtered, inner_join, left_join, in_sub, dedup}
use Rattle.wt_symbol.specs.Heads.{anchor, head_of}
use Rattle.wt_form.specs.declared.form.Expr.{Expr}
use Rattle.wt_form.specs.declared.form.Expr.TheVariants.{Of, Null as NullOf}
use Rattle.wt_form.specs.Trees.{Terms, Ranges, no_ranges, range_then, Rel, Conds, no_conds, Cond, Join, not_in}
use Rattle.wt_form.specs.Parts.{one_term, ranges_append, conds_append, with_cond, conds_up, expr_up, ranges_count, conds_list}
use Rattle.wt_form.specs.FormOf.{each_term, list_of, list_part, proj_term, cond_term, null_pieces, null_term, join_term, join_terms, side_terms}
use Rattle.wt_form.specs.Closed.{IsWithin}
use Rattle.wt_instance.specs.declared.instance.Instance.{Instance}
use Rattle.wt_instance.specs.Instances.{width, table, numbers, IsWide}
use Rattle.wt_instance.specs.Rows as rows
use Rattle.wt_instance.specs.Rows.{Named, cell, values, values_at, cells_at, named, leaf_columns, columns_of, named_same, named_rows}
use Rattle.wt_instance.specs.SideBags.{matching}
use Rattle.wt_instance.proofs.SideBags.{list_any-map}
use Rattle.wt_rows.specs.FormRows.{Piece, Env, FormRow, values_in, numbered, beside, label, part_values, nulls, values_of, row_of, put_together, terms_rows, ranges_rows, range_rows, conds_hold, cond_holds}
use Rattle.wt_rows.specs.Fits.{ExprFits, RowFits}
use Rattle.wt_rows.proofs.Sums.{term_total, conds_hold-append, ranges_rows-append, length-ranges_rows}
use Rattle.wt_rows.proofs.Reading.{RowReads, row_reads, values_numbered}
use Rattle.wt_rows.proofs.Values.{Chosen, each_chosen}
use Rattle.wt_rows.proofs.Open.{OfCond}
use Rattle.wt_rows.proofs.Exist.{expr_within, conds_exprs}
use Rattle.wt_rows.proofs.TermSums.{EachTerm, terms_total, total-terms, terms_total-each_term, terms_total_by, one_total, swap_terms, conds_hold-with_cond, values_left, values_right, conds_left, conds_right, row_left, row_right, row_of-append}
use Rattle.wt_rows.proofs.Naming.{named_piece, named_row, HaveCols, ListStands, list_values, named_list}
use Rattle.wt_rows.proofs.SideFits.{TermStands, stands_rows, projs}

values-named_piece : (r : ℕ) (p : Piece) → values (named_piece r p) ≡ values_in p
values-named_piece r [] = refl
values-named_piece r (x ∷ p) = ap (λ vs. x.1 ∷ vs) (values-named_piece r p)

module _ (I : Instance) (A : List ℕ) (wide : (r : ℕ) → IsWide I r) where
  -- the sum over the terms, at named rows
  abbrev pub named_total : (Named → ℕ) → List Part → Terms → ℕ
  named_total g hs ts = terms_total (term_total I (λ p. g (named_row I hs p))) ts

  -- a term's sum, changed at each choice
  term_each : (rs : Ranges) (cs cs' : Conds) (ps ps' : List Expr) (g g' : FormRow → ℕ) →
      ((e : Env) → Chosen I rs e → only (conds_hold cs I e) (g (row_of I ps e)) ≡ only (conds_hold cs' I e) (g' (row_of I ps' e))) → term_total I g rs cs ps ≡ term_total I g' rs cs' ps'
  term_each rs cs cs' ps ps' g g' h = total_each _ _ (choices (ranges_rows rs I)) (each_implies (Chosen I rs) _ (choices (ranges_rows rs I)) h (each_chosen I rs))

  -- the values of list a in the row of a choice
  pub column_values : (hs : List Part) (rs : Ranges) (cs : Conds) (ps : List Expr) (a : ℕ) → ListStands I hs (anchor A a) a → TermStands I hs rs cs ps → (e : Env) → Chosen I rs e →
      values_at A I a (named_row I hs (row_of I ps e)) ≡ values_of I e (list_of hs A a ps)
  column_values hs rs cs ps a st t e ch = list_values I rs e hs ps (anchor A a) a ch st t.cols t.pieces

  -- and its columns
  columns : (hs : List Part) (rs : Ranges) (cs : Conds) (ps : List Expr) (a : ℕ) → ListStands I hs (anchor A a) a → TermStands I hs rs cs ps → (e : Env) → Chosen I rs e →
      cells_at A I a (named_row I hs (row_of I ps e)) ≡ named_row I (list_part A a ∷ []) (row_of I (list_of hs A a ps ∷ []) e)
  columns hs rs cs ps a st t e ch =
      named_list (anchor A a) (rows.value_at (named_row I hs (row_of I ps e)) (anchor A a)) (numbers I a)
      ∙ ap (λ vs. named_piece (anchor A a) (beside (numbers I a) vs)) (column_values hs rs cs ps a st t e ch)
      ∙ sym (append-nil (named_piece (anchor A a) (beside (numbers I a) (values_of I e (list_of hs A a ps)))))

  pub law_proj : (hs : List Part) (ts : Terms) (a : ℕ) (old : List Named) → ListStands I hs (anchor A a) a → EachTerm (TermStands I hs) ts → ((g : Named → ℕ) → total g old ≡ named_total g hs ts) →
      (g : Named → ℕ) → total g (map (cells_at A I a) old) ≡ named_total g (list_part A a ∷ []) (each_term (proj_term (list_of hs A a)) ts)
  law_proj hs ts a old st stands ih g =
      total-map g (cells_at A I a) old
      ∙ ih (λ w. g (cells_at A I a w))
      ∙ terms_total_by (TermStands I hs) _ _ ts (λ rs cs ps t.
      term_each rs cs cs ps (list_of hs A a ps ∷ []) (λ p. g (cells_at A I a (named_row I hs p))) (λ p. g (named_row I (list_part A a ∷ []) p)) (λ e ch. ap (λ w. only (conds_hold cs I e) (g w)) (columns hs rs cs ps a st t e ch))
      ∙ sym (one_total (term_total I (λ p. g (named_row I (list_part A a ∷ []) p))) rs cs (list_of hs A a ps ∷ []))) stands
      ∙ sym (terms_total-each_term (term_total I (λ p. g (named_row I (list_part A a ∷ []) p))) (proj_term (list_of hs A a)) ts)

  -- one condition more, which says of a choice what the test says of its row
  pub law_cond : (hs : List Part) (ts : Terms) (c : List Expr → Cond) (test : Named → Bool) (old : List Named) → EachTerm (TermStands I hs) ts →
      ((rs : Ranges) (cs : Conds) (ps : List Expr) → TermStands I hs rs cs ps → (e : Env) → Chosen I rs e → cond_holds (c ps) I e ≡ test (named_row I hs (row_of I ps e))) → ((g : Named → ℕ) → total g old ≡ named_total g hs ts) →
      (g : Named → ℕ) → total g (filter test old) ≡ named_total g hs (each_term (cond_term c) ts)
  law_cond hs ts c test old stands says ih g =
      total-filter g test old
      ∙ ih (λ w. only (test w) (g w))
      ∙ terms_total_by (TermStands I hs) _ _ ts (λ rs cs ps t.
      term_each rs cs (with_cond cs (c ps)) ps ps (λ p. only (test (named_row I hs p)) (g (named_row I hs p))) (λ p. g (named_row I hs p))
      (λ e ch. sym (only-and (conds_hold cs I e) (test (named_row I hs (row_of I ps e))) (g (named_row I hs (row_of I ps e))))
      ∙ ap (λ b. only b (g (named_row I hs (row_of I ps e)))) (ap (λ b. conds_hold cs I e && b) (sym (says rs cs ps t e ch)) ∙ sym (conds_hold-with_cond I e cs (c ps))))
      ∙ sym (one_total (term_total I (λ p. g (named_row I hs p))) rs (with_cond cs (c ps)) ps)) stands
      ∙ sym (terms_total-each_term (term_total I (λ p. g (named_row I hs p))) (cond_term c) ts)

  named_row-append : (hs gs : List Part) (ps : List Expr) (q : FormRow) (e : Env) → HaveCols hs ps → named_row I (hs ++ gs) (row_of I ps e ++ q) ≡ named_row I hs (row_of I ps e) ++ named_row I gs q
  named_row-append [] gs [] q e al = refl
  named_row-append (h ∷ hs) gs (p ∷ ps) q e al =
      ap (λ w. named_piece h.leaf (label I h.cols (values_of I e p)) ++ w) (named_row-append hs gs ps q e al.1)
      ∙ sym (append_assoc (named_piece h.leaf (label I h.cols (values_of I e p))) (named_row I hs (row_of I ps e)) (named_row I gs q))
  named_row-append [] gs (p ∷ ps) q e al = absurd al
  named_row-append (h ∷ hs) gs [] q e al = absurd al

  joined_conds : (e e' : Env) (cs cs' : Conds) (x y : Expr) → Each (OfCond (IsWithin (length e))) (conds_list cs) → IsWithin (length e) x →
      conds_hold (with_cond (conds_append cs (conds_up (length e) cs')) (Join x (expr_up (length e) y))) I (e ++ e')
      ≡ ((conds_hold cs I e && conds_hold cs' I e') && row_matches (values_of I e x) (values_of I e' y))
  joined_conds e e' cs cs' x y wc wx =
      conds_hold-with_cond I (e ++ e') (conds_append cs (conds_up (length e) cs')) (Join x (expr_up (length e) y))
      ∙ rw (conds_hold-append I (e ++ e') cs (conds_up (length e) cs'), conds_left I e e' cs wc, conds_right I e e' cs', values_left I e e' x wx, values_right I e e' y) refl

  joined_row : (hs gs : List Part) (e e' : Env) (ps ps' : List Expr) → HaveCols hs ps → Each (IsWithin (length e)) ps →
      named_row I (hs ++ gs) (row_of I (ps ++ map (expr_up (length e)) ps') (e ++ e')) ≡ named_row I hs (row_of I ps e) ++ named_row I gs (row_of I ps' e')
  joined_row hs gs e e' ps ps' al w =
      ap (named_row I (hs ++ gs)) (row_of-append I (e ++ e') ps (map (expr_up (length e)) ps') ∙ rw (row_left I e e' ps w, row_right I e e' ps') refl)
      ∙ named_row-append hs gs ps (row_of I ps' e') e al

  joined_one : (hs gs : List Part) (e e' : Env) (cs cs' : Conds) (ps ps' : List Expr) (x y : Expr) (g : Named → ℕ) → HaveCols hs ps → Each (IsWithin (length e)) ps → Each (OfCond (IsWithin (length e))) (conds_list cs) → IsWithin (length e) x →
      only (conds_hold (with_cond (conds_append cs (conds_up (length e) cs')) (Join x (expr_up (length e) y))) I (e ++ e')) (g (named_row I (hs ++ gs) (row_of I (ps ++ map (expr_up (length e)) ps') (e ++ e'))))
      ≡ only (conds_hold cs I e) (only (conds_hold cs' I e') (only (row_matches (values_of I e x) (values_of I e' y)) (g (named_row I hs (row_of I ps e) ++ named_row I gs (row_of I ps' e')))))
  joined_one hs gs e e' cs cs' ps ps' x y g al w wc wx =
      ap (λ b. only b (g (named_row I (hs ++ gs) (row_of I (ps ++ map (expr_up (length e)) ps') (e ++ e'))))) (joined_conds e e' cs cs' x y wc wx)
      ∙ ap (λ v. only ((conds_hold cs I e && conds_hold cs' I e') && row_matches (values_of I e x) (values_of I e' y)) (g v)) (joined_row hs gs e e' ps ps' al w)
      ∙ only-and (conds_hold cs I e && conds_hold cs' I e') (row_matches (values_of I e x) (values_of I e' y)) (g (named_row I hs (row_of I ps e) ++ named_row I gs (row_of I ps' e')))
      ∙ only-and (conds_hold cs I e) (conds_hold cs' I e') (only (row_matches (values_of I e x) (values_of I e' y)) (g (named_row I hs (row_of I ps e) ++ named_row I gs (row_of I ps' e'))))

  -- two terms put together: a choice is a choice of each
  joined_total : (hs gs : List Part) (rs rs' : Ranges) (cs cs' : Conds) (ps ps' : List Expr) (x y : Expr) (g : Named → ℕ) → TermStands I hs rs cs ps → TermStands I gs rs' cs' ps' → IsWithin (ranges_count rs) x →
      term_total I (λ p. g (named_row I (hs ++ gs) p)) (ranges_append rs rs') (with_cond (conds_append cs (conds_up (ranges_count rs) cs')) (Join x (expr_up (ranges_count rs) y))) (ps ++ map (expr_up (ranges_count rs)) ps')
      ≡ total (λ e. only (conds_hold cs I e) (total (λ e'. only (conds_hold cs' I e') (only (row_matches (values_of I e x) (values_of I e' y)) (g (named_row I hs (row_of I ps e) ++ named_row I gs (row_of I ps' e'))))) (choices (ranges_rows rs' I)))) (choices (ranges_rows rs I))
  joined_total hs gs rs rs' cs cs' ps ps' x y g t t' wx =
      ap (λ l. total W (choices l)) (ranges_rows-append I rs rs')
      ∙ total-choices_append W (ranges_rows rs I) (ranges_rows rs' I)
      ∙ total_each _ _ (choices (ranges_rows rs I)) (each_implies _ _ (choices (ranges_rows rs I)) (λ e l. at_left e (l ∙ length-ranges_rows I rs)) (length_choice (ranges_rows rs I)))
    where
      W : Env → ℕ
      W e = only (conds_hold (with_cond (conds_append cs (conds_up (ranges_count rs) cs')) (Join x (expr_up (ranges_count rs) y))) I e) (g (named_row I (hs ++ gs) (row_of I (ps ++ map (expr_up (ranges_count rs)) ps') e)))

      one : (e e' : Env) (k : ℕ) → length e ≡ k → Each (IsWithin k) ps → Each (OfCond (IsWithin k)) (conds_list cs) → IsWithin k x →
          only (conds_hold (with_cond (conds_append cs (conds_up k cs')) (Join x (expr_up k y))) I (e ++ e')) (g (named_row I (hs ++ gs) (row_of I (ps ++ map (expr_up k) ps') (e ++ e'))))
          ≡ only (conds_hold cs I e) (only (conds_hold cs' I e') (only (row_matches (values_of I e x) (values_of I e' y)) (g (named_row I hs (row_of I ps e) ++ named_row I gs (row_of I ps' e')))))
      one e e' k q wp wc wx' = subst (λ k'. only (conds_hold (with_cond (conds_append cs (conds_up k' cs')) (Join x (expr_up k' y))) I (e ++ e')) (g (named_row I (hs ++ gs) (row_of I (ps ++ map (expr_up k') ps') (e ++ e'))))
          ≡ only (conds_hold cs I e) (only (conds_hold cs' I e') (only (row_matches (values_of I e x) (values_of I e' y)) (g (named_row I hs (row_of I ps e) ++ named_row I gs (row_of I ps' e'))))))
          q (joined_one hs gs e e' cs cs' ps ps' x y g t.cols (subst (λ k'. Each (IsWithin k') ps) (sym q) wp) (subst (λ k'. Each (OfCond (IsWithin k')) (conds_list cs)) (sym q) wc) (subst (λ k'. IsWithin k' x) (sym q) wx'))

      at_left : (e : Env) → length e ≡ ranges_count rs →
          total (λ e'. W (e ++ e')) (choices (ranges_rows rs' I))
          ≡ only (conds_hold cs I e) (total (λ e'. only (conds_hold cs' I e') (only (row_matches (values_of I e x) (values_of I e' y)) (g (named_row I hs (row_of I ps e) ++ named_row I gs (row_of I ps' e'))))) (choices (ranges_rows rs' I)))
      at_left e l =
          total_ext _ _ (choices (ranges_rows rs' I)) (λ e'. one e e' (ranges_count rs) l (each_implies (ExprFits I rs) (IsWithin (ranges_count rs)) ps (expr_within I rs) t.pieces) (conds_exprs I rs (IsWithin (ranges_count rs)) (expr_within I rs) cs t.conds) wx)
          ∙ sym (only-total (conds_hold cs I e) _ (choices (ranges_rows rs' I)))

  pub law_inner : (hs gs : List Part) (ss ts : Terms) (a b : ℕ) (old old' : List Named) → ListStands I hs (anchor A a) a → ListStands I gs (anchor A b) b → EachTerm (TermStands I hs) ss → EachTerm (TermStands I gs) ts →
      ((rs : Ranges) (cs : Conds) (ps : List Expr) → TermStands I hs rs cs ps → IsWithin (ranges_count rs) (list_of hs A a ps)) → ((g : Named → ℕ) → total g old ≡ named_total g hs ss) → ((g : Named → ℕ) → total g old' ≡ named_total g gs ts) →
      (g : Named → ℕ) → total (λ v. total (λ w. only (matching A I a b v w) (g (v ++ w))) old') old ≡ named_total g (hs ++ gs) (join_terms (list_of hs A a) (list_of gs A b) ss ts)
  law_inner hs gs ss ts a b old old' st st' stands stands' wl ih ih' g =
      total_ext _ _ old (λ v. ih' (λ w. only (matching A I a b v w) (g (v ++ w))))
      ∙ ih (λ v. named_total (λ w. only (matching A I a b v w) (g (v ++ w))) gs ts)
      ∙ terms_total_by (TermStands I hs) _ _ ss (λ rs cs ps t. at_left rs cs ps t) stands
      ∙ sym (terms_total-each_term W (λ rs cs ps. each_term (join_term (list_of hs A a) (list_of gs A b) rs cs ps) ts) ss)
    where
      W : Ranges → Conds → List Expr → ℕ
      W = term_total I (λ p. g (named_row I (hs ++ gs) p))

      T : FormRow → Ranges → Conds → List Expr → ℕ
      T p = term_total I (λ q. only (matching A I a b (named_row I hs p) (named_row I gs q)) (g (named_row I hs p ++ named_row I gs q)))

      at_both : (rs : Ranges) (cs : Conds) (ps : List Expr) → TermStands I hs rs cs ps → (rs' : Ranges) (cs' : Conds) (ps' : List Expr) → TermStands I gs rs' cs' ps' →
          total (λ e. only (conds_hold cs I e) (T (row_of I ps e) rs' cs' ps')) (choices (ranges_rows rs I)) ≡ terms_total W (join_term (list_of hs A a) (list_of gs A b) rs cs ps rs' cs' ps')
      at_both rs cs ps t rs' cs' ps' t' =
          total_each _ _ (choices (ranges_rows rs I)) (each_implies (Chosen I rs) _ (choices (ranges_rows rs I)) (λ e ch. ap (only (conds_hold cs I e))
          (total_each _ _ (choices (ranges_rows rs' I)) (each_implies (Chosen I rs') _ (choices (ranges_rows rs' I)) (λ e' ch'.
          ap (λ m. only (conds_hold cs' I e') (only m (g (named_row I hs (row_of I ps e) ++ named_row I gs (row_of I ps' e')))))
          (rw (column_values hs rs cs ps a st t e ch, column_values gs rs' cs' ps' b st' t' e' ch') refl)) (each_chosen I rs')))) (each_chosen I rs))
          ∙ sym (joined_total hs gs rs rs' cs cs' ps ps' (list_of hs A a ps) (list_of gs A b ps') g t t' (wl rs cs ps t))
          ∙ sym (one_total W (ranges_append rs rs') (with_cond (conds_append cs (conds_up (ranges_count rs) cs')) (Join (list_of hs A a ps) (expr_up (ranges_count rs) (list_of gs A b ps')))) (ps ++ map (expr_up (ranges_count rs)) ps'))

      at_left : (rs : Ranges) (cs : Conds) (ps : List Expr) → TermStands I hs rs cs ps →
          term_total I (λ p. named_total (λ w. only (matching A I a b (named_row I hs p) w) (g (named_row I hs p ++ w))) gs ts) rs cs ps ≡ terms_total W (each_term (join_term (list_of hs A a) (list_of gs A b) rs cs ps) ts)
      at_left rs cs ps t =
          swap_terms (conds_hold cs I) (λ e. T (row_of I ps e)) ts (choices (ranges_rows rs I))
          ∙ terms_total_by (TermStands I gs) _ _ ts (λ rs' cs' ps' t'. at_both rs cs ps t rs' cs' ps' t') stands'
          ∙ sym (terms_total-each_term W (join_term (list_of hs A a) (list_of gs A b) rs cs ps) ts)

  pub values_put : (hs : List Part) (row : FormRow) → RowReads I hs row → values (named_row I hs row) ≡ put_together row
  values_put [] [] f = refl
  values_put (h ∷ hs) (vs ∷ row) f =
      map-append _ (named_piece h.leaf (label I h.cols vs)) (named_row I hs row)
      ∙ ap (λ l. l ++ values (named_row I hs row)) (values-named_piece h.leaf (label I h.cols vs) ∙ in_label h.cols vs f.0) ∙ ap (λ l. vs ++ l) (values_put hs row f.1)
    where
      in_beside : (ns : List ℕ) (vs : Tuple) → length vs ≡ length ns → values_in (beside ns vs) ≡ vs
      in_beside [] [] l = refl
      in_beside [] (v ∷ vs) l = let bad : ⊥ = omega (arith, l) in absurd bad
      in_beside (n ∷ ns) [] l = refl
      in_beside (n ∷ ns) (v ∷ vs) l = ap (λ z. v ∷ z) (in_beside ns vs (omega (arith, l)))

      in_label : (c : PartCols) (vs : Tuple) → part_values I c (label I c vs) ≡ vs → values_in (label I c vs) ≡ vs
      in_label Whole vs q = values_numbered 0 vs
      in_label (Listed a) vs q = in_beside (numbers I a) vs (ap length (sym q) ∙ length-map (numbers I a) _)
  values_put [] (vs ∷ row) f = absurd f
  values_put (h ∷ hs) [] f = absurd f

  -- a test of values finds a row in both or in neither
  pub any_named : (hs : List Part) (ts : Terms) (old : List Named) → Each (RowFits I hs) (terms_rows ts I) → ((g : Named → ℕ) → total g old ≡ named_total g hs ts) → (p : Tuple → Bool) →
      list_any (λ w. p (values w)) old ≡ list_any (λ q. p (put_together q)) (terms_rows ts I)
  any_named hs ts old fits ih p =
      list_any-total (λ w. p (values w)) old
      ∙ ap positive (ih (λ w. only (p (values w)) 1) ∙ sym (total-terms I (λ q. only (p (values (named_row I hs q))) 1) ts)
      ∙ total_each _ _ (terms_rows ts I) (each_implies (RowFits I hs) _ (terms_rows ts I) (λ row f. ap (λ vs. only (p vs) 1) (values_put hs row (row_reads I hs row f))) fits))
      ∙ sym (list_any-total (λ q. p (put_together q)) (terms_rows ts I))

  -- a row of NULLs under the names of a head
  nulls_numbered : (r k n : ℕ) → named_piece r (numbered k (nulls n)) ≡ rows.nulls (leaf_columns r k n)
  nulls_numbered r k zero = refl
  nulls_numbered r k (suc n) = ap (λ w. cell r k Null ∷ w) (nulls_numbered r (suc k) n)

  nulls_beside : (r : ℕ) (ns : List ℕ) → named_piece r (beside ns (map (λ n. Null) ns)) ≡ rows.nulls (map (rows.column r) ns)
  nulls_beside r [] = refl
  nulls_beside r (n ∷ ns) = ap (λ w. cell r n Null ∷ w) (nulls_beside r ns)

  null_cols : (gs : List Part) → HaveCols gs (null_pieces gs)
  null_cols [] = tt
  null_cols (g ∷ gs) = (refl, null_cols gs)

  null_pieces-append : (hs gs : List Part) → null_pieces (hs ++ gs) ≡ null_pieces hs ++ null_pieces gs
  null_pieces-append [] gs = refl
  null_pieces-append (h ∷ hs) gs = ap (λ l. NullOf h.leaf h.cols ∷ l) (null_pieces-append hs gs)

  both : (s t : SideTree) (e : Env) → rows.nulls (columns_of s A I) ≡ named_row I (head_of s A) (row_of I (null_pieces (head_of s A)) e) → rows.nulls (columns_of t A I) ≡ named_row I (head_of t A) (row_of I (null_pieces (head_of t A)) e) →
      rows.nulls (columns_of s A I) ++ rows.nulls (columns_of t A I) ≡ named_row I (head_of s A ++ head_of t A) (row_of I (null_pieces (head_of s A ++ head_of t A)) e)
  both s t e p q =
      ap (λ w. w ++ rows.nulls (columns_of t A I)) p ∙ ap (λ w. named_row I (head_of s A) (row_of I (null_pieces (head_of s A)) e) ++ w) q
      ∙ sym (ap (λ qs. named_row I (head_of s A ++ head_of t A) (row_of I qs e)) (null_pieces-append (head_of s A) (head_of t A))
      ∙ ap (named_row I (head_of s A ++ head_of t A)) (row_of-append I e (null_pieces (head_of s A)) (null_pieces (head_of t A)))
      ∙ named_row-append (head_of s A) (head_of t A) (null_pieces (head_of s A)) (row_of I (null_pieces (head_of t A)) e) e (null_cols (head_of s A)))

  null_columns : (s : SideTree) (e : Env) → rows.nulls (columns_of s A I) ≡ named_row I (head_of s A) (row_of I (null_pieces (head_of s A)) e)
  null_columns (input r) e = sym (nulls_numbered r 0 (width I r)) ∙ sym (append-nil (named_piece r (numbered 0 (nulls (width I r)))))
  null_columns (proj a s) e = sym (nulls_beside (anchor A a) (numbers I a)) ∙ sym (append-nil (named_piece (anchor A a) (beside (numbers I a) (map (λ n. Null) (numbers I a)))))
  null_columns (filtered p a s) e = null_columns s e
  null_columns (inner_join a b s t) e = map-append _ (columns_of s A I) (columns_of t A I) ∙ both s t e (null_columns s e) (null_columns t e)
  null_columns (left_join a b s t) e = map-append _ (columns_of s A I) (columns_of t A I) ∙ both s t e (null_columns s e) (null_columns t e)
  null_columns (in_sub a s t) e = null_columns s e
  null_columns (dedup s) e = null_columns s e

  pub law_left : (hs : List Part) (t : SideTree) (ss : Terms) (a b : ℕ) (old old' : List Named) → ListStands I hs (anchor A a) a → ListStands I (head_of t A) (anchor A b) b → b < length I.lists →
      EachTerm (TermStands I hs) ss → EachTerm (TermStands I (head_of t A)) (side_terms t A) → ((g : Named → ℕ) → total g old ≡ named_total g hs ss) → ((g : Named → ℕ) → total g old' ≡ named_total g (head_of t A) (side_terms t A)) →
      (g : Named → ℕ) → total (λ v. only (not (list_any (λ w. matching A I a b v w) old')) (g (v ++ rows.nulls (columns_of t A I)))) old
      ≡ named_total g (hs ++ head_of t A) (each_term (null_term (λ ps. not_in (list_of hs A a ps) (list_part A b ∷ []) (each_term (proj_term (list_of (head_of t A) A b)) (side_terms t A))) (head_of t A)) ss)
  law_left hs t ss a b old old' st st' exists stands stands' ih ih' g =
      ih (λ v. only (not (list_any (λ w. matching A I a b v w) old')) (g (v ++ rows.nulls (columns_of t A I))))
      ∙ terms_total_by (TermStands I hs) _ _ ss (λ rs cs ps s.
      term_each rs cs (with_cond cs (c ps)) ps (ps ++ null_pieces gs) (λ q. only (not (list_any (λ w. matching A I a b (named_row I hs q) w) old')) (g (named_row I hs q ++ rows.nulls (columns_of t A I))))
      (λ q. g (named_row I (hs ++ gs) q)) (λ e ch. at rs cs ps s e ch)
      ∙ sym (one_total W rs (with_cond cs (c ps)) (ps ++ null_pieces gs))) stands
      ∙ sym (terms_total-each_term W (null_term c gs) ss)
    where
      gs : List Part
      gs = head_of t A

      listed : Terms
      listed = each_term (proj_term (list_of gs A b)) (side_terms t A)

      c : List Expr → Cond
      c ps = not_in (list_of hs A a ps) (list_part A b ∷ []) listed

      W : Ranges → Conds → List Expr → ℕ
      W = term_total I (λ p. g (named_row I (hs ++ gs) p))

      says : (rs : Ranges) (cs : Conds) (ps : List Expr) → TermStands I hs rs cs ps → (e : Env) → Chosen I rs e → not (list_any (λ w. matching A I a b (named_row I hs (row_of I ps e)) w) old') ≡ cond_holds (c ps) I e
      says rs cs ps s e ch = ap not (
          ap (λ vs. list_any (λ w. row_matches vs (values_at A I b w)) old') (column_values hs rs cs ps a st s e ch)
          ∙ list_cells
          ∙ sym (list_any-map (λ w. row_matches (values_of I e (list_of hs A a ps)) (values w)) (cells_at A I b) old')
          ∙ any_named (list_part A b ∷ []) listed (map (cells_at A I b) old') (stands_rows I wide (list_part A b ∷ []) listed (projs I A wide gs b (side_terms t A) st' exists stands')) (law_proj gs (side_terms t A) b old' st' stands' ih')
          (λ vs. row_matches (values_of I e (list_of hs A a ps)) vs))
        where
          cells_values : (w : Named) → values_at A I b w ≡ values (cells_at A I b w)
          cells_values w = go (numbers I b)
            where
              go : (ns : List ℕ) → map (rows.value_at w (anchor A b)) ns ≡ values (map (λ n. cell (anchor A b) n (rows.value_at w (anchor A b) n)) ns)
              go [] = refl
              go (n ∷ ns) = ap (λ l. rows.value_at w (anchor A b) n ∷ l) (go ns)

          any_ext : (p q : Named → Bool) → ((w : Named) → p w ≡ q w) → (ws : List Named) → list_any p ws ≡ list_any q ws
          any_ext p q f [] = refl
          any_ext p q f (w ∷ ws) = ap (λ z. z || list_any p ws) (f w) ∙ ap (λ z. q w || z) (any_ext p q f ws)

          list_cells : list_any (λ w. row_matches (values_of I e (list_of hs A a ps)) (values_at A I b w)) old' ≡ list_any (λ w. row_matches (values_of I e (list_of hs A a ps)) (values (cells_at A I b w))) old'
          list_cells = any_ext _ _ (λ w. ap (row_matches (values_of I e (list_of hs A a ps))) (cells_values w)) old'

      at : (rs : Ranges) (cs : Conds) (ps : List Expr) → TermStands I hs rs cs ps → (e : Env) → Chosen I rs e →
          only (conds_hold cs I e) (only (not (list_any (λ w. matching A I a b (named_row I hs (row_of I ps e)) w) old')) (g (named_row I hs (row_of I ps e) ++ rows.nulls (columns_of t A I))))
          ≡ only (conds_hold (with_cond cs (c ps)) I e) (g (named_row I (hs ++ gs) (row_of I (ps ++ null_pieces gs) e)))
      at rs cs ps s e ch =
          let row : named_row I (hs ++ gs) (row_of I (ps ++ null_pieces gs) e) ≡ named_row I hs (row_of I ps e) ++ rows.nulls (columns_of t A I) =
          ap (named_row I (hs ++ gs)) (row_of-append I e ps (null_pieces gs)) ∙ named_row-append hs gs ps (row_of I (null_pieces gs) e) e s.cols ∙ ap (λ w. named_row I hs (row_of I ps e) ++ w) (sym (null_columns t e)) in
          sym (ap (λ v. only (conds_hold (with_cond cs (c ps)) I e) (g v)) row
          ∙ ap (λ b. only b (g (named_row I hs (row_of I ps e) ++ rows.nulls (columns_of t A I)))) (conds_hold-with_cond I e cs (c ps) ∙ ap (λ b. conds_hold cs I e && b) (sym (says rs cs ps s e ch)))
          ∙ only-and (conds_hold cs I e) (not (list_any (λ w. matching A I a b (named_row I hs (row_of I ps e)) w) old')) (g (named_row I hs (row_of I ps e) ++ rows.nulls (columns_of t A I))))

  plus_zero : (n : ℕ) → n ≡ n + 0
  plus_zero n = omega arith

  named_numbered : (r k : ℕ) (row : Tuple) → named r k row ≡ named_piece r (numbered k row)
  named_numbered r k [] = refl
  named_numbered r k (v ∷ row) = ap (λ w. cell r k v ∷ w) (named_numbered r (suc k) row)

  -- the rows of a table
  pub law_input : (r : ℕ) (g : Named → ℕ) → total g (map (named r 0) (table I r)) ≡ named_total g (record { leaf = r; cols = Whole } ∷ []) (one_term (range_then (Rel r) no_ranges) no_conds (Of 0 0 Whole ∷ []))
  law_input r g =
      total-map g (named r 0) (table I r)
      ∙ total_ext _ (λ row. F (numbered 0 row ∷ [])) (table I r) (λ row.
      ap g (named_numbered r 0 row ∙ ap (named_piece r) (sym (ap (numbered 0) (values_numbered 0 row))) ∙ sym (append-nil (named_piece r (numbered 0 (values_in (numbered 0 row)))))) ∙ plus_zero (G ((numbered 0 row ∷ []) ∷ [])))
      ∙ sym (total-map F (λ row. numbered 0 row ∷ []) (table I r))
      ∙ sym (total-choices_cons G (range_rows (Rel r) I) [])
      ∙ sym (one_total (term_total I (λ p. g (named_row I (record { leaf = r; cols = Whole } ∷ []) p))) (range_then (Rel r) no_ranges) no_conds (Of 0 0 Whole ∷ []))
    where
      G : Env → ℕ
      G e = g (named_row I (record { leaf = r; cols = Whole } ∷ []) (row_of I (Of 0 0 Whole ∷ []) e))

      F : List Piece → ℕ
      F c = total (λ e. G (c ∷ e)) (choices [])
