-- Congruent terms have the same sums.
use Rattle.std.proofs.Common.{ℕ, suc, ◌+◌, ◌<◌, true, ◌&&◌, not, List, [], ◌∷◌, map, ◌≡◌, refl, sym, ap, ◌∙◌, subst, arith, length, inl, inr, eqb-true}
use Rattle.std.specs.Prelude.{nat_eq, slice_index_or, ◌≢◌}
use Rattle.std.specs.List.{list_any, list_all}
use Rattle.std.proofs.lemmas.Bool.{and_parts, false≢true}
use Rattle.std.proofs.lemmas.List.{length-map}
use Rattle.wt_bag.specs.Bags.{total, only, SameSums, distinct}
use Rattle.wt_bag.specs.Choices.{choices, Paired, arrange, drop_at}
use Rattle.wt_bag.proofs.TotalLaws.{total-map, total_ext, total_each}
use Rattle.wt_bag.proofs.EachLaws.{each_implies}
use Rattle.wt_bag.proofs.ChoiceLaws.{length_choice}
use Rattle.wt_bag.proofs.BagLaws.{same_elements, distinct_same}
use Rattle.wt_bag.proofs.PairingLaws.{total_arranged}
use Rattle.wt_value.specs.declared.value.Value.TheVariants.{Null}
use Rattle.wt_value.specs.Values.{Tuple, Matches, row_matches}
use Rattle.wt_value.proofs.Comparing.{row_matches-Decides}
use Rattle.wt_symbol.specs.declared.head.Part.{Part}
use Rattle.wt_symbol.specs.declared.head.PartCols.{PartCols}
use Rattle.wt_symbol.specs.declared.head.PartCols.TheVariants.{Whole, List as Listed}
use Rattle.wt_form.specs.declared.form.Expr.{Expr}
use Rattle.wt_form.specs.declared.form.Expr.TheVariants.{Of, Null as NullOf}
use Rattle.wt_form.specs.Trees.{Terms, no_terms, term_then, Ranges, no_ranges, range_then, FormRange, Rel, distinct_of, Conds, no_conds, cond_then, Cond, Pred, Join, is_in, not_in}
use Rattle.wt_form.specs.Parts.{ranges_list, conds_list, ranges_at, conds_at, pieces_at, terms_without}
use Rattle.wt_form.specs.Known.{Known, cols_same, part_same, heads_same}
use Rattle.wt_form.specs.Congruent.{place, expr_same, pieces_same, TermsSame, RangesSame, RangeSame, CondsSame, CondSame}
use Rattle.wt_instance.specs.declared.instance.Instance.{Instance}
use Rattle.wt_rows.specs.FormRows.{Piece, Env, FormRow, form_row_same, numbered, beside, label, labels, number_at, part_values, nulls, values_of, row_of, put_together, terms_rows, ranges_rows, range_rows, conds_hold, cond_holds}
use Rattle.wt_rows.specs.Holding.{KnownHolds}
use Rattle.std.proofs.lemmas.Bool.Decides.{same_from_decides}
use Rattle.std.specs.List.{AllByRecursion}
use Rattle.wt_rows.proofs.Places.{length-drop_at, drop_at-map, Placed, get_arranged, at_map, at_within, at_get, list_all_first}
use Rattle.wt_rows.proofs.Sums.{form_rows_decide, term_total, total-term, total-terms_first, conds_hold-list, ranges_rows-list}

-- the values under two choices that a pairing ties
abbrev pub Tied : List ℕ → Env → Env → Type 0
Tied ks e e' = (v : ℕ) → slice_index_or e' (place ks v) [] ≡ slice_index_or e v []

pub matches_sym : (vs ws : Tuple) → row_matches vs ws ≡ row_matches ws vs
matches_sym vs ws = same_from_decides (row_matches vs ws) (row_matches ws vs) (row_matches-Decides vs ws)
    ((λ h. turn ws vs ((row_matches-Decides ws vs).0 h)), λ m. (row_matches-Decides ws vs).1 (turn vs ws m))
  where
    turn : (a b : Tuple) → Matches a b → Matches b a
    turn a b m = (sym m.0, subst (λ l. AllByRecursion (λ v. v ≢ Null) l) m.0 m.1)

module _ (K : Known) (I : Instance) (means : KnownHolds K I) where
  columns_same : (c d : PartCols) (p : Piece) → cols_same K c d ≡ true → part_values I d p ≡ part_values I c p
  columns_same Whole Whole p h = refl
  columns_same (Listed a) (Listed b) p h = ap (map (number_at p)) (sym (means.lists a b h))
  columns_same Whole (Listed b) p h = absurd (false≢true h)
  columns_same (Listed a) Whole p h = absurd (false≢true h)

  pub value_same_as : (ks : List ℕ) (e e' : Env) → Tied ks e e' → (x y : Expr) → expr_same K ks x y ≡ true → values_of I e' y ≡ values_of I e x
  value_same_as ks e e' t (Of v i c) (Of w j d) h =
      let p = and_parts (nat_eq (place ks v) w) (nat_eq i j && cols_same K c d) h in
      let q = and_parts (nat_eq i j) (cols_same K c d) p.1 in
      ap (λ u. part_values I d (slice_index_or (slice_index_or e' u []) j [])) (sym (eqb-true (place ks v) w p.0))
      ∙ ap (λ u. part_values I d (slice_index_or u j [])) (t v)
      ∙ ap (λ u. part_values I d (slice_index_or (slice_index_or e v []) u [])) (sym (eqb-true i j q.0))
      ∙ columns_same c d (slice_index_or (slice_index_or e v []) i []) q.1
  value_same_as ks e e' t (NullOf r Whole) (NullOf s Whole) h = ap nulls (sym (means.widths r s h))
  value_same_as ks e e' t (NullOf r (Listed a)) (NullOf s (Listed b)) h = ap (map (λ n. Null)) (sym (means.lists a b h))
  value_same_as ks e e' t (NullOf r Whole) (NullOf s (Listed b)) h = absurd (false≢true h)
  value_same_as ks e e' t (NullOf r (Listed a)) (NullOf s Whole) h = absurd (false≢true h)
  value_same_as ks e e' t (Of v i c) (NullOf s d) h = absurd (false≢true h)
  value_same_as ks e e' t (NullOf r Whole) (Of w j d) h = absurd (false≢true h)
  value_same_as ks e e' t (NullOf r (Listed a)) (Of w j d) h = absurd (false≢true h)

  pub row_same_as : (ks : List ℕ) (e e' : Env) → Tied ks e e' → (ps qs : List Expr) → pieces_same K ks ps qs ≡ true → row_of I qs e' ≡ row_of I ps e
  row_same_as ks e e' t [] [] h = refl
  row_same_as ks e e' t (x ∷ xs) (y ∷ ys) h =
      let p = and_parts (expr_same K ks x y) (pieces_same K ks xs ys) h in rw (value_same_as ks e e' t x y p.0, row_same_as ks e e' t xs ys p.1)
  row_same_as ks e e' t [] (y ∷ ys) h = absurd (false≢true h)
  row_same_as ks e e' t (x ∷ xs) [] h = absurd (false≢true h)

  label_same : (p q : Part) (vs : Tuple) → part_same K p q ≡ true → label I q.cols vs ≡ label I p.cols vs
  label_same p q vs h = go p.leaf p.cols q.leaf q.cols h
    where
      go : (r : ℕ) (c : PartCols) (s : ℕ) (d : PartCols) → part_same K (record { leaf = r; cols = c }) (record { leaf = s; cols = d }) ≡ true → label I d vs ≡ label I c vs
      go r Whole s Whole h = refl
      go r (Listed a) s (Listed b) h = ap (λ ns. beside ns vs) (sym (means.lists a b h))
      go r Whole s (Listed b) h = absurd (false≢true h)
      go r (Listed a) s Whole h = absurd (false≢true h)

  labels_same : (hs hs' : List Part) (row : FormRow) → heads_same K hs hs' ≡ true → labels I hs' row ≡ labels I hs row
  labels_same [] [] row h = refl
  labels_same (p ∷ ps) (q ∷ qs) [] h = refl
  labels_same (p ∷ ps) (q ∷ qs) (vs ∷ row) h =
      let k = and_parts (part_same K p q) (heads_same K ps qs) h in rw (label_same p q vs k.0, labels_same ps qs row k.1)
  labels_same [] (q ∷ qs) row h = absurd (false≢true h)
  labels_same (p ∷ ps) [] row h = absurd (false≢true h)

  pub placed : (ks : List ℕ) (rs : Ranges) (gs : List FormRange) → RangesSame K ks rs gs → (length gs ≡ length ks) × Placed ks
  placed ks no_ranges gs h = (ap length h.1 ∙ sym (ap length h.0), subst Placed (sym h.0) tt)
  placed [] (range_then r rs) gs h = absurd h
  placed (k ∷ ks) (range_then r rs) gs h =
      let ih = placed ks rs (drop_at k gs) h.1 in
      let w = at_within (RangeSame K r) k gs h.0 in
      (omega (arith, length-drop_at k gs w, ih.0), (omega (arith, length-drop_at k gs w, ih.0), ih.1))

  paired_length : {X : Type 0} (ks : List ℕ) (rs gs : List (List X)) → Paired ks rs gs → length rs ≡ length ks
  paired_length [] [] gs h = refl
  paired_length (k ∷ ks) (r ∷ rs) gs h = ap suc (paired_length ks rs (drop_at k gs) h.2)
  paired_length [] (r ∷ rs) gs h = absurd h
  paired_length (k ∷ ks) [] gs h = absurd h

  -- two terms under a pairing
  pub term_congruent : (ks : List ℕ) (rs gs : Ranges) (cs ds : Conds) (ps qs : List Expr) → Placed ks → Paired ks (ranges_rows rs I) (map (λ r. range_rows r I) (ranges_list gs)) →
      ((e e' : Env) → Tied ks e e' → list_all (λ d. cond_holds d I e') (conds_list ds) ≡ conds_hold cs I e) → pieces_same K ks ps qs ≡ true →
      (g : FormRow → ℕ) → term_total I g rs cs ps ≡ term_total I g gs ds qs
  term_congruent ks rs gs cs ds ps qs pl paired conds pieces g =
      total_each _ _ (choices (ranges_rows rs I)) (each_implies _ _ (choices (ranges_rows rs I)) (λ e l. at e (l ∙ paired_length ks (ranges_rows rs I) _ paired)) (length_choice (ranges_rows rs I)))
      ∙ sym (total_arranged W ks (ranges_rows rs I) (map (λ r. range_rows r I) (ranges_list gs)) paired)
      ∙ ap (λ l. total W (choices l)) (sym (ranges_rows-list I gs))
    where
      W : Env → ℕ
      W e = only (conds_hold ds I e) (g (row_of I qs e))

      at : (e : Env) → length e ≡ length ks → only (conds_hold cs I e) (g (row_of I ps e)) ≡ W (arrange ks e)
      at e l =
          let t : Tied ks e (arrange ks e) = get_arranged ks e [] pl l in
          sym (rw (conds_hold-list I (arrange ks e) ds, conds e (arrange ks e) t, row_same_as ks e (arrange ks e) t ps qs pieces) refl)

  same_rows : (vs ws : Tuple) (xs ys : List FormRow) → vs ≡ ws → SameSums xs ys → list_any (λ row. row_matches ws (put_together row)) ys ≡ list_any (λ row. row_matches vs (put_together row)) xs
  same_rows vs ws xs ys q h = ap (λ us. list_any (λ row. row_matches us (put_together row)) ys) (sym q) ∙ sym ((same_elements xs ys h).tests (λ row. row_matches vs (put_together row)))

  mutual
    pub terms_congruent : (ts us : Terms) → TermsSame K ts us → (g : FormRow → ℕ) → total g (terms_rows ts I) ≡ total g (terms_rows us I)
    terms_congruent no_terms us h g = ap (λ vs. total g (terms_rows vs I)) (sym h)
    terms_congruent (term_then rs cs ps ts) us h g =
        total-term I g rs cs ps ts
        ∙ ap (λ n. n + total g (terms_rows ts I)) (term_congruent h.1 rs (ranges_at h.0 us) cs (conds_at h.0 us) ps (pieces_at h.0 us) (placed h.1 rs (ranges_list (ranges_at h.0 us)) h.3).1
        (ranges_congruent h.1 rs (ranges_list (ranges_at h.0 us)) h.3) (λ e e' t. conds_congruent h.1 cs (conds_list (conds_at h.0 us)) h.4 e e' t) h.5 g)
        ∙ ap (λ n. term_total I g (ranges_at h.0 us) (conds_at h.0 us) (pieces_at h.0 us) + n) (terms_congruent ts (terms_without h.0 us) h.6 g)
        ∙ sym (total-terms_first I g h.0 us h.2)

    pub ranges_congruent : (ks : List ℕ) (rs : Ranges) (gs : List FormRange) → RangesSame K ks rs gs → Paired ks (ranges_rows rs I) (map (λ r. range_rows r I) gs)
    ranges_congruent ks no_ranges gs h = subst (λ l. Paired l [] (map (λ r. range_rows r I) gs)) (sym h.0) (ap (map (λ r. range_rows r I)) h.1)
    ranges_congruent [] (range_then r rs) gs h = absurd h
    ranges_congruent (k ∷ ks) (range_then r rs) gs h = (
      subst (λ n. k < n) (sym (length-map gs (λ s. range_rows s I))) (at_within (RangeSame K r) k gs h.0),
      at_get (SameSums (range_rows r I)) (λ s. range_rows s I) [] k gs (at_map (RangeSame K r) (λ s. SameSums (range_rows r I) (range_rows s I)) k gs (λ s q. range_congruent r s q) h.0),
      subst (Paired ks (ranges_rows rs I)) (sym (drop_at-map (λ s. range_rows s I) k gs)) (ranges_congruent ks rs (drop_at k gs) h.1),
    )

    pub range_congruent : (r s : FormRange) → RangeSame K r s → SameSums (range_rows r I) (range_rows s I)
    range_congruent (Rel r) (Rel s) h = record { sums = λ g. ap (λ t. total g (map (λ row. numbered 0 row ∷ []) t)) (means.tables r s h) }
    range_congruent (distinct_of h ts) (distinct_of h' us) q = record {
      sums = λ g.
          total-map g (labels I h) (distinct form_row_same (terms_rows ts I))
          ∙ total_ext _ _ (distinct form_row_same (terms_rows ts I)) (λ row. ap g (sym (labels_same h h' row q.0)))
          ∙ (distinct_same form_row_same form_rows_decide (terms_rows ts I) (terms_rows us I) (same_elements (terms_rows ts I) (terms_rows us I) (record { sums = λ f. terms_congruent ts us q.1 f }))).sums (λ row. g (labels I h' row))
          ∙ sym (total-map g (labels I h') (distinct form_row_same (terms_rows us I)));
    }
    range_congruent (Rel r) (distinct_of h us) q = absurd q
    range_congruent (distinct_of h ts) (Rel s) q = absurd q

    pub conds_congruent : (ks : List ℕ) (cs : Conds) (ds : List Cond) → CondsSame K ks cs ds → (e e' : Env) → Tied ks e e' → list_all (λ d. cond_holds d I e') ds ≡ conds_hold cs I e
    conds_congruent ks no_conds ds h e e' t = ap (list_all (λ d. cond_holds d I e')) h
    conds_congruent ks (cond_then c cs) ds h e e' t =
        list_all_first (λ d. cond_holds d I e') (cond_holds c I e) h.0 ds (at_map (CondSame K ks c) (λ d. cond_holds d I e' ≡ cond_holds c I e) h.0 ds (λ d q. cond_congruent ks c d q e e' t) h.1)
        ∙ ap (λ b. cond_holds c I e && b) (conds_congruent ks cs (drop_at h.0 ds) h.2 e e' t)

    pub cond_congruent : (ks : List ℕ) (c d : Cond) → CondSame K ks c d → (e e' : Env) → Tied ks e e' → cond_holds d I e' ≡ cond_holds c I e
    cond_congruent ks (Pred p x) (Pred q y) h e e' t = rw (value_same_as ks e e' t x y h.1) (sym (means.preds p q h.0 (values_of I e x)))
    cond_congruent ks (Join x y) (Join v w) (inl h) e e' t = rw (value_same_as ks e e' t x v h.0, value_same_as ks e e' t y w h.1) refl
    cond_congruent ks (Join x y) (Join v w) (inr h) e e' t = rw (value_same_as ks e e' t x w h.0, value_same_as ks e e' t y v h.1) (matches_sym (values_of I e y) (values_of I e x))
    cond_congruent ks (is_in x k ts) (is_in y k' us) h e e' t =
        same_rows (values_of I e x) (values_of I e' y) (terms_rows ts I) (terms_rows us I) (sym (value_same_as ks e e' t x y h.0)) (record { sums = λ g. terms_congruent ts us h.1 g })
    cond_congruent ks (not_in x k ts) (not_in y k' us) h e e' t =
        ap not (same_rows (values_of I e x) (values_of I e' y) (terms_rows ts I) (terms_rows us I) (sym (value_same_as ks e e' t x y h.0)) (record { sums = λ g. terms_congruent ts us h.1 g }))
    cond_congruent ks _ _ h e e' t = absurd h
