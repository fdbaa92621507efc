-- A step of a form that fits gives a form that fits, and keeps its rows.
use Rattle.std.proofs.Common.{ℕ, zero, suc, Bool, true, false, List, ◌≡◌, refl, sym, ◌∙◌, subst, ◌⊎◌, inl, inr}
use Rattle.wt_bag.specs.Bags.{Each, SameSums, AtMostOne}
use Rattle.wt_bag.specs.Choices.{At}
use Rattle.wt_bag.proofs.EachLaws.{each_implies}
use Rattle.wt_symbol.specs.declared.head.Part.{Part}
use Rattle.wt_symbol.specs.declared.head.PartCols.{PartCols}
use Rattle.wt_form.specs.declared.form.Expr.{Expr}
use Rattle.wt_form.specs.declared.form.Expr.TheVariants.{Of, Null as NullOf}
use Rattle.wt_form.specs.Trees.{Terms, term_then, Ranges, range_then, distinct_of, Conds, no_conds, cond_then, Cond, Pred, Join, is_in, not_in, Form}
use Rattle.wt_form.specs.Parts.{one_term, terms_append, ranges_list}
use Rattle.wt_form.specs.Known.{Known}
use Rattle.wt_form.specs.Opening.{AllDetermined}
use Rattle.wt_form.specs.Steps.{Row, by_repeated, by_self_join, by_in_true, by_join_to_in, by_merged, by_not_in_false, by_null_compared, by_not_in_of_null, by_opened, by_rewritten, PairRow, TermsStep, at_term, at_two, later_term, in_range, in_cond, RangesStep, at_range, later_range, CondsStep, at_in, at_not_in, later_cond, Step}
use Rattle.wt_form.specs.Provable.{Chain}
use Rattle.wt_instance.specs.declared.instance.Instance.{Instance}
use Rattle.wt_rows.specs.FormRows.{FormRow, form_row_same, terms_rows}
use Rattle.wt_rows.specs.Holding.{KnownHolds}
use Rattle.wt_rows.specs.Fits.{HasPart, ExprFits, RowsFit, TermsFit, RangesFit, CondFits, CondsFit, Fits}
use Rattle.wt_rows.specs.Keeping.{Keeps}
use Rattle.wt_rows.proofs.Sums.{keeps_same}
use Rattle.wt_rows.proofs.Reading.{AreFilled, ranges_read, conds_filled, cond_filled}
use Rattle.wt_rows.proofs.Pairs.{pair_keeps}
use Rattle.wt_rows.proofs.Drops.{repeated_keeps, self_join_keeps, in_true_keeps, not_in_false_keeps, null_compared_keeps, not_in_of_null_keeps}
use Rattle.wt_rows.proofs.Merge.{merged_keeps}
use Rattle.wt_rows.proofs.Rewrite.{rewritten_keeps}
use Rattle.wt_rows.proofs.JoinToIn.{join_to_in_keeps}
use Rattle.wt_rows.proofs.Opens.{opened_fits_keeps}
use Rattle.wt_rows.proofs.DeterminedRows.{once}
use Rattle.wt_rows.proofs.TermSteps.{terms_sound}
use Rattle.wt_rows.proofs.Kept.{kept_rows_fit}
use Rattle.wt_rows.proofs.Exist.{expr_one, ranges_right}
use Rattle.wt_rows.proofs.MapsFit.{conds_there}
use Rattle.wt_rows.proofs.StayFit.{row_stays, pair_stays, terms_put, terms_left, terms_right}

module _ (K : Known) (I : Instance) (means : KnownHolds K I) (filled : AreFilled I) where
  -- what stands in the place of one term that fits has its rows
  pub row_keeps_rows : (k : Bool) (rs : Ranges) (cs : Conds) (ps : List Expr) (us : Terms) → RangesFit I rs → CondsFit I rs cs → Each (ExprFits I rs) ps → Row K k rs cs ps us → Keeps k (terms_rows (one_term rs cs ps) I) (terms_rows us I)
  row_keeps_rows k rs cs ps us fr fc fp (by_repeated s) = keeps_same k _ _ (repeated_keeps K I means rs cs ps us s)
  row_keeps_rows k rs cs ps us fr fc fp (by_self_join s) =
      keeps_same k _ _ (self_join_keeps K I means rs cs ps us s (expr_one I rs s.x (conds_there I rs s.place.before (Join s.x s.y) s.place.after (subst (CondsFit I rs) s.place.is fc)).0.1))
  row_keeps_rows k rs cs ps us fr fc fp (by_in_true s) = keeps_same k _ _ (in_true_keeps K I means rs cs ps us s)
  row_keeps_rows k rs cs ps us fr fc fp (by_join_to_in s) = join_to_in_keeps K I means k rs cs ps us (ranges_read I rs fr) s
  row_keeps_rows k rs cs ps us fr fc fp (by_merged s) = keeps_same k _ _ (merged_keeps K I means rs cs ps us s)
  row_keeps_rows k rs cs ps us fr fc fp (by_not_in_false s) = keeps_same k _ _ (not_in_false_keeps K I means rs cs ps us s)
  row_keeps_rows k rs cs ps us fr fc fp (by_null_compared s) = keeps_same k _ _ (null_compared_keeps I rs cs ps us (conds_filled I filled rs cs fc) s)
  row_keeps_rows k rs cs ps us fr fc fp (by_not_in_of_null s) =
      keeps_same k _ _ (not_in_of_null_keeps I rs cs ps us s (cond_filled I filled rs (not_in s.e s.h s.ts) (conds_there I rs s.place.before (not_in s.e s.h s.ts) s.place.after (subst (CondsFit I rs) s.place.is fc))))
  row_keeps_rows k rs cs ps us fr fc fp (by_opened s) = opened_fits_keeps K I k rs cs ps us s fr fc fp (at_most s.allowed)
    where
      inner : RangesFit I s.inner
      inner = (ranges_right I s.before (range_then (distinct_of s.head (one_term s.inner s.conds s.pieces)) s.after) (subst (RangesFit I) s.is fr)).0.1.0.0

      at_most : (k ≡ true) ⊎ AllDetermined K s.inner s.conds s.pieces → (k ≡ true) ⊎ ((row : FormRow) → AtMostOne (λ y. form_row_same row y) (terms_rows (one_term s.inner s.conds s.pieces) I))
      at_most (inl e) = inl e
      at_most (inr all) = inr (once K I means s.inner s.conds s.pieces (ranges_read I s.inner inner) all)
  row_keeps_rows k rs cs ps us fr fc fp (by_rewritten s) = keeps_same k _ _ (rewritten_keeps K I means rs cs ps us s)

  pub step_rows : (k : Bool) (h : List Part) (ts us : Terms) → TermsFit I h ts → TermsStep (Row K) (PairRow K) k ts us → Keeps k (terms_rows ts I) (terms_rows us I)
  step_rows = terms_sound I (Row K) (PairRow K) row_keeps_rows (λ k rs cs ps rs' cs' ps' us t. pair_keeps K I means k rs cs ps rs' cs' ps' us t)

  -- a step inside a range leaves its parts as they are
  parts_stay : (i : ℕ) (c : PartCols) (rs ss : Ranges) → RangesStep (Row K) (PairRow K) rs ss → (v : ℕ) → At (λ range. HasPart I range i c) v (ranges_list rs) → At (λ range. HasPart I range i c) v (ranges_list ss)
  parts_stay i c rs ss (at_range s) zero a = a
  parts_stay i c rs ss (at_range s) (suc v) a = a
  parts_stay i c rs ss (later_range s) zero a = a
  parts_stay i c rs ss (later_range s) (suc v) a = parts_stay i c _ _ s v a

  expr_stays : (rs ss : Ranges) → RangesStep (Row K) (PairRow K) rs ss → (x : Expr) → ExprFits I rs x → ExprFits I ss x
  expr_stays rs ss s (Of v i c) h = (parts_stay i c rs ss s v h.0, h.1)
  expr_stays rs ss s (NullOf r c) h = h

  cond_stays : (rs ss : Ranges) → RangesStep (Row K) (PairRow K) rs ss → (c : Cond) → CondFits I rs c → CondFits I ss c
  cond_stays rs ss s (Pred p x) h = (h.0, expr_stays rs ss s x h.1)
  cond_stays rs ss s (Join x y) h = ((h.0.0, expr_stays rs ss s x h.0.1), (h.1.0, expr_stays rs ss s y h.1.1))
  cond_stays rs ss s (is_in x k ts) h = ((h.0.0, expr_stays rs ss s x h.0.1), h.1)
  cond_stays rs ss s (not_in x k ts) h = ((h.0.0, expr_stays rs ss s x h.0.1), h.1)

  conds_stay : (rs ss : Ranges) → RangesStep (Row K) (PairRow K) rs ss → (cs : Conds) → CondsFit I rs cs → CondsFit I ss cs
  conds_stay rs ss s no_conds h = tt
  conds_stay rs ss s (cond_then c cs) h = (cond_stays rs ss s c h.0, conds_stay rs ss s cs h.1)

  mutual
    pub terms_fit : (k : Bool) (h : List Part) (ts us : Terms) → TermsFit I h ts → TermsStep (Row K) (PairRow K) k ts us → TermsFit I h us
    terms_fit k h ts us (f, rest) (at_term {rs = rs} {cs = cs} {ps = ps} {us = vs} {ts = ts'} r) = terms_put I h vs ts' (row_stays I h K k rs cs ps vs f r) rest
    terms_fit k h ts us (f, rest) (at_two {rs = rs} {cs = cs} {ps = ps} rs' cs' ps' between after vs r) =
        let right = terms_right I h between (term_then rs' cs' ps' after) rest in
        terms_put I h vs (terms_append between after) (pair_stays I h K k rs cs ps rs' cs' ps' vs f right.0 r) (terms_put I h between after (terms_left I h between (term_then rs' cs' ps' after) rest) right.1)
    terms_fit k h ts us (f, rest) (later_term s) = (f, terms_fit k h _ _ rest s)
    terms_fit k h ts us ((fr, fc, fa, fp), rest) (in_range {rs = rs} {rs' = ss} {cs = cs} {ps = ps} s) = ((ranges_fit rs ss fr s, conds_stay rs ss s cs fc, fa, each_implies (ExprFits I rs) (ExprFits I ss) ps (expr_stays rs ss s) fp), rest)
    terms_fit k h ts us ((fr, fc, fa, fp), rest) (in_cond {rs = rs} {cs = cs} {cs' = ds} s) = ((fr, conds_fit rs cs ds fc s, fa, fp), rest)

    ranges_fit : (rs ss : Ranges) → RangesFit I rs → RangesStep (Row K) (PairRow K) rs ss → RangesFit I ss
    ranges_fit rs ss (f, rest) (at_range {h = h} {ts = ts} {us = us} s) =
        (((f.0.0, kept_rows_fit I true h (terms_rows ts I) (terms_rows us I) (step_rows true h ts us f.1 s) f.0.1), terms_fit true h ts us f.1 s), rest)
    ranges_fit rs ss (f, rest) (later_range s) = (f, ranges_fit _ _ rest s)

    conds_fit : (rs : Ranges) (cs ds : Conds) → CondsFit I rs cs → CondsStep (Row K) (PairRow K) cs ds → CondsFit I rs ds
    conds_fit rs cs ds (f, rest) (at_in {h = h} {ts = ts} {us = us} s) =
        ((f.0, ((f.1.0.0, kept_rows_fit I true h (terms_rows ts I) (terms_rows us I) (step_rows true h ts us f.1.1 s) f.1.0.1), terms_fit true h ts us f.1.1 s)), rest)
    conds_fit rs cs ds (f, rest) (at_not_in {h = h} {ts = ts} {us = us} s) =
        ((f.0, ((f.1.0.0, kept_rows_fit I true h (terms_rows ts I) (terms_rows us I) (step_rows true h ts us f.1.1 s) f.1.0.1), terms_fit true h ts us f.1.1 s)), rest)
    conds_fit rs cs ds (f, rest) (later_cond s) = (f, conds_fit rs _ _ rest s)

  -- a step of a form that fits
  pub step_keeps : (f g : Form) → Fits I f → Step K f g → Fits I g × SameSums (terms_rows f.terms I) (terms_rows g.terms I)
  step_keeps f g fits (head, s) =
      let rows : SameSums (terms_rows f.terms I) (terms_rows g.terms I) = step_rows false f.head f.terms g.terms fits.1 s in
      let fit : RowsFit I f.head (terms_rows g.terms I) × TermsFit I f.head g.terms = ((fits.0.0, kept_rows_fit I false f.head (terms_rows f.terms I) (terms_rows g.terms I) rows fits.0.1), terms_fit false f.head f.terms g.terms fits.1 s) in
      (subst (λ h. RowsFit I h (terms_rows g.terms I) × TermsFit I h g.terms) (sym head) fit, rows)

  -- a chain of steps
  pub chain_keeps : (k : ℕ) (f g : Form) → Fits I f → Chain K k f g → Fits I g × SameSums (terms_rows f.terms I) (terms_rows g.terms I)
  chain_keeps zero f g fits c = subst (λ x. Fits I x × SameSums (terms_rows f.terms I) (terms_rows x.terms I)) c (fits, record { sums = λ g. refl })
  chain_keeps (suc k) f g fits (inl e) = subst (λ x. Fits I x × SameSums (terms_rows f.terms I) (terms_rows x.terms I)) e (fits, record { sums = λ g. refl })
  chain_keeps (suc k) f g fits (inr (m, s, c)) =
      let one = step_keeps f m fits s in
      let more = chain_keeps k m g one.0 c in
      (more.0, record { sums = λ w. one.1.sums w ∙ more.1.sums w })
