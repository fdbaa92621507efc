-- A step keeps rows.
use Rattle.std.proofs.Common.{ℕ, ◌+◌, Bool, true, false, ◌&&◌, ◌||◌, not, List, [], ◌∷◌, ◌≡◌, refl, sym, ap, ◌∙◌, subst, arith}
use Rattle.std.specs.List.{list_any}
use Rattle.wt_bag.specs.Bags.{total, only, Each, SameSums, distinct}
use Rattle.wt_bag.specs.Choices.{choices}
use Rattle.wt_bag.proofs.TotalLaws.{total-map, total_ext}
use Rattle.wt_bag.proofs.ChoiceLaws.{total-choices_cons}
use Rattle.wt_bag.proofs.BagLaws.{positive, distinct_same}
use Rattle.wt_value.specs.Values.{row_matches}
use Rattle.wt_form.specs.declared.form.Expr.{Expr}
use Rattle.wt_form.specs.Trees.{Terms, term_then, Ranges, distinct_of, Conds}
use Rattle.wt_form.specs.Parts.{one_term, terms_append}
use Rattle.wt_instance.specs.declared.instance.Instance.{Instance}
use Rattle.wt_rows.specs.FormRows.{Env, FormRow, form_row_same, labels, values_of, row_of, put_together, terms_rows, ranges_rows, range_rows, conds_hold, cond_holds}
use Rattle.wt_form.specs.Steps.{Table, PairTable, TermsStep, at_term, at_two, later_term, in_range, in_cond, RangesStep, at_range, later_range, CondsStep, at_in, at_not_in, later_cond}
use Rattle.wt_symbol.specs.declared.head.Part.{Part}
use Rattle.wt_rows.specs.Fits.{ExprFits, TermsFit, RangesFit, CondsFit}
use Rattle.wt_rows.specs.Keeping.{Keeps}
use Rattle.wt_rows.proofs.Sums.{form_rows_decide, term_total, total-term, total-one, total-terms_append, keeps_same, Alike, alike_same, alike_then, alike_add, keeps_alike, positive_sum}

positive-any : {X : Type 0} (g : X → ℕ) (xs : List X) → positive (total g xs) ≡ list_any (λ x. positive (g x)) xs
positive-any g [] = refl
positive-any g (x ∷ xs) = positive_sum (g x) (total g xs) ∙ ap (λ b. positive (g x) || b) (positive-any g xs)

pub alike_keeps : (k : Bool) (xs ys : List FormRow) → Keeps k xs ys → (g : FormRow → ℕ) → Alike k (total g xs) (total g ys)
alike_keeps false xs ys h g = h.sums g
alike_keeps true xs ys h g = positive-any g xs ∙ h.tests (λ x. positive (g x)) ∙ sym (positive-any g ys)

move : (k : Bool) (a b c d : ℕ) → a ≡ b → d ≡ c → Alike k b c → Alike k a d
move k a b c d p q h = alike_then k a b d (alike_same k a b p) (alike_then k b c d h (alike_same k c d (sym q)))

module _ (I : Instance) (table : Table) (pairs : PairTable)
    (sound : (k : Bool) (rs : Ranges) (cs : Conds) (ps : List Expr) (us : Terms) → RangesFit I rs → CondsFit I rs cs → Each (ExprFits I rs) ps → table k rs cs ps us → Keeps k (terms_rows (one_term rs cs ps) I) (terms_rows us I))
    (sound2 : (k : Bool) (rs : Ranges) (cs : Conds) (ps : List Expr) (rs' : Ranges) (cs' : Conds) (ps' : List Expr) (us : Terms) → pairs k rs cs ps rs' cs' ps' us → Keeps k (terms_rows (term_then rs cs ps (one_term rs' cs' ps')) I) (terms_rows us I)) where
  mutual
    pub terms_sound : (k : Bool) (h : List Part) (ts us : Terms) → TermsFit I h ts → TermsStep table pairs k ts us → Keeps k (terms_rows ts I) (terms_rows us I)
    terms_sound k h ts us f (at_term {rs = rs} {cs = cs} {ps = ps} {us = vs} {ts = rest} t) = keeps_alike k _ _ (λ g.
        move k (total g (terms_rows (term_then rs cs ps rest) I)) (term_total I g rs cs ps + total g (terms_rows rest I)) (total g (terms_rows vs I) + total g (terms_rows rest I)) (total g (terms_rows (terms_append vs rest) I))
        (total-term I g rs cs ps rest) (total-terms_append I g vs rest)
        (alike_add k (term_total I g rs cs ps) (total g (terms_rows vs I)) (total g (terms_rows rest I)) (total g (terms_rows rest I))
        (subst (λ m. Alike k m (total g (terms_rows vs I))) (total-one I g rs cs ps) (alike_keeps k (terms_rows (one_term rs cs ps) I) (terms_rows vs I) (sound k rs cs ps vs f.0.0 f.0.1 f.0.3 t) g))
        (alike_same k (total g (terms_rows rest I)) (total g (terms_rows rest I)) refl)))
    terms_sound k h ts us f (at_two {rs = rs} {cs = cs} {ps = ps} rs' cs' ps' between after vs t) = keeps_alike k _ _ (λ g.
        move k (total g (terms_rows (term_then rs cs ps (terms_append between (term_then rs' cs' ps' after))) I))
        (total g (terms_rows (term_then rs cs ps (one_term rs' cs' ps')) I) + (total g (terms_rows between I) + total g (terms_rows after I)))
        (total g (terms_rows vs I) + (total g (terms_rows between I) + total g (terms_rows after I)))
        (total g (terms_rows (terms_append vs (terms_append between after)) I))
        (omega (
          arith,
          total-term I g rs cs ps (terms_append between (term_then rs' cs' ps' after)),
          total-terms_append I g between (term_then rs' cs' ps' after),
          total-term I g rs' cs' ps' after,
          total-term I g rs cs ps (one_term rs' cs' ps'),
          total-one I g rs' cs' ps',
        ))
        (omega (arith, total-terms_append I g vs (terms_append between after), total-terms_append I g between after))
        (alike_add k (total g (terms_rows (term_then rs cs ps (one_term rs' cs' ps')) I)) (total g (terms_rows vs I)) (total g (terms_rows between I) + total g (terms_rows after I)) (total g (terms_rows between I) + total g (terms_rows after I))
        (alike_keeps k (terms_rows (term_then rs cs ps (one_term rs' cs' ps')) I) (terms_rows vs I) (sound2 k rs cs ps rs' cs' ps' vs t) g)
        (alike_same k (total g (terms_rows between I) + total g (terms_rows after I)) (total g (terms_rows between I) + total g (terms_rows after I)) refl)))
    terms_sound k h ts us f (later_term {rs = rs} {cs = cs} {ps = ps} {ts = ts'} {us = us'} s) = keeps_alike k _ _ (λ g.
        move k (total g (terms_rows (term_then rs cs ps ts') I)) (term_total I g rs cs ps + total g (terms_rows ts' I)) (term_total I g rs cs ps + total g (terms_rows us' I)) (total g (terms_rows (term_then rs cs ps us') I))
        (total-term I g rs cs ps ts') (total-term I g rs cs ps us')
        (alike_add k (term_total I g rs cs ps) (term_total I g rs cs ps) (total g (terms_rows ts' I)) (total g (terms_rows us' I)) (alike_same k (term_total I g rs cs ps) (term_total I g rs cs ps) refl)
        (alike_keeps k (terms_rows ts' I) (terms_rows us' I) (terms_sound k h ts' us' f.1 s) g)))
    terms_sound k h ts us f (in_range {rs = rs} {rs' = rs'} {cs = cs} {ps = ps} {ts = rest} s) = keeps_same k _ _ (record {
      sums = λ g.
          total-term I g rs cs ps rest ∙ ap (λ n. n + total g (terms_rows rest I)) ((ranges_sound rs rs' f.0.0 s).sums (λ e. only (conds_hold cs I e) (g (row_of I ps e)))) ∙ sym (total-term I g rs' cs ps rest);
    })
    terms_sound k h ts us f (in_cond {rs = rs} {cs = cs} {cs' = cs'} {ps = ps} {ts = rest} s) = keeps_same k _ _ (record {
      sums = λ g.
          total-term I g rs cs ps rest ∙ ap (λ n. n + total g (terms_rows rest I)) (total_ext _ _ (choices (ranges_rows rs I)) (λ e. ap (λ b. only b (g (row_of I ps e))) (conds_sound rs cs cs' f.0.1 s e))) ∙ sym (total-term I g rs cs' ps rest);
    })

    pub ranges_sound : (rs rs' : Ranges) → RangesFit I rs → RangesStep table pairs rs rs' → SameSums (choices (ranges_rows rs I)) (choices (ranges_rows rs' I))
    ranges_sound rs rs' f (at_range {h = h} {ts = ts} {us = us} {rs = rest} s) = record {
      sums = λ g.
          total-choices_cons g (range_rows (distinct_of h ts) I) (ranges_rows rest I)
          ∙ total-map (λ c. total (λ e. g (c ∷ e)) (choices (ranges_rows rest I))) (labels I h) (distinct form_row_same (terms_rows ts I))
          ∙ (distinct_same form_row_same form_rows_decide (terms_rows ts I) (terms_rows us I) (terms_sound true h ts us f.0.1 s)).sums (λ row. total (λ e. g (labels I h row ∷ e)) (choices (ranges_rows rest I)))
          ∙ sym (total-map (λ c. total (λ e. g (c ∷ e)) (choices (ranges_rows rest I))) (labels I h) (distinct form_row_same (terms_rows us I)))
          ∙ sym (total-choices_cons g (range_rows (distinct_of h us) I) (ranges_rows rest I));
    }
    ranges_sound rs rs' f (later_range {r = r} {rs = qs} {rs' = qs'} s) = record {
      sums = λ g.
          total-choices_cons g (range_rows r I) (ranges_rows qs I)
          ∙ total_ext _ _ (range_rows r I) (λ c. (ranges_sound qs qs' f.1 s).sums (λ e. g (c ∷ e)))
          ∙ sym (total-choices_cons g (range_rows r I) (ranges_rows qs' I));
    }

    pub conds_sound : (rs : Ranges) (cs cs' : Conds) → CondsFit I rs cs → CondsStep table pairs cs cs' → (e : Env) → conds_hold cs I e ≡ conds_hold cs' I e
    conds_sound rs cs cs' f (at_in {x = x} {h = h} {ts = ts} {us = us} {cs = rest} s) e =
        ap (λ b. b && conds_hold rest I e) ((terms_sound true h ts us f.0.1.1 s).tests (λ row. row_matches (values_of I e x) (put_together row)))
    conds_sound rs cs cs' f (at_not_in {x = x} {h = h} {ts = ts} {us = us} {cs = rest} s) e =
        ap (λ b. not b && conds_hold rest I e) ((terms_sound true h ts us f.0.1.1 s).tests (λ row. row_matches (values_of I e x) (put_together row)))
    conds_sound rs cs cs' f (later_cond {c = c} {cs = ds} {cs' = ds'} s) e = ap (λ b. cond_holds c I e && b) (conds_sound rs ds ds' f.1 s e)
