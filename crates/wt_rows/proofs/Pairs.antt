-- Two terms become one.
use Rattle.std.proofs.Common.{ℕ, zero, suc, ◌+◌, Bool, true, false, ◌&&◌, not, List, ◌≡◌, refl, sym, ap, ◌∙◌, subst, arith}
use Rattle.std.specs.List.{list_all}
use Rattle.wt_bag.specs.Bags.{total, only}
use Rattle.wt_bag.specs.Choices.{choices}
use Rattle.wt_bag.proofs.TotalLaws.{total_ext, total-add}
use Rattle.wt_bag.proofs.BagLaws.{positive, list_any-total}
use Rattle.wt_form.specs.declared.form.Expr.{Expr}
use Rattle.wt_form.specs.Trees.{Terms, term_then, Ranges, Conds, cond_then, is_in, not_in}
use Rattle.wt_form.specs.Parts.{one_term, ranges_list, conds_list}
use Rattle.wt_form.specs.Known.{Known}
use Rattle.wt_instance.specs.declared.instance.Instance.{Instance}
use Rattle.wt_rows.specs.FormRows.{Env, FormRow, row_of, terms_rows, ranges_rows, conds_hold, cond_holds}
use Rattle.wt_rows.specs.Holding.{KnownHolds}
use Rattle.wt_form.specs.Places.{others}
use Rattle.wt_form.specs.TwoTerms.{TermSame, SplitByIn}
use Rattle.wt_form.specs.Steps.{PairRow, in_first, in_second, twin}
use Rattle.wt_rows.specs.Keeping.{Keeps}
use Rattle.wt_rows.proofs.Sums.{term_total, total-term, total-one, conds_hold-middle, conds_hold-list, keeps_same}
use Rattle.wt_rows.proofs.Same.{Tied, term_congruent, placed, ranges_congruent, conds_congruent, cond_congruent}

halves : (j o : Bool) (n : ℕ) → only (j && o) n + only (not j && o) n ≡ only o n
halves true o n = omega arith
halves false o n = omega arith

module _ (K : Known) (I : Instance) (means : KnownHolds K I) where
  pub split_sums : (rs : Ranges) (cs : Conds) (ps : List Expr) (rs' : Ranges) (cs' : Conds) (ps' : List Expr) (s : SplitByIn K rs cs ps rs' cs' ps') (g : FormRow → ℕ) →
      term_total I g rs cs ps + term_total I g rs' cs' ps' ≡ term_total I g rs (others s.place) ps
  split_sums rs cs ps rs' cs' ps' s g =
      ap (λ n. term_total I g rs cs ps + n) (sym second)
      ∙ sym (total-add _ _ (choices (ranges_rows rs I)))
      ∙ total_ext _ _ (choices (ranges_rows rs I)) at
    where
      held : (e e' : Env) → Tied s.ks e e' → list_all (λ d. cond_holds d I e') (conds_list cs') ≡ conds_hold (cond_then (not_in s.e s.h s.ts) (others s.place)) I e
      held e e' t =
          sym (conds_hold-list I e' cs')
          ∙ ap (λ ds. conds_hold ds I e') s.place'.is
          ∙ conds_hold-middle I e' s.place'.before s.place'.after (not_in s.e' s.h' s.us)
          ∙ rw (cond_congruent K I means s.ks (not_in s.e s.h s.ts) (not_in s.e' s.h' s.us) (s.values, s.rows) e e' t)
          (ap (λ b. cond_holds (not_in s.e s.h s.ts) I e && b) (conds_hold-list I e' (others s.place') ∙ conds_congruent K I means s.ks (others s.place) (conds_list (others s.place')) s.same.conds e e' t))

      second : term_total I g rs (cond_then (not_in s.e s.h s.ts) (others s.place)) ps ≡ term_total I g rs' cs' ps'
      second = term_congruent K I means s.ks rs rs' (cond_then (not_in s.e s.h s.ts) (others s.place)) cs' ps ps'
          (placed K I means s.ks rs (ranges_list rs') s.same.ranges).1 (ranges_congruent K I means s.ks rs (ranges_list rs') s.same.ranges) held s.same.pieces g

      at : (e : Env) → only (conds_hold cs I e) (g (row_of I ps e)) + only (conds_hold (cond_then (not_in s.e s.h s.ts) (others s.place)) I e) (g (row_of I ps e)) ≡ only (conds_hold (others s.place) I e) (g (row_of I ps e))
      at e =
          ap (λ b. only b (g (row_of I ps e)) + only (conds_hold (cond_then (not_in s.e s.h s.ts) (others s.place)) I e) (g (row_of I ps e)))
          (ap (λ ds. conds_hold ds I e) s.place.is ∙ conds_hold-middle I e s.place.before s.place.after (is_in s.e s.h s.ts))
          ∙ halves (cond_holds (is_in s.e s.h s.ts) I e) (conds_hold (others s.place) I e) (g (row_of I ps e))

  pub twin_sums : (ks : List ℕ) (rs : Ranges) (cs : Conds) (ps : List Expr) (rs' : Ranges) (cs' : Conds) (ps' : List Expr) → TermSame K ks rs cs ps rs' cs' ps' → (g : FormRow → ℕ) →
      term_total I g rs cs ps ≡ term_total I g rs' cs' ps'
  twin_sums ks rs cs ps rs' cs' ps' s g = term_congruent K I means ks rs rs' cs cs' ps ps' (placed K I means ks rs (ranges_list rs') s.ranges).1
      (ranges_congruent K I means ks rs (ranges_list rs') s.ranges) (λ e e' t. conds_congruent K I means ks cs (conds_list cs') s.conds e e' t) s.pieces g

  -- two terms, one after the other
  total-two : (rs : Ranges) (cs : Conds) (ps : List Expr) (rs' : Ranges) (cs' : Conds) (ps' : List Expr) (g : FormRow → ℕ) →
      total g (terms_rows (term_then rs cs ps (one_term rs' cs' ps')) I) ≡ term_total I g rs cs ps + term_total I g rs' cs' ps'
  total-two rs cs ps rs' cs' ps' g = total-term I g rs cs ps (one_term rs' cs' ps') ∙ ap (λ n. term_total I g rs cs ps + n) (total-one I g rs' cs' ps')

  positive-twice : (n : ℕ) → positive (n + n) ≡ positive n
  positive-twice zero = refl
  positive-twice (suc n) = let q : suc n + suc n ≡ suc (n + suc n) = omega arith in ap positive q

  -- what may stand in the place of two terms keeps their rows
  pub pair_keeps : (k : Bool) (rs : Ranges) (cs : Conds) (ps : List Expr) (rs' : Ranges) (cs' : Conds) (ps' : List Expr) (us : Terms) → PairRow K k rs cs ps rs' cs' ps' us →
      Keeps k (terms_rows (term_then rs cs ps (one_term rs' cs' ps')) I) (terms_rows us I)
  pair_keeps k rs cs ps rs' cs' ps' us (in_first s) = keeps_same k _ _ (record {
    sums = λ g.
        total-two rs cs ps rs' cs' ps' g ∙ split_sums rs cs ps rs' cs' ps' s g ∙ sym (total-one I g rs (others s.place) ps);
  })
  pair_keeps k rs cs ps rs' cs' ps' us (in_second s) = keeps_same k _ _ (record {
    sums = λ g.
        total-two rs cs ps rs' cs' ps' g ∙ (let z : term_total I g rs cs ps + term_total I g rs' cs' ps' ≡ term_total I g rs' cs' ps' + term_total I g rs cs ps = omega arith in z)
        ∙ split_sums rs' cs' ps' rs cs ps s g ∙ sym (total-one I g rs' (others s.place) ps');
  })
  pair_keeps k rs cs ps rs' cs' ps' us (twin s) = subst (λ b. Keeps b (terms_rows (term_then rs cs ps (one_term rs' cs' ps')) I) (terms_rows (one_term rs cs ps) I)) (sym s.inside) (record {
    tests = λ p.
        list_any-total p (terms_rows (term_then rs cs ps (one_term rs' cs' ps')) I)
        ∙ ap positive (total-two rs cs ps rs' cs' ps' (λ x. only (p x) 1) ∙ ap (λ m. term_total I (λ x. only (p x) 1) rs cs ps + m) (sym (twin_sums s.ks rs cs ps rs' cs' ps' s.same (λ x. only (p x) 1))))
        ∙ positive-twice (term_total I (λ x. only (p x) 1) rs cs ps)
        ∙ ap positive (sym (total-one I (λ x. only (p x) 1) rs cs ps))
        ∙ sym (list_any-total p (terms_rows (one_term rs cs ps) I));
  })
