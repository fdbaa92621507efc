-- Steps keep how many pieces a term has, and congruent terms have equally many.
use Rattle.std.proofs.Common.{ℕ, zero, suc, ◌<◌, ◌≡◌, ◌≢◌, ◌&&◌, Bool, true, false, List, [], ◌∷◌, length, refl, sym, ap, ◌∙◌, subst, inl, inr, arith}
use Rattle.std.proofs.lemmas.Bool.{false≢true}
use Rattle.std.proofs.lemmas.List.{length-map}
use Rattle.wt_bag.specs.Choices.{Has}
use Rattle.wt_form.specs.declared.form.Expr.{Expr}
use Rattle.wt_form.specs.Trees.{Terms, no_terms, term_then, Ranges, Conds, Form}
use Rattle.wt_form.specs.Parts.{one_term, terms_append, terms_count, pieces_at}
use Rattle.wt_form.specs.Known.{Known}
use Rattle.wt_form.specs.Congruent.{pieces_same, expr_same, TermsSame}
use Rattle.wt_form.specs.Opening.{Opening, PiecesOpened}
use Rattle.wt_form.specs.Provable.{Chain, ProvableForms}
use Rattle.wt_form.specs.Steps.{Row, by_repeated, by_self_join, by_in_true, by_join_to_in, by_merged, by_not_in_false, by_null_compared, by_not_in_of_null, by_opened, by_rewritten, PairRow, in_first, in_second, twin, TermsStep, at_term, at_two, later_term, in_range, in_cond}
use Rattle.wt_search.specs.Pieces.{HavePieces, Differ, IsEmpty}

append_have : (n : ℕ) (us ts : Terms) → HavePieces n us → HavePieces n ts → HavePieces n (terms_append us ts)
append_have n no_terms ts h k = k
append_have n (term_then rs cs ps us) ts h k = (h.0, append_have n us ts h.1 k)

first_have : (n : ℕ) (us ts : Terms) → HavePieces n (terms_append us ts) → HavePieces n us
first_have n no_terms ts h = tt
first_have n (term_then rs cs ps us) ts h = (h.0, first_have n us ts h.1)

last_have : (n : ℕ) (us ts : Terms) → HavePieces n (terms_append us ts) → HavePieces n ts
last_have n no_terms ts h = h
last_have n (term_then rs cs ps us) ts h = last_have n us ts h.1

opened_length : (o : Opening) (xs ys : List Expr) → PiecesOpened o xs ys → length ys ≡ length xs
opened_length o [] ys h = ap length h
opened_length o (x ∷ xs) [] h = absurd h
opened_length o (x ∷ xs) (y ∷ ys) h = ap suc (opened_length o xs ys h.1)

-- one term with these pieces, or none
one_has : (n : ℕ) (us : Terms) (rs : Ranges) (cs : Conds) (ps : List Expr) → us ≡ one_term rs cs ps → length ps ≡ n → HavePieces n us
one_has n us rs cs ps e l = subst (HavePieces n) (sym e) (l, tt)

none_has : (n : ℕ) (us : Terms) → us ≡ no_terms → HavePieces n us
none_has n us e = subst (HavePieces n) (sym e) tt

module _ (K : Known) (n : ℕ) where
  row_has : (nested : Bool) (rs : Ranges) (cs : Conds) (ps : List Expr) (us : Terms) → Row K nested rs cs ps us → length ps ≡ n → HavePieces n us
  row_has nested rs cs ps us (by_repeated h) l = one_has n us _ _ ps h.gives l
  row_has nested rs cs ps us (by_self_join h) l = one_has n us _ _ ps h.gives l
  row_has nested rs cs ps us (by_in_true h) l = one_has n us _ _ ps h.gives l
  row_has nested rs cs ps us (by_join_to_in h) l = one_has n us _ _ _ h.gives (length-map ps _ ∙ l)
  row_has nested rs cs ps us (by_merged h) l = one_has n us _ _ _ h.gives (length-map ps _ ∙ l)
  row_has nested rs cs ps us (by_not_in_false h) l = none_has n us h.gives
  row_has nested rs cs ps us (by_null_compared h) l = none_has n us h.gives
  row_has nested rs cs ps us (by_not_in_of_null h) l = one_has n us _ _ ps h.gives l
  row_has nested rs cs ps us (by_opened h) l = one_has n us _ _ h.ps' h.gives (opened_length _ ps h.ps' h.pieces_opened ∙ l)
  row_has nested rs cs ps us (by_rewritten h) l = one_has n us _ _ _ h.gives (length-map ps _ ∙ l)

  pair_has : (nested : Bool) (rs : Ranges) (cs : Conds) (ps : List Expr) (rs' : Ranges) (cs' : Conds) (ps' : List Expr) (us : Terms) → PairRow K nested rs cs ps rs' cs' ps' us → length ps ≡ n → length ps' ≡ n → HavePieces n us
  pair_has nested rs cs ps rs' cs' ps' us (in_first h) l l' = (l, tt)
  pair_has nested rs cs ps rs' cs' ps' us (in_second h) l l' = (l', tt)
  pair_has nested rs cs ps rs' cs' ps' us (twin h) l l' = (l, tt)

  step_has : (nested : Bool) (ts us : Terms) → TermsStep (Row K) (PairRow K) nested ts us → HavePieces n ts → HavePieces n us
  step_has nested ts us (at_term {rs = rs} {cs = cs} {ps = ps} {us = vs} {ts = ts'} r) h = append_have n vs ts' (row_has nested rs cs ps vs r h.0) h.1
  step_has nested ts us (at_two {rs = rs} {cs = cs} {ps = ps} rs' cs' ps' between after vs r) h =
      let later = last_have n between (term_then rs' cs' ps' after) h.1 in
      append_have n vs (terms_append between after) (pair_has nested rs cs ps rs' cs' ps' vs r h.0 later.0) (append_have n between after (first_have n between (term_then rs' cs' ps' after) h.1) later.1)
  step_has nested ts us (later_term s) h = (h.0, step_has nested _ _ s h.1)
  step_has nested ts us (in_range s) h = h
  step_has nested ts us (in_cond s) h = h

  chain_has : (k : ℕ) (f g : Form) → Chain K k f g → HavePieces n f.terms → HavePieces n g.terms
  chain_has zero f g e h = subst (λ z. HavePieces n z.terms) e h
  chain_has (suc k) f g (inl e) h = subst (λ z. HavePieces n z.terms) e h
  chain_has (suc k) f g (inr r) h = chain_has k r.0 g r.2 (step_has false f.terms r.0.terms r.1.1 h)

and_right : (a b : Bool) → (a && b) ≡ true → b ≡ true
and_right true b e = e
and_right false b e = absurd (false≢true e)

same_length : (K : Known) (ks : List ℕ) (xs ys : List Expr) → pieces_same K ks xs ys ≡ true → length xs ≡ length ys
same_length K ks [] [] e = refl
same_length K ks (x ∷ xs) (y ∷ ys) e = ap suc (same_length K ks xs ys (and_right (expr_same K ks x y) (pieces_same K ks xs ys) e))
same_length K ks [] (y ∷ ys) e = absurd (false≢true e)
same_length K ks (x ∷ xs) [] e = absurd (false≢true e)

at_has : (n k : ℕ) (us : Terms) → k < terms_count us → HavePieces n us → length (pieces_at k us) ≡ n
at_has n k no_terms l h = let bad : ⊥ = omega (arith, l) in absurd bad
at_has n zero (term_then rs cs ps us) l h = h.0
at_has n (suc k) (term_then rs cs ps us) l h = at_has n k us (omega (arith, l)) h.1

-- congruent sums with different numbers of pieces have no term
no_term : (K : Known) (n m : ℕ) (ts us : Terms) → TermsSame K ts us → n ≢ m → HavePieces n ts → HavePieces m us → us ≡ no_terms
no_term K n m no_terms us s d h k = s
no_term K n m (term_then rs cs ps ts) us s d h k = absurd (d (sym h.0 ∙ same_length K s.1 ps (pieces_at s.0 us) s.5 ∙ at_has m s.0 us s.2 k))

-- so forms whose pieces differ are not provable, where the second reaches no form without terms
pub unprovable : (K : Known) (k : ℕ) (f g : Form) (reached : List Form) → ((h : Form) → (Chain K k g h → Has h reached)) → Differ f g → ((h : Form) → Has h reached → IsEmpty h → ⊥) → ProvableForms K k f g → ⊥
unprovable K k f g reached all d none r =
    none r.1 (all r.1 r.3) (no_term K d.first d.second r.0.terms r.1.terms r.4 d.differ (chain_has K d.first k f r.0 r.2 d.have) (chain_has K d.second k g r.1 r.3 d.others_have))
