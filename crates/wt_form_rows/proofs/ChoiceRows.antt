-- Rows of a term, choice by choice.
use Rattle.std.proofs.Common.{◌≡◌, ℕ, suc, ◌+◌, ◌-◌, ◌<◌, true, ◌&&◌, not, cond, List, [], ◌∷◌, ◌++◌, map, filter, length, take, drop, get_or, Result, Ok, Err, OnOk, ◌≤◌, refl, sym, ap, ◌∙◌, arith, append_assoc}
use Rattle.std.specs.Prelude.{flat_map}
use Rattle.std.proofs.lemmas.List.{append-nil, map-append, take_more}
use Rattle.std.proofs.lemmas.List.Elements.{filter-append}
use Rattle.wt_bag.specs.Choices.{choices}
use Rattle.wt_bag.proofs.EachLaws.{filter_each, each_for}
use Rattle.wt_value.specs.declared.value.Value.TheVariants.{Null}
use Rattle.wt_value.specs.Values.{Tuple, row_matches}
use Rattle.wt_form.specs.declared.form.Expr.{Expr}
use Rattle.wt_form.specs.Trees.{Conds, no_conds, cond_then, Cond, Pred, Join, is_in, not_in}
use Rattle.wt_instance.specs.declared.instance.Instance.{Instance}
use Rattle.wt_instance.proofs.SideBags.{list_any-map}
use Rattle.wt_rows.specs.FormRows.{Piece, Env, FormRow, nulls, values_of, row_of, put_together, one_rows, terms_rows, conds_hold, cond_holds}
use Rattle.wt_form_rows.specs.declared.conds.Test.{Test}
use Rattle.wt_form_rows.specs.Tests.{test_of, tests_of, passes, all_pass, rows_with}

-- one more NULL
pub nulls_go_on : (row more target : Tuple) (n w : ℕ) → n < w → more ≡ row ++ Null ∷ [] → row ++ nulls (w - n) ≡ target → more ++ nulls (w - (n + 1)) ≡ target
nulls_go_on row more target n w l m h =
    let left : w - n ≡ suc (w - (n + 1)) = omega arith in
    rw (m, append_assoc) (sym (ap (λ k. row ++ nulls k) left) ∙ h)

pub null_more : (ns : List ℕ) (i : ℕ) (row more : Tuple) → i < length ns → row ≡ map (λ n. Null) (take i ns) → more ≡ row ++ Null ∷ [] → more ≡ map (λ n. Null) (take (i + 1) ns)
null_more ns i row more l h m =
    m ∙ ap (λ r. r ++ Null ∷ []) h ∙ sym (map-append (λ n. Null) (take i ns) (get_or ns i 0 ∷ [])) ∙ ap (map (λ n. Null)) (sym (take_more ns i 0 l))

take_all : {X : Type 0} (xs : List X) (n : ℕ) → n ≡ length xs → take n xs ≡ xs
take_all [] n e = ap (λ k. take k []) e
take_all (x ∷ xs) n e = ap (λ k. take k (x ∷ xs)) e ∙ ap (λ l. x ∷ l) (take_all xs (length xs) refl)

-- the rows of some choices of the next variable, one after another
abbrev pub rows_each : Instance → List Test → List Expr → Env → List (List Piece) → List (List (List Piece)) → List FormRow
rows_each I tests ps made [] rest = []
rows_each I tests ps made (c ∷ cs) rest = rows_with I tests ps (made ++ c ∷ []) rest ++ rows_each I tests ps made cs rest

-- one choice more
one_more : (made : Env) (c : List Piece) (e : Env) → made ++ c ∷ e ≡ (made ++ c ∷ []) ++ e
one_more [] c e = refl
one_more (m ∷ made) c e = ap (λ l. m ∷ l) (one_more made c e)

all_more : (made : Env) (c : List Piece) (es : List Env) → map (λ e. made ++ e) (map (λ e. c ∷ e) es) ≡ map (λ e. (made ++ c ∷ []) ++ e) es
all_more made c [] = refl
all_more made c (e ∷ es) = ap (λ l. l ∷ map (λ x. made ++ x) (map (λ x. c ∷ x) es)) (one_more made c e) ∙ ap (λ l. ((made ++ c ∷ []) ++ e) ∷ l) (all_more made c es)

module _ (I : Instance) (tests : List Test) (ps : List Expr) where
  kept : List Env → List FormRow
  kept es = map (row_of I ps) (filter (λ e. all_pass I e tests) es)

  kept-append : (xs ys : List Env) → kept (xs ++ ys) ≡ kept xs ++ kept ys
  unfolding kept
  kept-append xs ys = ap (map (row_of I ps)) (filter-append (λ e. all_pass I e tests) xs ys) ∙ map-append (row_of I ps) (filter (λ e. all_pass I e tests) xs) (filter (λ e. all_pass I e tests) ys)

  pub rows_by_choice : (made : Env) (cs : List (List Piece)) (rest : List (List (List Piece))) → rows_with I tests ps made (cs ∷ rest) ≡ rows_each I tests ps made cs rest
  unfolding kept
  rows_by_choice made [] rest = refl
  rows_by_choice made (c ∷ cs) rest =
      ap kept (map-append (λ e. made ++ e) (map (λ e. c ∷ e) (choices rest)) (flat_map (λ d. map (λ e. d ∷ e) (choices rest)) cs))
      ∙ kept-append (map (λ e. made ++ e) (map (λ e. c ∷ e) (choices rest))) (map (λ e. made ++ e) (flat_map (λ d. map (λ e. d ∷ e) (choices rest)) cs))
      ∙ ap (λ es. kept es ++ rows_with I tests ps made (cs ∷ rest)) (all_more made c (choices rest))
      ∙ ap (λ l. rows_with I tests ps (made ++ c ∷ []) rest ++ l) (rows_by_choice made cs rest)

  -- the row of a whole choice
  pub passed : (made : Env) (old new : List FormRow) (row : FormRow) → all_pass I made tests ≡ true → row ≡ row_of I ps made → new ≡ old ++ row ∷ [] → new ≡ old ++ rows_with I tests ps made []
  passed made old new row t r n =
      n ∙ ap (λ x. old ++ x ∷ []) r
      ∙ ap (λ l. old ++ l) (sym (ap (λ e. map (row_of I ps) (filter (λ x. all_pass I x tests) (e ∷ []))) (append-nil made) ∙ ap (λ b. map (row_of I ps) (cond b (made ∷ []) [])) t))

  -- all choices of the next variable are done
  pub choices_done : (made : Env) (ranges : List (List (List Piece))) (first d left : List (List Piece)) (rows old : List FormRow) → 1 ≤ length ranges → length left < 1 → first ≡ get_or ranges 0 d →
      rows ++ rows_each I tests ps made left (take (length ranges - 1) (drop 1 ranges)) ≡ old ++ rows_each I tests ps made first (take (length ranges - 1) (drop 1 ranges)) → rows ≡ old ++ rows_with I tests ps made ranges
  choices_done made [] first d left rows old some none is h = let bad : ⊥ = omega (arith, some) in absurd bad
  choices_done made (r ∷ rs) first d (l ∷ left) rows old some none is h = let bad : ⊥ = omega (arith, none) in absurd bad
  choices_done made (r ∷ rs) first d [] rows old some none is h =
      let whole : take (length (r ∷ rs) - 1) rs ≡ rs = take_all rs _ (omega arith) in
      sym (append-nil rows) ∙ h
      ∙ ap (λ cs. old ++ rows_each I tests ps made cs (take (length (r ∷ rs) - 1) rs)) is
      ∙ ap (λ l. old ++ rows_each I tests ps made r l) whole
      ∙ ap (λ l. old ++ l) (sym (rows_by_choice made r rs))

module _ (I : Instance) where
  test_passes : (c : Cond) (e : Env) → passes I e (test_of I c) ≡ cond_holds c I e
  test_passes (Pred p x) e = refl
  test_passes (Join x y) e = refl
  test_passes (is_in x h ts) e = list_any-map (λ row. row_matches (values_of I e x) row) put_together (terms_rows ts I)
  test_passes (not_in x h ts) e = ap not (list_any-map (λ row. row_matches (values_of I e x) row) put_together (terms_rows ts I))

  tests_pass : (cs : Conds) (e : Env) → all_pass I e (tests_of I cs) ≡ conds_hold cs I e
  tests_pass no_conds e = refl
  tests_pass (cond_then c cs) e = ap (λ b. b && all_pass I e (tests_of I cs)) (test_passes c e) ∙ ap (λ b. cond_holds c I e && b) (tests_pass cs e)

  from_none : (es : List Env) → map (λ e. [] ++ e) es ≡ es
  from_none [] = refl
  from_none (e ∷ es) = ap (λ l. e ∷ l) (from_none es)

  -- a term's rows
  pub term_rows : (cs : Conds) (ps : List Expr) (ranges : List (List (List Piece))) → rows_with I (tests_of I cs) ps [] ranges ≡ one_rows (conds_hold cs I) (row_of I ps) ranges
  term_rows cs ps ranges =
      ap (λ es. map (row_of I ps) (filter (λ e. all_pass I e (tests_of I cs)) es)) (from_none (choices ranges))
      ∙ ap (map (row_of I ps)) (filter_each (λ e. all_pass I e (tests_of I cs)) (conds_hold cs I) (choices ranges) (each_for (choices ranges) (λ e. tests_pass cs e)))

  -- what is added to the rows is a term's
  pub term_added : {X E : Type 0} (r : Result X E) (cs : Conds) (ps exprs : List Expr) (tests : List Test) (rr ranges : List (List (List Piece))) (old new : List FormRow) → tests ≡ tests_of I cs → exprs ≡ ps → ranges ≡ rr →
      OnOk r (new ≡ old ++ rows_with I tests exprs [] ranges) → OnOk r (new ≡ old ++ one_rows (conds_hold cs I) (row_of I ps) rr)
  term_added (Ok x) cs ps exprs tests rr ranges old new t e r h =
      h ∙ ap (λ ts. old ++ rows_with I ts exprs [] ranges) t ∙ ap (λ xs. old ++ rows_with I (tests_of I cs) xs [] ranges) e
      ∙ ap (λ gs. old ++ rows_with I (tests_of I cs) ps [] gs) r ∙ ap (λ l. old ++ l) (term_rows cs ps rr)
  term_added (Err x) cs ps exprs tests rr ranges old new t e r h = h
