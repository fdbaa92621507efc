-- A piece of an opened variable has the values that it had.
use Rattle.std.proofs.Common.{ℕ, zero, suc, ◌+◌, Bool, true, false, cond, List, [], ◌∷◌, ◌++◌, map, ◌≡◌, refl, sym, ap, ◌∙◌, length, ◌⊎◌, inl, inr, eqb-true, eq-eqb}
use Rattle.std.specs.Prelude.{nat_eq, slice_index_or}
use Rattle.std.proofs.lemmas.Bool.{false≢true}
use Rattle.wt_bag.specs.Bags.{Each}
use Rattle.wt_bag.specs.Choices.{Has}
use Rattle.wt_value.specs.declared.value.Value.{Value}
use Rattle.wt_value.specs.declared.value.Value.TheVariants.{Null}
use Rattle.wt_value.specs.Values.{Tuple}
use Rattle.wt_symbol.specs.declared.head.Part.{Part}
use Rattle.wt_symbol.specs.declared.head.PartCols.{PartCols}
use Rattle.wt_symbol.specs.declared.head.PartCols.TheVariants.{Whole, List as Listed}
use Rattle.wt_form.specs.declared.form.Expr.{Expr}
use Rattle.wt_form.specs.declared.form.Expr.TheVariants.{Of, Null as NullOf}
use Rattle.wt_form.specs.Parts.{expr_up}
use Rattle.wt_instance.specs.declared.instance.Instance.{Instance}
use Rattle.wt_instance.specs.Instances.{width, numbers}
use Rattle.wt_rows.specs.FormRows.{Piece, Env, values_in, numbered, beside, label, labels, number_at, part_values, nulls, null_values, values_of, row_of}
use Rattle.std.specs.Prelude.{Some, None}
use Rattle.wt_form.specs.Known.{cols_eq}
use Rattle.wt_form.specs.Closed.{IsWithin}
use Rattle.wt_form.specs.Opening.{take_part}
use Rattle.wt_rows.proofs.Reading.{RowReads, values_numbered}
use Rattle.wt_rows.proofs.Rewrite.{cols_equal}
use Rattle.wt_rows.proofs.Open.{inner}

-- cut down to columns c, the piece gives what its values under its part's numbers give
abbrev pub CutReads : Instance → Env → PartCols → PartCols → Expr → Type 0
CutReads I e own c (Of v i d) = cols_eq c own ≡ false → cols_eq d own ≡ true → part_values I c (slice_index_or (slice_index_or e v []) i []) ≡ part_values I c (label I own (part_values I d (slice_index_or (slice_index_or e v []) i [])))
CutReads I e own c (NullOf r d) = cols_eq c own ≡ false → null_values I r c ≡ part_values I c (label I own (null_values I r d))

abbrev pub CutReadsAt : Instance → Env → ℕ → PartCols → List Part → List Expr → Type 0
CutReadsAt I e i c [] ps = Unit {0}
CutReadsAt I e i c (h ∷ hs) [] = Unit {0}
CutReadsAt I e zero c (h ∷ hs) (p ∷ ps) = CutReads I e h.cols c p
CutReadsAt I e (suc i) c (h ∷ hs) (p ∷ ps) = CutReadsAt I e i c hs ps

pub some_is : (x y : Expr) → Some x ≡ Some y → x ≡ y
some_is x y h = cc

pub take_value : (I : Instance) (a e b : Env) (k : ℕ) (hs : List Part) (ps : List Expr) (i : ℕ) (c : PartCols) (y : Expr) → length a ≡ k → Each (IsWithin (length e)) ps → RowReads I hs (row_of I ps e) → CutReadsAt I e i c hs ps →
    take_part hs (map (expr_up k) ps) i c ≡ Some y → values_of I (a ++ (e ++ b)) y ≡ part_values I c (slice_index_or (labels I hs (row_of I ps e)) i [])
take_value I a e b k [] ps i c y l w f r q = cc
take_value I a e b k (h ∷ hs) [] i c y l w f r q = cc
take_value I a e b k (h ∷ hs) (p ∷ ps) (suc i) c y l w f r q = take_value I a e b k hs ps i c y l w.1 f.1 r q
take_value I a e b k (h ∷ hs) (Of v j d ∷ ps) zero c y l w f r q = go (cols_eq c h.cols) refl (cols_eq d h.cols) refl q
  where
    go : (t : Bool) → cols_eq c h.cols ≡ t → (u : Bool) → cols_eq d h.cols ≡ u → cond t (Some (Of (k + v) j d)) (cond u (Some (Of (k + v) j c)) None) ≡ Some y → values_of I (a ++ (e ++ b)) y ≡ part_values I c (label I h.cols (values_of I e (Of v j d)))
    go true m u n q = ap (values_of I (a ++ (e ++ b))) (sym (some_is (Of (k + v) j d) y q)) ∙ inner I a e b k (Of v j d) l w.0 ∙ sym f.0 ∙ ap (λ z. part_values I z (label I h.cols (values_of I e (Of v j d)))) (sym (cols_equal c h.cols m))
    go false m true n q = ap (values_of I (a ++ (e ++ b))) (sym (some_is (Of (k + v) j c) y q)) ∙ inner I a e b k (Of v j c) l w.0 ∙ r m n
    go false m false n q = cc
take_value I a e b k (h ∷ hs) (NullOf s d ∷ ps) zero c y l w f r q = go (cols_eq c h.cols) refl q
  where
    go : (t : Bool) → cols_eq c h.cols ≡ t → cond t (Some (NullOf s d)) (Some (NullOf s c)) ≡ Some y → values_of I (a ++ (e ++ b)) y ≡ part_values I c (label I h.cols (values_of I e (NullOf s d)))
    go true m q = ap (values_of I (a ++ (e ++ b))) (sym (some_is (NullOf s d) y q)) ∙ sym f.0 ∙ ap (λ z. part_values I z (label I h.cols (null_values I s d))) (sym (cols_equal c h.cols m))
    go false m q = ap (values_of I (a ++ (e ++ b))) (sym (some_is (NullOf s c) y q)) ∙ r m

-- a list's values under its numbers are read back by number
pub beside_reads : (f : ℕ → Value) (ns : List ℕ) (n : ℕ) → Has n ns → number_at (beside ns (map f ns)) n ≡ f n
beside_reads f [] n h = absurd h
beside_reads f (m ∷ ns) n h = go (nat_eq m n) refl h (λ k. beside_reads f ns n k)
  where
    go : (b : Bool) → nat_eq m n ≡ b → (n ≡ m) ⊎ Has n ns → (Has n ns → number_at (beside ns (map f ns)) n ≡ f n) → cond (nat_eq m n) (f m) (number_at (beside ns (map f ns)) n) ≡ f n
    go true q h ih = ap (λ t. cond t (f m) (number_at (beside ns (map f ns)) n)) q ∙ ap f (eqb-true m n q)
    go false q (inl k) ih = absurd (false≢true (sym q ∙ eq-eqb m n (sym k)))
    go false q (inr k) ih = ap (λ t. cond t (f m) (number_at (beside ns (map f ns)) n)) q ∙ ih k

pub beside_each : (f : ℕ → Value) (ns ms : List ℕ) → Each (λ n. Has n ns) ms → map f ms ≡ map (number_at (beside ns (map f ns))) ms
beside_each f ns [] h = refl
beside_each f ns (m ∷ ms) h = sym (rw (beside_reads f ns m h.0, sym (beside_each f ns ms h.1)) refl)

-- cut down to a list within the part's list
pub cut_list : (I : Instance) (e : Env) (v i a c : ℕ) → Each (λ n. Has n (numbers I a)) (numbers I c) → CutReads I e (Listed a) (Listed c) (Of v i (Listed a))
cut_list I e v i a c h p q = beside_each (number_at (slice_index_or (slice_index_or e v []) i [])) (numbers I a) (numbers I c) h

-- a whole piece, numbered from 0 on
pub cut_whole : (I : Instance) (e : Env) (v i : ℕ) (c : PartCols) (row : Tuple) → slice_index_or (slice_index_or e v []) i [] ≡ numbered 0 row → CutReads I e Whole c (Of v i Whole)
cut_whole I e v i c row q p p' = ap (part_values I c) (q ∙ sym (ap (numbered 0) (ap values_in q ∙ values_numbered 0 row)))

-- NULLs under any numbers
pub number_of_null : (p : Piece) (n : ℕ) → Each (λ x. x.1 ≡ Null) p → number_at p n ≡ Null
number_of_null [] n h = refl
number_of_null (x ∷ p) n h = go (nat_eq x.0 n) (number_of_null p n h.1)
  where
    go : (b : Bool) → number_at p n ≡ Null → cond b x.1 (number_at p n) ≡ Null
    go true ih = h.0
    go false ih = ih

nulls_numbered : (k : ℕ) (vs : Tuple) → Each (λ v. v ≡ Null) vs → Each (λ x. x.1 ≡ Null) (numbered k vs)
nulls_numbered k [] h = tt
nulls_numbered k (v ∷ vs) h = (h.0, nulls_numbered (suc k) vs h.1)

nulls_beside : (ns : List ℕ) (vs : Tuple) → Each (λ v. v ≡ Null) vs → Each (λ x. x.1 ≡ Null) (beside ns vs)
nulls_beside [] vs h = tt
nulls_beside (n ∷ ns) [] h = tt
nulls_beside (n ∷ ns) (v ∷ vs) h = (h.0, nulls_beside ns vs h.1)

pub nulls_each : (n : ℕ) → Each (λ v. v ≡ Null) (nulls n)
nulls_each zero = tt
nulls_each (suc n) = (refl, nulls_each n)

listed_nulls : (ns : List ℕ) → Each (λ v. v ≡ Null) (map (λ n. Null) ns)
listed_nulls [] = tt
listed_nulls (n ∷ ns) = (refl, listed_nulls ns)

pub null_each : (I : Instance) (r : ℕ) (d : PartCols) → Each (λ v. v ≡ Null) (null_values I r d)
null_each I r Whole = nulls_each (width I r)
null_each I r (Listed a) = listed_nulls (numbers I a)

pub label_nulls : (I : Instance) (own : PartCols) (vs : Tuple) → Each (λ v. v ≡ Null) vs → Each (λ x. x.1 ≡ Null) (label I own vs)
label_nulls I Whole vs h = nulls_numbered 0 vs h
label_nulls I (Listed a) vs h = nulls_beside (numbers I a) vs h

pub cut_null : (I : Instance) (e : Env) (own : PartCols) (r c : ℕ) (d : PartCols) → CutReads I e own (Listed c) (NullOf r d)
cut_null I e own r c d p = go (numbers I c)
  where
    go : (ns : List ℕ) → map (λ n. Null) ns ≡ map (number_at (label I own (null_values I r d))) ns
    go [] = refl
    go (n ∷ ns) = sym (rw (number_of_null (label I own (null_values I r d)) n (label_nulls I own (null_values I r d) (null_each I r d)), sym (go ns)) refl)
