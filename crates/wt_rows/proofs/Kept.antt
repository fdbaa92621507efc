-- Rows that are kept still fit.
use Rattle.std.proofs.Common.{ℕ, length, eqb-true, eq-eqb, Bool, true, false, ◌&&◌, ◌||◌, not, List, [], ◌∷◌, ◌≡◌, refl, sym, ap, ◌∙◌}
use Rattle.std.specs.List.{list_any}
use Rattle.std.proofs.lemmas.Bool.{and_parts, and_from, false≢true}
use Rattle.wt_bag.specs.Bags.{Each, SameElements}
use Rattle.wt_bag.proofs.EachLaws.{each_implies}
use Rattle.wt_bag.proofs.BagLaws.{same_elements}
use Rattle.wt_value.specs.Values.{Tuple, row_same}
use Rattle.wt_symbol.specs.declared.head.Part.{Part}
use Rattle.std.specs.Prelude.{nat_eq}
use Rattle.wt_symbol.specs.declared.head.PartCols.{PartCols}
use Rattle.wt_symbol.specs.declared.head.PartCols.TheVariants.{Whole, List as Listed}
use Rattle.wt_instance.specs.Instances.{width}
use Rattle.wt_instance.specs.declared.instance.Instance.{Instance}
use Rattle.wt_rows.specs.FormRows.{FormRow, label, part_values}
use Rattle.wt_value.proofs.Comparing.{row_same_decides}
use Rattle.wt_rows.specs.Fits.{ValuesFit, RowFits}
use Rattle.wt_rows.specs.Keeping.{Keeps}

-- whether the values of a piece fit, and those of a row
abbrev values_fit : Instance → ℕ → PartCols → Tuple → Bool
values_fit I r Whole vs = nat_eq (length vs) (width I r)
values_fit I r (Listed a) vs = row_same (part_values I (Listed a) (label I (Listed a) vs)) vs

abbrev row_fits : Instance → List Part → FormRow → Bool
row_fits I [] [] = true
row_fits I (h ∷ hs) (vs ∷ row) = values_fit I h.leaf h.cols vs && row_fits I hs row
row_fits I [] (vs ∷ row) = false
row_fits I (h ∷ hs) [] = false

values_of_test : (I : Instance) (r : ℕ) (c : PartCols) (vs : Tuple) → values_fit I r c vs ≡ true → ValuesFit I r c vs
values_of_test I r Whole vs h = eqb-true (length vs) (width I r) h
values_of_test I r (Listed a) vs h = row_same_decides.sound (part_values I (Listed a) (label I (Listed a) vs)) vs h

test_of_values : (I : Instance) (r : ℕ) (c : PartCols) (vs : Tuple) → ValuesFit I r c vs → values_fit I r c vs ≡ true
test_of_values I r Whole vs h = eq-eqb (length vs) (width I r) h
test_of_values I r (Listed a) vs h = ap (λ us. row_same us vs) h ∙ row_same_decides.reflexive vs

fits_of_test : (I : Instance) (hs : List Part) (row : FormRow) → row_fits I hs row ≡ true → RowFits I hs row
fits_of_test I [] [] h = tt
fits_of_test I (p ∷ hs) (vs ∷ row) h =
    let q = and_parts (values_fit I p.leaf p.cols vs) (row_fits I hs row) h in
    (values_of_test I p.leaf p.cols vs q.0, fits_of_test I hs row q.1)
fits_of_test I [] (vs ∷ row) h = absurd (false≢true h)
fits_of_test I (p ∷ hs) [] h = absurd (false≢true h)

test_of_fits : (I : Instance) (hs : List Part) (row : FormRow) → RowFits I hs row → row_fits I hs row ≡ true
test_of_fits I [] [] f = refl
test_of_fits I (p ∷ hs) (vs ∷ row) f = and_from (values_fit I p.leaf p.cols vs) (row_fits I hs row) (test_of_values I p.leaf p.cols vs f.0) (test_of_fits I hs row f.1)
test_of_fits I [] (vs ∷ row) f = absurd f
test_of_fits I (p ∷ hs) [] f = absurd f

none_unfit : (p : FormRow → Bool) (rows : List FormRow) → Each (λ row. p row ≡ true) rows → list_any (λ row. not (p row)) rows ≡ false
none_unfit p [] h = refl
none_unfit p (row ∷ rows) h = ap (λ b. not b || list_any (λ row. not (p row)) rows) h.0 ∙ none_unfit p rows h.1

each_fits : (p : FormRow → Bool) (rows : List FormRow) → list_any (λ row. not (p row)) rows ≡ false → Each (λ row. p row ≡ true) rows
each_fits p [] h = tt
each_fits p (row ∷ rows) h = go (p row) refl h (λ k. each_fits p rows k)
  where
    go : (b : Bool) → p row ≡ b → (not b || list_any (λ row. not (p row)) rows) ≡ false → (list_any (λ row. not (p row)) rows ≡ false → Each (λ row. p row ≡ true) rows) → (p row ≡ true) × Each (λ row. p row ≡ true) rows
    go true q h ih = (q, ih h)
    go false q h ih = absurd (false≢true (sym h))

elements_fit : (I : Instance) (hs : List Part) (xs ys : List FormRow) → SameElements xs ys → Each (RowFits I hs) xs → Each (RowFits I hs) ys
elements_fit I hs xs ys same f = each_implies _ _ ys (fits_of_test I hs)
    (each_fits (row_fits I hs) ys (sym (same.tests (λ row. not (row_fits I hs row))) ∙ none_unfit (row_fits I hs) xs (each_implies _ _ xs (test_of_fits I hs) f)))

-- what keeps rows, at the top or nested, keeps that each fits
pub kept_rows_fit : (I : Instance) (k : Bool) (hs : List Part) (xs ys : List FormRow) → Keeps k xs ys → Each (RowFits I hs) xs → Each (RowFits I hs) ys
kept_rows_fit I false hs xs ys h f = elements_fit I hs xs ys (same_elements xs ys h) f
kept_rows_fit I true hs xs ys h f = elements_fit I hs xs ys h f
