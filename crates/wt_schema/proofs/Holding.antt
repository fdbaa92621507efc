-- The tables of which a loop has seen that they hold, and rows that do not fit.
use Rattle.std.proofs.Common.{◌≡◌, ℕ, ◌+◌, ◌<◌, ◌≤◌, List, [], ◌∷◌, length, get_or, arith, below_more, sym, ◌∙◌, subst}
use Rattle.std.proofs.lemmas.List.{get_or_default}
use Rattle.wt_value.specs.Values.{Tuple}
use Rattle.wt_schema.specs.declared.schema.Column.{Column}
use Rattle.wt_schema.specs.declared.schema.Table.{Table}
use Rattle.wt_schema.specs.Satisfying.{TableHolds, RowFits, AllHold, rows_of}

abbrev pub HoldBelow : List Table → List (List Tuple) → ℕ → Type 0
HoldBelow tables base n = (k : ℕ) (t : Table) → k < n → TableHolds base (get_or tables k t) (rows_of base k)

same_table : (tables : List Table) (base : List (List Tuple)) (n : ℕ) (x t : Table) (rows : List Tuple) → n < length tables → n < length base → x ≡ get_or tables n x → rows ≡ get_or base n rows
    → (x ≡ get_or tables n t) × (rows ≡ rows_of base n)
same_table tables base n x t rows h l is are = (is ∙ get_or_default tables n x t h, are ∙ get_or_default base n rows [] l)

pub hold_more : (tables : List Table) (base : List (List Tuple)) (n : ℕ) (x : Table) (rows : List Tuple) → n < length tables → n < length base → x ≡ get_or tables n x → rows ≡ get_or base n rows
    → HoldBelow tables base n → TableHolds base x rows → HoldBelow tables base (n + 1)
hold_more tables base n x rows h l is are below here k t m =
    below_more (λ i. (t : Table) → TableHolds base (get_or tables i t) (rows_of base i)) n
    (λ i less t. below i t less)
    (λ t.
    let same = same_table tables base n x t rows h l is are in
    subst (λ y. TableHolds base y (rows_of base n)) same.0 (subst (λ y. TableHolds base x y) same.1 here))
    k m t

pub holds_at : (tables : List Table) (base : List (List Tuple)) (n : ℕ) (x : Table) (rows : List Tuple) → n < length tables → n < length base → x ≡ get_or tables n x → rows ≡ get_or base n rows
    → AllHold tables base → TableHolds base x rows
holds_at tables base n x rows h l is are all =
    let same = same_table tables base n x x rows h l is are in
    subst (λ y. TableHolds base x y) (sym same.1) (subst (λ y. TableHolds base y (rows_of base n)) (sym same.0) (all n x h))

pub row_too_short : (columns : List Column) (row : Tuple) → 1 ≤ length columns → length row < 1 → RowFits columns row → ⊥
row_too_short [] row h l fits = omega arith
row_too_short (c ∷ cs) [] h l fits = fits
row_too_short (c ∷ cs) (v ∷ vs) h l fits = omega arith
