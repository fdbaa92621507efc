-- The rows of a form with the names of their columns.
use Rattle.std.proofs.Common.{ℕ, true, false, ◌&&◌, cond, List, [], ◌∷◌, ◌++◌, map, ◌≡◌, refl, sym, ap, ◌∙◌, subst, ◌⊎◌, inl, inr}
use Rattle.std.specs.Prelude.{nat_eq, slice_index_or, ◌==◌, if◌then◌else◌}
use Rattle.wt_bag.specs.Bags.{Each}
use Rattle.wt_bag.specs.Choices.{Has}
use Rattle.wt_bag.proofs.EachLaws.{each_implies}
use Rattle.wt_value.specs.declared.value.Value.{Value}
use Rattle.wt_value.specs.declared.value.Value.TheVariants.{Null}
use Rattle.wt_symbol.specs.declared.head.Part.{Part}
use Rattle.wt_symbol.specs.declared.head.PartCols.{PartCols}
use Rattle.wt_symbol.specs.declared.head.PartCols.TheVariants.{Whole, List as Listed}
use Rattle.wt_form.specs.declared.form.Expr.{Expr}
use Rattle.wt_form.specs.declared.form.Expr.TheVariants.{Of, Null as NullOf}
use Rattle.wt_form.specs.Trees.{Ranges}
use Rattle.wt_form.specs.Parts.{ranges_list}
use Rattle.wt_form.specs.FormOf.{expr_with, list_expr}
use Rattle.wt_instance.specs.declared.instance.Instance.{Instance}
use Rattle.wt_instance.specs.Instances.{numbers}
use Rattle.wt_instance.specs.Rows.{Named, cell, value_at}
use Rattle.wt_rows.specs.FormRows.{Piece, Env, FormRow, values_in, numbered, beside, label, number_at, null_values, values_of, row_of}
use Rattle.wt_rows.specs.Fits.{AreOf, ExprFits}
use Rattle.wt_rows.proofs.Reading.{values_numbered}
use Rattle.wt_rows.proofs.Values.{Chosen}
use Rattle.wt_rows.proofs.Take.{beside_reads, number_of_null, label_nulls, null_each}
use Rattle.wt_rows.proofs.Opens.{whole_chosen}

-- a piece whose columns are those of a leaf
abbrev pub named_piece : ℕ → Piece → Named
named_piece r p = map (λ x. cell r x.0 x.1) p

-- a row of a form with this head
abbrev pub named_row : Instance → List Part → FormRow → Named
named_row I [] row = []
named_row I (h ∷ hs) [] = []
named_row I (h ∷ hs) (vs ∷ row) = named_piece h.leaf (label I h.cols vs) ++ named_row I hs row

-- the columns of an expression
abbrev pub cols_of : Expr → PartCols
cols_of (Of v i c) = c
cols_of (NullOf r c) = c

-- each piece has its part's columns
abbrev pub HaveCols : List Part → List Expr → Type 0
HaveCols [] [] = Unit {0}
HaveCols (h ∷ hs) (x ∷ ps) = (cols_of x ≡ h.cols) × HaveCols hs ps
HaveCols [] (x ∷ ps) = ⊥
HaveCols (h ∷ hs) [] = ⊥

-- one part has the leaf, and the list's numbers are among its own
abbrev pub ListStands : Instance → List Part → ℕ → ℕ → Type 0
ListStands I [] r a = ⊥
ListStands I (h ∷ hs) r a = ((nat_eq h.leaf r ≡ true) × AreOf I h.cols (Listed a) × Each (λ k. nat_eq k.leaf r ≡ false) hs) ⊎ ((nat_eq h.leaf r ≡ false) × ListStands I hs r a)

name_test : (l r m n : ℕ) (v w : Value) → (if (l == r) && (m == n) then v else w) ≡ cond (nat_eq l r && nat_eq m n) v w
name_test l r m n v w = refl

value_other : (l r n : ℕ) (p : Piece) (w : Named) → nat_eq l r ≡ false → value_at (named_piece l p ++ w) r n ≡ value_at w r n
value_other l r n [] w e = refl
value_other l r n (x ∷ p) w e = ap (λ b. cond (b && nat_eq x.0 n) x.1 (value_at (named_piece l p ++ w) r n)) e ∙ value_other l r n p w e

value_here : (l r n : ℕ) (p : Piece) (w : Named) → nat_eq l r ≡ true → value_at w r n ≡ Null → value_at (named_piece l p ++ w) r n ≡ number_at p n
value_here l r n [] w e h = h
value_here l r n (x ∷ p) w e h = ap (λ b. cond (b && nat_eq x.0 n) x.1 (value_at (named_piece l p ++ w) r n)) e ∙ ap (cond (nat_eq x.0 n) x.1) (value_here l r n p w e h)

value_none : (I : Instance) (r n : ℕ) (hs : List Part) (row : FormRow) → Each (λ k. nat_eq k.leaf r ≡ false) hs → value_at (named_row I hs row) r n ≡ Null
value_none I r n [] row h = refl
value_none I r n (k ∷ hs) [] h = refl
value_none I r n (k ∷ hs) (vs ∷ row) h = value_other k.leaf r n (label I k.cols vs) (named_row I hs row) h.0 ∙ value_none I r n hs row h.1

-- the value of an expression's part at a column
abbrev pub expr_value : Env → Expr → ℕ → Value
expr_value e (Of v i c) n = number_at (slice_index_or (slice_index_or e v []) i []) n
expr_value e (NullOf r c) n = Null

pub values_with : (I : Instance) (e : Env) (x : Expr) (a : ℕ) → values_of I e (expr_with x (Listed a)) ≡ map (expr_value e x) (numbers I a)
values_with I e (Of v i c) a = refl
values_with I e (NullOf r c) a = refl

-- a piece under its own columns gives the values of its part
piece_reads : (I : Instance) (rs : Ranges) (e : Env) (x : Expr) (a : ℕ) → Chosen I rs e → ExprFits I rs x → AreOf I (cols_of x) (Listed a) → Each (λ n. number_at (label I (cols_of x) (values_of I e x)) n ≡ expr_value e x n) (numbers I a)
piece_reads I rs e (Of v i Whole) a ch fits k =
    let w = whole_chosen I (ranges_list rs) e v i ch fits.0 in
    let same : numbered 0 (values_in (slice_index_or (slice_index_or e v []) i [])) ≡ slice_index_or (slice_index_or e v []) i [] = ap (λ p. numbered 0 (values_in p)) w.1 ∙ ap (numbered 0) (values_numbered 0 w.0) ∙ sym w.1 in
    all (numbers I a) (λ n. ap (λ p. number_at p n) same)
  where
    all : {P : ℕ → Type 0} (ns : List ℕ) → ((n : ℕ) → P n) → Each P ns
    all [] f = tt
    all (n ∷ ns) f = (f n, all ns f)
piece_reads I rs e (Of v i (Listed d)) a ch fits k = each_implies (λ n. Has n (numbers I d)) _ (numbers I a) (λ n h. beside_reads (number_at (slice_index_or (slice_index_or e v []) i [])) (numbers I d) n h) k
piece_reads I rs e (NullOf r c) a ch fits k = all (numbers I a)
  where
    all : (ns : List ℕ) → Each (λ n. number_at (label I c (null_values I r c)) n ≡ Null) ns
    all [] = tt
    all (n ∷ ns) = (number_of_null (label I c (null_values I r c)) n (label_nulls I c (null_values I r c) (null_each I r c)), all ns)

map_each : {X Y : Type 0} (f g : X → Y) (xs : List X) → Each (λ x. f x ≡ g x) xs → map f xs ≡ map g xs
map_each f g [] h = refl
map_each f g (x ∷ xs) h = ap (λ y. y ∷ map f xs) h.0 ∙ ap (λ ys. g x ∷ ys) (map_each f g xs h.1)

-- the values of a list in a named row are those of the form's expression
pub list_values : (I : Instance) (rs : Ranges) (e : Env) (hs : List Part) (ps : List Expr) (r a : ℕ) → Chosen I rs e → ListStands I hs r a → HaveCols hs ps → Each (ExprFits I rs) ps →
    map (value_at (named_row I hs (row_of I ps e)) r) (numbers I a) ≡ values_of I e (list_expr hs ps r a)
list_values I rs e [] ps r a ch st cols fits = absurd st
list_values I rs e (k ∷ hs) [] r a ch st cols fits = absurd cols
list_values I rs e (k ∷ hs) (x ∷ ps) r a ch (inl st) cols fits =
    map_each _ (expr_value e x) (numbers I a)
    (each_implies (λ n. number_at (label I (cols_of x) (values_of I e x)) n ≡ expr_value e x n) _ (numbers I a)
    (λ n q. value_here k.leaf r n (label I k.cols (values_of I e x)) (named_row I hs (row_of I ps e)) st.0 (value_none I r n hs (row_of I ps e) st.2)
    ∙ ap (λ c. number_at (label I c (values_of I e x)) n) (sym cols.0) ∙ q)
    (piece_reads I rs e x a ch fits.0 (subst (λ c. AreOf I c (Listed a)) (sym cols.0) st.1)))
    ∙ sym (values_with I e x a)
    ∙ ap (λ b. values_of I e (cond b (expr_with x (Listed a)) (list_expr hs ps r a))) (sym st.0)
list_values I rs e (k ∷ hs) (x ∷ ps) r a ch (inr st) cols fits =
    map_each _ _ (numbers I a) (all (numbers I a))
    ∙ list_values I rs e hs ps r a ch st.1 cols.1 fits.1
    ∙ ap (λ b. values_of I e (cond b (expr_with x (Listed a)) (list_expr hs ps r a))) (sym st.0)
  where
    all : (ns : List ℕ) → Each (λ n. value_at (named_row I (k ∷ hs) (row_of I (x ∷ ps) e)) r n ≡ value_at (named_row I hs (row_of I ps e)) r n) ns
    all [] = tt
    all (n ∷ ns) = (value_other k.leaf r n (label I k.cols (values_of I e x)) (named_row I hs (row_of I ps e)) st.0, all ns)

-- the columns of a list, named
pub named_list : (r : ℕ) (f : ℕ → Value) (ns : List ℕ) → map (λ n. cell r n (f n)) ns ≡ named_piece r (beside ns (map f ns))
named_list r f [] = refl
named_list r f (n ∷ ns) = ap (λ w. cell r n (f n) ∷ w) (named_list r f ns)
