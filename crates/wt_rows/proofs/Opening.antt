-- Each opened expression has the value that it had.
use Rattle.std.proofs.Common.{ℕ, suc, ◌+◌, ◌-◌, ◌<◌, Bool, true, cond, ltb, List, [], ◌∷◌, ◌++◌, map, ◌≡◌, sym, ap, ◌∙◌, subst, arith, length, ◌⊎◌, inl, inr, eq-eqb}
use Rattle.std.specs.Prelude.{nat_eq, slice_index_or}
use Rattle.std.proofs.lemmas.Bool.{lt-ltb, le-ltb, cases_order}
use Rattle.wt_bag.specs.Bags.{Each}
use Rattle.wt_bag.specs.Choices.{choices}
use Rattle.wt_bag.proofs.EachLaws.{each_both}
use Rattle.wt_symbol.specs.declared.head.Part.{Part}
use Rattle.wt_symbol.specs.declared.head.PartCols.{PartCols}
use Rattle.wt_form.specs.declared.form.Expr.{Expr}
use Rattle.wt_form.specs.declared.form.Expr.TheVariants.{Of, Null as NullOf}
use Rattle.wt_form.specs.Trees.{Terms, Ranges, Conds}
use Rattle.wt_form.specs.Parts.{one_term, ranges_count, conds_list, expr_up}
use Rattle.wt_form.specs.Known.{Known}
use Rattle.wt_form.specs.Closed.{IsWithin}
use Rattle.wt_instance.specs.declared.instance.Instance.{Instance}
use Rattle.wt_rows.specs.FormRows.{Piece, Env, FormRow, form_row_same, labels, part_values, values_of, row_of, one_rows, terms_rows, ranges_rows, conds_hold}
use Rattle.std.specs.Prelude.{Some}
use Rattle.std.proofs.lemmas.List.{get_or-append_right}
use Rattle.std.proofs.lemmas.Bool.{ne_eqb}
use Rattle.wt_bag.specs.Bags.{AtMostOne}
use Rattle.wt_bag.proofs.EachLaws.{each_append_left, each_of_filter_map}
use Rattle.wt_form.specs.Opening.{expr_opened, take_part, Opened}
use Rattle.wt_rows.proofs.Reading.{RowReads}
use Rattle.wt_rows.specs.Keeping.{Keeps}
use Rattle.wt_rows.proofs.Vars.{get_here, get_left}
use Rattle.wt_rows.proofs.Open.{OfCond, opened_keeps}
use Rattle.wt_rows.proofs.Take.{CutReadsAt, some_is, take_value}

-- where an expression is over variable k, its part and columns have the property
abbrev pub OverPart : ℕ → (ℕ → PartCols → Type 0) → Expr → Type 0
OverPart k P (Of v i c) = v ≡ k → P i c
OverPart k P (NullOf r c) = Unit {0}

above : (a e b : Env) (w : List Piece) (k n v : ℕ) → length a ≡ k → length e ≡ n → k < v → slice_index_or (a ++ (e ++ b)) (n + v - 1) [] ≡ slice_index_or (a ++ w ∷ b) v []
above a e b w k n v l m h =
    get_or-append_right a (e ++ b) k (n + v - 1) [] l (omega arith)
    ∙ get_or-append_right e b n (n + v - 1 - k) [] m (omega arith)
    ∙ ap (λ j. slice_index_or b j []) same
    ∙ sym (ap (λ j. slice_index_or (w ∷ b) j []) more)
    ∙ sym (get_or-append_right a (w ∷ b) k v [] l (omega arith))
  where
    same : n + v - 1 - k - n ≡ v - 1 - k
    same = omega arith

    more : v - k ≡ suc (v - 1 - k)
    more = omega arith

value_opened : (I : Instance) (a e b : Env) (k n : ℕ) (hs : List Part) (ps : List Expr) (P : ℕ → PartCols → Type 0) → length a ≡ k → length e ≡ n → Each (IsWithin n) ps → RowReads I hs (row_of I ps e) →
    ((i : ℕ) (c : PartCols) → P i c → CutReadsAt I e i c hs ps) → (x y : Expr) → OverPart k P x → expr_opened (record { at = k; n = n; head = hs; pieces = map (expr_up k) ps }) x ≡ Some y →
    values_of I (a ++ (e ++ b)) y ≡ values_of I (a ++ labels I hs (row_of I ps e) ∷ b) x
value_opened I a e b k n hs ps P l m w f cut (NullOf r c) y p q = ap (values_of I (a ++ (e ++ b))) (sym (some_is (NullOf r c) y q))
value_opened I a e b k n hs ps P l m w f cut (Of v i c) y p q = go (cases_order v k)
  where
    go : (v ≡ k) ⊎ ((v < k) ⊎ (k < v)) → values_of I (a ++ (e ++ b)) y ≡ part_values I c (slice_index_or (slice_index_or (a ++ labels I hs (row_of I ps e) ∷ b) v []) i [])
    go (inl h) =
        let q1 : cond (ltb v k) (Some (Of v i c)) (cond (nat_eq v k) (take_part hs (map (expr_up k) ps) i c) (Some (Of (n + v - 1) i c))) ≡ take_part hs (map (expr_up k) ps) i c
        = ap (λ t. cond t (Some (Of v i c)) (cond (nat_eq v k) (take_part hs (map (expr_up k) ps) i c) (Some (Of (n + v - 1) i c)))) (le-ltb v k (omega arith))
        ∙ ap (λ t. cond t (take_part hs (map (expr_up k) ps) i c) (Some (Of (n + v - 1) i c))) (eq-eqb v k h) in
        take_value I a e b k hs ps i c y l (subst (λ z. Each (IsWithin z) ps) (sym m) w) f (cut i c (p h)) (sym q1 ∙ q)
        ∙ ap (λ u. part_values I c (slice_index_or u i [])) (sym (get_here a b (labels I hs (row_of I ps e)) k l) ∙ ap (λ j. slice_index_or (a ++ labels I hs (row_of I ps e) ∷ b) j []) (sym h))
    go (inr (inl h)) =
        let q1 : cond (ltb v k) (Some (Of v i c)) (cond (nat_eq v k) (take_part hs (map (expr_up k) ps) i c) (Some (Of (n + v - 1) i c))) ≡ Some (Of v i c)
        = ap (λ t. cond t (Some (Of v i c)) (cond (nat_eq v k) (take_part hs (map (expr_up k) ps) i c) (Some (Of (n + v - 1) i c)))) (lt-ltb v k h) in
        ap (values_of I (a ++ (e ++ b))) (sym (some_is (Of v i c) y (sym q1 ∙ q)))
        ∙ ap (λ u. part_values I c (slice_index_or u i [])) (get_left a (e ++ b) v (omega arith) ∙ sym (get_left a (labels I hs (row_of I ps e) ∷ b) v (omega arith)))
    go (inr (inr h)) =
        let q1 : cond (ltb v k) (Some (Of v i c)) (cond (nat_eq v k) (take_part hs (map (expr_up k) ps) i c) (Some (Of (n + v - 1) i c))) ≡ Some (Of (n + v - 1) i c)
        = ap (λ t. cond t (Some (Of v i c)) (cond (nat_eq v k) (take_part hs (map (expr_up k) ps) i c) (Some (Of (n + v - 1) i c)))) (le-ltb v k (omega arith))
        ∙ ap (λ t. cond t (take_part hs (map (expr_up k) ps) i c) (Some (Of (n + v - 1) i c))) (ne_eqb v k (λ z. let bad : ⊥ = omega arith in bad)) in
        ap (values_of I (a ++ (e ++ b))) (sym (some_is (Of (n + v - 1) i c) y (sym q1 ∙ q)))
        ∙ ap (λ u. part_values I c (slice_index_or u i [])) (above a e b (labels I hs (row_of I ps e)) k n v l m h)

-- a variable over a nested form of one term whose rows fit is opened: nested, or where no row comes twice
pub opening_keeps : (K : Known) (I : Instance) (k : Bool) (rs : Ranges) (cs : Conds) (ps : List Expr) (us : Terms) (s : Opened K k rs cs ps us) (P : ℕ → PartCols → Type 0) →
    ((k ≡ true) ⊎ ((row : FormRow) → AtMostOne (λ y. form_row_same row y) (terms_rows (one_term s.inner s.conds s.pieces) I))) →
    Each (OfCond (IsWithin (ranges_count s.inner))) (conds_list s.conds) → Each (IsWithin (ranges_count s.inner)) s.pieces →
    Each (OfCond (OverPart (ranges_count s.before) P)) (conds_list cs) → Each (OverPart (ranges_count s.before) P) ps →
    Each (RowReads I s.head) (terms_rows (one_term s.inner s.conds s.pieces) I) →
    Each (λ e. (i : ℕ) (c : PartCols) → P i c → CutReadsAt I e i c s.head s.pieces) (choices (ranges_rows s.inner I)) →
    Keeps k (terms_rows (one_term rs cs ps) I) (terms_rows us I)
opening_keeps K I k rs cs ps us s P once wc wp fc fp rows cuts =
    opened_keeps K I k rs cs ps us s (OverPart (ranges_count s.before) P) (λ e. (conds_hold s.conds I e ≡ true → RowReads I s.head (row_of I s.pieces e)) × ((i : ℕ) (c : PartCols) → P i c → CutReadsAt I e i c s.head s.pieces)) once wc fc fp
    (each_both _ _ _ (choices (ranges_rows s.inner I)) (λ e f c. (f, c))
    (each_of_filter_map (RowReads I s.head) (row_of I s.pieces) (conds_hold s.conds I) (choices (ranges_rows s.inner I))
    (each_append_left (RowReads I s.head) (one_rows (conds_hold s.conds I) (row_of I s.pieces) (ranges_rows s.inner I)) [] rows)) cuts)
    (λ a e b l m h q x y p o. value_opened I a e b (ranges_count s.before) (ranges_count s.inner) s.head s.pieces P l m wp (q.0 h) q.1 x y p o)
