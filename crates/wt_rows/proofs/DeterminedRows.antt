-- Where each variable of a term is determined, no row of it comes twice.
use Rattle.std.proofs.Common.{ℕ, zero, suc, ◌+◌, ◌<◌, ◌≤◌, Bool, true, false, ◌&&◌, not, List, [], ◌∷◌, map, filter, ◌≡◌, refl, sym, ap, ◌∙◌, subst, inl, inr, Some, cond, length, arith}
use Rattle.std.specs.Prelude.{slice_get, slice_index_or}
use Rattle.std.proofs.lemmas.Bool.{and_parts, false≢true}
use Rattle.wt_bag.specs.Bags.{only, Each, AtMostOne, PassesEqualOnly, distinct}
use Rattle.wt_bag.specs.Choices.{choices, Fitting, At, Has, EachLater}
use Rattle.wt_bag.proofs.TotalLaws.{total_ext, only-and}
use Rattle.wt_bag.proofs.EachLaws.{each_filter, each_implies, each_distinct}
use Rattle.wt_bag.proofs.UniqueLists.{each_get, unique_place}
use Rattle.wt_bag.proofs.TaggedChoices.{untag, Stands, at_most_one_choice}
use Rattle.wt_value.specs.declared.value.Value.{Value}
use Rattle.wt_value.specs.Values.{Tuple, pick, HasNoNull, value_at, row_matches}
use Rattle.wt_symbol.specs.declared.head.Part.{Part}
use Rattle.wt_symbol.specs.declared.head.PartCols.TheVariants.{Whole, List as Listed}
use Rattle.wt_form.specs.declared.form.Expr.{Expr}
use Rattle.wt_form.specs.declared.form.Expr.TheVariants.{Of, Null as NullOf}
use Rattle.wt_form.specs.Trees.{Terms, Ranges, no_ranges, range_then, Rel, distinct_of, Conds}
use Rattle.wt_form.specs.Parts.{one_term, ranges_list, conds_list}
use Rattle.wt_form.specs.Known.{Known}
use Rattle.wt_form.specs.Facts.{IsOver, HoldsParts, NotNull, Determined, by_whole_row, by_columns, by_join, by_parts}
use Rattle.wt_form.specs.Opening.{AllDetermined}
use Rattle.wt_instance.specs.declared.instance.Instance.{Instance}
use Rattle.wt_instance.specs.Instances.{table, numbers}
use Rattle.wt_rows.specs.FormRows.{Piece, Env, FormRow, form_row_same, values_in, numbered, label, labels, part_values, values_of, row_of, terms_rows, ranges_rows, range_rows, conds_hold}
use Rattle.wt_rows.specs.Holding.{KnownHolds}
use Rattle.wt_rows.proofs.Sums.{form_rows_decide, total-one, cond_there, length-ranges_rows}
use Rattle.wt_rows.proofs.Reading.{RowReads, RangeReads, values_numbered}
use Rattle.wt_rows.proofs.Values.{InRange, each_in_range, Chosen, values_picked, matched_equal, matched_not_null, matches_itself, joined_match, not_null}

-- no two of the distinct elements are the same
later_filter : {X : Type 0} (R : X → X → Type 0) (p : X → Bool) (xs : List X) → EachLater R xs → EachLater R (filter p xs)
later_filter R p [] h = tt
later_filter R p (x ∷ xs) h = go (p x) (later_filter R p xs h.1)
  where
    go : (b : Bool) → EachLater R (filter p xs) → EachLater R (cond b (x ∷ filter p xs) (filter p xs))
    go true later = (each_filter (R x) p xs h.0, later)
    go false later = later

each_passes : {X : Type 0} (p : X → Bool) (xs : List X) → Each (λ x. p x ≡ true) (filter p xs)
each_passes p [] = tt
each_passes p (x ∷ xs) = go (p x) refl (each_passes p xs)
  where
    go : (b : Bool) → p x ≡ b → Each (λ x. p x ≡ true) (filter p xs) → Each (λ x. p x ≡ true) (cond b (x ∷ filter p xs) (filter p xs))
    go true e rest = (e, rest)
    go false e rest = rest

not_true : (b : Bool) → not b ≡ true → b ≡ false
not_true true h = absurd (false≢true h)
not_true false h = refl

distinct_apart : {X : Type 0} (same : X → X → Bool) (xs : List X) → EachLater (λ x y. same x y ≡ false) (distinct same xs)
distinct_apart same [] = tt
distinct_apart same (x ∷ xs) = (
  each_implies (λ y. not (same x y) ≡ true) (λ y. same x y ≡ false) (filter (λ y. not (same x y)) (distinct same xs)) (λ y h. not_true (same x y) h) (each_passes (λ y. not (same x y)) (distinct same xs)),
  later_filter (λ x y. same x y ≡ false) (λ y. not (same x y)) (distinct same xs) (distinct_apart same xs),
)

-- the element of a mapped list at a place
from_mapped : {X Y : Type 0} (f : X → Y) (xs : List X) (i : ℕ) (y : Y) → slice_get (map f xs) i ≡ Some y → (x : X) × (slice_get xs i ≡ Some x) × (y ≡ f x)
from_mapped f [] i y h = cc
from_mapped f (x ∷ xs) zero y h = (x, refl, (let z : f x ≡ y = cc in sym z))
from_mapped f (x ∷ xs) (suc i) y h = from_mapped f xs i y h

one_place : {X : Type 0} (x y : X) → Some x ≡ Some y → x ≡ y
one_place x y h = cc

lists_equal : {X : Type 0} (d : X) (e e' : List X) → length e ≡ length e' → ((u : ℕ) → u < length e → slice_index_or e u d ≡ slice_index_or e' u d) → e ≡ e'
lists_equal d [] [] l f = refl
lists_equal d [] (y ∷ e') l f = let bad : ⊥ = omega (arith, l) in absurd bad
lists_equal d (x ∷ e) [] l f = let bad : ⊥ = omega (arith, l) in absurd bad
lists_equal d (x ∷ e) (y ∷ e') l f = ap (λ z. z ∷ e) (f 0 (omega arith)) ∙ ap (λ z. y ∷ z) (lists_equal d e e' (omega (arith, l)) (λ u q. f (suc u) (omega (arith, q))))

fitting_length : {X K : Type 0} (P : K → X → Type 0) (ks : List K) (xs : List X) → Fitting P ks xs → length xs ≡ length ks
fitting_length P [] [] f = refl
fitting_length P (k ∷ ks) (x ∷ xs) f = omega (arith, fitting_length P ks xs f.1)
fitting_length P [] (x ∷ xs) f = absurd f
fitting_length P (k ∷ ks) [] f = absurd f

-- a variable's element with its place
abbrev Tagged : Type 0
Tagged = ℕ × List Piece

abbrev none : Tagged
none = (0, [])

untag_at : (e : List Tagged) (u : ℕ) → slice_index_or (untag e) u [] ≡ (slice_index_or e u none).1
untag_at [] u = refl
untag_at (p ∷ e) zero = refl
untag_at (p ∷ e) (suc u) = untag_at e u

rel_place : (I : Instance) (rs : Ranges) (r u : ℕ) (e : List Tagged) → Fitting Stands (ranges_rows rs I) e → At (λ range. range ≡ Rel r) u (ranges_list rs) →
    (row : Tuple) × (slice_get (table I r) (slice_index_or e u none).0 ≡ Some row) × ((slice_index_or e u none).1 ≡ numbered 0 row ∷ [])
rel_place I no_ranges r u e f a = absurd a
rel_place I (range_then q rs) r u [] f a = absurd f
rel_place I (range_then q rs) r zero (p ∷ e) f a = from_mapped (λ row. numbered 0 row ∷ []) (table I r) p.0 p.1 (subst (λ range. slice_get (range_rows range I) p.0 ≡ Some p.1) a f.0)
rel_place I (range_then q rs) r (suc u) (p ∷ e) f a = rel_place I rs r u e f.1 a

distinct_place : (I : Instance) (rs : Ranges) (h : List Part) (ts : Terms) (u : ℕ) (e : List Tagged) → Fitting Stands (ranges_rows rs I) e → At (λ range. range ≡ distinct_of h ts) u (ranges_list rs) →
    (row : FormRow) × (slice_get (distinct form_row_same (terms_rows ts I)) (slice_index_or e u none).0 ≡ Some row) × ((slice_index_or e u none).1 ≡ labels I h row)
distinct_place I no_ranges h ts u e f a = absurd a
distinct_place I (range_then q rs) h ts u [] f a = absurd f
distinct_place I (range_then q rs) h ts zero (p ∷ e) f a = from_mapped (labels I h) (distinct form_row_same (terms_rows ts I)) p.0 p.1 (subst (λ range. slice_get (range_rows range I) p.0 ≡ Some p.1) a f.0)
distinct_place I (range_then q rs) h ts (suc u) (p ∷ e) f a = distinct_place I rs h ts u e f.1 a

chosen_untagged : (I : Instance) (rs : Ranges) (e : List Tagged) → Fitting Stands (ranges_rows rs I) e → Chosen I rs (untag e)
chosen_untagged I no_ranges [] f = tt
chosen_untagged I no_ranges (p ∷ e) f = absurd f
chosen_untagged I (range_then r rs) [] f = absurd f
chosen_untagged I (range_then r rs) (p ∷ e) f = (each_get (InRange I r) (range_rows r I) p.0 p.1 (each_in_range I r) f.0, chosen_untagged I rs e f.1)

each_at : {X : Type 0} (P : X → Type 0) (x : X) (xs : List X) (k : ℕ) → Each P xs → At (λ y. y ≡ x) k xs → P x
each_at P x [] k h a = absurd a
each_at P x (y ∷ xs) zero h a = subst P a h.0
each_at P x (y ∷ xs) (suc k) h a = each_at P x xs k h.1 a

abbrev first_of : List Tuple → Tuple
first_of [] = []
first_of (vs ∷ row) = vs

abbrev rest_of : List Tuple → List Tuple
rest_of [] = []
rest_of (vs ∷ row) = row

-- equal rows have equal values at each piece
values_there : (I : Instance) (E E' : Env) (x : Expr) (ps : List Expr) → Has x ps → row_of I ps E ≡ row_of I ps E' → values_of I E x ≡ values_of I E' x
values_there I E E' x [] h q = absurd h
values_there I E E' x (y ∷ ps) (inl e) q = ap (values_of I E) e ∙ ap first_of q ∙ sym (ap (values_of I E') e)
values_there I E E' x (y ∷ ps) (inr h) q = values_there I E E' x ps h (ap rest_of q)

-- values that are equal at some numbers are so at fewer
value_there : (row row' : Tuple) (n : ℕ) (ns : List ℕ) → Has n ns → pick ns row ≡ pick ns row' → value_at row n ≡ value_at row' n
value_there row row' n [] h q = absurd h
value_there row row' n (m ∷ ns) (inl e) q = ap (value_at row) e ∙ first (pick ns row) (pick ns row') q ∙ sym (ap (value_at row') e)
  where
    first : (vs ws : Tuple) → value_at row m ∷ vs ≡ value_at row' m ∷ ws → value_at row m ≡ value_at row' m
    first vs ws q = cc
value_there row row' n (m ∷ ns) (inr h) q = value_there row row' n ns h (tail (value_at row m) (value_at row' m) q)
  where
    tail : (v w : Value) → v ∷ pick ns row ≡ w ∷ pick ns row' → pick ns row ≡ pick ns row'
    tail v w q = cc

fewer_equal : (row row' : Tuple) (ns ms : List ℕ) → Each (λ n. Has n ms) ns → pick ms row ≡ pick ms row' → pick ns row ≡ pick ns row'
fewer_equal row row' [] ms h q = refl
fewer_equal row row' (n ∷ ns) ms h q = ap (λ v. v ∷ pick ns row) (value_there row row' n ms h.0 q) ∙ ap (λ vs. value_at row' n ∷ vs) (fewer_equal row row' ns ms h.1 q)

passes_equal : PassesEqualOnly row_matches
passes_equal = record { equal = matched_equal }

same_passes_equal : PassesEqualOnly form_row_same
same_passes_equal = record { equal = form_rows_decide.sound }

pair_equal : (p q : Tagged) → p.0 ≡ q.0 → p.1 ≡ q.1 → p ≡ q
pair_equal p q a b = λ i. (a i, b i)

-- rows that are read back from equal pieces are equal
rows_read : (I : Instance) (E E' : Env) (u : ℕ) (ps : List Expr) (hs : List Part) (row row' : FormRow) (k : ℕ) → RowReads I hs row → RowReads I hs row' → row_of I ps E ≡ row_of I ps E' → HoldsParts u k hs ps →
    ((j : ℕ) → slice_index_or (slice_index_or E u []) (k + j) [] ≡ slice_index_or (labels I hs row) j []) → ((j : ℕ) → slice_index_or (slice_index_or E' u []) (k + j) [] ≡ slice_index_or (labels I hs row') j []) → row ≡ row'
rows_read I E E' u ps [] [] [] k r r' q h f f' = refl
rows_read I E E' u ps [] [] (vs ∷ row') k r r' q h f f' = absurd r'
rows_read I E E' u ps [] (vs ∷ row) row' k r r' q h f f' = absurd r
rows_read I E E' u ps (p ∷ hs) [] row' k r r' q h f f' = absurd r
rows_read I E E' u ps (p ∷ hs) (vs ∷ row) [] k r r' q h f f' = absurd r'
rows_read I E E' u ps (p ∷ hs) (vs ∷ row) (vs' ∷ row') k r r' q h f f' =
    let here : part_values I p.cols (slice_index_or (slice_index_or E u []) k []) ≡ part_values I p.cols (slice_index_or (slice_index_or E' u []) k []) = values_there I E E' (Of u k p.cols) ps h.0 q in
    let k0 : k ≡ k + 0 = omega arith in
    let left : slice_index_or (slice_index_or E u []) k [] ≡ label I p.cols vs = ap (λ j. slice_index_or (slice_index_or E u []) j []) k0 ∙ f 0 in
    let right : slice_index_or (slice_index_or E' u []) k [] ≡ label I p.cols vs' = ap (λ j. slice_index_or (slice_index_or E' u []) j []) k0 ∙ f' 0 in
    let one : vs ≡ vs' = sym r.0 ∙ sym (ap (part_values I p.cols) left) ∙ here ∙ ap (part_values I p.cols) right ∙ r'.0 in
    let next : (j : ℕ) → suc k + j ≡ k + suc j = λ j. omega arith in
    ap (λ z. z ∷ row) one ∙ ap (λ z. vs' ∷ z) (rows_read I E E' u ps hs row row' (suc k) r.1 r'.1 q h.1
    (λ j. ap (λ i. slice_index_or (slice_index_or E u []) i []) (next j) ∙ f (suc j)) (λ j. ap (λ i. slice_index_or (slice_index_or E' u []) i []) (next j) ∙ f' (suc j)))

module _ (K : Known) (I : Instance) (means : KnownHolds K I) (rs : Ranges) (cs : Conds) (ps : List Expr) (reads : Each (RangeReads I) (ranges_list rs)) where
  module _ (e e' : List Tagged) (f : Fitting Stands (ranges_rows rs I) e) (f' : Fitting Stands (ranges_rows rs I) e') (held : conds_hold cs I (untag e) ≡ true) (held' : conds_hold cs I (untag e') ≡ true)
      (one : row_of I ps (untag e) ≡ row_of I ps (untag e')) where
    abbrev at : ℕ → Tagged
    at u = slice_index_or e u none

    abbrev at' : ℕ → Tagged
    at' u = slice_index_or e' u none

    -- a place in a unique list that the picked values fix
    by_place : (u r c : ℕ) → At (λ range. range ≡ Rel r) u (ranges_list rs) → K.unique r c ≡ true → ((row row' : Tuple) → slice_index_or (untag e) u [] ≡ numbered 0 row ∷ [] → slice_index_or (untag e') u [] ≡ numbered 0 row' ∷ [] →
        row_matches (pick (numbers I c) row) (pick (numbers I c) row') ≡ true) → at u ≡ at' u
    by_place u r c a unique match =
        let p = rel_place I rs r u e f a in
        let p' = rel_place I rs r u e' f' a in
        let m = match p.0 p'.0 (untag_at e u ∙ p.2) (untag_at e' u ∙ p'.2) in
        let place : (at u).0 ≡ (at' u).0 = unique_place row_matches passes_equal (pick (numbers I c)) (table I r) (at u).0 (at' u).0 p.0 p'.0 (means.unique r c unique) p.1 p'.1 m in
        let row : p.0 ≡ p'.0 = one_place p.0 p'.0 (sym p.1 ∙ ap (slice_get (table I r)) place ∙ p'.1) in
        pair_equal (at u) (at' u) place (p.2 ∙ ap (λ w. numbered 0 w ∷ []) row ∙ sym p'.2)

    not_null_row : (u c : ℕ) (row : Tuple) → slice_index_or (untag e) u [] ≡ numbered 0 row ∷ [] → NotNull K (ranges_list rs) (conds_list cs) u 0 c → HasNoNull (pick (numbers I c) row)
    not_null_row u c row q n = subst HasNoNull (values_picked I (untag e) u c row q) (not_null K I means rs cs (untag e) (chosen_untagged I rs e f) held u 0 c (λ r a. refl) n)

    over_same : (w : ℕ) (x : Expr) → IsOver w x → at w ≡ at' w → values_of I (untag e) x ≡ values_of I (untag e') x
    over_same w (Of v i c) h q = ap (λ p. part_values I c (slice_index_or p i [])) (untag_at e v ∙ ap (λ p. p.1) (subst (λ z. at z ≡ at' z) (sym h) q) ∙ sym (untag_at e' v))
    over_same w (NullOf r c) h q = absurd h

    -- two choices with one row agree on what is determined
    agree : (u : ℕ) → Determined K (ranges_list rs) (conds_list cs) ps u → at u ≡ at' u
    agree u (by_whole_row {r = r} {c = c} a unique piece n) = by_place u r c a unique (λ row row' q q'.
        let whole : values_in (slice_index_or (slice_index_or (untag e) u []) 0 []) ≡ values_in (slice_index_or (slice_index_or (untag e') u []) 0 []) = values_there I (untag e) (untag e') (Of u 0 Whole) ps piece one in
        let rows : row ≡ row' = sym (ap (λ z. values_in (slice_index_or z 0 [])) q ∙ values_numbered 0 row) ∙ whole ∙ ap (λ z. values_in (slice_index_or z 0 [])) q' ∙ values_numbered 0 row' in
        ap (λ z. row_matches (pick (numbers I c) row) (pick (numbers I c) z)) (sym rows) ∙ matches_itself (pick (numbers I c) row) (not_null_row u c row q n))
    agree u (by_columns {r = r} {c = c} {d = d} a unique piece w n) = by_place u r c a unique (λ row row' q q'.
        let listed : pick (numbers I d) row ≡ pick (numbers I d) row' = sym (values_picked I (untag e) u d row q) ∙ values_there I (untag e) (untag e') (Of u 0 (Listed d)) ps piece one ∙ values_picked I (untag e') u d row' q' in
        ap (row_matches (pick (numbers I c) row)) (sym (fewer_equal row row' (numbers I c) (numbers I d) (means.within c d w) listed)) ∙ matches_itself (pick (numbers I c) row) (not_null_row u c row q n))
    agree u (by_join {w = w} {r = r} {c = c} {c' = c'} x q a unique same has joins over other d) = by_place u r c a unique (λ row row' p p'.
        let m = joined_match K I means (untag e) (Of u 0 (Listed c')) x q joins (cond_there I (untag e) q cs has held) in
        let m' = joined_match K I means (untag e') (Of u 0 (Listed c')) x q joins (cond_there I (untag e') q cs has held') in
        let vals : pick (numbers I c') row ≡ pick (numbers I c') row' =
        sym (values_picked I (untag e) u c' row p) ∙ matched_equal _ _ m ∙ over_same w x over (agree w d) ∙ sym (matched_equal _ _ m') ∙ values_picked I (untag e') u c' row' p' in
        let full : HasNoNull (pick (numbers I c') row) = subst HasNoNull (values_picked I (untag e) u c' row p) (matched_not_null _ _ m) in
        subst (λ ns. row_matches (pick ns row) (pick ns row') ≡ true) (means.lists c' c same)
        (ap (row_matches (pick (numbers I c') row)) (sym vals) ∙ matches_itself (pick (numbers I c') row) full))
    agree u (by_parts h ts a holds) =
        let p = distinct_place I rs h ts u e f a in
        let p' = distinct_place I rs h ts u e' f' a in
        let all = each_at (RangeReads I) (distinct_of h ts) (ranges_list rs) u reads a in
        let kept = each_distinct (RowReads I h) form_row_same (terms_rows ts I) all in
        let r = each_get (RowReads I h) (distinct form_row_same (terms_rows ts I)) (at u).0 p.0 kept p.1 in
        let r' = each_get (RowReads I h) (distinct form_row_same (terms_rows ts I)) (at' u).0 p'.0 kept p'.1 in
        let rows : p.0 ≡ p'.0 = rows_read I (untag e) (untag e') u ps h p.0 p'.0 0 r r' one holds
        (λ j. ap (λ z. slice_index_or z (0 + j) []) (untag_at e u ∙ p.2) ∙ ap (λ i. slice_index_or (labels I h p.0) i []) (let z : 0 + j ≡ j = omega arith in z))
        (λ j. ap (λ z. slice_index_or z (0 + j) []) (untag_at e' u ∙ p'.2) ∙ ap (λ i. slice_index_or (labels I h p'.0) i []) (let z : 0 + j ≡ j = omega arith in z)) in
        let place : (at u).0 ≡ (at' u).0 = unique_place form_row_same same_passes_equal (λ z. z) (distinct form_row_same (terms_rows ts I)) (at u).0 (at' u).0 p.0 p'.0 (distinct_apart form_row_same (terms_rows ts I)) p.1 p'.1
        (ap (form_row_same p.0) (sym rows) ∙ form_rows_decide.reflexive p.0) in
        pair_equal (at u) (at' u) place (p.2 ∙ ap (labels I h) rows ∙ sym p'.2)

  -- each row of the term comes at most once
  pub once : AllDetermined K rs cs ps → (row : FormRow) → AtMostOne (λ y. form_row_same row y) (terms_rows (one_term rs cs ps) I)
  once all row =
      subst (λ n. n ≤ 1) (sym (total-one I (λ y. only (form_row_same row y) 1) rs cs ps ∙ total_ext _ _ (choices (ranges_rows rs I)) (λ e. sym (only-and (conds_hold cs I e) (form_row_same row (row_of I ps e)) 1))))
      (at_most_one_choice (λ e. conds_hold cs I e && form_row_same row (row_of I ps e)) (ranges_rows rs I) (λ e e' f f' p p'.
      let q = and_parts (conds_hold cs I (untag e)) (form_row_same row (row_of I ps (untag e))) p in
      let q' = and_parts (conds_hold cs I (untag e')) (form_row_same row (row_of I ps (untag e'))) p' in
      let one : row_of I ps (untag e) ≡ row_of I ps (untag e') = sym (form_rows_decide.sound row (row_of I ps (untag e)) q.1) ∙ form_rows_decide.sound row (row_of I ps (untag e')) q'.1 in
      let l = fitting_length Stands (ranges_rows rs I) e f in
      let l' = fitting_length Stands (ranges_rows rs I) e' f' in
      lists_equal none e e' (l ∙ sym l') (λ u less. agree e e' f f' q.0 q'.0 one u (all u (omega (arith, less, l, length-ranges_rows I rs))))))
