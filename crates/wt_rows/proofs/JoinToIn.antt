-- A Join with a variable that occurs nowhere else becomes an In.
use Rattle.std.proofs.Common.{ℕ, zero, suc, ◌+◌, ◌≤◌, Bool, true, false, ◌&&◌, ◌||◌, not, cond, List, [], ◌∷◌, ◌++◌, map, ◌≡◌, refl, sym, ap, ◌∙◌, subst, arith, length, ◌⊎◌, inl, inr}
use Rattle.std.specs.Prelude.{slice_index_or, filter}
use Rattle.std.specs.List.{list_any}
use Rattle.std.proofs.lemmas.List.{append-nil}
use Rattle.wt_bag.specs.Bags.{total, only, Each, distinct, DecidesEquality}
use Rattle.wt_bag.specs.Choices.{choices}
use Rattle.wt_bag.proofs.TotalLaws.{total-map, total_ext}
use Rattle.wt_bag.proofs.EachLaws.{each_implies, each_for}
use Rattle.wt_bag.proofs.ChoiceLaws.{length_choice, total-choices_at, total-choices_append}
use Rattle.wt_bag.proofs.BagLaws.{positive}
use Rattle.wt_value.specs.Values.{Tuple, row_matches}
use Rattle.wt_value.proofs.Comparing.{row_matches_law}
use Rattle.wt_symbol.specs.declared.head.Part.{Part}
use Rattle.wt_symbol.specs.declared.head.PartCols.TheVariants.{List as Listed}
use Rattle.wt_form.specs.declared.form.Expr.{Expr}
use Rattle.wt_form.specs.declared.form.Expr.TheVariants.{Of}
use Rattle.wt_form.specs.Trees.{Terms, Ranges, no_ranges, range_then, FormRange, Rel, distinct_of, Conds, Cond, Pred, Join, is_in, not_in}
use Rattle.wt_form.specs.Parts.{one_term, ranges_append, ranges_count, ranges_list, conds_map}
use Rattle.wt_form.specs.Known.{Known}
use Rattle.wt_instance.specs.declared.instance.Instance.{Instance}
use Rattle.wt_instance.specs.Instances.{table, numbers}
use Rattle.wt_value.specs.Values.{pick}
use Rattle.wt_rows.specs.FormRows.{Piece, Env, FormRow, form_row_same, numbered, beside, labels, number_at, values_of, row_of, put_together, terms_rows, ranges_rows, range_rows, conds_hold, cond_holds}
use Rattle.wt_rows.specs.Holding.{KnownHolds}
use Rattle.wt_bag.specs.Bags.{AtMostOne, count_of, among}
use Rattle.wt_bag.proofs.TotalLaws.{only-and}
use Rattle.wt_bag.proofs.EachLaws.{each_distinct}
use Rattle.wt_bag.proofs.UniqueLists.{unique_once}
use Rattle.wt_bag.proofs.BagLaws.{total_at_most_one, count-distinct}
use Rattle.wt_form.specs.Facts.{Joins}
use Rattle.wt_form.specs.Places.{others, replaced}
use Rattle.wt_form.specs.Changes.{expr_down}
use Rattle.wt_form.specs.Joining.{Joined, JoinToIn}
use Rattle.wt_rows.proofs.Reading.{RowReads, RangeReads}
use Rattle.wt_rows.specs.Keeping.{Keeps}
use Rattle.wt_rows.proofs.Sums.{form_rows_decide, term_total, total-one, ranges_rows-append, length-ranges_rows, Alike, alike_same, alike_each, alike_all, keeps_alike}
use Rattle.wt_rows.proofs.Same.{matches_sym}
use Rattle.wt_rows.proofs.Values.{picked, matched_equal}
use Rattle.wt_rows.proofs.Vars.{get_here, value_down, conds_down, row_down, conds_map-middle}
use Rattle.wt_rows.proofs.Drops.{any_row, at_place_holds}

joined_is : (I : Instance) (e : Env) (x y : Expr) (q : Cond) → Joins x y q → cond_holds q I e ≡ row_matches (values_of I e x) (values_of I e y)
joined_is I e x y (Join z w) (inl k) = rw (k.0, k.1) refl
joined_is I e x y (Join z w) (inr k) = rw (k.0, k.1) (matches_sym (values_of I e y) (values_of I e x))
joined_is I e x y (Pred p z) k = absurd k
joined_is I e x y (is_in z g ts) k = absurd k
joined_is I e x y (not_in z g ts) k = absurd k

-- rows that count where they pass: inside it is enough that one does
sum_to_any : {X : Type 0} (k : Bool) (J : X → Bool) (m : ℕ) (xs : List X) → ((k ≡ true) ⊎ AtMostOne J xs) → Alike k (total (λ c. only (J c) m) xs) (only (list_any J xs) m)
sum_to_any k J m xs (inr h) = alike_same k _ _ (total_at_most_one J m xs h)
sum_to_any k J m xs (inl e) = subst (λ b. Alike b (total (λ c. only (J c) m) xs) (only (list_any J xs) m)) (sym e) (some J m xs)
  where
    some : {X : Type 0} (J : X → Bool) (m : ℕ) (xs : List X) → positive (total (λ c. only (J c) m) xs) ≡ positive (only (list_any J xs) m)
    some J m [] = refl
    some J m (x ∷ xs) = step (J x) (list_any J xs) m (total (λ c. only (J c) m) xs) (some J m xs)
      where
        step : (a b : Bool) (m n : ℕ) → positive n ≡ positive (only b m) → positive (only a m + n) ≡ positive (only (a || b) m)
        step false b m n h = ap positive (let z : 0 + n ≡ n = omega arith in z) ∙ h
        step true b (suc m) n h = ap positive (let z : suc m + n ≡ suc (m + n) = omega arith in z)
        step true true zero n h = ap positive (let z : 0 + n ≡ n = omega arith in z) ∙ h
        step true false zero n h = ap positive (let z : 0 + n ≡ n = omega arith in z) ∙ h

any_map : {X Y : Type 0} (p : Y → Bool) (f : X → Y) (xs : List X) → list_any p (map f xs) ≡ list_any (λ x. p (f x)) xs
any_map p f [] = refl
any_map p f (x ∷ xs) = ap (λ b. p (f x) || b) (any_map p f xs)

any_each : {X : Type 0} (p q : X → Bool) (xs : List X) → Each (λ x. p x ≡ q x) xs → list_any p xs ≡ list_any q xs
any_each p q [] h = refl
any_each p q (x ∷ xs) h = rw (h.0, any_each p q xs h.1) refl

-- the distinct elements are the same ones
pub any_distinct : {X : Type 0} (same : X → X → Bool) → DecidesEquality same → (p : X → Bool) (xs : List X) → list_any p (distinct same xs) ≡ list_any p xs
any_distinct {X = X} same d p [] = refl
any_distinct {X = X} same d p (x ∷ xs) = here (p x) refl (any_distinct same d p xs)
  where
    without : (ys : List X) → p x ≡ false → list_any p (filter (λ y. not (same x y)) ys) ≡ list_any p ys
    without [] n = refl
    without (y ∷ ys) n = go (same x y) refl (without ys n)
      where
        go : (b : Bool) → same x y ≡ b → list_any p (filter (λ y. not (same x y)) ys) ≡ list_any p ys → list_any p (cond (not (same x y)) (y ∷ filter (λ y. not (same x y)) ys) (filter (λ y. not (same x y)) ys)) ≡ (p y || list_any p ys)
        go true q ih = ap (λ b. list_any p (cond (not b) (y ∷ filter (λ y. not (same x y)) ys) (filter (λ y. not (same x y)) ys))) q ∙ ih ∙ ap (λ b. b || list_any p ys) (sym n ∙ ap p (d.sound x y q))
        go false q ih = ap (λ b. list_any p (cond (not b) (y ∷ filter (λ y. not (same x y)) ys) (filter (λ y. not (same x y)) ys))) q ∙ ap (λ b. p y || b) ih

    here : (b : Bool) → p x ≡ b → list_any p (distinct same xs) ≡ list_any p xs → (p x || list_any p (filter (λ y. not (same x y)) (distinct same xs))) ≡ (p x || list_any p xs)
    here true q ih = rw q refl
    here false q ih = ap (λ b. p x || b) (without (distinct same xs) q ∙ ih)

fewer : {X : Type 0} (p q : X → Bool) (xs : List X) → Each (λ x. p x ≡ true → q x ≡ true) xs → total (λ x. only (p x) 1) xs ≤ total (λ x. only (q x) 1) xs
fewer p q [] h = omega arith
fewer p q (x ∷ xs) h = omega (arith, one (p x) (q x) h.0, fewer p q xs h.1)
  where
    one : (a b : Bool) → (a ≡ true → b ≡ true) → only a 1 ≤ only b 1
    one false b h = omega arith
    one true b h = let q : 1 ≡ only b 1 = ap (λ t. only t 1) (sym (h refl)) in omega arith

only_le : (b : Bool) → only b 1 ≤ 1
only_le true = omega arith
only_le false = omega arith

-- a row of one part
one_part : (I : Instance) (leaf d : ℕ) (ns : List ℕ) (row : FormRow) (vs : Tuple) → ns ≡ numbers I d → RowReads I (record { leaf = leaf; cols = Listed d } ∷ []) row →
    (row_matches vs (map (number_at (slice_index_or (labels I (record { leaf = leaf; cols = Listed d } ∷ []) row) 0 [])) ns) ≡ row_matches vs (put_together row)) × (row_matches vs (put_together row) ≡ true → form_row_same (vs ∷ []) row ≡ true)
one_part I leaf d ns [] vs q f = absurd f
one_part I leaf d ns (w ∷ []) vs q f = (
  ap (row_matches vs) (ap (map (number_at (beside (numbers I d) w))) q ∙ f.0 ∙ sym (append-nil w)),
  λ m. subst (λ u. form_row_same (vs ∷ []) (u ∷ []) ≡ true) (matched_equal vs (w ++ []) m ∙ append-nil w) (form_rows_decide.reflexive (vs ∷ [])),
)
one_part I leaf d ns (w ∷ u ∷ row) vs q f = absurd f.1

range_there : (P : FormRange → Type 0) (rs ss : Ranges) (r : FormRange) → Each P (ranges_list (ranges_append rs (range_then r ss))) → P r
range_there P no_ranges ss r h = h.0
range_there P (range_then q rs) ss r h = range_there P rs ss r h.1

module _ (K : Known) (I : Instance) (means : KnownHolds K I) where
  -- the values of list b in a variable's row match
  abbrev Met : ℕ → Tuple → List Piece → Bool
  Met b vs c = row_matches vs (map (number_at (slice_index_or c 0 [])) (numbers I b))

  -- whether a row of the range matches, and how many do
  met_range : (k : Bool) (range : FormRange) (b : ℕ) (h : List Part) (ts : Terms) → Joined K k range b h ts → RangeReads I range → (vs : Tuple) →
      ((k ≡ true) ⊎ AtMostOne (Met b vs) (range_rows range I)) × (list_any (Met b vs) (range_rows range I) ≡ list_any (λ q. row_matches vs (put_together q)) (terms_rows ts I))
  met_range k (Rel r) b h ts j f vs = (
    once j.0,
    any_map (Met b vs) (λ row. numbered 0 row ∷ []) (table I r)
        ∙ any_each _ _ (table I r) (each_for (table I r) (λ row. ap (row_matches vs) (picked row (numbers I b))))
        ∙ any_row I r b vs ∙ ap (λ us. list_any (λ q. row_matches vs (put_together q)) (terms_rows us I)) (sym j.2),
  )
    where
      once : (k ≡ true) ⊎ (K.unique r b ≡ true) → (k ≡ true) ⊎ AtMostOne (Met b vs) (range_rows (Rel r) I)
      once (inl e) = inl e
      once (inr u) = inr (subst (λ n. n ≤ 1) (sym (total-map (λ c. only (Met b vs c) 1) (λ row. numbered 0 row ∷ []) (table I r) ∙ total_ext _ _ (table I r) (λ row. ap (λ l. only (row_matches vs l) 1) (picked row (numbers I b)))))
          (unique_once row_matches row_matches_law (pick (numbers I b)) vs (table I r) (means.unique r b u)))
  met_range k (distinct_of g us) b h ts j f vs = (
    inr (subst (λ n. n ≤ 1) (sym (total-map (λ c. only (Met b vs c) 1) (labels I g) (distinct form_row_same (terms_rows us I))))
        (let most : total (λ row. only (Met b vs (labels I g row)) 1) (distinct form_row_same (terms_rows us I)) ≤ count_of form_row_same (distinct form_row_same (terms_rows us I)) (vs ∷ [])
        = fewer _ _ (distinct form_row_same (terms_rows us I)) (each_implies _ _ (distinct form_row_same (terms_rows us I)) (λ row p m. p.1 (sym p.0 ∙ m)) rows) in
        let one : count_of form_row_same (distinct form_row_same (terms_rows us I)) (vs ∷ []) ≡ only (among form_row_same (terms_rows us I) (vs ∷ [])) 1 = count-distinct form_row_same form_rows_decide (terms_rows us I) (vs ∷ []) in
        omega (arith, most, one, only_le (among form_row_same (terms_rows us I) (vs ∷ []))))),
    any_map (Met b vs) (labels I g) (distinct form_row_same (terms_rows us I))
        ∙ any_each _ _ (distinct form_row_same (terms_rows us I)) (each_implies _ _ (distinct form_row_same (terms_rows us I)) (λ row p. p.0) rows)
        ∙ any_distinct form_row_same form_rows_decide (λ q. row_matches vs (put_together q)) (terms_rows us I)
        ∙ ap (λ ws. list_any (λ q. row_matches vs (put_together q)) (terms_rows ws I)) (sym j.5),
  )
    where
      rows : Each (λ row. (Met b vs (labels I g row) ≡ row_matches vs (put_together row)) × (row_matches vs (put_together row) ≡ true → form_row_same (vs ∷ []) row ≡ true)) (distinct form_row_same (terms_rows us I))
      rows = each_implies (RowReads I g) _ (distinct form_row_same (terms_rows us I))
          (λ row q. subst (λ hs. (Met b vs (labels I hs row) ≡ row_matches vs (put_together row)) × (row_matches vs (put_together row) ≡ true → form_row_same (vs ∷ []) row ≡ true)) (sym j.2)
          (one_part I j.0 j.1 (numbers I b) row vs (means.lists b j.1 j.3) (subst (λ hs. RowReads I hs row) j.2 q)))
          (each_distinct (RowReads I g) form_row_same (terms_rows us I) f)

  pub join_to_in_keeps : (k : Bool) (rs : Ranges) (cs : Conds) (ps : List Expr) (us : Terms) → Each (RangeReads I) (ranges_list rs) → JoinToIn K k rs cs ps us → Keeps k (terms_rows (one_term rs cs ps) I) (terms_rows us I)
  join_to_in_keeps k rs cs ps us fits s =
      subst (λ ts. Keeps k (terms_rows (one_term rs cs ps) I) (terms_rows ts I)) (sym s.gives) (keeps_alike k _ _ (λ g.
      subst (λ m. Alike k m (total g (terms_rows after_step I)))
      (sym (total-one I g rs cs ps ∙ ap (λ qs. term_total I g qs cs ps) s.at.is ∙ ap (λ l. total (W g) (choices l)) (ranges_rows-append I s.at.before (range_then s.range s.at.after))
      ∙ total-choices_at (W g) (ranges_rows s.at.before I) (range_rows s.range I) (ranges_rows s.at.after I)))
      (subst (λ m. Alike k (total (λ a. total (λ b. total (λ c. W g (a ++ c ∷ b)) (range_rows s.range I)) (choices (ranges_rows s.at.after I))) (choices (ranges_rows s.at.before I))) m)
      (sym (total-one I g (ranges_append s.at.before s.at.after) cs' ps' ∙ ap (λ l. total (V g) (choices l)) (ranges_rows-append I s.at.before s.at.after)
      ∙ total-choices_append (V g) (ranges_rows s.at.before I) (ranges_rows s.at.after I)))
      (alike_each k _ _ (choices (ranges_rows s.at.before I)) (each_implies _ _ (choices (ranges_rows s.at.before I))
      (λ a l. alike_all k _ _ (choices (ranges_rows s.at.after I)) (λ b. here g a b (l ∙ length-ranges_rows I s.at.before))) (length_choice (ranges_rows s.at.before I)))))))
    where
      down : Expr → Expr
      down = expr_down (ranges_count s.at.before)

      cs' : Conds
      cs' = conds_map (expr_down (ranges_count s.at.before)) (replaced s.place (is_in s.e s.h s.ts))

      ps' : List Expr
      ps' = map (expr_down (ranges_count s.at.before)) ps

      after_step : Terms
      after_step = one_term (ranges_append s.at.before s.at.after) (conds_map (expr_down (ranges_count s.at.before)) (replaced s.place (is_in s.e s.h s.ts))) (map (expr_down (ranges_count s.at.before)) ps)

      W : (FormRow → ℕ) → Env → ℕ
      W g e = only (conds_hold cs I e) (g (row_of I ps e))

      V : (FormRow → ℕ) → Env → ℕ
      V g e = only (conds_hold (conds_map (expr_down (ranges_count s.at.before)) (replaced s.place (is_in s.e s.h s.ts))) I e) (g (row_of I (map (expr_down (ranges_count s.at.before)) ps) e))

      here : (g : FormRow → ℕ) (a b : Env) → length a ≡ ranges_count s.at.before → Alike k (total (λ c. W g (a ++ c ∷ b)) (range_rows s.range I)) (V g (a ++ b))
      here g a b l =
          let vs : Tuple = values_of I (a ++ b) (expr_down (ranges_count s.at.before) s.e) in
          let O : Bool = conds_hold (conds_map (expr_down (ranges_count s.at.before)) (others s.place)) I (a ++ b) in
          let n : ℕ = g (row_of I (map (expr_down (ranges_count s.at.before)) ps) (a ++ b)) in
          let met = met_range k s.range s.b s.h s.ts s.becomes (range_there (RangeReads I) s.at.before s.at.after s.range (subst (λ qs. Each (RangeReads I) (ranges_list qs)) s.at.is fits)) vs in
          subst (λ m. Alike k m (V g (a ++ b))) (sym (total_ext _ _ (range_rows s.range I) (λ c. one g a b l c)))
          (subst (λ m. Alike k (total (λ c. only (Met s.b vs c) (only O n)) (range_rows s.range I)) m)
          (ap (λ t. only t (only O n)) met.1 ∙ sym (only-and (list_any (λ q. row_matches vs (put_together q)) (terms_rows s.ts I)) O n)
          ∙ ap (λ t. only t n) (sym (conds_map-middle I (a ++ b) (expr_down (ranges_count s.at.before)) s.place.before s.place.after (is_in s.e s.h s.ts))))
          (sum_to_any k (Met s.b vs) (only O n) (range_rows s.range I) met.0))
        where
          one : (g : FormRow → ℕ) (a b : Env) → length a ≡ ranges_count s.at.before → (c : List Piece) →
              W g (a ++ c ∷ b) ≡ only (Met s.b (values_of I (a ++ b) (expr_down (ranges_count s.at.before) s.e)) c) (only (conds_hold (conds_map (expr_down (ranges_count s.at.before)) (others s.place)) I (a ++ b)) (g (row_of I (map (expr_down (ranges_count s.at.before)) ps) (a ++ b))))
          one g a b l c =
              ap (λ t. only t (g (row_of I ps (a ++ c ∷ b))))
              (at_place_holds I (a ++ c ∷ b) cs s.join s.place
              ∙ ap (λ t. t && conds_hold (others s.place) I (a ++ c ∷ b)) (joined_is I (a ++ c ∷ b) s.e (Of (ranges_count s.at.before) 0 (Listed s.b)) s.join s.joins
              ∙ ap (λ v. row_matches v (values_of I (a ++ c ∷ b) (Of (ranges_count s.at.before) 0 (Listed s.b)))) (sym (value_down I a b c (ranges_count s.at.before) s.e l s.elsewhere.0))
              ∙ ap (λ p. row_matches (values_of I (a ++ b) (expr_down (ranges_count s.at.before) s.e)) (map (number_at (slice_index_or p 0 [])) (numbers I s.b))) (get_here a b c (ranges_count s.at.before) l))
              ∙ ap (λ t. Met s.b (values_of I (a ++ b) (expr_down (ranges_count s.at.before) s.e)) c && t) (sym (conds_down I a b c (ranges_count s.at.before) (others s.place) l s.elsewhere.1)))
              ∙ only-and (Met s.b (values_of I (a ++ b) (expr_down (ranges_count s.at.before) s.e)) c) (conds_hold (conds_map (expr_down (ranges_count s.at.before)) (others s.place)) I (a ++ b)) (g (row_of I ps (a ++ c ∷ b)))
              ∙ ap (λ r. only (Met s.b (values_of I (a ++ b) (expr_down (ranges_count s.at.before) s.e)) c) (only (conds_hold (conds_map (expr_down (ranges_count s.at.before)) (others s.place)) I (a ++ b)) (g r))) (sym (row_down I a b c (ranges_count s.at.before) ps l s.elsewhere.2))
