-- Conditions and terms that are dropped.
use Rattle.std.proofs.Common.{ℕ, ◌+◌, Bool, true, false, ◌&&◌, not, List, [], ◌∷◌, map, ◌≡◌, refl, sym, ap, ◌∙◌, subst, arith, ◌⊎◌, inl, inr}
use Rattle.std.specs.Prelude.{◌≢◌}
use Rattle.std.specs.List.{list_any}
use Rattle.std.proofs.lemmas.Bool.{false≢true}
use Rattle.std.proofs.lemmas.List.{append-nil}
use Rattle.wt_bag.specs.Bags.{total, only, Each, SameSums}
use Rattle.wt_bag.specs.Choices.{choices, Has}
use Rattle.wt_bag.proofs.TotalLaws.{total-map, total_ext, total-zero, total_each}
use Rattle.wt_bag.proofs.EachLaws.{each_implies}
use Rattle.wt_bag.proofs.ChoiceLaws.{total-choices_cons}
use Rattle.wt_bag.proofs.BagLaws.{positive, list_any-total}
use Rattle.wt_value.specs.declared.value.Value.TheVariants.{Null}
use Rattle.wt_value.specs.Values.{Tuple, row_matches}
use Rattle.wt_symbol.specs.declared.head.Part.{Part}
use Rattle.wt_symbol.specs.declared.head.PartCols.TheVariants.{Whole, List as Listed}
use Rattle.wt_form.specs.declared.form.Expr.{Expr}
use Rattle.wt_form.specs.declared.form.Expr.TheVariants.{Of, Null as NullOf}
use Rattle.wt_form.specs.Trees.{Terms, no_terms, Ranges, no_ranges, range_then, Rel, Conds, no_conds, cond_then, Cond, Pred, Join, is_in, not_in}
use Rattle.wt_form.specs.Parts.{one_term, conds_append, ranges_list, conds_list}
use Rattle.wt_form.specs.Known.{Known}
use Rattle.wt_form.specs.Congruent.{CondSame}
use Rattle.wt_instance.specs.declared.instance.Instance.{Instance}
use Rattle.wt_instance.specs.Instances.{table, numbers}
use Rattle.wt_value.specs.Values.{pick, HasNoNull}
use Rattle.wt_instance.specs.Meeting.{IsMatched}
use Rattle.wt_rows.specs.FormRows.{Piece, Env, FormRow, numbered, number_at, values_of, row_of, put_together, terms_rows, ranges_rows, range_rows, conds_hold, cond_holds}
use Rattle.wt_rows.specs.Holding.{KnownHolds}
use Rattle.wt_bag.proofs.UniqueLists.{each_has}
use Rattle.wt_bag.proofs.HasLaws.{list_any_has}
use Rattle.wt_form.specs.Places.{itself, CondAt, others, list_rows}
use Rattle.wt_form.specs.Drops.{Repeated, SelfJoin, ByReference, ByJoin, InTrue, NotInFalse, NullCompared, NotInOfNull, ComparesNull, IsNull}
use Rattle.wt_rows.proofs.Reading.{IsFilled, OfCompared}
use Rattle.wt_rows.proofs.Sums.{total-one, conds_hold-append, conds_hold-middle, cond_there}
use Rattle.wt_rows.proofs.Same.{cond_congruent, matches_sym}
use Rattle.wt_rows.proofs.Values.{Chosen, OnePart, each_chosen, row_chosen, picked, values_picked, tied_itself, matches_itself, never_null, same_values, joined_match}

-- the conditions hold in the same choices
pub by_conds : (I : Instance) (rs : Ranges) (cs cs' : Conds) (ps : List Expr) → ((e : Env) → Chosen I rs e → conds_hold cs I e ≡ conds_hold cs' I e) → SameSums (terms_rows (one_term rs cs ps) I) (terms_rows (one_term rs cs' ps) I)
by_conds I rs cs cs' ps h = record {
  sums = λ g.
      total-one I g rs cs ps
      ∙ total_each _ _ (choices (ranges_rows rs I)) (each_implies _ _ (choices (ranges_rows rs I)) (λ e c. ap (λ b. only b (g (row_of I ps e))) (h e c)) (each_chosen I rs))
      ∙ sym (total-one I g rs cs' ps);
}

-- they hold in none
pub by_none : (I : Instance) (rs : Ranges) (cs : Conds) (ps : List Expr) → ((e : Env) → Chosen I rs e → conds_hold cs I e ≡ false) → SameSums (terms_rows (one_term rs cs ps) I) (terms_rows no_terms I)
by_none I rs cs ps h = record {
  sums = λ g.
      total-one I g rs cs ps
      ∙ total_each _ (λ e. 0) (choices (ranges_rows rs I)) (each_implies _ _ (choices (ranges_rows rs I)) (λ e c. ap (λ b. only b (g (row_of I ps e))) (h e c)) (each_chosen I rs))
      ∙ total-zero (choices (ranges_rows rs I));
}

drop_true : (j o : Bool) → (o ≡ true → j ≡ true) → (j && o) ≡ o
drop_true true o h = refl
drop_true false true h = h refl
drop_true false false h = refl

drop_false : (j o : Bool) → (o ≡ true → j ≡ true) → (not j && o) ≡ false
drop_false true o h = refl
drop_false false true h = sym (h refl)
drop_false false false h = refl

-- a condition at its place, and those around it
pub at_place_holds : (I : Instance) (e : Env) (cs : Conds) (c : Cond) (p : CondAt cs c) → conds_hold cs I e ≡ (cond_holds c I e && conds_hold (others p) I e)
at_place_holds I e cs c p = ap (λ ds. conds_hold ds I e) p.is ∙ conds_hold-middle I e p.before p.after c

-- the values of a list in the rows of a leaf
pub any_row : (I : Instance) (r b : ℕ) (vs : Tuple) → list_any (λ row. row_matches vs (pick (numbers I b) row)) (table I r) ≡ list_any (λ q. row_matches vs (put_together q)) (terms_rows (list_rows r b) I)
any_row I r b vs =
    list_any-total (λ row. row_matches vs (pick (numbers I b) row)) (table I r)
    ∙ ap positive (sym (
    total-one I G (range_then (Rel r) no_ranges) no_conds (Of 0 0 (Listed b) ∷ [])
    ∙ total-choices_cons (λ e. G (row_of I (Of 0 0 (Listed b) ∷ []) e)) (range_rows (Rel r) I) []
    ∙ total-map F (λ row. numbered 0 row ∷ []) (table I r)
    ∙ total_ext _ _ (table I r) one))
    ∙ sym (list_any-total (λ q. row_matches vs (put_together q)) (terms_rows (list_rows r b) I))
  where
    G : FormRow → ℕ
    G q = only (row_matches vs (put_together q)) 1

    F : List Piece → ℕ
    F c = total (λ e. G (row_of I (Of 0 0 (Listed b) ∷ []) (c ∷ e))) (choices [])

    plus_zero : (n : ℕ) → n + 0 ≡ n
    plus_zero n = omega arith

    one : (row : Tuple) → F (numbered 0 row ∷ []) ≡ only (row_matches vs (pick (numbers I b) row)) 1
    one row = plus_zero (G (row_of I (Of 0 0 (Listed b) ∷ []) ((numbered 0 row ∷ []) ∷ [])))
        ∙ ap (λ l. only (row_matches vs l) 1) (append-nil (map (number_at (numbered 0 row)) (numbers I b)) ∙ picked row (numbers I b))

null_matches : (ns : List ℕ) (w : Tuple) → ns ≢ [] → row_matches (map (λ n. Null) ns) w ≡ false
null_matches [] w h = absurd (h refl)
null_matches (n ∷ ns) [] h = refl
null_matches (n ∷ ns) (v ∷ w) h = refl

null_never : (I : Instance) (e : Env) (x : Expr) (w : Tuple) → IsFilled I x → IsNull x → row_matches (values_of I e x) w ≡ false
null_never I e (NullOf r (Listed a)) w f n = null_matches (numbers I a) w f
null_never I e (NullOf r Whole) w f n = absurd f
null_never I e (Of v i c) w f n = absurd n

none_of : (p : FormRow → Bool) (rows : List FormRow) → ((row : FormRow) → p row ≡ false) → list_any p rows ≡ false
none_of p [] h = refl
none_of p (row ∷ rows) h = rw (h row) (none_of p rows h)

module _ (K : Known) (I : Instance) (means : KnownHolds K I) where
  -- drops a condition that is the same as an earlier one
  pub repeated_keeps : (rs : Ranges) (cs : Conds) (ps : List Expr) (us : Terms) → Repeated K rs cs ps us → SameSums (terms_rows (one_term rs cs ps) I) (terms_rows us I)
  repeated_keeps rs cs ps us s =
      subst (λ ts. SameSums (terms_rows (one_term rs cs ps) I) (terms_rows ts I)) (sym s.gives) (by_conds I rs cs (conds_append s.before (cond_then s.earlier (conds_append s.between s.after))) ps (λ e c.
      ap (λ ds. conds_hold ds I e) s.is
      ∙ conds_hold-append I e s.before (cond_then s.earlier (conds_append s.between (cond_then s.later s.after)))
      ∙ ap (λ b. conds_hold s.before I e && (cond_holds s.earlier I e && b)) (conds_hold-append I e s.between (cond_then s.later s.after))
      ∙ twice (conds_hold s.before I e) (cond_holds s.earlier I e) (conds_hold s.between I e) (cond_holds s.later I e) (conds_hold s.after I e) (cond_congruent K I means (itself rs) s.earlier s.later s.same e e (tied_itself rs e))
      ∙ ap (λ b. conds_hold s.before I e && (cond_holds s.earlier I e && b)) (sym (conds_hold-append I e s.between s.after))
      ∙ sym (conds_hold-append I e s.before (cond_then s.earlier (conds_append s.between s.after)))))
    where
      twice : (a q b q' c : Bool) → q' ≡ q → (a && (q && (b && (q' && c)))) ≡ (a && (q && (b && c)))
      twice a true b q' c h = ap (λ z. a && (b && (z && c))) h
      twice a false b q' c h = refl

  -- drops a Join of an expression with itself
  pub self_join_keeps : (rs : Ranges) (cs : Conds) (ps : List Expr) (us : Terms) (s : SelfJoin K rs cs ps us) → OnePart rs s.x → SameSums (terms_rows (one_term rs cs ps) I) (terms_rows us I)
  self_join_keeps rs cs ps us s one =
      subst (λ ts. SameSums (terms_rows (one_term rs cs ps) I) (terms_rows ts I)) (sym s.gives) (by_conds I rs cs (others s.place) ps (λ e c.
      at_place_holds I e cs (Join s.x s.y) s.place
      ∙ drop_true (cond_holds (Join s.x s.y) I e) (conds_hold (others s.place) I e) (λ o.
      ap (row_matches (values_of I e s.x)) (same_values K I means rs e s.x s.y s.same) ∙ matches_itself (values_of I e s.x) (never_null K I means rs (others s.place) e c o s.x one s.never_null))))

  -- an In is true by a reference
  pub by_reference : (rs : Ranges) (cs : Conds) (x : Expr) (h : List Part) (ts : Terms) → ByReference K rs cs x ts → (e : Env) → Chosen I rs e → conds_hold cs I e ≡ true → cond_holds (is_in x h ts) I e ≡ true
  by_reference rs cs x h ts s e c o =
      let row = row_chosen I s.r s.x (ranges_list rs) e c s.over in
      let vals : values_of I e x ≡ pick (numbers I s.a) row.0 = ap (values_of I e) s.from ∙ values_picked I e s.x s.a row.0 row.2 in
      let full : HasNoNull (pick (numbers I s.a) row.0) = subst HasNoNull vals (never_null K I means rs cs e c o x (subst (OnePart rs) (sym s.from) (λ r at. refl)) s.never_null) in
      ap (λ us. list_any (λ q. row_matches (values_of I e x) (put_together q)) (terms_rows us I)) s.to
      ∙ sym (any_row I s.s s.b (values_of I e x))
      ∙ ap (λ vs. list_any (λ w. row_matches vs (pick (numbers I s.b) w)) (table I s.s)) vals
      ∙ each_has (λ w. HasNoNull (pick (numbers I s.a) w) → IsMatched (pick (numbers I s.a) w) (numbers I s.b) (table I s.s)) row.0 (table I s.r) (means.refs s.r s.a s.s s.b s.refers_to) row.1 full

  -- an In is true by a Join
  pub by_join : (rs : Ranges) (cs : Conds) (x : Expr) (h : List Part) (ts : Terms) → ByJoin K rs cs x ts → (e : Env) → Chosen I rs e → conds_hold cs I e ≡ true → cond_holds (is_in x h ts) I e ≡ true
  by_join rs cs x h ts s e c o =
      let row = row_chosen I s.r s.y (ranges_list rs) e c s.over in
      let met : row_matches (values_of I e s.e') (values_of I e (Of s.y 0 (Listed s.b))) ≡ true = joined_match K I means e s.e' (Of s.y 0 (Listed s.b)) s.join s.joins (cond_there I e s.join cs s.there o) in
      let there : row_matches (values_of I e x) (pick (numbers I s.b) row.0) ≡ true = rw (sym (same_values K I means rs e x s.e' s.same), sym (values_picked I e s.y s.b row.0 row.2)) met in
      ap (λ us. list_any (λ q. row_matches (values_of I e x) (put_together q)) (terms_rows us I)) s.to
      ∙ sym (any_row I s.s s.b' (values_of I e x))
      ∙ ap (λ t. list_any (λ w. row_matches (values_of I e x) (pick (numbers I s.b') w)) t) (sym (means.tables s.r s.s s.leaf))
      ∙ ap (λ ns. list_any (λ w. row_matches (values_of I e x) (pick ns w)) (table I s.r)) (sym (means.lists s.b s.b' s.list))
      ∙ list_any_has (λ w. row_matches (values_of I e x) (pick (numbers I s.b) w)) row.0 (table I s.r) row.1 there

  -- drops an In that the rest of its term makes true
  pub in_true_keeps : (rs : Ranges) (cs : Conds) (ps : List Expr) (us : Terms) → InTrue K rs cs ps us → SameSums (terms_rows (one_term rs cs ps) I) (terms_rows us I)
  in_true_keeps rs cs ps us s =
      subst (λ ts. SameSums (terms_rows (one_term rs cs ps) I) (terms_rows ts I)) (sym s.gives) (by_conds I rs cs (others s.place) ps (λ e c.
      at_place_holds I e cs (is_in s.e s.h s.ts) s.place
      ∙ drop_true (cond_holds (is_in s.e s.h s.ts) I e) (conds_hold (others s.place) I e) (λ o. why s.why e c o)))
    where
      why : ByReference K rs (others s.place) s.e s.ts ⊎ ByJoin K rs (others s.place) s.e s.ts → (e : Env) → Chosen I rs e → conds_hold (others s.place) I e ≡ true → cond_holds (is_in s.e s.h s.ts) I e ≡ true
      why (inl w) e c o = by_reference rs (others s.place) s.e s.h s.ts w e c o
      why (inr w) e c o = by_join rs (others s.place) s.e s.h s.ts w e c o

  -- drops a term with a NotIn that the rest of it makes false
  pub not_in_false_keeps : (rs : Ranges) (cs : Conds) (ps : List Expr) (us : Terms) → NotInFalse K rs cs ps us → SameSums (terms_rows (one_term rs cs ps) I) (terms_rows us I)
  not_in_false_keeps rs cs ps us s =
      subst (λ ts. SameSums (terms_rows (one_term rs cs ps) I) (terms_rows ts I)) (sym s.gives) (by_none I rs cs ps (λ e c.
      at_place_holds I e cs (not_in s.e s.h s.ts) s.place
      ∙ drop_false (cond_holds (is_in s.e s.h s.ts) I e) (conds_hold (others s.place) I e) (λ o. why s.why e c o)))
    where
      why : ((c : Cond) × Has c (conds_list (others s.place)) × CondSame K (itself rs) c (is_in s.e s.h s.ts)) ⊎ ByReference K rs (others s.place) s.e s.ts ⊎ ByJoin K rs (others s.place) s.e s.ts →
          (e : Env) → Chosen I rs e → conds_hold (others s.place) I e ≡ true → cond_holds (is_in s.e s.h s.ts) I e ≡ true
      why (inl w) e c o = cond_congruent K I means (itself rs) w.0 (is_in s.e s.h s.ts) w.2 e e (tied_itself rs e) ∙ cond_there I e w.0 (others s.place) w.1 o
      why (inr (inl w)) e c o = by_reference rs (others s.place) s.e s.h s.ts w e c o
      why (inr (inr w)) e c o = by_join rs (others s.place) s.e s.h s.ts w e c o

-- drops a term that compares NULLs
pub null_compared_keeps : (I : Instance) (rs : Ranges) (cs : Conds) (ps : List Expr) (us : Terms) → Each (OfCompared (IsFilled I)) (conds_list cs) → NullCompared rs cs ps us → SameSums (terms_rows (one_term rs cs ps) I) (terms_rows us I)
null_compared_keeps I rs cs ps us f s =
    subst (λ ts. SameSums (terms_rows (one_term rs cs ps) I) (terms_rows ts I)) (sym s.gives) (by_none I rs cs ps (λ e c. holds_not e (conds_hold cs I e) refl))
  where
    never : (e : Env) (c : Cond) → OfCompared (IsFilled I) c → ComparesNull c → cond_holds c I e ≡ false
    never e (Join x y) f (inl n) = null_never I e x (values_of I e y) f.0 n
    never e (Join x y) f (inr n) = matches_sym (values_of I e x) (values_of I e y) ∙ null_never I e y (values_of I e x) f.1 n
    never e (is_in x h ts) f n = none_of (λ q. row_matches (values_of I e x) (put_together q)) (terms_rows ts I) (λ q. null_never I e x (put_together q) f n)
    never e (Pred p x) f n = absurd n
    never e (not_in x h ts) f n = absurd n

    holds_not : (e : Env) (b : Bool) → conds_hold cs I e ≡ b → conds_hold cs I e ≡ false
    holds_not e false q = q
    holds_not e true q = absurd (false≢true (sym (never e s.c (each_has (OfCompared (IsFilled I)) s.c (conds_list cs) f s.there) s.null) ∙ cond_there I e s.c cs s.there q))

-- drops a NotIn of NULLs
pub not_in_of_null_keeps : (I : Instance) (rs : Ranges) (cs : Conds) (ps : List Expr) (us : Terms) → (s : NotInOfNull rs cs ps us) → IsFilled I s.e → SameSums (terms_rows (one_term rs cs ps) I) (terms_rows us I)
not_in_of_null_keeps I rs cs ps us s f =
    subst (λ ts. SameSums (terms_rows (one_term rs cs ps) I) (terms_rows ts I)) (sym s.gives) (by_conds I rs cs (others s.place) ps (λ e c.
    at_place_holds I e cs (not_in s.e s.h s.ts) s.place
    ∙ drop_true (cond_holds (not_in s.e s.h s.ts) I e) (conds_hold (others s.place) I e) (λ o. ap not (none_of (λ q. row_matches (values_of I e s.e) (put_together q)) (terms_rows s.ts I) (λ q. null_never I e s.e (put_together q) f s.null)))))
