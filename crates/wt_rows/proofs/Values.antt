-- What is known of values where a term's conditions hold.
use Rattle.std.proofs.Common.{ℕ, zero, suc, ◌+◌, Bool, true, false, ◌||◌, cond, List, [], ◌∷◌, map, ◌≡◌, refl, sym, ap, ◌∙◌, subst, arith, inl, inr, eq-eqb, rules}
use Rattle.std.specs.Prelude.{nat_eq, slice_index_or, ◌≢◌}
use Rattle.std.specs.List.{list_any}
use Rattle.std.proofs.lemmas.Bool.{false≢true, le-ltb}
use Rattle.wt_bag.specs.Bags.{Each, distinct}
use Rattle.wt_bag.specs.Choices.{choices, Fitting, At, Has}
use Rattle.wt_bag.proofs.ChoiceLaws.{each_choice}
use Rattle.wt_value.specs.declared.value.Value.{Value}
use Rattle.wt_value.specs.declared.value.Value.TheVariants.{Null}
use Rattle.wt_value.specs.Values.{Tuple, row_matches}
use Rattle.wt_value.proofs.Comparing.{row_matches-Decides}
use Rattle.wt_symbol.specs.declared.head.PartCols.TheVariants.{Whole, List as Listed}
use Rattle.wt_form.specs.declared.form.Expr.{Expr}
use Rattle.wt_form.specs.declared.form.Expr.TheVariants.{Of, Null as NullOf}
use Rattle.wt_form.specs.Trees.{Ranges, no_ranges, range_then, FormRange, Rel, distinct_of, Conds, Cond, Pred, Join, is_in, not_in}
use Rattle.wt_form.specs.Parts.{ranges_list, conds_list}
use Rattle.wt_form.specs.Known.{Known}
use Rattle.wt_form.specs.Congruent.{place, expr_same}
use Rattle.wt_instance.specs.declared.instance.Instance.{Instance}
use Rattle.wt_instance.specs.Instances.{table, numbers}
use Rattle.wt_value.specs.Values.{value_at, pick, HasNoNull}
use Rattle.wt_rows.specs.FormRows.{Piece, Env, FormRow, form_row_same, labels, numbered, number_at, values_of, put_together, terms_rows, ranges_rows, range_rows, conds_hold, cond_holds}
use Rattle.wt_rows.specs.Holding.{KnownHolds}
use Rattle.std.specs.List.{AllByRecursion}
use Rattle.wt_bag.proofs.UniqueLists.{each_has}
use Rattle.wt_form.specs.Facts.{Compares, Joins, NotNull, by_relation, by_condition}
use Rattle.wt_form.specs.Places.{itself}
use Rattle.wt_form.specs.Drops.{NeverNull}
use Rattle.wt_rows.proofs.Same.{Tied, value_same_as, matches_sym}
use Rattle.wt_rows.proofs.Sums.{cond_there}

-- what a variable over a range stands for: a row of its relation, or a row with the labels of its head
abbrev pub InRange : Instance → FormRange → List Piece → Type 0
InRange I (Rel r) p = (row : Tuple) × Has row (table I r) × (p ≡ numbered 0 row ∷ [])
InRange I (distinct_of h ts) p = (row : FormRow) × (p ≡ labels I h row)

each_in_table : (rows more : List Tuple) → ((row : Tuple) → Has row rows → Has row more) → Each (λ p. (row : Tuple) × Has row more × (p ≡ numbered 0 row ∷ [])) (map (λ row. numbered 0 row ∷ []) rows)
each_in_table [] more h = tt
each_in_table (row ∷ rows) more h = ((row, h row (inl refl), refl), each_in_table rows more (λ r k. h r (inr k)))

pub each_in_range : (I : Instance) (r : FormRange) → Each (InRange I r) (range_rows r I)
each_in_range I (Rel r) = each_in_table (table I r) (table I r) (λ row h. h)
each_in_range I (distinct_of h ts) = each_labelled (distinct form_row_same (terms_rows ts I))
  where
    each_labelled : (rows : List FormRow) → Each (λ p. (row : FormRow) × (p ≡ labels I h row)) (map (labels I h) rows)
    each_labelled [] = tt
    each_labelled (row ∷ rows) = ((row, refl), each_labelled rows)

fitting : (I : Instance) (rs : Ranges) → Fitting (λ k r. Each (InRange I k) r) (ranges_list rs) (ranges_rows rs I)
fitting I no_ranges = tt
fitting I (range_then r rs) = (each_in_range I r, fitting I rs)

-- a choice of the term's variables
abbrev pub Chosen : Instance → Ranges → Env → Type 0
Chosen I rs e = Fitting (InRange I) (ranges_list rs) e

pub each_chosen : (I : Instance) (rs : Ranges) → Each (Chosen I rs) (choices (ranges_rows rs I))
each_chosen I rs = each_choice (InRange I) (ranges_list rs) (ranges_rows rs I) (fitting I rs)

-- the row of a variable over a relation
pub row_chosen : (I : Instance) (r v : ℕ) (rs : List FormRange) (e : Env) → Fitting (InRange I) rs e → At (λ range. range ≡ Rel r) v rs →
    (row : Tuple) × Has row (table I r) × (slice_index_or e v [] ≡ numbered 0 row ∷ [])
row_chosen I r v [] e f a = absurd a
row_chosen I r v (k ∷ ks) [] f a = absurd f
row_chosen I r zero (k ∷ ks) (p ∷ e) f a = subst (λ range. InRange I range p) a f.0
row_chosen I r (suc v) (k ∷ ks) (p ∷ e) f a = row_chosen I r v ks e f.1 a

number_at-numbered : (k : ℕ) (row : Tuple) (n : ℕ) → number_at (numbered k row) (k + n) ≡ value_at row n
number_at-numbered k [] n = refl
number_at-numbered k (v ∷ row) zero = let q : nat_eq k (k + 0) ≡ true = eq-eqb k (k + 0) (omega arith) in ap (λ b. cond b v (number_at (numbered (suc k) row) (k + 0))) q
number_at-numbered k (v ∷ row) (suc n) =
    let q : nat_eq k (k + suc n) ≡ false = search rules in
    ap (λ b. cond b v (number_at (numbered (suc k) row) (k + suc n))) q
    ∙ ap (number_at (numbered (suc k) row)) (let z : k + suc n ≡ suc k + n = omega arith in z)
    ∙ number_at-numbered (suc k) row n

-- the values of a list in a relation's row
pub picked : (row : Tuple) (ns : List ℕ) → map (number_at (numbered 0 row)) ns ≡ pick ns row
picked row [] = refl
picked row (n ∷ ns) = rw (ap (number_at (numbered 0 row)) (let z : n ≡ 0 + n = omega arith in z) ∙ number_at-numbered 0 row n, picked row ns)

-- the values of a list of a variable over a relation
pub values_picked : (I : Instance) (e : Env) (v a : ℕ) (row : Tuple) → slice_index_or e v [] ≡ numbered 0 row ∷ [] → values_of I e (Of v 0 (Listed a)) ≡ pick (numbers I a) row
values_picked I e v a row q = ap (λ p. map (number_at (slice_index_or p 0 [])) (numbers I a)) q ∙ picked row (numbers I a)

-- each variable is paired with itself
place_itself : (rs : Ranges) (v : ℕ) → place (itself rs) v ≡ v
place_itself no_ranges v = refl
place_itself (range_then r rs) zero = refl
place_itself (range_then r rs) (suc v) = ap (λ b. cond b (place (itself rs) v) (suc (place (itself rs) v))) (le-ltb (place (itself rs) v) 0 (omega arith)) ∙ ap suc (place_itself rs v)

pub tied_itself : (rs : Ranges) (e : Env) → Tied (itself rs) e e
tied_itself rs e v = ap (λ u. slice_index_or e u []) (place_itself rs v)

-- no NULL
not_null_each : (row : Tuple) → AllByRecursion (λ v. v ≢ Null) row → HasNoNull row
not_null_each [] h = tt
not_null_each (v ∷ row) h = (h.0, not_null_each row h.1)

each_not_null : (row : Tuple) → HasNoNull row → AllByRecursion (λ v. v ≢ Null) row
each_not_null [] h = tt
each_not_null (v ∷ row) h = (h.0, each_not_null row h.1)

pub matched_not_null : (v w : Tuple) → row_matches v w ≡ true → HasNoNull v
matched_not_null v w h = not_null_each v ((row_matches-Decides v w).0 h).1

pub matched_equal : (v w : Tuple) → row_matches v w ≡ true → v ≡ w
matched_equal v w h = ((row_matches-Decides v w).0 h).0

pub matches_itself : (v : Tuple) → HasNoNull v → row_matches v v ≡ true
matches_itself v h = (row_matches-Decides v v).1 (refl, each_not_null v h)

-- values without NULL at some numbers have none at fewer
fewer_numbers : (f : ℕ → Value) (ns ms : List ℕ) → Each (λ n. Has n ms) ns → HasNoNull (map f ms) → HasNoNull (map f ns)
fewer_numbers f [] ms h k = tt
fewer_numbers f (n ∷ ns) ms h k = (here ms k h.0, fewer_numbers f ns ms h.1 k)
  where
    here : (ls : List ℕ) → HasNoNull (map f ls) → Has n ls → f n ≢ Null
    here [] k h = absurd h
    here (l ∷ ls) k (inl q) = subst (λ m. f m ≢ Null) (sym q) k.0
    here (l ∷ ls) k (inr h) = here ls k.1 h

in_not_null : (v : Tuple) (rows : List FormRow) → list_any (λ row. row_matches v (put_together row)) rows ≡ true → HasNoNull v
in_not_null v [] h = absurd (false≢true h)
in_not_null v (row ∷ rows) h = here (row_matches v (put_together row)) refl (λ k. in_not_null v rows k) h
  where
    here : (b : Bool) → row_matches v (put_together row) ≡ b → (list_any (λ row. row_matches v (put_together row)) rows ≡ true → HasNoNull v) → (b || list_any (λ row. row_matches v (put_together row)) rows) ≡ true → HasNoNull v
    here true q ih h = matched_not_null v (put_together row) q
    here false q ih h = ih h

compared : (I : Instance) (e : Env) (x : Expr) (q : Cond) → Compares x q → cond_holds q I e ≡ true → HasNoNull (values_of I e x)
compared I e x (Join y z) (inl k) h = subst (λ u. HasNoNull (values_of I e u)) k (matched_not_null (values_of I e y) (values_of I e z) h)
compared I e x (Join y z) (inr k) h = subst (λ u. HasNoNull (values_of I e u)) k (matched_not_null (values_of I e z) (values_of I e y) (matches_sym (values_of I e z) (values_of I e y) ∙ h))
compared I e x (is_in y g ts) k h = subst (λ u. HasNoNull (values_of I e u)) k (in_not_null (values_of I e y) (terms_rows ts I) h)
compared I e x (Pred p y) k h = absurd k
compared I e x (not_in y g ts) k h = absurd k

-- a variable over a relation has one part
abbrev pub OnePart : Ranges → Expr → Type 0
OnePart rs (Of v i c) = (r : ℕ) → At (λ range. range ≡ Rel r) v (ranges_list rs) → i ≡ 0
OnePart rs (NullOf r c) = Unit {0}

module _ (K : Known) (I : Instance) (means : KnownHolds K I) where
  -- known not NULL
  pub not_null : (rs : Ranges) (cs : Conds) (e : Env) → Chosen I rs e → conds_hold cs I e ≡ true → (v i c : ℕ) → OnePart rs (Of v i (Listed c)) → NotNull K (ranges_list rs) (conds_list cs) v i c → HasNoNull (values_of I e (Of v i (Listed c)))
  not_null rs cs e ch h v i c one (by_relation {r = r} {d = d} a n w) =
      let row = row_chosen I r v (ranges_list rs) e ch a in
      subst HasNoNull (sym (ap (λ j. values_of I e (Of v j (Listed c))) (one r a) ∙ values_picked I e v c row.0 row.2))
      (fewer_numbers (value_at row.0) (numbers I c) (numbers I d) (means.within c d w) (each_has (λ row. HasNoNull (pick (numbers I d) row)) row.0 (table I r) (means.not_null r d n) row.1))
  not_null rs cs e ch h v i c one (by_condition {d = d} q there k w) =
      fewer_numbers (number_at (slice_index_or (slice_index_or e v []) i [])) (numbers I c) (numbers I d) (means.within c d w)
      (compared I e (Of v i (Listed d)) q k (cond_there I e q cs there h))

  pub never_null : (rs : Ranges) (cs : Conds) (e : Env) → Chosen I rs e → conds_hold cs I e ≡ true → (x : Expr) → OnePart rs x → NeverNull K rs cs x → HasNoNull (values_of I e x)
  never_null rs cs e ch h (Of v i (Listed c)) one n = not_null rs cs e ch h v i c one n
  never_null rs cs e ch h (Of v i Whole) one n = absurd n
  never_null rs cs e ch h (NullOf r c) one n = absurd n

  -- two that are the same in one term
  pub same_values : (rs : Ranges) (e : Env) (x y : Expr) → expr_same K (itself rs) x y ≡ true → values_of I e y ≡ values_of I e x
  same_values rs e x y h = value_same_as K I means (itself rs) e e (tied_itself rs e) x y h

  -- two joined ones match
  pub joined_match : (e : Env) (x y : Expr) (q : Cond) → Joins x y q → cond_holds q I e ≡ true → row_matches (values_of I e x) (values_of I e y) ≡ true
  joined_match e x y (Join z w) (inl k) h = rw (ap (values_of I e) (sym k.0), ap (values_of I e) (sym k.1)) h
  joined_match e x y (Join z w) (inr k) h = rw (ap (values_of I e) (sym k.1), ap (values_of I e) (sym k.0)) (matches_sym (values_of I e w) (values_of I e z) ∙ h)
  joined_match e x y (Pred p z) k h = absurd k
  joined_match e x y (is_in z g ts) k h = absurd k
  joined_match e x y (not_in z g ts) k h = absurd k
