-- Steps that drop a condition or a term, on small terms.
use Rattle.std.specs.Prelude.{nat_eq}
use Rattle.std.proofs.Common.{◌≡◌, ℕ, zero, suc, Bool, true, false, List, [], ◌∷◌, refl, sym, subst, inl, inr, arith}
use Rattle.wt_bag.specs.Choices.{At, Has}
use Rattle.wt_symbol.specs.declared.head.Part.{Part}
use Rattle.wt_symbol.specs.declared.head.PartCols.TheVariants.{List as Listed}
use Rattle.wt_form.specs.declared.form.Expr.{Expr}
use Rattle.wt_form.specs.declared.form.Expr.TheVariants.{Of}
use Rattle.wt_form.specs.Trees.{Terms, no_terms, FormRange, Rel, no_conds, Cond, Pred, Join, is_in, not_in}
use Rattle.wt_form.specs.Parts.{one_term, ranges_list, conds_list}
use Rattle.wt_form.specs.Known.{Known}
use Rattle.wt_form.specs.Congruent.{expr_same, CondSame, TermsSame}
use Rattle.wt_form.specs.Places.{itself, list_rows}
use Rattle.wt_form.specs.Facts.{Joins, NotNull, by_relation, by_condition}
use Rattle.wt_form.specs.Drops.{Repeated, NeverNull, SelfJoin, ByReference, ByJoin, InTrue, NotInFalse, IsNull, ComparesNull, NullCompared, NotInOfNull}
use Rattle.wt_form.specs.Worked.{known, list, one_row, two_rows, only_cond, joined}
use Rattle.wt_worked_steps.specs.Shapes.{two_conds, part, pred, self_joined, match, in_rows, not_in_rows, filtered_rows, null}
use Rattle.wt_worked_steps.proofs.Inverting.{conflict, only_place, one_place, two_places, same_parts, list_parts, leaf_parts}

-- without a condition and without a NOT NULL nothing is known not NULL
null_possible : (u r : Bool) (rs : List FormRange) (v i c : ℕ) → NotNull (known u false r) rs [] v i c → ⊥
null_possible u r rs v i c (by_relation at n w) = conflict n
null_possible u r rs v i c (by_condition q h is w) = absurd h

join_parts : (a b x y : Expr) → Join a b ≡ Join x y → (a ≡ x) × (b ≡ y)
join_parts a b x y e = ((let z : a ≡ x = cc in z), (let z : b ≡ y = cc in z))

in_parts : (e e' : Expr) (h h' : List Part) (ts ts' : Terms) → is_in e h ts ≡ is_in e' h' ts' → (e ≡ e') × (ts ≡ ts')
in_parts e e' h h' ts ts' q = ((let z : e ≡ e' = cc in z), (let z : ts ≡ ts' = cc in z))

not_in_parts : (e e' : Expr) (h h' : List Part) (ts ts' : Terms) → not_in e h ts ≡ not_in e' h' ts' → (e ≡ e') × (ts ≡ ts')
not_in_parts e e' h h' ts ts' q = ((let z : e ≡ e' = cc in z), (let z : ts ≡ ts' = cc in z))

rows_parts : (r b s c : ℕ) → list_rows r b ≡ list_rows s c → (r ≡ s) × (b ≡ c)
rows_parts r b s c q = ((let z : r ≡ s = cc in z), (let z : b ≡ c = cc in z))

first_not_null : (u f : Bool) (cs : List Cond) → NotNull (known u true f) (Rel 0 ∷ []) cs 0 0 0
first_not_null u f cs = by_relation {r = 0} {d = 0} refl refl refl

pub repeated_goes : Repeated (known false false false) one_row (two_conds (pred 0) (pred 0)) [] (one_term one_row (only_cond (pred 0)) [])
repeated_goes = record { before = no_conds; between = no_conds; after = no_conds; earlier = pred 0; later = pred 0; is = refl; same = (refl, refl); gives = refl }

pub other_predicate_stays : (us : Terms) → Repeated (known true true true) one_row (two_conds (pred 0) (pred 1)) [] us → ⊥
other_predicate_stays us s =
    let two = two_places (pred 0) (pred 1) s.earlier s.later s.before s.between s.after s.is in
    let same : CondSame (known true true true) (itself one_row) (pred 0) (pred 1) =
    subst (λ d. CondSame (known true true true) (itself one_row) (pred 0) d) (sym two.1) (subst (λ c. CondSame (known true true true) (itself one_row) c s.later) (sym two.0) s.same) in
    conflict same.0

pub self_join_goes : SelfJoin (known false true false) one_row (only_cond (self_joined 0)) [] (one_term one_row no_conds [])
self_join_goes = record { x = list 0 0; y = list 0 0; place = record { before = no_conds; after = no_conds; is = refl }; same = refl; never_null = first_not_null false false []; gives = refl }

pub self_join_by_condition : SelfJoin (known false false false) one_row (two_conds (self_joined 0) (in_rows 1 1)) [] (one_term one_row (only_cond (in_rows 1 1)) [])
self_join_by_condition = record {
  x = list 0 0;
  y = list 0 0;
  place = record { before = no_conds; after = only_cond (in_rows 1 1); is = refl };
  same = refl;
  never_null = by_condition {d = 0} (in_rows 1 1) (inl refl) refl refl;
  gives = refl;
}

pub other_list_stays : (us : Terms) → SelfJoin (known true true true) one_row (only_cond (self_joined 1)) [] us → ⊥
other_list_stays us s =
    let parts = join_parts (list 0 0) (list 0 1) s.x s.y (only_place (self_joined 1) (Join s.x s.y) s.place).0 in
    let same : expr_same (known true true true) (itself one_row) (list 0 0) (list 0 1) ≡ true =
    subst (λ y. expr_same (known true true true) (itself one_row) (list 0 0) y ≡ true) (sym parts.1) (subst (λ x. expr_same (known true true true) (itself one_row) x s.y ≡ true) (sym parts.0) s.same) in
    conflict same

pub self_join_stays : (us : Terms) → SelfJoin (known true false true) one_row (only_cond (self_joined 0)) [] us → ⊥
self_join_stays us s =
    let place = only_place (self_joined 0) (Join s.x s.y) s.place in
    let parts = join_parts (list 0 0) (list 0 0) s.x s.y place.0 in
    null_possible true true (Rel 0 ∷ []) 0 0 0
    (subst (λ x. NeverNull (known true false true) one_row no_conds x) (sym parts.0) (subst (λ cs. NeverNull (known true false true) one_row cs s.x) (sym place.1) s.never_null))

by_reference : (u : Bool) → ByReference (known u true true) one_row no_conds (list 0 0) (list_rows 1 1)
by_reference u = record { x = 0; a = 0; r = 0; s = 1; b = 1; from = refl; over = refl; to = refl; refers_to = refl; never_null = first_not_null u true [] }

by_join : (f : Bool) → ByJoin (known false false f) two_rows (only_cond match) (list 0 0) (list_rows 0 0)
by_join f = record { e' = list 0 0; y = 1; b = 0; r = 0; s = 0; b' = 0; join = match; there = inl refl; joins = inl (refl, refl); same = refl; over = refl; to = refl; leaf = refl; list = refl }

pub in_goes_by_reference : InTrue (known false true true) one_row (only_cond (in_rows 1 1)) [] (one_term one_row no_conds [])
in_goes_by_reference = record { e = list 0 0; h = part 1 1 ∷ []; ts = list_rows 1 1; place = record { before = no_conds; after = no_conds; is = refl }; why = inl (by_reference false); gives = refl }

-- the one condition is an In that neither a reference nor a Join makes true
in_stays : (K : Known) (e : Expr) (h : List Part) (ts : Terms) (us : Terms) → InTrue K one_row (only_cond (is_in e h ts)) [] us → (ByReference K one_row no_conds e ts → ⊥) → ⊥
in_stays K e h ts us s none =
    let place = only_place (is_in e h ts) (is_in s.e s.h s.ts) s.place in
    let parts = in_parts e s.e h s.h ts s.ts place.0 in
    elim s.why [
      | inl r ↦ none (subst (λ t. ByReference K one_row no_conds e t) (sym parts.1) (subst (λ x. ByReference K one_row no_conds x s.ts) (sym parts.0) (subst (λ cs. ByReference K one_row cs s.e s.ts) (sym place.1) r)))
      | inr j ↦ subst (λ cs. Has j.join (conds_list cs)) (sym place.1) j.there
    ]

pub in_stays_of_null : (us : Terms) → InTrue (known true false true) one_row (only_cond (in_rows 1 1)) [] us → ⊥
in_stays_of_null us s = in_stays (known true false true) (list 0 0) (part 1 1 ∷ []) (list_rows 1 1) us s (λ r. null_possible true true (Rel 0 ∷ []) 0 0 0 r.never_null)

pub in_stays_without_reference : (us : Terms) → InTrue (known true true false) one_row (only_cond (in_rows 1 1)) [] us → ⊥
in_stays_without_reference us s = in_stays (known true true false) (list 0 0) (part 1 1 ∷ []) (list_rows 1 1) us s (λ r. conflict r.refers_to)

pub in_stays_of_some_rows : (us : Terms) → InTrue (known true true true) one_row (only_cond (is_in (list 0 0) (part 1 1 ∷ []) filtered_rows)) [] us → ⊥
in_stays_of_some_rows us s = in_stays (known true true true) (list 0 0) (part 1 1 ∷ []) filtered_rows us s (λ r. all_rows r.s r.b r.to)
  where
    all_rows : (s b : ℕ) → filtered_rows ≡ list_rows s b → ⊥
    all_rows s b e = let bad : only_cond (pred 0) ≡ no_conds = cc in cc

pub in_goes_by_join : InTrue (known false false false) two_rows (two_conds match (in_rows 0 0)) [] (one_term two_rows joined [])
in_goes_by_join = record { e = list 0 0; h = part 0 0 ∷ []; ts = list_rows 0 0; place = record { before = only_cond match; after = no_conds; is = refl }; why = inr (by_join false); gives = refl }

-- a variable over two rows of leaf 0 is over leaf 0
leaf_of_two : (y r : ℕ) → At (λ range. range ≡ Rel r) y (ranges_list two_rows) → 0 ≡ r
leaf_of_two zero r at = leaf_parts 0 r at
leaf_of_two (suc zero) r at = leaf_parts 0 r at
leaf_of_two (suc (suc y)) r at = absurd at

-- what the Join makes true is of leaf 0 and list 0
by_join_of : (u n f : Bool) (r b : ℕ) → ByJoin (known u n f) two_rows (only_cond match) (list 0 0) (list_rows r b) → (nat_eq 0 r ≡ true) × (nat_eq 0 b ≡ true)
by_join_of u n f r b j =
    let rows = rows_parts r b j.s j.b' j.to in
    let leaf : 0 ≡ j.r = leaf_of_two j.y j.r j.over in
    let col : 0 ≡ j.b = elim j.there [
      | inl is ↦ elim (subst (λ q. Joins j.e' (Of j.y 0 (Listed j.b)) q) is j.joins) [
        | inl p ↦ (list_parts 1 0 j.y j.b p.1).1
        | inr p ↦ (list_parts 0 0 j.y j.b p.0).1
      ]
      | inr none ↦ absurd none
    ] in (
      subst (λ s. nat_eq 0 s ≡ true) (sym rows.0) (subst (λ z. nat_eq z j.s ≡ true) (sym leaf) j.leaf),
      subst (λ c. nat_eq 0 c ≡ true) (sym rows.1) (subst (λ z. nat_eq z j.b' ≡ true) (sym col) j.list),
    )

joined_in_stays : (r b : ℕ) (us : Terms) → InTrue (known true true false) two_rows (two_conds match (in_rows r b)) [] us → (nat_eq 0 r ≡ true) × (nat_eq 0 b ≡ true)
joined_in_stays r b us s = elim (one_place match (in_rows r b) (is_in s.e s.h s.ts) s.place) [
  | inl p ↦ let bad : match ≡ is_in s.e s.h s.ts = p.0 in cc
  | inr p ↦ let parts = in_parts (list 0 0) s.e (part r b ∷ []) s.h (list_rows r b) s.ts p.0 in
      elim s.why [
        | inl ref ↦ absurd (conflict ref.refers_to)
        | inr j ↦ by_join_of true true false r b (subst (λ t. ByJoin (known true true false) two_rows (only_cond match) (list 0 0) t) (sym parts.1) (subst (λ x. ByJoin (known true true false) two_rows (only_cond match) x s.ts) (sym parts.0) (subst (λ cs. ByJoin (known true true false) two_rows cs s.e s.ts) (sym p.1) j)))
      ]
]

pub in_stays_of_other_leaf : (us : Terms) → InTrue (known true true false) two_rows (two_conds match (in_rows 1 0)) [] us → ⊥
in_stays_of_other_leaf us s = conflict (joined_in_stays 1 0 us s).0

pub in_stays_of_other_list : (us : Terms) → InTrue (known true true false) two_rows (two_conds match (in_rows 0 1)) [] us → ⊥
in_stays_of_other_list us s = conflict (joined_in_stays 0 1 us s).1

same_rows : (u n f : Bool) → TermsSame (known u n f) (list_rows 1 1) (list_rows 1 1)
same_rows u n f = (0, 0 ∷ [], omega arith, (refl, (refl, refl)), refl, refl, refl)

pub not_in_false_by_in : NotInFalse (known false false false) one_row (two_conds (in_rows 1 1) (not_in_rows 1 1)) [] no_terms
not_in_false_by_in = record {
  e = list 0 0;
  h = part 1 1 ∷ [];
  ts = list_rows 1 1;
  place = record { before = only_cond (in_rows 1 1); after = no_conds; is = refl };
  why = inl (in_rows 1 1, inl refl, (refl, same_rows false false false));
  gives = refl;
}

pub not_in_false_by_reference : NotInFalse (known false true true) one_row (only_cond (not_in_rows 1 1)) [] no_terms
not_in_false_by_reference = record { e = list 0 0; h = part 1 1 ∷ []; ts = list_rows 1 1; place = record { before = no_conds; after = no_conds; is = refl }; why = inr (inl (by_reference false)); gives = refl }

pub not_in_false_by_join : NotInFalse (known false false false) two_rows (two_conds match (not_in_rows 0 0)) [] no_terms
not_in_false_by_join = record { e = list 0 0; h = part 0 0 ∷ []; ts = list_rows 0 0; place = record { before = only_cond match; after = no_conds; is = refl }; why = inr (inr (by_join false)); gives = refl }

pub not_in_of_other_rows : (us : Terms) → NotInFalse (known true true false) one_row (two_conds (in_rows 1 1) (not_in_rows 2 1)) [] us → ⊥
not_in_of_other_rows us s = elim (one_place (in_rows 1 1) (not_in_rows 2 1) (not_in s.e s.h s.ts) s.place) [
  | inl p ↦ let bad : in_rows 1 1 ≡ not_in s.e s.h s.ts = p.0 in cc
  | inr p ↦ let parts = not_in_parts (list 0 0) s.e (part 2 1 ∷ []) s.h (list_rows 2 1) s.ts p.0 in
      elim s.why [
        | inl w ↦ same_in w.0 (subst (λ cs. Has w.0 (conds_list cs)) (sym p.1) w.1)
            (subst (λ t. CondSame (known true true false) (itself one_row) w.0 (is_in s.e s.h t)) (sym parts.1) w.2)
        | inr w ↦ elim w [
          | inl ref ↦ conflict ref.refers_to
          | inr j ↦ no_join j.e' (Of j.y 0 (Listed j.b)) j.join (subst (λ cs. Has j.join (conds_list cs)) (sym p.1) j.there) j.joins
        ]
      ]
]
  where
    same_in : (c : Cond) → Has c (in_rows 1 1 ∷ []) → CondSame (known true true false) (itself one_row) c (is_in s.e s.h (list_rows 2 1)) → ⊥
    same_in c (inl is) same =
        let terms = subst (λ z. CondSame (known true true false) (itself one_row) z (is_in s.e s.h (list_rows 2 1))) is same in
        conflict (same_parts (known true true false) (Rel 1) (Rel 2) no_conds no_conds (list 0 1 ∷ []) (list 0 1 ∷ []) terms.1).0
    same_in c (inr none) same = none

    no_join : (e e' : Expr) (c : Cond) → Has c (in_rows 1 1 ∷ []) → Joins e e' c → ⊥
    no_join e e' c (inl is) j = subst (λ z. Joins e e' z) is j
    no_join e e' c (inr none) j = none

pub not_in_of_null_stays : (us : Terms) → NotInFalse (known true false true) one_row (only_cond (not_in_rows 1 1)) [] us → ⊥
not_in_of_null_stays us s =
    let place = only_place (not_in_rows 1 1) (not_in s.e s.h s.ts) s.place in
    let parts = not_in_parts (list 0 0) s.e (part 1 1 ∷ []) s.h (list_rows 1 1) s.ts place.0 in
    elim s.why [
      | inl w ↦ subst (λ cs. Has w.0 (conds_list cs)) (sym place.1) w.1
      | inr w ↦ elim w [
        | inl ref ↦ null_possible true true (Rel 0 ∷ []) 0 0 0
            (subst (λ x. NeverNull (known true false true) one_row no_conds x) (sym parts.0) (subst (λ cs. NeverNull (known true false true) one_row cs s.e) (sym place.1) ref.never_null))
        | inr j ↦ subst (λ cs. Has j.join (conds_list cs)) (sym place.1) j.there
      ]
    ]

pub join_of_null : NullCompared one_row (only_cond (Join null (list 0 0))) [] no_terms
join_of_null = record { c = Join null (list 0 0); there = inl refl; null = inl tt; gives = refl }

pub in_of_null : NullCompared one_row (only_cond (is_in null (part 1 1 ∷ []) (list_rows 1 1))) [] no_terms
in_of_null = record { c = is_in null (part 1 1 ∷ []) (list_rows 1 1); there = inl refl; null = tt; gives = refl }

-- the one condition compares no NULL
compares_none : (c d : Cond) → Has d (c ∷ []) → (ComparesNull c → ⊥) → ComparesNull d → ⊥
compares_none c d (inl is) none n = none (subst ComparesNull is n)
compares_none c d (inr h) none n = absurd h

pub predicate_of_null_stays : (us : Terms) → NullCompared one_row (only_cond (Pred 0 null)) [] us → ⊥
predicate_of_null_stays us s = compares_none (Pred 0 null) s.c s.there (λ n. n) s.null

pub not_in_of_null_is_no_comparison : (us : Terms) → NullCompared one_row (only_cond (not_in null (part 1 1 ∷ []) (list_rows 1 1))) [] us → ⊥
not_in_of_null_is_no_comparison us s = compares_none (not_in null (part 1 1 ∷ []) (list_rows 1 1)) s.c s.there (λ n. n) s.null

pub not_in_of_null_goes : NotInOfNull one_row (only_cond (not_in null (part 1 1 ∷ []) (list_rows 1 1))) [] (one_term one_row no_conds [])
not_in_of_null_goes = record { e = null; h = part 1 1 ∷ []; ts = list_rows 1 1; place = record { before = no_conds; after = no_conds; is = refl }; null = tt; gives = refl }

pub not_in_of_list_stays : (us : Terms) → NotInOfNull one_row (only_cond (not_in_rows 1 1)) [] us → ⊥
not_in_of_list_stays us s =
    let parts = not_in_parts (list 0 0) s.e (part 1 1 ∷ []) s.h (list_rows 1 1) s.ts (only_place (not_in_rows 1 1) (not_in s.e s.h s.ts) s.place).0 in
    subst IsNull (sym parts.0) s.null
