-- Steps that rest on a Join, and the one that puts two terms together, on small terms.
use Rattle.std.specs.Prelude.{nat_eq}
use Rattle.std.proofs.Common.{◌≡◌, ℕ, zero, suc, ◌<◌, Bool, true, false, ◌&&◌, List, [], ◌∷◌, map, refl, sym, ap, ◌∙◌, subst, inl, inr, arith}
use Rattle.std.proofs.Common.{eqb-true}
use Rattle.wt_bag.specs.Bags.{Each}
use Rattle.wt_bag.specs.Choices.{At, Has}
use Rattle.wt_symbol.specs.declared.head.Part.{Part}
use Rattle.wt_symbol.specs.declared.head.PartCols.TheVariants.{List as Listed}
use Rattle.wt_form.specs.declared.form.Expr.{Expr}
use Rattle.wt_form.specs.declared.form.Expr.TheVariants.{Of}
use Rattle.wt_form.specs.Trees.{Terms, Rel, no_ranges, Conds, no_conds, cond_then, Cond, Pred, Join, is_in, not_in}
use Rattle.wt_form.specs.Parts.{one_term, ranges_list, conds_list, ranges_count, conds_append, conds_map}
use Rattle.wt_form.specs.Congruent.{expr_same, TermsSame}
use Rattle.wt_form.specs.Places.{itself, list_rows}
use Rattle.wt_form.specs.Facts.{Joins, IsOver}
use Rattle.wt_form.specs.Changes.{expr_before, put, CondAvoids}
use Rattle.wt_form.specs.Joining.{Joined, JoinToIn, JoinedTogether, Merged, Rewritten}
use Rattle.wt_form.specs.TwoTerms.{SplitByIn}
use Rattle.wt_form.specs.Worked.{known, list, one_row, two_rows, only_cond, joined}
use Rattle.wt_form.proofs.WorkedRows.{rewritten_keeps_lists}
use Rattle.wt_worked_steps.specs.Shapes.{two_conds, part, three_rows, match, in_rows, not_in_rows, distinct_values, row_and_distinct, rows_0_1}
use Rattle.wt_worked_steps.proofs.Inverting.{conflict, alone, only_place, one_place, one_of_ranges, same_parts, list_parts, leaf_parts}

apart : zero ≡ suc zero → ⊥
apart e = let bad : ⊥ = omega (arith, e) in bad

pub join_to_in_by_unique : JoinToIn (known true false false) false two_rows joined (list 0 1 ∷ []) (one_term one_row (only_cond (in_rows 0 0)) (list 0 1 ∷ []))
join_to_in_by_unique = record {
  range = Rel 0;
  at = record { before = one_row; after = no_ranges; is = refl };
  e = list 0 0;
  b = 0;
  join = match;
  place = record { before = no_conds; after = no_conds; is = refl };
  joins = inl (refl, refl);
  elsewhere = (λ o. apart o, tt, (λ o. apart o, tt));
  h = part 0 0 ∷ [];
  ts = list_rows 0 0;
  becomes = (inr refl, refl, refl);
  gives = refl;
}

pub join_to_in_by_distinct : JoinToIn (known false false false) false (row_and_distinct (list_rows 0 0)) joined (list 0 1 ∷ []) (one_term one_row (only_cond (in_rows 0 0)) (list 0 1 ∷ []))
join_to_in_by_distinct = record {
  range = distinct_values (list_rows 0 0);
  at = record { before = one_row; after = no_ranges; is = refl };
  e = list 0 0;
  b = 0;
  join = match;
  place = record { before = no_conds; after = no_conds; is = refl };
  joins = inl (refl, refl);
  elsewhere = (λ o. apart o, tt, (λ o. apart o, tt));
  h = part 0 0 ∷ [];
  ts = list_rows 0 0;
  becomes = (0, 0, refl, refl, refl, refl);
  gives = refl;
}

pub join_to_in_inside : JoinToIn (known false false false) true two_rows joined (list 0 1 ∷ []) (one_term one_row (only_cond (in_rows 0 0)) (list 0 1 ∷ []))
join_to_in_inside = record {
  range = Rel 0;
  at = record { before = one_row; after = no_ranges; is = refl };
  e = list 0 0;
  b = 0;
  join = match;
  place = record { before = no_conds; after = no_conds; is = refl };
  joins = inl (refl, refl);
  elsewhere = (λ o. apart o, tt, (λ o. apart o, tt));
  h = part 0 0 ∷ [];
  ts = list_rows 0 0;
  becomes = (inl refl, refl, refl);
  gives = refl;
}

pub join_of_many_rows_stays : (us : Terms) → JoinToIn (known false true true) false two_rows joined (list 0 1 ∷ []) us → ⊥
join_of_many_rows_stays us s =
    let range : Rel 0 ≡ s.range = elim (one_of_ranges (Rel 0) (Rel 0) s.range s.at) [
      | inl p ↦ p.0
      | inr p ↦ p.0
    ] in
    no_unique (subst (λ r. Joined (known false true true) false r s.b s.h s.ts) (sym range) s.becomes)
  where
    no_unique : {b : ℕ} {h : List Part} {ts : Terms} → Joined (known false true true) false (Rel 0) b h ts → ⊥
    no_unique j = elim j.0 [
      | inl e ↦ conflict e
      | inr e ↦ conflict e
    ]

pub join_stays_by_a_piece : (us : Terms) → JoinToIn (known true true true) true two_rows joined (list 0 1 ∷ list 1 1 ∷ []) us → ⊥
join_stays_by_a_piece us s = elim (one_of_ranges (Rel 0) (Rel 0) s.range s.at) [
  | inl p ↦ s.elsewhere.2.0 (sym p.1)
  | inr p ↦ s.elsewhere.2.1.0 (sym p.1)
]

pub join_stays_by_its_other_side : (us : Terms) → JoinToIn (known true true true) true two_rows (only_cond (Join (list 1 0) (list 1 1))) (list 0 1 ∷ []) us → ⊥
join_stays_by_its_other_side us s = elim (one_of_ranges (Rel 0) (Rel 0) s.range s.at) [
  | inl p ↦ s.elsewhere.2.0 (sym p.1)
  | inr p ↦ elim (subst (λ j. Joins s.e (Of (ranges_count s.at.before) 0 (Listed s.b)) j) (sym (only_place (Join (list 1 0) (list 1 1)) s.join s.place).0) s.joins) [
    | inl j ↦ s.elsewhere.0 (subst (λ e. IsOver (ranges_count s.at.before) e) j.0 (sym p.1))
    | inr j ↦ s.elsewhere.0 (subst (λ e. IsOver (ranges_count s.at.before) e) j.1 (sym p.1))
  ]
]

pub join_stays_by_a_condition : (us : Terms) → JoinToIn (known true true true) true two_rows (two_conds match (Pred 0 (list 1 1))) (list 0 1 ∷ []) us → ⊥
join_stays_by_a_condition us s = elim (one_of_ranges (Rel 0) (Rel 0) s.range s.at) [
  | inl p ↦ s.elsewhere.2.0 (sym p.1)
  | inr p ↦ elim (one_place match (Pred 0 (list 1 1)) s.join s.place) [
    | inl q ↦ avoided s.elsewhere.1 q.1 (sym p.1)
    | inr q ↦ subst (λ j. Joins s.e (Of (ranges_count s.at.before) 0 (Listed s.b)) j) (sym q.0) s.joins
  ]
]
  where
    avoided : {n : ℕ} {cs : Conds} → Each (CondAvoids n) (conds_list cs) → only_cond (Pred 0 (list 1 1)) ≡ cs → 1 ≡ n → ⊥
    avoided {n} {cs} h is one = (subst (λ z. Each (CondAvoids n) (conds_list z)) (sym is) h).0 one

pub variables_merge : Merged (known true false false) two_rows joined (list 1 1 ∷ []) (one_term one_row (only_cond (Join (list 0 0) (list 0 0))) (list 0 1 ∷ []))
variables_merge = record {
  x = 0;
  r = 0;
  s = 0;
  a = 0;
  at = record { before = one_row; after = no_ranges; is = refl };
  before = omega arith;
  over = refl;
  leaf = refl;
  unique = refl;
  joined = (0, 0, refl, refl, inl (match, inl refl, inl (refl, refl)));
  gives = refl;
}

pub variables_merge_by_expression : Merged (known true false false) three_rows (two_conds (Join (list 0 0) (list 2 1)) (Join (list 1 0) (list 2 1))) [] (one_term two_rows (two_conds (Join (list 0 0) (list 1 1)) (Join (list 0 0) (list 1 1))) [])
variables_merge_by_expression = record {
  x = 0;
  r = 0;
  s = 0;
  a = 0;
  at = record { before = one_row; after = one_row; is = refl };
  before = omega arith;
  over = refl;
  leaf = refl;
  unique = refl;
  joined = (0, 0, refl, refl, inr (Join (list 0 0) (list 2 1), Join (list 1 0) (list 2 1), list 2 1, list 2 1, inl refl, inr (inl refl), inl (refl, refl), inl (refl, refl), refl));
  gives = refl;
}

pub not_unique_stays : (us : Terms) → Merged (known false true true) two_rows joined (list 1 1 ∷ []) us → ⊥
not_unique_stays us s = conflict s.unique

none_before : (x n : ℕ) → x < n → n ≡ 0 → ⊥
none_before x n l e = let bad : ⊥ = omega (arith, l, e) in bad

first : (x n : ℕ) → x < n → n ≡ 1 → zero ≡ x
first x n l e = omega (arith, l, e)

pub other_leaf_stays : (us : Terms) → Merged (known true true true) rows_0_1 joined (list 1 1 ∷ []) us → ⊥
other_leaf_stays us s = elim (one_of_ranges (Rel 0) (Rel 1) (Rel s.s) s.at) [
  | inl p ↦ none_before s.x (ranges_count s.at.before) s.before p.1
  | inr p ↦
      let over : At (λ range. range ≡ Rel s.r) 0 (ranges_list rows_0_1) = subst (λ x. At (λ range. range ≡ Rel s.r) x (ranges_list rows_0_1)) (sym (first s.x (ranges_count s.at.before) s.before p.1)) s.over in
      conflict (subst (λ q. nat_eq 0 q ≡ true) (sym (leaf_parts 1 s.s p.0)) (subst (λ r. nat_eq r s.s ≡ true) (sym (leaf_parts 0 s.r over)) s.leaf))
]

-- a number is not 0 and 1
one_number : (a : ℕ) → nat_eq 0 a ≡ true → nat_eq 1 a ≡ true → ⊥
one_number a e f =
    let none : 0 ≡ a = eqb-true 0 a e in
    let one : 1 ≡ a = eqb-true 1 a f in
    let bad : ⊥ = omega (arith, none, one) in
    bad

pub joined_on_two_lists_stay : (us : Terms) → Merged (known true true true) two_rows (only_cond (Join (list 0 0) (list 1 1))) (list 1 1 ∷ []) us → ⊥
joined_on_two_lists_stay us s = elim (one_of_ranges (Rel 0) (Rel 0) (Rel s.s) s.at) [
  | inl p ↦ none_before s.x (ranges_count s.at.before) s.before p.1
  | inr p ↦ together s.x (ranges_count s.at.before) (first s.x (ranges_count s.at.before) s.before p.1) p.1 s.joined
]
  where
    both : (b c : ℕ) → nat_eq b s.a ≡ true → nat_eq c s.a ≡ true → 0 ≡ b → 1 ≡ c → ⊥
    both b c eb ec zb oc = one_number s.a (subst (λ z. nat_eq z s.a ≡ true) (sym zb) eb) (subst (λ z. nat_eq z s.a ≡ true) (sym oc) ec)

    together : (x y : ℕ) → zero ≡ x → y ≡ 1 → JoinedTogether (known true true true) two_rows (only_cond (Join (list 0 0) (list 1 1))) s.a x y → ⊥
    together x y zx oy t = elim t.4 [
      | inl w ↦ elim w.1 [
        | inl is ↦ elim (subst (λ q. Joins (Of x 0 (Listed t.0)) (Of y 0 (Listed t.1)) q) is w.2) [
          | inl j ↦ both t.0 t.1 t.2 t.3 (list_parts 0 0 x t.0 j.0).1 (list_parts 1 1 y t.1 j.1).1
          | inr j ↦ both t.1 t.0 t.3 t.2 (list_parts 0 0 y t.1 j.0).1 (list_parts 1 1 x t.0 j.1).1
        ]
        | inr none ↦ none
      ]
      | inr w ↦ apart_from (left w.0 w.2 w.4 w.6) (right w.1 w.3 w.5 w.7) w.8
    ]
      where
        left : (p : Cond) (e : Expr) → Has p (Join (list 0 0) (list 1 1) ∷ []) → Joins (Of x 0 (Listed t.0)) e p → list 1 1 ≡ e
        left p e (inl is) j = elim (subst (λ q. Joins (Of x 0 (Listed t.0)) e q) is j) [
          | inl k ↦ k.1
          | inr k ↦ absurd (apart (zx ∙ sym (list_parts 1 1 x t.0 k.1).0))
        ]
        left p e (inr none) j = absurd none

        right : (q : Cond) (e : Expr) → Has q (Join (list 0 0) (list 1 1) ∷ []) → Joins (Of y 0 (Listed t.1)) e q → list 0 0 ≡ e
        right q e (inl is) j = elim (subst (λ z. Joins (Of y 0 (Listed t.1)) e z) is j) [
          | inl k ↦ absurd (apart ((list_parts 0 0 y t.1 k.0).0 ∙ oy))
          | inr k ↦ k.0
        ]
        right q e (inr none) j = absurd none

        apart_from : {e e' : Expr} → list 1 1 ≡ e → list 0 0 ≡ e' → expr_same (known true true true) (itself two_rows) e e' ≡ true → ⊥
        apart_from {e} {e'} f f' same =
            let bad : expr_same (known true true true) (itself two_rows) (list 1 1) (list 0 0) ≡ true =
            subst (λ z. expr_same (known true true true) (itself two_rows) (list 1 1) z ≡ true) (sym f') (subst (λ z. expr_same (known true true true) (itself two_rows) z e' ≡ true) (sym f) same) in
            conflict bad

pub expression_is_written : Rewritten (known false false false) two_rows joined (list 1 0 ∷ list 1 1 ∷ []) (one_term two_rows joined (list 0 0 ∷ list 1 1 ∷ []))
expression_is_written = rewritten_keeps_lists

-- no step where the expression that would be written over occurs nowhere
not_rewritten : (c : Cond) (ps : List Expr) (us : Terms) → ((e e' : Expr) → Joins e e' c → expr_before e e' ≡ true → (list 0 0 ≡ e) × (list 1 0 ≡ e')) → map (put (list 0 0) (list 1 0)) ps ≡ ps →
    Rewritten (known true true true) two_rows (only_cond c) ps us → ⊥
not_rewritten c ps us which same s =
    let place = alone c s.join s.place.before s.place.after s.place.is in
    let two = which s.e s.e' (subst (λ j. Joins s.e s.e' j) (sym place.0) s.joins) s.earlier in
    let conds : s.cs' ≡ only_cond c =
    s.is ∙ ap (λ b. conds_append (conds_map (put s.e s.e') b) (cond_then s.join (conds_map (put s.e s.e') s.place.after))) (sym place.1)
    ∙ ap (λ a. cond_then s.join (conds_map (put s.e s.e') a)) (sym place.2) ∙ ap (λ j. cond_then j no_conds) (sym place.0) in
    let pieces : map (put s.e s.e') ps ≡ ps = subst (λ e. map (put e s.e') ps ≡ ps) two.0 (subst (λ e. map (put (list 0 0) e) ps ≡ ps) two.1 same) in
    s.changed (conds, pieces)

pub nothing_is_written : (us : Terms) → Rewritten (known true true true) two_rows joined (list 0 0 ∷ []) us → ⊥
nothing_is_written us s = not_rewritten match (list 0 0 ∷ []) us which refl s
  where
    which : (e e' : Expr) → Joins e e' match → expr_before e e' ≡ true → (list 0 0 ≡ e) × (list 1 0 ≡ e')
    which e e' (inl j) b = (j.0, j.1)
    which e e' (inr j) b = absurd (conflict (subst (λ z. expr_before (list 1 0) z ≡ true) (sym j.0) (subst (λ z. expr_before z e' ≡ true) (sym j.1) b)))

pub never_the_other_way : (us : Terms) → Rewritten (known true true true) two_rows (only_cond (Join (list 1 0) (list 0 0))) (list 0 0 ∷ list 1 1 ∷ []) us → ⊥
never_the_other_way us s = not_rewritten (Join (list 1 0) (list 0 0)) (list 0 0 ∷ list 1 1 ∷ []) us which refl s
  where
    which : (e e' : Expr) → Joins e e' (Join (list 1 0) (list 0 0)) → expr_before e e' ≡ true → (list 0 0 ≡ e) × (list 1 0 ≡ e')
    which e e' (inl j) b = absurd (conflict (subst (λ z. expr_before (list 1 0) z ≡ true) (sym j.1) (subst (λ z. expr_before z e' ≡ true) (sym j.0) b)))
    which e e' (inr j) b = (j.1, j.0)

pub terms_are_put_together : SplitByIn (known false false false) one_row (only_cond (in_rows 1 1)) (list 0 1 ∷ []) one_row (only_cond (not_in_rows 1 1)) (list 0 1 ∷ [])
terms_are_put_together = record {
  e = list 0 0;
  h = part 1 1 ∷ [];
  ts = list_rows 1 1;
  e' = list 0 0;
  h' = part 1 1 ∷ [];
  us = list_rows 1 1;
  place = record { before = no_conds; after = no_conds; is = refl };
  place' = record { before = no_conds; after = no_conds; is = refl };
  ks = 0 ∷ [];
  values = refl;
  rows = (0, 0 ∷ [], omega arith, (refl, (refl, refl)), refl, refl, refl);
  same = record { ranges = (refl, (refl, refl)); conds = refl; pieces = refl };
}

in_terms : (e e' : Expr) (h h' : List Part) (ts ts' : Terms) → is_in e h ts ≡ is_in e' h' ts' → ts ≡ ts'
in_terms e e' h h' ts ts' q = cc

not_in_terms : (e e' : Expr) (h h' : List Part) (ts ts' : Terms) → not_in e h ts ≡ not_in e' h' ts' → ts ≡ ts'
not_in_terms e e' h h' ts ts' q = cc

pub other_rows_stay : SplitByIn (known true true true) one_row (only_cond (in_rows 1 1)) [] one_row (only_cond (not_in_rows 2 1)) [] → ⊥
other_rows_stay s =
    let ts : list_rows 1 1 ≡ s.ts = in_terms (list 0 0) s.e (part 1 1 ∷ []) s.h (list_rows 1 1) s.ts (only_place (in_rows 1 1) (is_in s.e s.h s.ts) s.place).0 in
    let us : list_rows 2 1 ≡ s.us = not_in_terms (list 0 0) s.e' (part 2 1 ∷ []) s.h' (list_rows 2 1) s.us (only_place (not_in_rows 2 1) (not_in s.e' s.h' s.us) s.place').0 in
    let rows : TermsSame (known true true true) (list_rows 1 1) (list_rows 2 1) = subst (λ z. TermsSame (known true true true) (list_rows 1 1) z) (sym us) (subst (λ z. TermsSame (known true true true) z s.us) (sym ts) s.rows) in
    conflict (same_parts (known true true true) (Rel 1) (Rel 2) no_conds no_conds (list 0 1 ∷ []) (list 0 1 ∷ []) rows).0

-- pieces of two lists are the same under no pairing
pub no_pieces : (b : Bool) → ((b && false) && true) ≡ true → ⊥
no_pieces true e = conflict e
no_pieces false e = conflict e

in_values : (e e' : Expr) (h h' : List Part) (ts ts' : Terms) → is_in e h ts ≡ is_in e' h' ts' → e ≡ e'
in_values e e' h h' ts ts' q = cc

not_in_values : (e e' : Expr) (h h' : List Part) (ts ts' : Terms) → not_in e h ts ≡ not_in e' h' ts' → e ≡ e'
not_in_values e e' h h' ts ts' q = cc

pub other_values_stay : SplitByIn (known true true true) one_row (only_cond (in_rows 1 1)) [] one_row (only_cond (not_in (list 0 1) (part 1 1 ∷ []) (list_rows 1 1))) [] → ⊥
other_values_stay s =
    let e : list 0 0 ≡ s.e = in_values (list 0 0) s.e (part 1 1 ∷ []) s.h (list_rows 1 1) s.ts (only_place (in_rows 1 1) (is_in s.e s.h s.ts) s.place).0 in
    let e' : list 0 1 ≡ s.e' = not_in_values (list 0 1) s.e' (part 1 1 ∷ []) s.h' (list_rows 1 1) s.us (only_place (not_in (list 0 1) (part 1 1 ∷ []) (list_rows 1 1)) (not_in s.e' s.h' s.us) s.place').0 in
    let same : expr_same (known true true true) s.ks (list 0 0) (list 0 1) ≡ true =
    subst (λ y. expr_same (known true true true) s.ks (list 0 0) y ≡ true) (sym e') (subst (λ x. expr_same (known true true true) s.ks x s.e' ≡ true) (sym e) s.values) in
    no_values _ same
  where
    no_values : (b : Bool) → (b && false) ≡ true → ⊥
    no_values true f = conflict f
    no_values false f = conflict f

pub other_pieces_stay : SplitByIn (known true true true) one_row (only_cond (in_rows 1 1)) (list 0 1 ∷ []) one_row (only_cond (not_in_rows 1 1)) (list 0 2 ∷ []) → ⊥
other_pieces_stay s = no_pieces _ s.same.pieces

pub two_ins_stay : SplitByIn (known true true true) one_row (only_cond (in_rows 1 1)) [] one_row (only_cond (in_rows 1 1)) [] → ⊥
two_ins_stay s = let bad : in_rows 1 1 ≡ not_in s.e' s.h' s.us = (only_place (in_rows 1 1) (not_in s.e' s.h' s.us) s.place').0 in cc
