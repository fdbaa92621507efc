-- Congruence of small forms.
use Rattle.std.proofs.Common.{◌≡◌, ℕ, zero, suc, ◌<◌, true, false, List, [], ◌∷◌, refl, inl, inr, arith}
use Rattle.wt_symbol.specs.declared.head.PartCols.TheVariants.{Whole, List as Listed}
use Rattle.wt_form.specs.declared.form.Expr.{Expr}
use Rattle.wt_form.specs.declared.form.Expr.TheVariants.{Of, Null as NullOf}
use Rattle.wt_form.specs.Trees.{FormRange, Rel, distinct_of, Conds, no_conds, Cond, Pred, Join, is_in}
use Rattle.wt_form.specs.Parts.{conds_list, ranges_list, ranges_at, pieces_at}
use Rattle.wt_form.specs.Known.{Known}
use Rattle.wt_form.specs.Places.{list_rows}
use Rattle.wt_form.specs.Congruent.{pieces_same, TermsSame, RangesSame, RangeSame, CondsSame, CondSame, Congruent}
use Rattle.wt_form.specs.Worked.{known, list, one_row, two_rows, only_cond}
use Rattle.wt_worked_steps.specs.Shapes.{all_same, two_conds, part, whole_part, pred, self_joined, in_rows, not_in_rows, null, distinct_values, form, with_conds, with_pieces, over, rows_0_1, rows_1_0}
use Rattle.wt_worked_steps.proofs.Inverting.{conflict, same_parts, same_cond}

rows_same : TermsSame (known false false false) (list_rows 0 0) (list_rows 0 0)
rows_same = (0, 0 ∷ [], omega arith, (refl, (refl, refl)), refl, refl, refl)

rows_same_1 : TermsSame (known false false false) (list_rows 1 1) (list_rows 1 1)
rows_same_1 = (0, 0 ∷ [], omega arith, (refl, (refl, refl)), refl, refl, refl)

-- what congruent forms of one variable have in common
range_of : (r r' : FormRange) → Congruent (known true true true) (over r) (over r') → RangeSame (known true true true) r r'
range_of r r' h = (same_parts (known true true true) r r' no_conds no_conds [] [] h).0

cond_of : (c d : Cond) → Congruent (known true true true) (with_conds (only_cond c)) (with_conds (only_cond d)) → CondSame (known true true true) (0 ∷ []) c d
cond_of c d h = same_cond (known true true true) (0 ∷ []) c d (same_parts (known true true true) (Rel 0) (Rel 0) (only_cond c) (only_cond d) [] [] h).1

pieces_of : (L : Known) (ps qs : List Expr) → Congruent L (with_pieces ps) (with_pieces qs) → pieces_same L (0 ∷ []) ps qs ≡ true
pieces_of L ps qs h = (same_parts L (Rel 0) (Rel 0) no_conds no_conds ps qs h).2

pub same_leaves : Congruent all_same (over (Rel 0)) (over (Rel 1))
same_leaves = (0, 0 ∷ [], omega arith, (refl, (refl, refl)), refl, refl, refl)

pub variables_in_any_order : Congruent (known false false false) (form rows_0_1 no_conds (list 0 0 ∷ list 1 1 ∷ [])) (form rows_1_0 no_conds (list 1 0 ∷ list 0 1 ∷ []))
variables_in_any_order = (0, 1 ∷ 0 ∷ [], omega arith, (refl, (refl, (refl, refl))), refl, refl, refl)

pub distinct_rows_are_same : Congruent (known false false false) (over (distinct_values (list_rows 0 0))) (over (distinct_values (list_rows 0 0)))
distinct_rows_are_same = (0, 0 ∷ [], omega arith, ((refl, rows_same), (refl, refl)), refl, refl, refl)

pub not_other_leaf : Congruent (known true true true) (over (Rel 0)) (over (Rel 1)) → ⊥
not_other_leaf h = conflict (range_of (Rel 0) (Rel 1) h)

pub not_other_order : Congruent (known true true true) (form rows_0_1 no_conds (list 0 0 ∷ list 1 1 ∷ [])) (form rows_1_0 no_conds (list 0 0 ∷ list 1 1 ∷ [])) → ⊥
not_other_order h = go h.0 h.1 h.2 h.3 h.5
  where
    go : (k : ℕ) (ks : List ℕ) → k < 1 → RangesSame (known true true true) ks rows_0_1 (ranges_list (ranges_at k (form rows_1_0 no_conds (list 0 0 ∷ list 1 1 ∷ [])).terms)) →
        pieces_same (known true true true) ks (list 0 0 ∷ list 1 1 ∷ []) (pieces_at k (form rows_1_0 no_conds (list 0 0 ∷ list 1 1 ∷ [])).terms) ≡ true → ⊥
    go zero [] l rs p = rs
    go zero (zero ∷ ks) l rs p = conflict rs.0
    go zero (suc zero ∷ []) l rs p = rs.1
    go zero (suc zero ∷ zero ∷ ks) l rs p = conflict p
    go zero (suc zero ∷ suc j ∷ ks) l rs p = rs.1.0
    go zero (suc (suc j) ∷ ks) l rs p = rs.0
    go (suc k) ks l rs p = let bad : ⊥ = omega (arith, l) in bad

pub not_other_rows : Congruent (known true true true) (over (distinct_values (list_rows 0 0))) (over (distinct_values (list_rows 1 0))) → ⊥
not_other_rows h =
    conflict (same_parts (known true true true) (Rel 0) (Rel 1) no_conds no_conds (list 0 0 ∷ []) (list 0 0 ∷ []) (range_of (distinct_values (list_rows 0 0)) (distinct_values (list_rows 1 0)) h).1).0

pub not_other_list : Congruent (known true true true) (over (distinct_of (part 0 0 ∷ []) (list_rows 0 0))) (over (distinct_of (part 0 1 ∷ []) (list_rows 0 0))) → ⊥
not_other_list h = conflict (range_of (distinct_of (part 0 0 ∷ []) (list_rows 0 0)) (distinct_of (part 0 1 ∷ []) (list_rows 0 0)) h).0

pub not_other_whole : Congruent (known true true true) (over (distinct_of (whole_part 0 ∷ []) (list_rows 0 0))) (over (distinct_of (whole_part 1 ∷ []) (list_rows 0 0))) → ⊥
not_other_whole h = conflict (range_of (distinct_of (whole_part 0 ∷ []) (list_rows 0 0)) (distinct_of (whole_part 1 ∷ []) (list_rows 0 0)) h).0

pub not_other_kind_of_range : Congruent (known true true true) (over (Rel 0)) (over (distinct_values (list_rows 0 0))) → ⊥
not_other_kind_of_range h = range_of (Rel 0) (distinct_values (list_rows 0 0)) h

pub no_variable_is_left : Congruent (known true true true) (form two_rows no_conds []) (form one_row no_conds []) → ⊥
no_variable_is_left h = go h.0 h.1 h.2 h.3
  where
    go : (k : ℕ) (ks : List ℕ) → k < 1 → RangesSame (known true true true) ks two_rows (ranges_list (ranges_at k (form one_row no_conds []).terms)) → ⊥
    go zero [] l rs = rs
    go zero (zero ∷ []) l rs = rs.1
    go zero (zero ∷ j ∷ ks) l rs = rs.1.0
    go zero (suc j ∷ ks) l rs = rs.0
    go (suc k) ks l rs = let bad : ⊥ = omega (arith, l) in bad

-- forms of one variable with conditions that are the same
with_same : (L : Known) (cs ds : Conds) → RangeSame L (Rel 0) (Rel 0) → CondsSame L (0 ∷ []) cs (conds_list ds) → Congruent L (with_conds cs) (with_conds ds)
with_same L cs ds r c = (0, 0 ∷ [], omega arith, (r, (refl, refl)), c, refl, refl)

pub same_predicates : Congruent all_same (with_conds (only_cond (pred 0))) (with_conds (only_cond (pred 1)))
same_predicates = with_same all_same (only_cond (pred 0)) (only_cond (pred 1)) refl (0, (refl, refl), refl)

pub joins_either_way : Congruent (known false false false) (with_conds (only_cond (self_joined 1))) (with_conds (only_cond (Join (list 0 1) (list 0 0))))
joins_either_way = with_same (known false false false) (only_cond (self_joined 1)) (only_cond (Join (list 0 1) (list 0 0))) refl (0, inr (refl, refl), refl)

pub same_ins : Congruent (known false false false) (with_conds (only_cond (in_rows 1 1))) (with_conds (only_cond (in_rows 1 1)))
same_ins = with_same (known false false false) (only_cond (in_rows 1 1)) (only_cond (in_rows 1 1)) refl (0, (refl, rows_same_1), refl)

pub same_not_ins : Congruent (known false false false) (with_conds (only_cond (not_in_rows 1 1))) (with_conds (only_cond (not_in_rows 1 1)))
same_not_ins = with_same (known false false false) (only_cond (not_in_rows 1 1)) (only_cond (not_in_rows 1 1)) refl (0, (refl, rows_same_1), refl)

pub conditions_in_any_order : Congruent (known false false false) (with_conds (two_conds (pred 0) (in_rows 1 1))) (with_conds (two_conds (in_rows 1 1) (pred 0)))
conditions_in_any_order = with_same (known false false false) (two_conds (pred 0) (in_rows 1 1)) (two_conds (in_rows 1 1) (pred 0)) refl (1, (refl, refl), (0, (refl, rows_same_1), refl))

pub not_other_predicate : Congruent (known true true true) (with_conds (only_cond (pred 0))) (with_conds (only_cond (pred 1))) → ⊥
not_other_predicate h = conflict (cond_of (pred 0) (pred 1) h).0

pub not_predicate_of_other_list : Congruent (known true true true) (with_conds (only_cond (pred 0))) (with_conds (only_cond (Pred 0 (list 0 1)))) → ⊥
not_predicate_of_other_list h = conflict (cond_of (pred 0) (Pred 0 (list 0 1)) h).1

pub not_other_join : Congruent (known true true true) (with_conds (only_cond (self_joined 1))) (with_conds (only_cond (self_joined 2))) → ⊥
not_other_join h = elim (cond_of (self_joined 1) (self_joined 2) h) [
  | inl j ↦ conflict j.1
  | inr j ↦ conflict j.0
]

pub not_in_other_rows : Congruent (known true true true) (with_conds (only_cond (in_rows 1 1))) (with_conds (only_cond (in_rows 2 1))) → ⊥
not_in_other_rows h = conflict (same_parts (known true true true) (Rel 1) (Rel 2) no_conds no_conds (list 0 1 ∷ []) (list 0 1 ∷ []) (cond_of (in_rows 1 1) (in_rows 2 1) h).1).0

pub not_other_values : Congruent (known true true true) (with_conds (only_cond (in_rows 1 1))) (with_conds (only_cond (is_in (list 0 1) (part 1 1 ∷ []) (list_rows 1 1)))) → ⊥
not_other_values h = conflict (cond_of (in_rows 1 1) (is_in (list 0 1) (part 1 1 ∷ []) (list_rows 1 1)) h).0

pub not_other_rows_outside : Congruent (known true true true) (with_conds (only_cond (not_in_rows 1 1))) (with_conds (only_cond (not_in_rows 2 1))) → ⊥
not_other_rows_outside h = conflict (same_parts (known true true true) (Rel 1) (Rel 2) no_conds no_conds (list 0 1 ∷ []) (list 0 1 ∷ []) (cond_of (not_in_rows 1 1) (not_in_rows 2 1) h).1).0

pub not_other_kind_of_condition : Congruent (known true true true) (with_conds (only_cond (in_rows 1 1))) (with_conds (only_cond (not_in_rows 1 1))) → ⊥
not_other_kind_of_condition h = cond_of (in_rows 1 1) (not_in_rows 1 1) h

pub no_condition_is_left : Congruent (known true true true) (with_conds (only_cond (pred 0))) (with_conds no_conds) → ⊥
no_condition_is_left h = (same_parts (known true true true) (Rel 0) (Rel 0) (only_cond (pred 0)) no_conds [] [] h).1.1

pub same_lists : Congruent all_same (with_pieces (list 0 0 ∷ [])) (with_pieces (list 0 1 ∷ []))
same_lists = (0, 0 ∷ [], omega arith, (refl, (refl, refl)), refl, refl, refl)

pub same_nulls : Congruent (known false false false) (with_pieces (null ∷ [])) (with_pieces (NullOf 2 (Listed 1) ∷ []))
same_nulls = (0, 0 ∷ [], omega arith, (refl, (refl, refl)), refl, refl, refl)

pub not_piece_of_other_list : Congruent (known true true true) (with_pieces (list 0 0 ∷ [])) (with_pieces (list 0 1 ∷ [])) → ⊥
not_piece_of_other_list h = conflict (pieces_of (known true true true) (list 0 0 ∷ []) (list 0 1 ∷ []) h)

pub not_pieces_in_other_order : Congruent (known true true true) (with_pieces (list 0 0 ∷ list 0 1 ∷ [])) (with_pieces (list 0 1 ∷ list 0 0 ∷ [])) → ⊥
not_pieces_in_other_order h = conflict (pieces_of (known true true true) (list 0 0 ∷ list 0 1 ∷ []) (list 0 1 ∷ list 0 0 ∷ []) h)

pub not_whole_and_list : Congruent all_same (with_pieces (Of 0 0 Whole ∷ [])) (with_pieces (list 0 0 ∷ [])) → ⊥
not_whole_and_list h = conflict (pieces_of all_same (Of 0 0 Whole ∷ []) (list 0 0 ∷ []) h)

pub not_other_part : Congruent all_same (with_pieces (Of 0 0 Whole ∷ [])) (with_pieces (Of 0 1 Whole ∷ [])) → ⊥
not_other_part h = conflict (pieces_of all_same (Of 0 0 Whole ∷ []) (Of 0 1 Whole ∷ []) h)

pub no_piece_is_left : Congruent all_same (with_pieces (list 0 0 ∷ [])) (with_pieces []) → ⊥
no_piece_is_left h = conflict (pieces_of all_same (list 0 0 ∷ []) [] h)

pub not_other_whole_nulls : Congruent (known true true true) (with_pieces (NullOf 1 Whole ∷ [])) (with_pieces (NullOf 2 Whole ∷ [])) → ⊥
not_other_whole_nulls h = conflict (pieces_of (known true true true) (NullOf 1 Whole ∷ []) (NullOf 2 Whole ∷ []) h)

pub not_null_and_list : Congruent all_same (with_pieces (null ∷ [])) (with_pieces (list 0 1 ∷ [])) → ⊥
not_null_and_list h = conflict (pieces_of all_same (null ∷ []) (list 0 1 ∷ []) h)
