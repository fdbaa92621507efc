-- The rows and columns of a side, from those of its operands.
use Rattle.std.proofs.Common.{◌≡◌, ℕ, suc, ◌+◌, ◌-◌, ◌<◌, cond, List, [], ◌∷◌, ◌++◌, map, filter, append_assoc, Result, Ok, Err, IfOk, refl, sym, ap, ◌∙◌, arith, ◌||◌}
use Rattle.std.specs.Prelude.{flat_map}
use Rattle.std.specs.List.{list_any}
use Rattle.wt_value.specs.Values.{Tuple, row_matches}
use Rattle.wt_symbol.specs.Sides.{SideTree, filtered, left_join, in_sub}
use Rattle.wt_instance.specs.declared.instance.Instance.{Instance}
use Rattle.wt_instance.specs.declared.named.Column.{Column}
use Rattle.wt_instance.specs.Instances.{is_true}
use Rattle.wt_instance.specs.Rows.{Named, column, values, values_at, leaf_columns, columns_of, joined, or_nulls, named_rows}

leaf_columns_next : (r n w : ℕ) → n < w → leaf_columns r n (w - n) ≡ column r n ∷ leaf_columns r (n + 1) (w - (n + 1))
leaf_columns_next r n w h =
    let more : w - n ≡ suc (w - (n + 1)) = omega arith in
    let next : suc n ≡ n + 1 = omega arith in
    ap (leaf_columns r n) more ∙ ap (λ k. column r n ∷ leaf_columns r k (w - (n + 1))) next

-- one more turn of a loop that adds the columns of a leaf
pub columns_go_on : (xs more target : List Column) (r n w : ℕ) → n < w → more ≡ xs ++ column r n ∷ [] → xs ++ leaf_columns r n (w - n) ≡ target → more ++ leaf_columns r (n + 1) (w - (n + 1)) ≡ target
columns_go_on xs more target r n w within m h = rw (m, append_assoc) (sym (ap (λ (l : List Column). xs ++ l) (leaf_columns_next r n w within)) ∙ h)

-- what a result is stays, where it is the same
pub if_ok : {X E : Type 0} (r : Result X E) (x y : X) → IfOk r (λ z. z ≡ x) → x ≡ y → IfOk r (λ z. z ≡ y)
if_ok (Ok z) x y h e = h ∙ e
if_ok (Err e') x y h e = h

module _ (A : List ℕ) (I : Instance) where
  pub filtered_rows : (p a : ℕ) (s : SideTree) (rows : List Named) → rows ≡ named_rows s A I → filter (λ row. is_true I p (values_at A I a row)) rows ≡ named_rows (filtered p a s) A I
  filtered_rows p a s rows e = rw e refl

  pub left_join_rows : (a b : ℕ) (s t : SideTree) (lefts rights : List Named) (columns : List Column) → lefts ≡ named_rows s A I → rights ≡ named_rows t A I → columns ≡ columns_of t A I →
      flat_map (λ left. or_nulls left columns (joined A I a b left rights)) lefts ≡ named_rows (left_join a b s t) A I
  left_join_rows a b s t lefts rights columns e f g = rw (e, f, g) refl

  any_values : (wanted : Tuple) (rights : List Named) → list_any (λ right. row_matches wanted right) (map values rights) ≡ list_any (λ right. row_matches wanted (values right)) rights
  any_values wanted [] = refl
  any_values wanted (r ∷ rights) = ap (λ b. row_matches wanted (values r) || b) (any_values wanted rights)

  kept_same : (a : ℕ) (lefts rights : List Named) →
      filter (λ left. list_any (λ right. row_matches (values_at A I a left) right) (map values rights)) lefts ≡ filter (λ left. list_any (λ right. row_matches (values_at A I a left) (values right)) rights) lefts
  kept_same a [] rights = refl
  kept_same a (l ∷ lefts) rights =
      ap (λ b. cond b (l ∷ filter (λ left. list_any (λ right. row_matches (values_at A I a left) right) (map values rights)) lefts) (filter (λ left. list_any (λ right. row_matches (values_at A I a left) right) (map values rights)) lefts))
      (any_values (values_at A I a l) rights)
      ∙ ap (λ (ls : List Named). cond (list_any (λ right. row_matches (values_at A I a l) (values right)) rights) (l ∷ ls) ls) (kept_same a lefts rights)

  pub in_sub_rows : (a : ℕ) (s t : SideTree) (lefts rights : List Named) (plain : List Tuple) → lefts ≡ named_rows s A I → rights ≡ named_rows t A I → plain ≡ map values rights →
      filter (λ left. list_any (λ right. row_matches (values_at A I a left) right) plain) lefts ≡ named_rows (in_sub a s t) A I
  in_sub_rows a s t lefts rights plain e f g = rw (g, f, e) (kept_same a (named_rows s A I) (named_rows t A I))
