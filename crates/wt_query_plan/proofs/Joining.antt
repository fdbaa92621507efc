-- A condition over a join is the match of its pairs, and the other conjuncts.
use Rattle.std.proofs.Common.{◌≡◌, ℕ, zero, suc, ◌-◌, ◌<◌, ◌≤◌, nat_lt, nat_eq, Bool, true, false, ◌&&◌, not, cond, List, [], ◌∷◌, ◌++◌, map, length, Option, Some, None, refl, sym, ap, ◌∙◌, arith}
use Rattle.std.specs.Bool.{Decides}
use Rattle.std.specs.List.{list_any}
use Rattle.std.proofs.lemmas.Bool.{ltb-true, ltb-false}
use Rattle.wt_bag.specs.Bags.{Each}
use Rattle.wt_bag.proofs.EachLaws.{each_implies, each_distinct}
use Rattle.wt_value.specs.declared.value.Value.{Value}
use Rattle.wt_value.specs.declared.value.Value.TheVariants.{Null, Int, Text}
use Rattle.wt_value.specs.Values.{Tuple, value_matches, row_matches, value_at}
use Rattle.wt_value.proofs.Comparing.{value_matches-Decides}
use Rattle.wt_pred.specs.declared.tree.Cmp.TheVariants as signs
use Rattle.wt_pred.specs.declared.tree.Operand.TheVariants as operands
use Rattle.wt_pred.specs.Tree.{PredTree}
use Rattle.wt_pred.specs.Tree as preds
use Rattle.wt_plan.specs.Rows.{is_true, plan_rows}
use Rattle.wt_query_plan.specs.Building.{Conjunct, keeps, is_in, conjunct_columns, across, pair_of, pairs_of, others_of, on_right, firsts, seconds}
use Rattle.wt_query_plan.proofs.Stacking.{holds_at, all_at}
use Rattle.wt_pred.specs.Meaning.{comparison}
use Rattle.wt_pred.specs.Columns.{occurring}
use Rattle.wt_pred.proofs.TruthLaws.{renumbered_truth, depends_on_columns}
use Rattle.wt_plan.proofs.Together.{value_left, value_right}

same_test : {P : Type 0} (a b : Bool) → Decides a P → Decides b P → a ≡ b
same_test true true d e = refl
same_test true false d e = sym (e.1 (d.0 refl))
same_test false true d e = d.1 (e.0 refl)
same_test false false d e = refl

-- an equality is True where the values match
truth_bool : (b : Bool) → is_true (comparison signs.Eq Null Null) ≡ false
truth_bool b = refl

equal_matches : (v w : Value) → is_true (comparison signs.Eq v w) ≡ value_matches v w
equal_matches Null w = refl
equal_matches (Int x) Null = refl
equal_matches (Int x) (Int y) = here (value_matches (Int x) (Int y))
  where
    here : (b : Bool) → is_true (Rattle.wt_value.specs.Truths.truth_of b) ≡ b
    here true = refl
    here false = refl
equal_matches (Int x) (Text t) = refl
equal_matches (Text s) Null = refl
equal_matches (Text s) (Int y) = refl
equal_matches (Text s) (Text t) = here (value_matches (Text s) (Text t))
  where
    here : (b : Bool) → is_true (Rattle.wt_value.specs.Truths.truth_of b) ≡ b
    here true = refl
    here false = refl

matches_sym : (v w : Value) → value_matches v w ≡ value_matches w v
matches_sym v w =
    let d = value_matches-Decides v w in
    let e = value_matches-Decides w v in
    same_test (value_matches v w) (value_matches w v) d (λ h. let r = e.0 h in (sym r.0, λ n. r.1 (r.0 ∙ n)), λ h. e.1 (sym h.0, λ n. h.1 (h.0 ∙ n)))

module _ (base : List (List Tuple)) (x y : Tuple) where
  across_holds : (a b : ℕ) (p : ℕ × ℕ) → across (length x) a b ≡ Some p → is_true (comparison signs.Eq (value_at (x ++ y) a) (value_at (x ++ y) b)) ≡ value_matches (value_at x p.0) (value_at y p.1)
  across_holds a b p = here (nat_lt a (length x)) (nat_lt b (length x)) refl refl
    where
      both : (c d : ℕ) (q : ℕ × ℕ) → nat_lt c (length x) ≡ true → nat_lt d (length x) ≡ false → Some (c, d - length x) ≡ Some q
          → value_matches (value_at (x ++ y) c) (value_at (x ++ y) d) ≡ value_matches (value_at x q.0) (value_at y q.1)
      both c d q l r e =
          let left : value_at (x ++ y) c ≡ value_at x c = value_left x y c (ltb-true c (length x) l) in
          let right : value_at (x ++ y) d ≡ value_at y (d - length x) = value_right x y d (ltb-false d (length x) r) in
          let is : (c, d - length x) ≡ q = cc in
          (λ i. value_matches (left i) (right i)) ∙ ap (λ (z : ℕ × ℕ). value_matches (value_at x z.0) (value_at y z.1)) is

      here : (s t : Bool) → nat_lt a (length x) ≡ s → nat_lt b (length x) ≡ t
          → cond (s && not t) (Some (a, b - length x)) (cond (t && not s) (Some (b, a - length x)) None) ≡ Some p
          → is_true (comparison signs.Eq (value_at (x ++ y) a) (value_at (x ++ y) b)) ≡ value_matches (value_at x p.0) (value_at y p.1)
      here true true l r e = cc
      here false false l r e = cc
      here true false l r e = equal_matches (value_at (x ++ y) a) (value_at (x ++ y) b) ∙ both a b p l r e
      here false true l r e = equal_matches (value_at (x ++ y) a) (value_at (x ++ y) b) ∙ matches_sym (value_at (x ++ y) a) (value_at (x ++ y) b) ∙ both b a p r l e

  pub pair_holds : (j : Conjunct) (p : ℕ × ℕ) → pair_of (length x) j ≡ Some p → holds_at base j (x ++ y) ≡ value_matches (value_at x p.0) (value_at y p.1)
  pair_holds (keeps (preds.compare signs.Eq (operands.Column a) (operands.Column b))) p e = across_holds a b p e
  pair_holds (keeps (preds.compare signs.Eq (operands.Column a) (operands.Constant w))) p e = cc
  pair_holds (keeps (preds.compare signs.Eq (operands.Constant v) b)) p e = cc
  pair_holds (keeps (preds.compare signs.Ne a b)) p e = cc
  pair_holds (keeps (preds.compare signs.Lt a b)) p e = cc
  pair_holds (keeps (preds.compare signs.Le a b)) p e = cc
  pair_holds (keeps (preds.compare signs.Gt a b)) p e = cc
  pair_holds (keeps (preds.compare signs.Ge a b)) p e = cc
  pair_holds (keeps (preds.is_null c)) p e = cc
  pair_holds (keeps (preds.is_not_null c)) p e = cc
  pair_holds (keeps (preds.in_list c vs)) p e = cc
  pair_holds (keeps (preds.all_of ps)) p e = cc
  pair_holds (keeps (preds.any_of ps)) p e = cc
  pair_holds (keeps (preds.negated q)) p e = cc
  pair_holds (is_in cols q) p e = cc

  -- the match of the pairs
  abbrev pub pairs_match : List (ℕ × ℕ) → Bool
  pairs_match ps = row_matches (map (value_at x) (firsts ps)) (map (value_at y) (seconds ps))

  pub split_holds : (js : List Conjunct) → all_at base js (x ++ y) ≡ pairs_match (pairs_of (length x) js) && all_at base (others_of (length x) js) (x ++ y)
  split_holds [] = refl
  split_holds (j ∷ js) = here (pair_of (length x) j) refl (split_holds js)
    where
      swap : (a b c : Bool) → (a && (b && c)) ≡ (b && (a && c))
      swap true b c = refl
      swap false true c = refl
      swap false false c = refl

      and_and : (a b c : Bool) → (a && (b && c)) ≡ ((a && b) && c)
      and_and true b c = refl
      and_and false b c = refl

      here : (o : Option (ℕ × ℕ)) → pair_of (length x) j ≡ o → all_at base js (x ++ y) ≡ pairs_match (pairs_of (length x) js) && all_at base (others_of (length x) js) (x ++ y)
          → (holds_at base j (x ++ y) && all_at base js (x ++ y)) ≡ pairs_match (pairs_of (length x) (j ∷ js)) && all_at base (others_of (length x) (j ∷ js)) (x ++ y)
      here None e ih = rw (ih, e) (swap (holds_at base j (x ++ y)) (pairs_match (pairs_of (length x) js)) (all_at base (others_of (length x) js) (x ++ y)))
      here (Some p) e ih = rw (ih, e, pair_holds j p e) (and_and (value_matches (value_at x p.0) (value_at y p.1)) (pairs_match (pairs_of (length x) js)) (all_at base (others_of (length x) js) (x ++ y)))

  -- a conjunct on right columns alone
  pub right_holds : (j : Conjunct) → Each (λ k. length x ≤ k) (conjunct_columns j) → holds_at base (on_right (length x) j) y ≡ holds_at base j (x ++ y)
  right_holds (keeps p) h = ap is_true (renumbered_truth (λ k. k - length x) (x ++ y) y p
      (each_implies (λ k. length x ≤ k) (λ k. value_at y (k - length x) ≡ value_at (x ++ y) k) (occurring p) (λ k l. sym (value_right x y k l)) h))
  right_holds (is_in cols q) h = ap (λ r. list_any (λ z. row_matches r z) (plan_rows base q)) (picked cols h)
    where
      picked : (cs : List ℕ) → Each (λ k. length x ≤ k) cs → map (value_at y) (map (λ k. k - length x) cs) ≡ map (value_at (x ++ y)) cs
      picked [] h = refl
      picked (c ∷ cs) h = λ i. sym (value_right x y c h.0) i ∷ picked cs h.1 i

  pub rights_hold : (js : List Conjunct) → Each (λ j. Each (λ k. length x ≤ k) (conjunct_columns j)) js → all_at base (map (on_right (length x)) js) y ≡ all_at base js (x ++ y)
  rights_hold [] h = refl
  rights_hold (j ∷ js) h = λ i. right_holds j h.0 i && rights_hold js h.1 i

  -- a conjunct on left columns alone
  pub left_holds : (j : Conjunct) → Each (λ k. k < length x) (conjunct_columns j) → holds_at base j x ≡ holds_at base j (x ++ y)
  left_holds (keeps p) h = ap is_true (depends_on_columns p x (x ++ y)
      (each_distinct (λ k. value_at x k ≡ value_at (x ++ y) k) nat_eq (occurring p)
      (each_implies (λ k. k < length x) (λ k. value_at x k ≡ value_at (x ++ y) k) (occurring p) (λ k l. sym (value_left x y k l)) h)))
  left_holds (is_in cols q) h = ap (λ r. list_any (λ z. row_matches r z) (plan_rows base q)) (picked cols h)
    where
      picked : (cs : List ℕ) → Each (λ k. k < length x) cs → map (value_at x) cs ≡ map (value_at (x ++ y)) cs
      picked [] h = refl
      picked (c ∷ cs) h = λ i. sym (value_left x y c h.0) i ∷ picked cs h.1 i

  pub lefts_hold : (js : List Conjunct) → Each (λ j. Each (λ k. k < length x) (conjunct_columns j)) js → all_at base js x ≡ all_at base js (x ++ y)
  lefts_hold [] h = refl
  lefts_hold (j ∷ js) h = λ i. left_holds j h.0 i && lefts_hold js h.1 i

pub rows_match_sym : (x y : Tuple) → row_matches x y ≡ row_matches y x
rows_match_sym [] [] = refl
rows_match_sym [] (w ∷ y) = refl
rows_match_sym (v ∷ x) [] = refl
rows_match_sym (v ∷ x) (w ∷ y) = λ i. matches_sym v w i && rows_match_sym x y i
