-- The rows of a plan are as wide as it says, where those of its tables are.
use Rattle.std.proofs.Common.{◌≡◌, ℕ, ◌+◌, List, [], ◌∷◌, ◌++◌, map, length, length-append, filter, refl, ap, ◌∙◌, arith}
use Rattle.wt_bag.specs.Bags.{Each}
use Rattle.wt_bag.proofs.EachLaws.{each_implies, each_map, each_for, each_filter, each_flat_map, each_distinct}
use Rattle.wt_value.specs.Values.{Tuple, row_matches, row_same, pick}
use Rattle.wt_schema.specs.Satisfying.{rows_of}
use Rattle.wt_plan.specs.Tree.{PlanTree, table, proj, filtered, inner_join, left_join, in_sub, dedup}
use Rattle.wt_plan.specs.Measures.{width}
use Rattle.wt_plan.specs.Rows.{plan_rows, null_row, joined, or_nulls}
use Rattle.wt_plan.proofs.Together.{null_length}
use Rattle.wt_plan.proofs.Upto.{length_map}

abbrev pub Wide : ℕ → List Tuple → Type 0
Wide n rows = Each (λ v. length v ≡ n) rows

pub kept_wide_row : (n : ℕ) (ns u : Tuple) (rows : List Tuple) → length (u ++ ns) ≡ n → Each (λ w. length w ≡ n) rows → Each (λ w. length w ≡ n) (or_nulls (u ++ ns) rows)
kept_wide_row n ns u [] e h = (e, tt)
kept_wide_row n ns u (w ∷ rows) e h = h

-- tables whose rows decide how wide a plan's rows are
abbrev pub TablesFit : List (List Tuple) → PlanTree → Type 0
TablesFit base (table n w) = Each (λ (row : Tuple). length row ≡ w) (rows_of base n)
TablesFit base (proj cols p) = Unit {0}
TablesFit base (dedup p) = TablesFit base p
TablesFit base (filtered q cols p) = TablesFit base p
TablesFit base (in_sub cols l r) = TablesFit base l
TablesFit base (inner_join a b l r) = TablesFit base l × TablesFit base r
TablesFit base (left_join a b l r) = TablesFit base l × TablesFit base r

module _ (base : List (List Tuple)) where
  joined_wide : (a b : List ℕ) (m k : ℕ) (u : Tuple) (vs : List Tuple) → length u ≡ m → Wide k vs → Wide (m + k) (joined a b u vs)
  joined_wide a b m k u vs e h = each_map (λ w. length w ≡ m + k) (λ v. u ++ v) (filter (λ v. row_matches (pick a u) (pick b v)) vs)
      (each_filter (λ v. length (u ++ v) ≡ m + k) (λ v. row_matches (pick a u) (pick b v)) vs
      (each_implies (λ v. length v ≡ k) (λ v. length (u ++ v) ≡ m + k) vs (λ v f. omega (arith, length-append u v)) h))

  pub wide : (p : PlanTree) → TablesFit base p → Wide (width p) (plan_rows base p)
  wide (table n w) h = h
  wide (proj cols p) h = each_map (λ v. length v ≡ length cols) (pick cols) (plan_rows base p) (each_for (plan_rows base p) (λ v. length_map _ cols))
  wide (dedup p) h = each_distinct (λ v. length v ≡ width p) row_same (plan_rows base p) (wide p h)
  wide (filtered q cols p) h = each_filter (λ v. length v ≡ width p) _ (plan_rows base p) (wide p h)
  wide (in_sub cols l r) h = each_filter (λ v. length v ≡ width l) _ (plan_rows base l) (wide l h)
  wide (inner_join a b l r) h = each_flat_map (λ w. length w ≡ width l + width r) (λ u. joined a b u (plan_rows base r)) (plan_rows base l)
      (each_implies (λ u. length u ≡ width l) (λ u. Wide (width l + width r) (joined a b u (plan_rows base r))) (plan_rows base l)
      (λ u e. joined_wide a b (width l) (width r) u (plan_rows base r) e (wide r h.1)) (wide l h.0))
  wide (left_join a b l r) h = each_flat_map (λ w. length w ≡ width l + width r) (λ u. or_nulls (u ++ null_row (width r)) (joined a b u (plan_rows base r))) (plan_rows base l)
      (each_implies (λ u. length u ≡ width l) (λ u. Wide (width l + width r) (or_nulls (u ++ null_row (width r)) (joined a b u (plan_rows base r)))) (plan_rows base l)
      (λ u e. kept_wide_row (width l + width r) (null_row (width r)) u (joined a b u (plan_rows base r)) (omega (arith, length-append u (null_row (width r)), null_length (width r)))
      (joined_wide a b (width l) (width r) u (plan_rows base r) e (wide r h.1))) (wide l h.0))
