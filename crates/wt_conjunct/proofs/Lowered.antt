-- A predicate whose columns are counted from as many less: its columns, and where they stand among them.
use Rattle.std.proofs.Common.{◌≡◌, ℕ, ◌+◌, ◌-◌, ◌<◌, ◌≤◌, nat_eq, Bool, true, false, not, cond, List, [], ◌∷◌, ◌++◌, map, refl, sym, ap, ◌∙◌, arith, eq-eqb}
use Rattle.std.specs.List.{position_or_len}
use Rattle.std.proofs.lemmas.Bool.{false≢true}
use borrow.Author.Tests.{eqb-true}
use Rattle.wt_bag.specs.Bags.{Each, distinct}
use Rattle.wt_bag.specs.Choices.{Has}
use Rattle.wt_bag.proofs.BagLaws.{distinct-map}
use Rattle.wt_bag.proofs.EachLaws.{each_implies, each_distinct}
use Rattle.wt_pred.specs.declared.tree.Operand.{Operand}
use Rattle.wt_pred.specs.declared.tree.Operand.TheVariants.{Column, Constant}
use Rattle.wt_pred.specs.Tree.{PredTree, PredTrees, compare, is_null, is_not_null, in_list, all_of, any_of, negated, no_preds, pred_then}
use Rattle.wt_pred.specs.Columns.{operand_columns, occurring, occurring_in, columns, operand_renumbered, renumbered, all_renumbered, place_in}
use Rattle.wt_pred.proofs.Numbering.{renumbered_alike}
use Rattle.wt_plan.specs.Tree.{PlanTree, filtered}
use Rattle.wt_query_plan.specs.Building.{at_place, kept}

pub map_append : {X Y : Type 0} (f : X → Y) (xs ys : List X) → map f (xs ++ ys) ≡ map f xs ++ map f ys
map_append f [] ys = refl
map_append f (x ∷ xs) ys = ap (λ l. f x ∷ l) (map_append f xs ys)

pub map_map : {X Y Z : Type 0} (g : Y → Z) (f : X → Y) (xs : List X) → map g (map f xs) ≡ map (λ x. g (f x)) xs
map_map g f [] = refl
map_map g f (x ∷ xs) = ap (λ l. g (f x) ∷ l) (map_map g f xs)

module _ (f : ℕ → ℕ) where
  operand_moved : (o : Operand) → operand_columns (operand_renumbered f o) ≡ map f (operand_columns o)
  operand_moved (Column c) = refl
  operand_moved (Constant v) = refl

  mutual
    pub occurring_moved : (p : PredTree) → occurring (renumbered f p) ≡ map f (occurring p)
    occurring_moved (compare cmp a b) = (λ i. operand_moved a i ++ operand_moved b i) ∙ sym (map_append f (operand_columns a) (operand_columns b))
    occurring_moved (is_null c) = refl
    occurring_moved (is_not_null c) = refl
    occurring_moved (in_list c vs) = refl
    occurring_moved (all_of ps) = all_moved ps
    occurring_moved (any_of ps) = all_moved ps
    occurring_moved (negated p) = occurring_moved p

    all_moved : (ps : PredTrees) → occurring_in (all_renumbered f ps) ≡ map f (occurring_in ps)
    all_moved no_preds = refl
    all_moved (pred_then p ps) = (λ i. occurring_moved p i ++ all_moved ps i) ∙ sym (map_append f (occurring p) (occurring_in ps))

  -- numbers that keep the columns of P apart keep them in their order
  pub columns_moved : (P : ℕ → Type 0) → ((x y : ℕ) → P x → P y → nat_eq (f x) (f y) ≡ nat_eq x y) → (p : PredTree) → Each P (occurring p) → columns (renumbered f p) ≡ map f (columns p)
  columns_moved P apart p h = ap (distinct nat_eq) (occurring_moved p) ∙ distinct-map nat_eq nat_eq f P apart (occurring p) h

module _ (g f : ℕ → ℕ) where
  operand_twice : (o : Operand) → operand_renumbered g (operand_renumbered f o) ≡ operand_renumbered (λ k. g (f k)) o
  operand_twice (Column c) = refl
  operand_twice (Constant v) = refl

  mutual
    pub renumbered_twice : (p : PredTree) → renumbered g (renumbered f p) ≡ renumbered (λ k. g (f k)) p
    renumbered_twice (compare cmp a b) = λ i. compare cmp (operand_twice a i) (operand_twice b i)
    renumbered_twice (is_null c) = refl
    renumbered_twice (is_not_null c) = refl
    renumbered_twice (in_list c vs) = refl
    renumbered_twice (all_of ps) = ap all_of (all_twice ps)
    renumbered_twice (any_of ps) = ap any_of (all_twice ps)
    renumbered_twice (negated p) = ap negated (renumbered_twice p)

    all_twice : (ps : PredTrees) → all_renumbered g (all_renumbered f ps) ≡ all_renumbered (λ k. g (f k)) ps
    all_twice no_preds = refl
    all_twice (pred_then p ps) = λ i. pred_then (renumbered_twice p i) (all_twice ps i)

module _ (n : ℕ) where
  lowered_apart : (x y : ℕ) → n ≤ x → n ≤ y → nat_eq (x - n) (y - n) ≡ nat_eq x y
  lowered_apart x y h k = here (nat_eq (x - n) (y - n)) (nat_eq x y) refl refl
    where
      here : (b c : Bool) → nat_eq (x - n) (y - n) ≡ b → nat_eq x y ≡ c → b ≡ c
      here true true e f = refl
      here false false e f = refl
      here true false e f = absurd (false≢true (sym f ∙ eq-eqb x y (let s : x - n ≡ y - n = eqb-true _ _ e in omega (arith, s, h, k))))
      here false true e f = absurd (false≢true (sym e ∙ eq-eqb (x - n) (y - n) (ap (λ m. m - n) (eqb-true x y f))))

  place_lowered : (cols : List ℕ) (c : ℕ) → Each (λ k. n ≤ k) cols → n ≤ c → place_in (map (λ k. k - n) cols) (c - n) ≡ place_in cols c
  place_lowered [] c h l = refl
  place_lowered (x ∷ cols) c h l = λ i. cond (not (lowered_apart c x l h.0 i)) (1 + place_lowered cols c h.1 l i) 0

  pub kept_lowered : (places : List ℕ) (p : PredTree) (plan : PlanTree) → Each (λ k. n ≤ k) (occurring p)
      → filtered (renumbered (place_in (columns p)) p) (map (λ k. at_place places (k - n)) (columns p)) plan ≡ kept places (renumbered (λ k. k - n) p) plan
  kept_lowered places p plan h =
      let cols : columns (renumbered (λ k. k - n) p) ≡ map (λ k. k - n) (columns p) = columns_moved (λ k. k - n) (λ k. n ≤ k) lowered_apart p h in
      let at : map (at_place places) (map (λ k. k - n) (columns p)) ≡ map (λ k. at_place places (k - n)) (columns p) = map_map (at_place places) (λ k. k - n) (columns p) in
      let all : Each (λ k. n ≤ k) (columns p) = each_distinct (λ k. n ≤ k) nat_eq (occurring p) h in
      let pred : renumbered (place_in (map (λ k. k - n) (columns p))) (renumbered (λ k. k - n) p) ≡ renumbered (place_in (columns p)) p =
      renumbered_twice (place_in (map (λ k. k - n) (columns p))) (λ k. k - n) p
      ∙ renumbered_alike (λ k. place_in (map (λ j. j - n) (columns p)) (k - n)) (place_in (columns p)) p
      (each_implies (λ k. n ≤ k) (λ k. place_in (map (λ j. j - n) (columns p)) (k - n) ≡ place_in (columns p) k) (occurring p) (λ k l. place_lowered (columns p) k all l) h) in
      (λ i. filtered (sym pred i) (sym at i) plan) ∙ ap (λ cs. filtered (renumbered (place_in cs) (renumbered (λ k. k - n) p)) (map (at_place places) cs) plan) (sym cols)
