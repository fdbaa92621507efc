-- The placed form of a plan. A zone is what conditions can move through: it is walked through conditions, both operands of
-- inner joins and the left operand of LEFT joins. Each condition of a zone stands at the lowest operand that has all its
-- columns; those of one place keep their order, which is that of the leaves up.
use Rattle.std.specs.Prelude.{◌≡◌, ℕ, ◌+◌, ◌-◌, ◌<◌, nat_lt, Bool, ◌&&◌, not, List, [], ◌∷◌, ◌++◌, map, filter, length}
use Rattle.std.specs.List.{list_all}
use Rattle.wt_pred.specs.Tree.{PredTree}
use Rattle.wt_plan.specs.Tree.{PlanTree, table, proj, filtered, inner_join, left_join, in_sub, dedup}
use Rattle.wt_plan.specs.Measures.{width}

-- a condition over columns: a predicate, or a subquery's plan
pub data Condition : Type 0 where
  test : PredTree → List ℕ → Condition
  member : List ℕ → PlanTree → Condition

abbrev pub over : Condition → List ℕ
over (test q cols) = cols
over (member cols r) = cols

-- the condition with its columns renumbered
abbrev pub moved : (ℕ → ℕ) → Condition → Condition
moved f (test q cols) = test q (map f cols)
moved f (member cols r) = member (map f cols) r

abbrev pub put : Condition → PlanTree → PlanTree
put (test q cols) p = filtered q cols p
put (member cols r) p = in_sub cols p r

-- conditions over a plan, the first one lowest
abbrev pub stand : List Condition → PlanTree → PlanTree
stand [] p = p
stand (c ∷ cs) p = stand cs (put c p)

-- whether all its columns are in the left operand, of n columns, or all in the right one
abbrev pub in_left : ℕ → Condition → Bool
in_left n c = list_all (λ k. nat_lt k n) (over c)

abbrev pub in_right : ℕ → Condition → Bool
in_right n c = not (in_left n c) && list_all (λ k. not (nat_lt k n)) (over c)

abbrev pub in_both : ℕ → Condition → Bool
in_both n c = not (in_left n c) && not (list_all (λ k. not (nat_lt k n)) (over c))

-- the conditions put where they belong, over a zone that has none
abbrev pub settle : List Condition → PlanTree → PlanTree
settle cs (table n w) = stand cs (table n w)
settle cs (proj cols p) = stand cs (proj cols p)
settle cs (dedup p) = stand cs (dedup p)
settle cs (filtered q cols p) = stand cs (filtered q cols p)
settle cs (in_sub cols l r) = stand cs (in_sub cols l r)
settle cs (inner_join a b l r) =
    stand (filter (in_both (width l)) cs)
    (inner_join a b (settle (filter (in_left (width l)) cs) l) (settle (map (moved (λ k. k - width l)) (filter (in_right (width l)) cs)) r))
settle cs (left_join a b l r) = stand (filter (λ c. not (in_left (width l) c)) cs) (left_join a b (settle (filter (in_left (width l)) cs) l) r)

-- The conditions of a zone over its columns, and the zone without them, everything inside being placed.
abbrev mutual
  pub conditions : PlanTree → List Condition
  conditions (table n w) = []
  conditions (proj cols p) = []
  conditions (dedup p) = []
  conditions (filtered q cols p) = conditions p ++ (test q cols ∷ [])
  conditions (in_sub cols l r) = conditions l ++ (member cols (settle (conditions r) (bare r)) ∷ [])
  conditions (inner_join a b l r) = conditions l ++ map (moved (λ k. width l + k)) (conditions r)
  conditions (left_join a b l r) = conditions l

  pub bare : PlanTree → PlanTree
  bare (table n w) = table n w
  bare (proj cols p) = proj cols (settle (conditions p) (bare p))
  bare (dedup p) = dedup (settle (conditions p) (bare p))
  bare (filtered q cols p) = bare p
  bare (in_sub cols l r) = bare l
  bare (inner_join a b l r) = inner_join a b (bare l) (bare r)
  bare (left_join a b l r) = left_join a b (bare l) (settle (conditions r) (bare r))

abbrev pub placed : PlanTree → PlanTree
placed p = settle (conditions p) (bare p)
