-- Conditions sorted between the operands of a join, as the code sorts them.
use Rattle.std.proofs.Common.{◌≡◌, ℕ, ◌+◌, ◌-◌, ◌^◌, ◌<◌, ◌≤◌, Bool, true, false, ◌&&◌, not, cond, List, [], ◌∷◌, ◌++◌, map, filter, refl, sym, ap, subst, ◌∙◌, append_assoc, arith}
use Rattle.std.specs.Prelude.{min, Result, Ok, Err, OnOk}
use Rattle.wt_bag.specs.Bags.{Each}
use Rattle.wt_bag.proofs.Counting.{filter-filter}
use Rattle.wt_bag.proofs.EachLaws.{each_implies}
use Rattle.wt_plan.specs.Tree.{PlanTree, inner_join, left_join}
use Rattle.wt_plan.specs.Measures.{width}
use Rattle.wt_place.specs.declared.condition.Side.TheVariants.{Left, Right}
use Rattle.wt_place.specs.Placing.{Condition, test, member, over, moved, stand, in_left, in_right, in_both, settle, conditions, bare, placed}
use Rattle.wt_place.specs.Views.{all_of}

-- one more condition of a loop that sorts them
pub filter_step : {X : Type 0} (p : X → Bool) (kept more rest all : List X) (x : X) → more ≡ kept ++ filter p (x ∷ []) → kept ++ filter p (x ∷ rest) ≡ all → more ++ filter p rest ≡ all
filter_step p kept more rest all x e h = ap (λ l. l ++ filter p rest) e ∙ append_assoc kept (filter p (x ∷ [])) (filter p rest) ∙ ap (λ l. kept ++ l) (one (p x)) ∙ h
  where
    one : (b : Bool) → cond b (x ∷ []) [] ++ filter p rest ≡ cond b (x ∷ filter p rest) (filter p rest)
    one true = refl
    one false = refl

-- a number of 32 bits
pub small_min : (n : ℕ) → n < 2 ^ 32 → min (2 ^ 32 - 1) n ≡ n
small_min n h = grind (arith)

-- the conditions of an inner join
pub settle_inner : (cs ls os is low bs : List Condition) (a b : List ℕ) (l r : PlanTree) (w : ℕ) → w ≡ width l → ls ≡ filter (all_of Left w) cs → os ≡ filter (λ c. not (all_of Left w c)) cs
    → is ≡ filter (all_of Right w) os → bs ≡ filter (λ c. not (all_of Right w c)) os → low ≡ map (moved (λ k. k - w)) is
    → stand bs (inner_join a b (settle ls l) (settle low r)) ≡ settle cs (inner_join a b l r)
settle_inner cs ls os is low bs a b l r w e h1 h2 h3 h4 h5 =
    let up : is ≡ filter (in_right w) cs = h3 ∙ ap (filter (all_of Right w)) h2 ∙ filter-filter (λ c. not (all_of Left w c)) (all_of Right w) (in_right w) (λ c. both (all_of Left w c) (all_of Right w c)) cs in
    let rest : bs ≡ filter (in_both w) cs = h4 ∙ ap (filter (λ c. not (all_of Right w c))) h2 ∙ filter-filter (λ c. not (all_of Left w c)) (λ c. not (all_of Right w c)) (in_both w) (λ c. neither (all_of Left w c) (all_of Right w c)) cs in
    let lowered : low ≡ map (moved (λ k. k - w)) (filter (in_right w) cs) = h5 ∙ ap (map (moved (λ k. k - w))) up in
    (λ i. stand (rest i) (inner_join a b (settle (h1 i) l) (settle (lowered i) r)))
    ∙ subst (λ n. stand (filter (in_both n) cs) (inner_join a b (settle (filter (in_left n) cs) l) (settle (map (moved (λ k. k - n)) (filter (in_right n) cs)) r)) ≡ settle cs (inner_join a b l r)) (sym e) refl
  where
    both : (s t : Bool) → (t && not s) ≡ (not s && t)
    both true true = refl
    both true false = refl
    both false true = refl
    both false false = refl

    neither : (s t : Bool) → (not t && not s) ≡ (not s && not t)
    neither true true = refl
    neither true false = refl
    neither false true = refl
    neither false false = refl

-- the conditions of a left join
pub settle_left : (cs ls bs : List Condition) (a b : List ℕ) (l r : PlanTree) (w : ℕ) → w ≡ width l → ls ≡ filter (all_of Left w) cs → bs ≡ filter (λ c. not (all_of Left w c)) cs
    → stand bs (left_join a b (settle ls l) r) ≡ settle cs (left_join a b l r)
settle_left cs ls bs a b l r w e h1 h2 =
    (λ i. stand (h2 i) (left_join a b (settle (h1 i) l) r))
    ∙ subst (λ n. stand (filter (λ c. not (in_left n c)) cs) (left_join a b (settle (filter (in_left n) cs) l) r) ≡ settle cs (left_join a b l r)) (sym e) refl

-- columns that are raised below 2 ^ 32 are raised in full
pub raised_exact : (shift : ℕ) (cols : List ℕ) → Each (λ k. shift + k < 2 ^ 32) cols → map (λ k. min (2 ^ 32 - 1) (shift + k)) cols ≡ map (λ k. shift + k) cols
raised_exact shift [] h = refl
raised_exact shift (k ∷ cols) h = λ i. small_min (shift + k) h.0 i ∷ raised_exact shift cols h.1 i

pub room_for : (shift width : ℕ) (cols : List ℕ) → shift + width < 2 ^ 32 → Each (λ k. k < width) cols → Each (λ k. shift + k < 2 ^ 32) cols
room_for shift width cols room h = each_implies (λ k. k < width) (λ k. shift + k < 2 ^ 32) cols (λ k l. omega (arith, room, l)) h

-- conditions that are moved twice
moved_moved : (s w : ℕ) (c : Condition) → moved (λ k. s + k) (moved (λ k. w + k) c) ≡ moved (λ k. (s + w) + k) c
moved_moved s w (test q cols) = ap (test q) (twice cols)
  where
    twice : (cols : List ℕ) → map (λ k. s + k) (map (λ k. w + k) cols) ≡ map (λ k. (s + w) + k) cols
    twice [] = refl
    twice (k ∷ cols) = let e : s + (w + k) ≡ (s + w) + k = omega arith in λ i. e i ∷ twice cols i
moved_moved s w (member cols r) = ap (λ l. member l r) (twice cols)
  where
    twice : (cols : List ℕ) → map (λ k. s + k) (map (λ k. w + k) cols) ≡ map (λ k. (s + w) + k) cols
    twice [] = refl
    twice (k ∷ cols) = let e : s + (w + k) ≡ (s + w) + k = omega arith in λ i. e i ∷ twice cols i

all_moved_moved : (s w : ℕ) (cs : List Condition) → map (moved (λ k. s + k)) (map (moved (λ k. w + k)) cs) ≡ map (moved (λ k. (s + w) + k)) cs
all_moved_moved s w [] = refl
all_moved_moved s w (c ∷ cs) = λ i. moved_moved s w c i ∷ all_moved_moved s w cs i

pub map_append : {X Y : Type 0} (f : X → Y) (xs ys : List X) → map f (xs ++ ys) ≡ map f xs ++ map f ys
map_append f [] ys = refl
map_append f (x ∷ xs) ys = ap (λ l. f x ∷ l) (map_append f xs ys)

-- the conditions of both operands of an inner join, behind those that were gathered before
pub both_gathered : (s w : ℕ) (old mid new cl cr : List Condition) → mid ≡ old ++ map (moved (λ k. s + k)) cl → new ≡ mid ++ map (moved (λ k. (s + w) + k)) cr
    → new ≡ old ++ map (moved (λ k. s + k)) (cl ++ map (moved (λ k. w + k)) cr)
both_gathered s w old mid new cl cr e f =
    f ∙ ap (λ l. l ++ map (moved (λ k. (s + w) + k)) cr) e
    ∙ append_assoc old (map (moved (λ k. s + k)) cl) (map (moved (λ k. (s + w) + k)) cr)
    ∙ ap (λ l. old ++ (map (moved (λ k. s + k)) cl ++ l)) (sym (all_moved_moved s w cr))
    ∙ ap (λ l. old ++ l) (sym (map_append (moved (λ k. s + k)) cl (map (moved (λ k. w + k)) cr)))

-- one more condition behind those of its operand
pub one_gathered : (s : ℕ) (old mid new cs : List Condition) (c : Condition) → mid ≡ old ++ map (moved (λ k. s + k)) cs → new ≡ mid ++ moved (λ k. s + k) c ∷ []
    → new ≡ old ++ map (moved (λ k. s + k)) (cs ++ c ∷ [])
one_gathered s old mid new cs c e f =
    f ∙ ap (λ l. l ++ moved (λ k. s + k) c ∷ []) e
    ∙ append_assoc old (map (moved (λ k. s + k)) cs) (moved (λ k. s + k) c ∷ [])
    ∙ ap (λ l. old ++ l) (sym (map_append (moved (λ k. s + k)) cs (c ∷ [])))

-- conditions that are not moved
pub all_stay : (cs : List Condition) → map (moved (λ k. 0 + k)) cs ≡ cs
all_stay [] = refl
all_stay (test q cols ∷ cs) = λ i. test q (stay cols i) ∷ all_stay cs i
  where
    stay : (cols : List ℕ) → map (λ k. 0 + k) cols ≡ cols
    stay [] = refl
    stay (k ∷ cols) = let e : 0 + k ≡ k = omega arith in λ i. e i ∷ stay cols i
all_stay (member cols r ∷ cs) = λ i. member (stay cols i) r ∷ all_stay cs i
  where
    stay : (cols : List ℕ) → map (λ k. 0 + k) cols ≡ cols
    stay [] = refl
    stay (k ∷ cols) = let e : 0 + k ≡ k = omega arith in λ i. e i ∷ stay cols i

pub always : {A E : Type 0} {P : Type 0} (r : Result A E) → P → OnOk r P
always (Ok x) p = p
always (Err e) p = tt

-- the last step of placing
pub placed_from : (p : PlanTree) (cs : List Condition) (q : PlanTree) → cs ≡ map (moved (λ k. 0 + k)) (conditions p) → q ≡ bare p → settle cs q ≡ placed p
placed_from p cs q e f = (λ i. settle (e i) (f i)) ∙ ap (λ l. settle l (bare p)) (all_stay (conditions p))
