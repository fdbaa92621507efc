-- The values at places of two rows put together, and rows that pass two tests.
use Rattle.std.proofs.Common.{◌≡◌, ℕ, zero, suc, ◌+◌, ◌-◌, ◌<◌, ◌≤◌, Bool, true, false, ◌&&◌, cond, List, [], ◌∷◌, ◌++◌, map, length, filter, refl, ap, ◌∙◌, arith}
use Rattle.wt_bag.specs.Bags.{Each}
use Rattle.wt_value.specs.declared.value.Value.TheVariants.{Null}
use Rattle.wt_value.specs.Values.{Tuple, value_at, pick}
use Rattle.wt_plan.specs.Rows.{null_row}

pub value_past : (row : Tuple) → value_at row (length row) ≡ Null
value_past [] = refl
value_past (v ∷ row) = value_past row

pub value_left : (x y : Tuple) (k : ℕ) → k < length x → value_at (x ++ y) k ≡ value_at x k
value_left [] y k h = absurd (let bad : ⊥ = omega (arith, h) in bad)
value_left (v ∷ x) y zero h = refl
value_left (v ∷ x) y (suc k) h = value_left x y k (omega (arith, h))

pub value_right : (x y : Tuple) (k : ℕ) → length x ≤ k → value_at (x ++ y) k ≡ value_at y (k - length x)
value_right [] y k h = ap (value_at y) (omega arith)
value_right (v ∷ x) y zero h = absurd (let bad : ⊥ = omega (arith, h) in bad)
value_right (v ∷ x) y (suc k) h = value_right x y k (omega (arith, h)) ∙ ap (value_at y) (omega arith)

pub null_value : (n k : ℕ) → value_at (null_row n) k ≡ Null
null_value zero k = refl
null_value (suc n) zero = refl
null_value (suc n) (suc k) = null_value n k

pub null_length : (n : ℕ) → length (null_row n) ≡ n
null_length zero = refl
null_length (suc n) = omega (arith, null_length n)

-- places of the left row, places of the right row as they are in the whole, and the same counted from the whole's start
pub pick_left : (cols : List ℕ) (x y : Tuple) → Each (λ k. k < length x) cols → pick cols (x ++ y) ≡ pick cols x
pick_left [] x y h = refl
pick_left (k ∷ cols) x y h = λ i. value_left x y k h.0 i ∷ pick_left cols x y h.1 i

pub pick_high : (cols : List ℕ) (x y : Tuple) → Each (λ k. length x ≤ k) cols → pick cols (x ++ y) ≡ pick (map (λ k. k - length x) cols) y
pick_high [] x y h = refl
pick_high (k ∷ cols) x y h = λ i. value_right x y k h.0 i ∷ pick_high cols x y h.1 i

pub pick_right : (cols : List ℕ) (x y : Tuple) → pick (map (λ k. length x + k) cols) (x ++ y) ≡ pick cols y
pick_right [] x y = refl
pick_right (k ∷ cols) x y =
    let low : length x ≤ length x + k = omega arith in
    let is : (length x + k) - length x ≡ k = omega arith in
    λ i. (value_right x y (length x + k) low ∙ ap (value_at y) is) i ∷ pick_right cols x y i

pub filter_true : (rows : List Tuple) → rows ≡ filter (λ v. true) rows
filter_true [] = refl
filter_true (v ∷ rows) = ap (λ l. v ∷ l) (filter_true rows)

pub filter_filter : (p q : Tuple → Bool) (rows : List Tuple) → filter q (filter p rows) ≡ filter (λ v. p v && q v) rows
filter_filter p q [] = refl
filter_filter p q (v ∷ rows) = here (p v) (filter_filter p q rows)
  where
    here : (b : Bool) → filter q (filter p rows) ≡ filter (λ u. p u && q u) rows → filter q (cond b (v ∷ filter p rows) (filter p rows)) ≡ cond (b && q v) (v ∷ filter (λ u. p u && q u) rows) (filter (λ u. p u && q u) rows)
    here true e = ap (λ l. cond (q v) (v ∷ l) l) e
    here false e = e
