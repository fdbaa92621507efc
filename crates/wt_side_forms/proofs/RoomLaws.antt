-- The form of a side with few operators is not great.
use Rattle.std.proofs.Common.{ℕ, zero, suc, ◌+◌, ◌*◌, ◌^◌, ◌<◌, ◌≤◌, ◌≡◌, List, [], ◌∷◌, refl, ap, arith}
use Rattle.std.proofs.Math.Nat.{add-mul, mul-suc, suc-mul, mul_comm, mul_assoc, mul_left_comm, mul-le-mul, mul-le-mul_left}
use Rattle.wt_symbol.specs.Sides.{SideTree, input, proj, filtered, inner_join, left_join, in_sub, dedup, size_of}
use Rattle.wt_symbol.specs.Heads.{head_of}
use Rattle.wt_form.specs.declared.form.Expr.{Expr}
use Rattle.wt_form.specs.Trees.{Terms, no_terms, term_then, Ranges, Conds, no_conds, cond_then, Cond, Pred, Join, is_in, not_in}
use Rattle.wt_form.specs.Parts.{conds_append, with_cond, conds_up, expr_up, ranges_count}
use Rattle.wt_form.specs.FormOf.{each_term, list_of, list_part, proj_term, cond_term, null_term, join_term, join_terms, side_terms}
use Rattle.wt_form.specs.Weights.{terms_size, ranges_size, conds_size, cond_size}
use Rattle.wt_form.proofs.Sizes.{size-terms_append, size-ranges_append, size-conds_append, size-conds_map}

-- each term becomes at most k times as great
each_size : (k : ℕ) (f : Ranges → Conds → List Expr → Terms) → ((rs : Ranges) (cs : Conds) (ps : List Expr) → terms_size (f rs cs ps) ≤ (1 + ranges_size rs + conds_size cs) * k) → (ts : Terms) → terms_size (each_term f ts) ≤ terms_size ts * k
each_size k f q no_terms = omega arith
each_size k f q (term_then rs cs ps ts) =
    let e = size-terms_append (f rs cs ps) (each_term f ts) in
    let here = q rs cs ps in
    let rest = each_size k f q ts in
    let split = add-mul (1 + ranges_size rs + conds_size cs) (terms_size ts) k in
    omega (arith, e, here, rest, split)

with_size : (cs : Conds) (c : Cond) → conds_size (with_cond cs c) ≡ conds_size cs + cond_size c
with_size cs c = let e = size-conds_append cs (cond_then c no_conds) in omega (arith, e)

proj_size : (e : List Expr → Expr) (ts : Terms) → terms_size (each_term (proj_term e) ts) ≤ terms_size ts
proj_size e ts = let h = each_size 1 (proj_term e) (λ rs cs ps. omega arith) ts in omega (arith, h)

-- a term, and one of size a with a condition of size 1 + y more
one_more : (m y : ℕ) → suc m + 1 + y ≤ suc m * suc (suc y)
one_more m y = let e = suc-mul m (suc (suc y)) in let f = mul-suc m (suc y) in omega (arith, e, f)

conds_more : (y : ℕ) (f : Ranges → Conds → List Expr → Terms) → ((rs : Ranges) (cs : Conds) (ps : List Expr) → terms_size (f rs cs ps) ≤ 1 + ranges_size rs + conds_size cs + 1 + y) → (ts : Terms) → terms_size (each_term f ts) ≤ terms_size ts * suc (suc y)
conds_more y f q = each_size (suc (suc y)) f (λ rs cs ps. grown rs cs ps)
  where
    grown : (rs : Ranges) (cs : Conds) (ps : List Expr) → terms_size (f rs cs ps) ≤ (1 + ranges_size rs + conds_size cs) * suc (suc y)
    grown rs cs ps =
        let h = q rs cs ps in
        let m : ℕ = ranges_size rs + conds_size cs in
        let more = one_more m y in
        let same : (1 + ranges_size rs + conds_size cs) * suc (suc y) ≡ suc m * suc (suc y) = ap (λ z. z * suc (suc y)) (let e : 1 + ranges_size rs + conds_size cs ≡ suc (ranges_size rs + conds_size cs) = omega arith in e) in
        omega (arith, h, more, same)

-- a left term of size a, and a right one
two_more : (m a : ℕ) → a + suc m + 3 ≤ suc m * (4 + a)
two_more m a =
    let e = suc-mul m (4 + a) in
    let c = mul_comm m (4 + a) in
    let d = suc-mul (3 + a) m in
    let same : (4 + a) * m ≡ suc (3 + a) * m = ap (λ z. z * m) (let g : 4 + a ≡ suc (3 + a) = omega arith in g) in
    omega (arith, e, c, d, same)

join_size : (e e' : List Expr → Expr) (rs : Ranges) (cs : Conds) (ps : List Expr) (rs' : Ranges) (cs' : Conds) (ps' : List Expr) →
    terms_size (join_term e e' rs cs ps rs' cs' ps') ≡ (1 + ranges_size rs + conds_size cs) + (1 + ranges_size rs' + conds_size cs') + 3
join_size e e' rs cs ps rs' cs' ps' =
    let k = ranges_count rs in
    let r = size-ranges_append rs rs' in
    let c = size-conds_append cs (conds_up k cs') in
    let u = size-conds_map (expr_up k) cs' in
    let w = with_size (conds_append cs (conds_up k cs')) (Join (e ps) (expr_up k (e' ps'))) in
    omega (arith, r, c, u, w)

right_one : (e e' : List Expr → Expr) (rs : Ranges) (cs : Conds) (ps : List Expr) (rs' : Ranges) (cs' : Conds) (ps' : List Expr) →
    terms_size (join_term e e' rs cs ps rs' cs' ps') ≤ (1 + ranges_size rs' + conds_size cs') * (4 + (1 + ranges_size rs + conds_size cs))
right_one e e' rs cs ps rs' cs' ps' =
    let a : ℕ = 1 + ranges_size rs + conds_size cs in
    let m : ℕ = ranges_size rs' + conds_size cs' in
    let s = join_size e e' rs cs ps rs' cs' ps' in
    let more = two_more m a in
    let same : (1 + ranges_size rs' + conds_size cs') * (4 + a) ≡ suc m * (4 + a) = ap (λ z. z * (4 + a)) (let g : 1 + ranges_size rs' + conds_size cs' ≡ suc (ranges_size rs' + conds_size cs') = omega arith in g) in
    omega (arith, s, more, same)

right_size : (e e' : List Expr → Expr) (rs : Ranges) (cs : Conds) (ps : List Expr) (ts : Terms) → terms_size (each_term (join_term e e' rs cs ps) ts) ≤ terms_size ts * (4 + (1 + ranges_size rs + conds_size cs))
right_size e e' rs cs ps = each_size (4 + (1 + ranges_size rs + conds_size cs)) (join_term e e' rs cs ps) (right_one e e' rs cs ps)

joins_size : (e e' : List Expr → Expr) (ss ts : Terms) → terms_size (join_terms e e' ss ts) ≤ terms_size ss * (terms_size ts * 5)
joins_size e e' ss ts = each_size (terms_size ts * 5) (λ rs cs ps. each_term (join_term e e' rs cs ps) ts) (λ rs cs ps. one rs cs ps) ss
  where
    one : (rs : Ranges) (cs : Conds) (ps : List Expr) → terms_size (each_term (join_term e e' rs cs ps) ts) ≤ (1 + ranges_size rs + conds_size cs) * (terms_size ts * 5)
    one rs cs ps =
        let a : ℕ = 1 + ranges_size rs + conds_size cs in
        let h = right_size e e' rs cs ps ts in
        let l = mul-le-mul_left {m = 4 + a} {n = a * 5} (terms_size ts) (omega arith) in
        let c = mul_left_comm (terms_size ts) a 5 in
        omega (arith, h, l, c)

-- an upper bound by the number of operators
pub cap : ℕ → ℕ
cap zero = 4
cap (suc n) = cap n * 36

cap-zero : cap 0 ≡ 4
unfolding cap
cap-zero = refl

cap-suc : (n : ℕ) → cap (suc n) ≡ cap n * 36
unfolding cap
cap-suc n = refl

cap_add : (m n : ℕ) → cap m * cap n ≡ cap (m + n) * 4
cap_add zero n =
    let e = ap (λ z. z * cap n) cap-zero in
    let c = mul_comm 4 (cap n) in
    let s = ap cap (let q : 0 + n ≡ n = omega arith in q) in
    omega (arith, e, c, s)
cap_add (suc m) n =
    let before = cap_add m n in
    let one = ap (λ z. z * cap n) (cap-suc m) in
    let two = mul_assoc (cap m) 36 (cap n) in
    let three = ap (λ z. cap m * z) (mul_comm 36 (cap n)) in
    let four = mul_assoc (cap m) (cap n) 36 in
    let s = ap cap (let q : suc m + n ≡ suc (m + n) = omega arith in q) in
    let five = cap-suc (m + n) in
    omega (arith, before, one, two, three, four, s, five)

cap_few : (n : ℕ) → n ≤ 4 → cap n < 2 ^ 32
unfolding cap
cap_few zero l = omega arith
cap_few (suc zero) l = omega arith
cap_few (suc (suc zero)) l = omega arith
cap_few (suc (suc (suc zero))) l = omega arith
cap_few (suc (suc (suc (suc zero)))) l = omega arith
cap_few (suc (suc (suc (suc (suc n))))) l = let bad : ⊥ = omega (arith, l) in absurd bad

-- one operator more over one side, or over two
over_one : (n z y : ℕ) → z + 1 ≤ cap n → y ≤ z * 2 + 3 → y + 1 ≤ cap (1 + n)
over_one n z y h l =
    let e = cap-suc n in
    let s = ap cap (let q : 1 + n ≡ suc n = omega arith in q) in
    omega (arith, h, l, e, s)

over_two : (m n x z y : ℕ) → x + 1 ≤ cap m → z + 1 ≤ cap n → y ≤ x * (z * 5) + x * suc (suc z) → y + 1 ≤ cap (1 + m + n)
over_two m n x z y h k l =
    let five = mul-le-mul {n₁ = x} {m₁ = z * 5} {n₂ = cap m} {m₂ = cap n * 5} (omega (arith, h)) (omega (arith, k)) in
    let two = mul-le-mul {n₁ = x} {m₁ = suc (suc z)} {n₂ = cap m} {m₂ = cap n * 2} (omega (arith, h)) (omega (arith, k)) in
    let one = mul-le-mul {n₁ = 1} {m₁ = 1} {n₂ = cap m} {m₂ = cap n} (omega (arith, h)) (omega (arith, k)) in
    let a = mul_assoc (cap m) (cap n) 5 in
    let b = mul_assoc (cap m) (cap n) 2 in
    let c = cap_add m n in
    let e = cap-suc (m + n) in
    let s = ap cap (let q : 1 + m + n ≡ suc (m + n) = omega arith in q) in
    omega (arith, l, five, two, one, a, b, c, e, s)

pub sides_size : (s : SideTree) (A : List ℕ) → terms_size (side_terms s A) + 1 ≤ cap (size_of s)
sides_size (input r) A = let e = cap-zero in omega (arith, e)
sides_size (proj a s) A =
    over_one (size_of s) (terms_size (side_terms s A)) _ (sides_size s A) (let h = proj_size (list_of (head_of s A) A a) (side_terms s A) in omega (arith, h))
sides_size (filtered p a s) A =
    over_one (size_of s) (terms_size (side_terms s A)) _ (sides_size s A)
    (let h = conds_more 0 (cond_term (λ ps. Pred p (list_of (head_of s A) A a ps))) (λ rs cs ps. let w = with_size cs (Pred p (list_of (head_of s A) A a ps)) in omega (arith, w)) (side_terms s A) in omega (arith, h))
sides_size (inner_join a b s t) A =
    over_two (size_of s) (size_of t) (terms_size (side_terms s A)) (terms_size (side_terms t A)) _ (sides_size s A) (sides_size t A)
    (let h = joins_size (list_of (head_of s A) A a) (list_of (head_of t A) A b) (side_terms s A) (side_terms t A) in omega (arith, h))
sides_size (left_join a b s t) A = over_two (size_of s) (size_of t) (terms_size (side_terms s A)) (terms_size (side_terms t A)) _ (sides_size s A) (sides_size t A) (
    let h = joins_size (list_of (head_of s A) A a) (list_of (head_of t A) A b) (side_terms s A) (side_terms t A) in
    let rows = proj_size (list_of (head_of t A) A b) (side_terms t A) in
    let k = conds_more (terms_size (side_terms t A)) (null_term (λ ps. not_in (list_of (head_of s A) A a ps) (list_part A b ∷ []) (each_term (proj_term (list_of (head_of t A) A b)) (side_terms t A))) (head_of t A))
    (λ rs cs ps. let w = with_size cs (not_in (list_of (head_of s A) A a ps) (list_part A b ∷ []) (each_term (proj_term (list_of (head_of t A) A b)) (side_terms t A))) in omega (arith, w, rows)) (side_terms s A) in
    let sum = size-terms_append (join_terms (list_of (head_of s A) A a) (list_of (head_of t A) A b) (side_terms s A) (side_terms t A))
    (each_term (null_term (λ ps. not_in (list_of (head_of s A) A a ps) (list_part A b ∷ []) (each_term (proj_term (list_of (head_of t A) A b)) (side_terms t A))) (head_of t A)) (side_terms s A)) in
    omega (arith, h, k, sum)
    )
sides_size (in_sub a s t) A =
    over_two (size_of s) (size_of t) (terms_size (side_terms s A)) (terms_size (side_terms t A)) _ (sides_size s A) (sides_size t A)
    (let h = conds_more (terms_size (side_terms t A)) (cond_term (λ ps. is_in (list_of (head_of s A) A a ps) (head_of t A) (side_terms t A)))
    (λ rs cs ps. let w = with_size cs (is_in (list_of (head_of s A) A a ps) (head_of t A) (side_terms t A)) in omega (arith, w)) (side_terms s A) in
    omega (arith, h))
sides_size (dedup s) A = over_one (size_of s) (terms_size (side_terms s A)) _ (sides_size s A) (omega arith)

pub few_operators : (s : SideTree) (A : List ℕ) → size_of s ≤ 4 → terms_size (side_terms s A) < 2 ^ 32
few_operators s A l = let h = sides_size s A in let c = cap_few (size_of s) l in omega (arith, h, c)
