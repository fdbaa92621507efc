-- Where a tree stands among those of its size, in numbers. `c` gives how many trees of each size there are,
-- and n how many operators the operands have together.
use Rattle.std.specs.Prelude.{◌≡◌, ℕ, zero, suc, ◌+◌, ◌-◌, ◌*◌, ◌<◌, ◌≤◌}
use Rattle.wt_template.specs.declared.place.Place.{Place}
use Rattle.wt_template.specs.declared.place.Place.TheVariants.{Proj, Filter, InnerJoin, LeftJoin, InSub, Dedup}
use Rattle.wt_template.specs.declared.place.Variants.{Variants}
use Rattle.wt_template.specs.declared.place.OneOperand.{OneOperand}
use Rattle.wt_template.specs.declared.place.TwoOperands.{TwoOperands}

-- how many pairs of operands have a left one of size i, i + 1, .. and stand before the s-th such size, the sizes' sum being i + j
abbrev pub pairs_before : (ℕ → ℕ) → ℕ → ℕ → ℕ → ℕ
pairs_before c i j zero = 0
pairs_before c i zero (suc s) = c i * c 0
pairs_before c i (suc j) (suc s) = c i * c (suc j) + pairs_before c (suc i) j s

-- the number of a tree under an operator of one operand that has w variants
abbrev pub one_number : ℕ → OneOperand → ℕ
one_number w o = o.operand * w + o.variant

-- how many trees stand under such an operator
abbrev pub one_block : ℕ → (ℕ → ℕ) → ℕ → ℕ
one_block w c n = c n * w

-- the number of a tree under an operator of two operands that has w variants
abbrev pub two_number : ℕ → (ℕ → ℕ) → ℕ → TwoOperands → ℕ
two_number w c n o = pairs_before c 0 n o.left_size * w + ((o.left * c (n - o.left_size) + o.right) * w + o.variant)

-- how many trees stand under such an operator
abbrev pub two_block : ℕ → (ℕ → ℕ) → ℕ → ℕ
two_block w c n = pairs_before c 0 n (suc n) * w

-- operand and variant exist
pub record IsOnePlace (w m : ℕ) (o : OneOperand) : Type 0 where
  pub operand : o.operand < m
  pub variant : o.variant < w

-- operands and variant exist
pub record IsTwoPlace (w : ℕ) (c : ℕ → ℕ) (n : ℕ) (o : TwoOperands) : Type 0 where
  pub size : o.left_size ≤ n
  pub left : o.left < c o.left_size
  pub right : o.right < c (n - o.left_size)
  pub variant : o.variant < w

-- root, operands and variant exist
abbrev pub IsPlace : Variants → (ℕ → ℕ) → ℕ → Place → Type 0
IsPlace v c n (Proj o) = IsOnePlace v.proj (c n) o
IsPlace v c n (Filter o) = IsOnePlace v.filter (c n) o
IsPlace v c n (InnerJoin o) = IsTwoPlace v.inner_join c n o
IsPlace v c n (LeftJoin o) = IsTwoPlace v.left_join c n o
IsPlace v c n (InSub o) = IsTwoPlace v.in_sub c n o
IsPlace v c n (Dedup o) = IsOnePlace v.dedup (c n) o

-- the number of a tree among those of its size, from 0
abbrev pub number_of : Variants → (ℕ → ℕ) → ℕ → Place → ℕ
number_of v c n (Proj o) = one_number v.proj o
number_of v c n (Filter o) = one_block v.proj c n + one_number v.filter o
number_of v c n (InnerJoin o) = one_block v.proj c n + one_block v.filter c n + two_number v.inner_join c n o
number_of v c n (LeftJoin o) =
    one_block v.proj c n + one_block v.filter c n + two_block v.inner_join c n + two_number v.left_join c n o
number_of v c n (InSub o) =
    one_block v.proj c n + one_block v.filter c n + two_block v.inner_join c n + two_block v.left_join c n
    + two_number v.in_sub c n o
number_of v c n (Dedup o) =
    one_block v.proj c n + one_block v.filter c n + two_block v.inner_join c n + two_block v.left_join c n
    + two_block v.in_sub c n + one_number v.dedup o

-- how many trees there are
abbrev pub number_of_trees : Variants → (ℕ → ℕ) → ℕ → ℕ
number_of_trees v c n =
    one_block v.proj c n + one_block v.filter c n + two_block v.inner_join c n + two_block v.left_join c n
    + two_block v.in_sub c n + one_block v.dedup c n

-- no operator has a variant
pub record HasNone (v : Variants) : Type 0 where
  pub proj : v.proj ≡ 0
  pub filter : v.filter ≡ 0
  pub inner_join : v.inner_join ≡ 0
  pub left_join : v.left_join ≡ 0
  pub in_sub : v.in_sub ≡ 0
  pub dedup : v.dedup ≡ 0
