-- A side is read one operator deeper.
use Rattle.std.proofs.Common.{◌≡◌, ◌≢◌, ℕ, zero, suc, ◌-◌, Bool, List, None, refl, arith}
use Rattle.wt_rule_text.specs.Reading.{side, side_over}

pub deeper : (depth : ℕ) (marked : Bool) (line : List ℕ) (at : ℕ) → depth ≢ 0 → side depth marked line at ≡ side_over (side (depth - 1) marked line) marked line at
unfolding side
deeper zero marked line at some = absurd (some refl)
deeper (suc depth) marked line at some = let e : suc depth - 1 ≡ depth = omega arith in rw e refl

pub too_deep : (marked : Bool) (line : List ℕ) (at : ℕ) → side 0 marked line at ≡ None
unfolding side
too_deep marked line at = refl
