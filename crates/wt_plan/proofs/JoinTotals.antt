-- Sums over joined rows, and over rows that are added where a left row joins none.
use Rattle.std.proofs.Common.{◌≡◌, ℕ, suc, ◌+◌, Bool, not, List, [], ◌∷◌, map, filter, refl, sym, ap, ◌∙◌, arith}
use Rattle.wt_bag.specs.Bags.{total, only}
use Rattle.wt_bag.proofs.BagLaws.{positive}
use Rattle.wt_bag.proofs.TotalLaws.{total-map, total-filter}
use Rattle.wt_value.specs.Values.{Tuple}
use Rattle.wt_plan.specs.Rows.{or_nulls}

-- what is added for a row with no partner
abbrev pub lone : ℕ → ℕ → ℕ
lone n w = only (not (positive n)) w

pub some_more : (n w : ℕ) → 0 ≡ lone (1 + n) w
some_more n w = let e : 1 + n ≡ suc n = omega arith in ap (λ k. lone k w) (sym e)

pub or_nulls_sum : (g : Tuple → ℕ) (p : Tuple) (rows : List Tuple) → total g (or_nulls p rows) ≡ total g rows + lone (total (λ _. 1) rows) (g p)
or_nulls_sum g p [] = omega arith
or_nulls_sum g p (w ∷ rows) = omega (arith, some_more (total (λ _. 1) rows) (g p))

pub mapped_filter : {X Y : Type 0} (g : Y → ℕ) (f : X → Y) (p : X → Bool) (xs : List X) → total g (map f (filter p xs)) ≡ total (λ x. only (p x) (g (f x))) xs
mapped_filter g f p xs = total-map g f (filter p xs) ∙ total-filter (λ x. g (f x)) p xs
