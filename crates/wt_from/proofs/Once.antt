-- A list whose elements stand once is empty where the list is.
use Rattle.std.proofs.Common.{◌≡◌, ℕ, nat_eq, List, [], ◌∷◌, refl}
use Rattle.wt_bag.specs.Bags.{distinct}
use Rattle.wt_query_plan.specs.Faults.{is_empty}

pub none_once : (xs : List ℕ) → is_empty (distinct nat_eq xs) ≡ is_empty xs
none_once [] = refl
none_once (x ∷ xs) = refl
