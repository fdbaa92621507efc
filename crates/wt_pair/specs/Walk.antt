-- What is left of the pairs from a place on. A place is a template's number, the number of an anchoring of its lists, and the number of a destination.
use Rattle.std.specs.Prelude.{◌≡◌, ℕ, zero, suc, ◌/◌, ◌%◌, ◌^◌, ◌≤◌, List, [], ◌∷◌, ◌++◌, ◌⊎◌, length, drop}
use Rattle.std.specs.List.{flat_map}
use Rattle.wt_template.specs.Shapes.{Shape, templates}
use Rattle.wt_symbol.specs.Sides.{SideTree, PairTree}
use Rattle.wt_pair.specs.declared.bounds.Bounds.{Bounds}
use Rattle.wt_pair.specs.declared.source.Symbols.{Symbols}
use Rattle.wt_pair.specs.Candidates.{leaf_count, list_count, pred_count, source_of, anchorings, destinations_over, lawful_pairs, pairs_of_template}

-- the k-th way to anchor n lists among r leaves: the digits of k to the base r
abbrev pub nth_anchoring : ℕ → ℕ → ℕ → List ℕ
nth_anchoring r zero k = []
nth_anchoring r (suc n) k = k / r ^ n ∷ nth_anchoring r n (k % r ^ n)

-- a part of what the first of a list gives, and then all that the others give
abbrev pub resumed : {X Y : Type 0} → (X → List Y) → (X → List Y) → List X → List Y
resumed part whole [] = []
resumed part whole (x ∷ xs) = part x ++ flat_map whole xs

-- the pairs of a source with anchors, from the d-th destination on
abbrev pub rest_of_anchoring : Bounds → SideTree → Symbols → ℕ → List ℕ → List PairTree
rest_of_anchoring b side s d anchors = lawful_pairs side anchors (drop d (destinations_over b.ops.0 b.dst s.leaves s.lists s.preds))

-- the pairs of a source, from the d-th destination of the a-th anchoring on
abbrev pub rest_of_source : Bounds → SideTree → Symbols → ℕ → ℕ → List PairTree
rest_of_source b side s a d = resumed (rest_of_anchoring b side s d) (rest_of_anchoring b side s 0) (drop a (anchorings s.leaves s.lists))

-- how many symbols a template takes
abbrev pub symbols_of : Shape → Symbols
symbols_of t = record { leaves = leaf_count t; lists = list_count t; preds = pred_count t }

-- the pairs of the bounds, from such a place of the t-th template on
abbrev pub rest_of_pairs : Bounds → ℕ → ℕ → ℕ → List PairTree
rest_of_pairs b t a d =
    resumed (λ shape. rest_of_source b (source_of shape) (symbols_of shape) a d) (pairs_of_template b.ops.0 b.dst) (drop t (templates b.ops.0 b.src))

-- as many symbols as a source within the limits has at most
pub record IsSmall (s : Symbols) : Type 0 where
  pub leaves : s.leaves ≤ 5
  pub lists : s.lists ≤ 8
  pub preds : s.preds ≤ 4

-- a walk adds the pairs between two places to those that it had, up to the lot's end or to the end of what is left
pub record Fills (lot : ℕ) (had has : List PairTree) (from rest : List PairTree) : Type 0 where
  pub pairs : has ++ rest ≡ had ++ from
  pub within : length has ≤ lot
  pub full_or_done : (length has ≡ lot) ⊎ (rest ≡ [])

-- how far the pairs of the bounds were given: `first` of them
pub record Progress : Type 0 where
  pub bounds : Bounds
  pub first : ℕ
