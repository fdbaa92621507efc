-- Destinations of one size, and how many there are.
use Rattle.std.specs.Prelude.{◌≡◌, ℕ, ◌*◌, ◌<◌, List, length, map, slice_index}
use Rattle.std.specs.Int.{bit_at}
use Rattle.wt_template.specs.declared.place.Variants.{Variants}
use Rattle.wt_template.specs.Order.{numbers_from, trees}
use Rattle.wt_symbol.specs.Sides.{SideTree, input}
use Rattle.wt_pair.specs.declared.source.Symbols.{Symbols}
use Rattle.wt_pair.specs.Candidates.{makers}

-- the destinations of one size over so many symbols
abbrev pub destinations_of_size : ℕ → Symbols → ℕ → List SideTree
destinations_of_size ops s n = trees (map (λ r. input r) (numbers_from 0 s.leaves)) (makers ops s.lists s.preds) n n

-- how many variants each operator has over so many lists and predicates
abbrev pub variants_of : ℕ → ℕ → ℕ → Variants
variants_of ops lists preds = record {
  proj = bit_at ops 0 * lists;
  filter = bit_at ops 1 * (preds * lists);
  inner_join = bit_at ops 2 * (lists * lists);
  left_join = bit_at ops 3 * (lists * lists);
  in_sub = bit_at ops 4 * lists;
  dedup = bit_at ops 5;
}

-- the numbers say how many destinations of each size below n there are
pub record CountsDests (ops : ℕ) (s : Symbols) (counts : List ℕ) (n : ℕ) : Type 0 where
  pub at : (i : ℕ) → i < n → slice_index counts i ≡ length (destinations_of_size ops s i)
