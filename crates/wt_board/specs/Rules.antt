-- The rules of a lot, and those that a log tells.
use Rattle.std.specs.Prelude.{ℕ, ◌≡◌, ◌≤◌, false, List, [], ◌∷◌, ◌++◌, map}
use Rattle.wt_bag.specs.Choices.{Has}
use Rattle.wt_symbol.specs.Sides.{PairTree, pair_of}
use Rattle.wt_constraint.specs.declared.set.AtomSet.{AtomSet}
use Rattle.wt_form.specs.Relaxed.{LeavesOut, AreRules}
use Rattle.wt_cores.specs.Cores.{missing}
use Rattle.wt_rule.specs.declared.Rule.{Rule}
use Rattle.wt_board.specs.Lots.{LotTree}
use Rattle.wt_board.specs.Knowledge.{has_core}

-- a core of the log that leaves out at most so many atoms, and that has no set with one atom less that is known proved
pub record TellsRule (all : AtomSet) (depth : ℕ) (cores : List AtomSet) (m : AtomSet) : Type 0 where
  pub found : Has m cores
  pub near : missing 64 all m ≤ depth
  pub lone : (i : ℕ) (t : AtomSet) → LeavesOut m i t → has_core cores t ≡ false

abbrev pub rule_of : Rule → PairTree × AtomSet
rule_of r = (pair_of r.pair, r.set)

-- the rules of pairs, pair after pair, those of each pair ascending
abbrev pub AreRulesOf : ℕ → ℕ → List PairTree → List (PairTree × AtomSet) → Type 0
AreRulesOf steps depth [] rules = rules ≡ []
AreRulesOf steps depth (p ∷ ps) rules = (sets : List AtomSet) × (rest : List (PairTree × AtomSet)) × AreRules p steps depth sets × AreRulesOf steps depth ps rest × (rules ≡ map (λ s. (p, s)) sets ++ rest)

-- the rules of a lot
abbrev pub AreLotRules : LotTree → List Rule → Type 0
AreLotRules lot rules = AreRulesOf lot.bounds.steps lot.bounds.depth lot.pairs (map rule_of rules)
