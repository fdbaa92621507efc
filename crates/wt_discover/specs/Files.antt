-- The rule file of a list of pairs.
use Rattle.std.specs.Prelude.{ℕ, ◌+◌, ◌-◌, ◌^◌, ◌≡◌, min, List, [], ◌∷◌, ◌++◌, length}
use Rattle.std.specs.List.{flat_map}
use Rattle.wt_symbol.specs.Sides.{PairTree}
use Rattle.wt_constraint.specs.declared.set.AtomSet.{AtomSet}
use Rattle.wt_form.specs.Relaxed.{AreRules}
use Rattle.wt_rule.specs.Texts.{head_line, end_line, line_of}

-- the lines of the rules of a pair, in order, and how many rules it has
pub record AreLines (p : PairTree) (steps depth : ℕ) (text : List ℕ) (count : ℕ) : Type 0 where
  pub sets : List AtomSet
  pub rules : AreRules p steps depth sets
  pub lines : text ≡ flat_map (line_of p) sets
  pub number : count ≡ length sets

-- the lines of the rules of some pairs, pair after pair, and how many rules they have together
abbrev pub AreAllLines : ℕ → ℕ → List PairTree → List ℕ → ℕ → Type 0
AreAllLines steps depth [] text count = (text ≡ []) × (count ≡ 0)
AreAllLines steps depth (p ∷ ps) text count = (first : List ℕ) × (n : ℕ) × (rest : List ℕ) × (m : ℕ) ×
    AreLines p steps depth first n × AreAllLines steps depth ps rest m × (text ≡ first ++ rest) × (count ≡ n + m)

-- the rule file of some pairs: the head, the lines of their rules, and the end with their number, or
-- the last number of 64 bits
pub record IsRuleFile (steps depth : ℕ) (pairs : List PairTree) (text : List ℕ) : Type 0 where
  pub lines : List ℕ
  pub count : ℕ
  pub are : AreAllLines steps depth pairs lines count
  pub is : text ≡ head_line steps ++ (lines ++ end_line (min count (2 ^ 64 - 1)))

-- the lines of the rules of some pairs, and their number as far as 64 bits go
pub record AreCounted (steps depth : ℕ) (pairs : List PairTree) (text : List ℕ) (count : ℕ) : Type 0 where
  pub number : ℕ
  pub are : AreAllLines steps depth pairs text number
  pub counted : count ≡ min number (2 ^ 64 - 1)
