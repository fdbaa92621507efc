-- A rule file of a list of rules, of version 2.
use Rattle.std.specs.Prelude.{◌≡◌, ℕ, List, [], ◌∷◌, ◌++◌, map, length, Ok}
use Rattle.std.specs.List.{flat_map}
use Rattle.wt_rule.specs.Texts.{head_line, end_line, line_of}
use Rattle.wt_symbol.specs.Sides.{PairTree}
use Rattle.wt_constraint.specs.declared.set.AtomSet.{AtomSet}
use Rattle.wt_form.specs.Relaxed.{AreRules}
use Rattle.wt_rule_file.specs.Files.{RuleTree, IsAnswer}

-- the lines of the rules, in order
abbrev pub rule_lines : List RuleTree → List ℕ
rule_lines rules = flat_map (λ (r : RuleTree). line_of r.pair r.set) rules

-- the head, the lines of the rules, and the end with their number
abbrev pub file_text : ℕ → List RuleTree → List ℕ
file_text steps rules = head_line steps ++ (rule_lines rules ++ end_line (length rules))

-- the rules of some pairs, pair after pair, each pair with each of its sets in order
abbrev pub AreRulesOf : ℕ → ℕ → List PairTree → List RuleTree → Type 0
AreRulesOf steps depth [] rules = rules ≡ []
AreRulesOf steps depth (p ∷ ps) rules =
    (sets : List AtomSet) × (rest : List RuleTree) × AreRules p steps depth sets × AreRulesOf steps depth ps rest × (rules ≡ map (λ set. record { pair = p; set = set }) sets ++ rest)

-- the file is read as the rules of the pairs
pub record IsReadAsRules (steps depth : ℕ) (pairs : List PairTree) (text : List ℕ) : Type 0 where
  pub rules : List RuleTree
  pub are : AreRulesOf steps depth pairs rules
  pub answer : IsAnswer text (Ok (record { steps = steps; rules = rules }))
