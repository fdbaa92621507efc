-- What the reader of a rule file finds, line by line.
use Rattle.std.specs.Prelude.{◌≡◌, ◌≢◌, ℕ, suc, ◌+◌, ◌-◌, ◌<◌, ◌≤◌, ◌==◌, nat_le, ◌&&◌, Bool, true, false, List, [], ◌∷◌, map, length, take, drop, codes, Result, Ok, Err, Some, None, if◌then◌else◌}
use Rattle.std.specs.declared.option.Option.{Option}
use Rattle.wt_symbol.specs.Sides.{pair_of}
use Rattle.wt_form.specs.Under.{Provable}
use Rattle.wt_rule.specs.declared.Rule.{Rule}
use Rattle.wt_rule_text.specs.declared.parsed.Version.{Version}
use Rattle.wt_rule_text.specs.declared.parsed.Version.TheVariants.{One, Two}
use Rattle.wt_rule_text.specs.Reading.{after, number, first_of, ◌>>=◌}
use Rattle.wt_rule_line.specs.declared.fault.RuleFault.{RuleFault}
use Rattle.wt_rule_line.specs.declared.fault.RuleFault.TheVariants.{NotProved}
use Rattle.wt_rule_line.specs.declared.fault.RuleLineError.{RuleLineError}
use Rattle.wt_rule_line.specs.declared.fault.RuleLineError.TheVariants as lines
use Rattle.wt_rule_file.specs.declared.fault.RuleError.{RuleError}
use Rattle.wt_rule_file.specs.declared.fault.RuleError.TheVariants.{Fault, Memory}
use Rattle.wt_rule_file.specs.declared.head.Head.{Head}
use Rattle.wt_rule_file.specs.declared.lines.LineAt.{LineAt}
use Rattle.wt_rule_file.specs.Files.{Line, lines_of, longest_line, most_rules, first_text, first_ended, behind_first, IsHead, Ends, RuleTree, rule_tree, IsProvedRule, IsRefusedRule, Give, AreRead}

-- Lines by their places.

-- how many bytes stand before the first LF, or at all
abbrev pub until_lf : List ℕ → ℕ
until_lf [] = 0
until_lf (b ∷ bs) = if b == 10 then 0 else suc (until_lf bs)

-- the line that begins at a place
pub record IsLineAt (bytes : List ℕ) (at : ℕ) (line : LineAt) : Type 0 where
  pub begins : at ≤ line.end
  pub ends : line.end ≤ length bytes
  pub further : at < line.next
  pub within : line.next ≤ length bytes
  pub first : lines_of (drop at bytes) ≡ record { text = take (line.end - at) (drop at bytes); ended = line.ended } ∷ lines_of (drop line.next bytes)

-- the first line of a file
pub record IsFirstLine (bytes : List ℕ) (line : LineAt) : Type 0 where
  pub ends : line.end ≤ length bytes
  pub text : first_text (lines_of bytes) ≡ take line.end bytes
  pub ended : first_ended (lines_of bytes) ≡ line.ended
  pub behind : behind_first (lines_of bytes) ≡ lines_of (drop line.next bytes)

-- Heads and ends.

abbrev pub last_number : List ℕ → ℕ → Option ℕ
last_number text at = number text at >>= λ n. if n.1 == length text then Some n.0 else None

abbrev pub steps_at : List ℕ → ℕ → Option ℕ
steps_at text at = last_number text at >>= λ n. if nat_le 1 n && nat_le n 16 then Some n else None

abbrev pub head_with : Version → List ℕ → ℕ → Option Head
head_with version text at = steps_at text at >>= λ n. Some (record { version = version; steps = n })

unfoldable pub stated_head : List ℕ → Option Head
stated_head text = first_of (after text 0 (codes "wetune-rules 1 steps=")) (λ at. head_with One text at) (after text 0 (codes "wetune-rules 2 steps=") >>= λ at. head_with Two text at)

unfoldable pub end_number : List ℕ → Option ℕ
end_number text = after text 0 (codes "end ") >>= λ at. last_number text at

abbrev pub GivesEnd : Version → ℕ → ℕ → ℕ → Line → List Line → Option RuleFault → Type 0
GivesEnd v steps n count line ls None = Give v steps n count (line ∷ ls) (Ok [])
GivesEnd v steps n count line ls (Some f) = Give v steps n count (line ∷ ls) (Err (f, n))

-- more lines follow, or none
abbrev pub Follow : Bool → List Line → Type 0
Follow more ls = (more ≡ true → ls ≢ []) × (more ≡ false → ls ≡ [])

-- the fault of an end line, or that it ends the file
abbrev pub EndsFile : List ℕ → Bool → Bool → ℕ → Option RuleFault → Type 0
EndsFile text ended more count fault = (v : Version) (steps n : ℕ) (ls : List Line) → length text ≤ longest_line → Ends text → Follow more ls → GivesEnd v steps n count (record { text = text; ended = ended }) ls fault

-- Rules.

abbrev pub IsUnproved : Rule → ℕ → Option RuleLineError → Type 0
IsUnproved rule steps None = Provable (pair_of rule.pair) rule.set steps
IsUnproved rule steps (Some (lines.Fault f)) = (f ≡ NotProved) × (Provable (pair_of rule.pair) rule.set steps → ⊥)
IsUnproved rule steps (Some lines.Memory) = Unit {0}

abbrev pub ReadsRule : Version → ℕ → Line → Result Rule RuleLineError → Type 0
ReadsRule version steps line (Ok rule) = IsProvedRule version steps line (rule_tree rule)
ReadsRule version steps line (Err (lines.Fault f)) = IsRefusedRule version steps line f
ReadsRule version steps line (Err lines.Memory) = Unit {0}

-- a rule behind so many others
pub record IsNextRule (version : Version) (steps count : ℕ) (line : Line) (rule : RuleTree) : Type 0 where
  pub short : length line.text ≤ longest_line
  pub no_end : Ends line.text → ⊥
  pub room : count < most_rules
  pub proved : IsProvedRule version steps line rule

-- what a line is behind so many rules
abbrev pub Verdict : Version → ℕ → ℕ → Line → Bool → Result (Option Rule) RuleLineError → Type 0
Verdict v steps count line more (Ok (Some rule)) = IsNextRule v steps count line (rule_tree rule)
Verdict v steps count line more (Ok None) = (n : ℕ) (ls : List Line) → Follow more ls → Give v steps n count (line ∷ ls) (Ok [])
Verdict v steps count line more (Err (lines.Fault f)) = (n : ℕ) (ls : List Line) → Follow more ls → Give v steps n count (line ∷ ls) (Err (f, n))
Verdict v steps count line more (Err lines.Memory) = Unit {0}

-- the same of the first of some lines, before the others
abbrev pub VerdictAt : Version → ℕ → ℕ → List Line → List Line → Result (Option Rule) RuleError → Type 0
VerdictAt v steps count all rest (Ok (Some rule)) = (line : Line) × (all ≡ line ∷ rest) × IsNextRule v steps count line (rule_tree rule)
VerdictAt v steps count all rest (Ok None) = Give v steps (count + 2) count all (Ok [])
VerdictAt v steps count all rest (Err (Fault f n)) = (n ≡ count + 2) × Give v steps n count all (Err (f, n))
VerdictAt v steps count all rest (Err Memory) = Unit {0}

abbrev pub at_line : RuleLineError → ℕ → RuleError
at_line (lines.Fault f) count = Fault f (count + 2)
at_line lines.Memory count = Memory

-- Files.

abbrev pub Reads : Version → ℕ → List Line → Result (List Rule) RuleError → Type 0
Reads v steps ls (Ok rules) = Give v steps 2 0 ls (Ok (map rule_tree rules))
Reads v steps ls (Err (Fault f n)) = Give v steps 2 0 ls (Err (f, n))
Reads v steps ls (Err Memory) = Unit {0}

abbrev pub GivesHead : List Line → Result Head RuleError → Type 0
GivesHead ls (Ok head) = (length (first_text ls) ≤ longest_line) × IsHead head.version head.steps (first_text ls) × (first_ended ls ≡ true)
GivesHead ls (Err (Fault f n)) = AreRead ls (Err (f, n))
GivesHead ls (Err Memory) = Unit {0}
