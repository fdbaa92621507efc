-- What a rule file says, line by line.
use Rattle.std.specs.Prelude.{◌≡◌, ◌≢◌, ℕ, suc, ◌<◌, ◌≤◌, ◌⊎◌, ◌==◌, Bool, true, false, List, [], ◌∷◌, ◌++◌, length, codes, map, Result, Ok, Err, if◌then◌else◌}
use Rattle.wt_symbol.specs.Sides.{PairTree, pair_of}
use Rattle.wt_constraint.specs.declared.set.AtomSet.{AtomSet}
use Rattle.wt_form.specs.Under.{Provable}
use Rattle.wt_rule.specs.declared.Rule.{Rule}
use Rattle.wt_rule.specs.declared.RuleBook.{RuleBook}
use Rattle.wt_rule_text.specs.declared.parsed.Version.{Version}
use Rattle.wt_rule_text.specs.declared.parsed.Version.TheVariants.{One, Two}
use Rattle.wt_rule_text.specs.Forms.{IsNumber}
use Rattle.wt_rule_line.specs.declared.fault.RuleFault.{RuleFault}
use Rattle.wt_rule_line.specs.declared.fault.RuleFault.TheVariants.{Head, Syntax, TooLong, NotProved, Count}
use Rattle.wt_rule_line.specs.Lines.{States, IsRefused}
use Rattle.wt_rule_file.specs.declared.fault.RuleError.{RuleError}
use Rattle.wt_rule_file.specs.declared.fault.RuleError.TheVariants.{Fault, Memory}

-- Lines.

-- a line, and whether an LF ends it
pub record Line : Type 0 where
  pub text : List ℕ
  pub ended : Bool

-- a byte before the first line of some; 10 is LF
abbrev pub put_before : ℕ → List Line → List Line
put_before b [] = record { text = b ∷ []; ended = false } ∷ []
put_before b (l ∷ ls) = record { text = b ∷ l.text; ended = l.ended } ∷ ls

-- the lines of a text; what stands behind the last LF is a line that no LF ends, if there is anything
abbrev pub lines_of : List ℕ → List Line
lines_of [] = []
lines_of (b ∷ bs) = if b == 10 then record { text = []; ended = true } ∷ lines_of bs else put_before b (lines_of bs)

-- a line has at most 4,096 bytes, and a file at most 65,536 rules
abbrev pub longest_line : ℕ
longest_line = 4096

abbrev pub most_rules : ℕ
most_rules = 65536

-- Heads and ends.

abbrev pub version_text : Version → List ℕ
version_text One = codes "wetune-rules 1 steps="
version_text Two = codes "wetune-rules 2 steps="

-- the first line of a file of this version, whose rules are proved within so many steps
pub record IsHead (version : Version) (steps : ℕ) (text : List ℕ) : Type 0 where
  pub digits : List ℕ
  pub number : IsNumber steps digits
  pub some : 1 ≤ steps
  pub few : steps ≤ 16
  pub is : text ≡ version_text version ++ digits

-- a line that begins so is an end line
abbrev pub Ends : List ℕ → Type 0
Ends text = (rest : List ℕ) × (text ≡ codes "end " ++ rest)

-- an end line that states a number of rules
abbrev pub StatesCount : ℕ → List ℕ → Type 0
StatesCount count text = (digits : List ℕ) × IsNumber count digits × (text ≡ codes "end " ++ digits)

-- Rules and files.

-- a rule: its pair, and the set of its atoms
pub record RuleTree : Type 0 where
  pub pair : PairTree
  pub set : AtomSet

-- the rules of a file, proved within so many steps each
pub record BookTree : Type 0 where
  pub steps : ℕ
  pub rules : List RuleTree

abbrev pub rule_tree : Rule → RuleTree
rule_tree rule = record { pair = pair_of rule.pair; set = rule.set }

-- a line that is read as a rule that is proved within so many steps
pub record IsProvedRule (version : Version) (steps : ℕ) (line : Line) (rule : RuleTree) : Type 0 where
  pub ended : line.ended ≡ true
  pub states : States version line.text rule.pair rule.set
  pub proved : Provable rule.pair rule.set steps

-- why a line that is neither too long nor an end line is refused
pub data IsRefusedRule (version : Version) (steps : ℕ) (line : Line) : RuleFault → Type 0 where
  not_ended : line.ended ≡ false → IsRefusedRule version steps line Syntax
  refused : {f : RuleFault} → line.ended ≡ true → IsRefused version line.text f → IsRefusedRule version steps line f
  not_proved : {p : PairTree} {set : AtomSet} → line.ended ≡ true → States version line.text p set → (Provable p set steps → ⊥) → IsRefusedRule version steps line NotProved

-- What the lines from the n-th on give, behind so many rules: the rules of the lines, or a fault with the number of its line.
pub data Give (version : Version) (steps : ℕ) : ℕ → ℕ → List Line → Result (List RuleTree) (RuleFault × ℕ) → Type 0 where
  -- there is no end line
  no_end : {n count : ℕ} → Give version steps n count [] (Err (Count, n))
  -- a line is too long, or it is one rule too many
  long_line : {n count : ℕ} {l : Line} {ls : List Line} → longest_line < length l.text → Give version steps n count (l ∷ ls) (Err (TooLong, n))
  many_rules : {n count : ℕ} {l : Line} {ls : List Line} → length l.text ≤ longest_line → (Ends l.text → ⊥) → count ≡ most_rules → Give version steps n count (l ∷ ls) (Err (TooLong, n))
  -- an end line states no number, or no LF ends it
  bad_end : {n count : ℕ} {l : Line} {ls : List Line} → length l.text ≤ longest_line → Ends l.text → ((l.ended ≡ false) ⊎ ((m : ℕ) → StatesCount m l.text → ⊥)) → Give version steps n count (l ∷ ls) (Err (Syntax, n))
  -- it states another number, or more follows
  wrong_end : {n count m : ℕ} {l : Line} {ls : List Line} → length l.text ≤ longest_line → l.ended ≡ true → StatesCount m l.text → ((m ≢ count) ⊎ (ls ≢ [])) → Give version steps n count (l ∷ ls) (Err (Count, n))
  -- the end line
  the_end : {n count : ℕ} {l : Line} → length l.text ≤ longest_line → l.ended ≡ true → StatesCount count l.text → Give version steps n count (l ∷ []) (Ok [])
  -- a rule that is refused
  bad_rule : {n count : ℕ} {l : Line} {ls : List Line} {f : RuleFault} → length l.text ≤ longest_line → (Ends l.text → ⊥) → count < most_rules → IsRefusedRule version steps l f → Give version steps n count (l ∷ ls) (Err (f, n))
  -- a rule, and what follows
  a_rule : {n count : ℕ} {l : Line} {ls : List Line} {rule : RuleTree} {rules : List RuleTree} → length l.text ≤ longest_line → (Ends l.text → ⊥) → count < most_rules → IsProvedRule version steps l rule
      → Give version steps (suc n) (suc count) ls (Ok rules) → Give version steps n count (l ∷ ls) (Ok (rule ∷ rules))
  later_fault : {n count : ℕ} {l : Line} {ls : List Line} {rule : RuleTree} {f : RuleFault} {k : ℕ} → length l.text ≤ longest_line → (Ends l.text → ⊥) → count < most_rules → IsProvedRule version steps l rule
      → Give version steps (suc n) (suc count) ls (Err (f, k)) → Give version steps n count (l ∷ ls) (Err (f, k))

-- What a rule file gives: its rules, or the first fault with the number of its line, from 1.
abbrev pub first_text : List Line → List ℕ
first_text [] = []
first_text (l ∷ ls) = l.text

abbrev pub first_ended : List Line → Bool
first_ended [] = false
first_ended (l ∷ ls) = l.ended

abbrev pub behind_first : List Line → List Line
behind_first [] = []
behind_first (l ∷ ls) = ls

abbrev pub book_from : ℕ → Result (List RuleTree) (RuleFault × ℕ) → Result BookTree (RuleFault × ℕ)
book_from steps (Ok rules) = Ok (record { steps = steps; rules = rules })
book_from steps (Err fault) = Err fault

-- the lines of a file: its head is too long, or no head, or no LF ends it; or it is read with what follows
pub data AreRead (ls : List Line) : Result BookTree (RuleFault × ℕ) → Type 0 where
  long_head : longest_line < length (first_text ls) → AreRead ls (Err (TooLong, 1))
  no_head : length (first_text ls) ≤ longest_line → ((version : Version) (steps : ℕ) → IsHead version steps (first_text ls) → ⊥) → AreRead ls (Err (Head, 1))
  open_head : {version : Version} {steps : ℕ} → length (first_text ls) ≤ longest_line → IsHead version steps (first_text ls) → first_ended ls ≡ false → AreRead ls (Err (Syntax, 1))
  read : {version : Version} {steps : ℕ} {answer : Result (List RuleTree) (RuleFault × ℕ)} → length (first_text ls) ≤ longest_line → IsHead version steps (first_text ls) → first_ended ls ≡ true
      → Give version steps 2 0 (behind_first ls) answer → AreRead ls (book_from steps answer)

-- a rule file's answer
abbrev pub IsAnswer : List ℕ → Result BookTree (RuleFault × ℕ) → Type 0
IsAnswer bytes answer = AreRead (lines_of bytes) answer

abbrev pub book_tree : RuleBook → BookTree
book_tree book = record { steps = book.steps; rules = map rule_tree book.rules }

-- what reading a rule file answers
abbrev pub IsRead : List ℕ → Result RuleBook RuleError → Type 0
IsRead bytes (Ok book) = IsAnswer bytes (Ok (book_tree book))
IsRead bytes (Err (Fault f n)) = IsAnswer bytes (Err (f, n))
IsRead bytes (Err Memory) = Unit {0}
