-- What `check` answers.
use Rattle.std.specs.Prelude.{◌≡◌, ◌⊎◌, ℕ, List, [], ◌∷◌, ◌++◌, codes, length, Ok, Err, Some, Result}
use Rattle.std.specs.Fmt.{decimal}
use Rattle.wt_outcome.specs.declared.input.Input.{Input}
use Rattle.wt_outcome.specs.declared.input.Input.TheVariants.{Whole, TooLong}
use Rattle.wt_outcome.specs.Outcomes.{Outcome}
use Rattle.wt_rewriting.specs.Rewriting.{fault_in_line, nothing, too_many_rules}
use Rattle.wt_rule.specs.declared.RuleBook.{RuleBook}
use Rattle.wt_rule_read.specs.Answers.{IsAnswer}
use Rattle.wt_rule_read.specs.FaultNames.{rules_name}
use Rattle.wt_rule_line.specs.declared.fault.RuleFault.{RuleFault}

-- `ok N`, of a file of so many rules
abbrev pub all_read : ℕ → Outcome
all_read count = record { status = Some 0; text = codes "ok " ++ (decimal count ++ 10 ∷ []) }

abbrev pub IsReadOutcome : List ℕ → Result RuleBook (RuleFault × ℕ) → Outcome → Type 0
IsReadOutcome name (Ok book) o = o ≡ all_read (length book.rules)
IsReadOutcome name (Err (fault, line)) o = o ≡ fault_in_line name line (rules_name fault)

abbrev pub IsCheckOutcome : List ℕ → Input → Outcome → Type 0
IsCheckOutcome name (Whole bytes) o = (read : Result RuleBook (RuleFault × ℕ)) × IsAnswer bytes read × IsReadOutcome name read o
IsCheckOutcome name TooLong o = o ≡ too_many_rules name

-- what the file of a name gives; or what a run may have come to that ends early
abbrev pub IsChecking : List ℕ → Input → Outcome → Type 0
IsChecking name rules o = IsCheckOutcome name rules o ⊎ (o ≡ nothing)
