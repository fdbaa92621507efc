-- What reading a rule file answers.
use Rattle.std.specs.Prelude.{ℕ, List, Result, Ok, Err}
use Rattle.wt_rule.specs.declared.RuleBook.{RuleBook}
use Rattle.wt_rule_line.specs.declared.fault.RuleFault.{RuleFault}
use Rattle.wt_rule_file.specs.declared.fault.RuleError.{RuleError}
use Rattle.wt_rule_file.specs.declared.fault.RuleError.TheVariants.{Fault, Memory}
use Rattle.wt_rule_file.specs.Files as files
use Rattle.wt_rule_file.specs.Files.{book_tree}

-- the rules of the file, or its first fault with the number of the line
abbrev pub IsAnswer : List ℕ → Result RuleBook (RuleFault × ℕ) → Type 0
IsAnswer bytes (Ok book) = files.IsAnswer bytes (Ok (book_tree book))
IsAnswer bytes (Err fault) = files.IsAnswer bytes (Err fault)

-- what is told of the file; want of memory tells nothing
abbrev pub Tells : List ℕ → Result RuleBook RuleError → Type 0
Tells bytes (Ok book) = IsAnswer bytes (Ok book)
Tells bytes (Err (Fault fault line)) = IsAnswer bytes (Err (fault, line))
Tells bytes (Err Memory) = Unit {0}
