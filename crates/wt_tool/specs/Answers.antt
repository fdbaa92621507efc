-- What the top call answers.
use Rattle.std.specs.Prelude.{◌≡◌, ℕ, List, [], ◌∷◌, ◌++◌, codes, Some, Ok, MatchResult}
use Rattle.std.specs.declared.option.Option.{Option}
use Rattle.wt_outcome.specs.declared.input.Input.{Input}
use Rattle.wt_pair.specs.declared.bounds.Bounds.{Bounds}
use Rattle.wt_words.specs.declared.fault.UsageFault.{UsageFault}
use Rattle.wt_words.specs.declared.fault.UsageFault.TheVariants as faults
use Rattle.wt_words.specs.Commands.{Command, check, command_of, demo, discover, rewrite}
use Rattle.wt_discovery.specs.Discovering.{IsDiscovered, IsFileOf}
use Rattle.wt_outcome.specs.Inputs.{IsInput}
use Rattle.wt_outcome.specs.Outcomes.{Outcome, Ends}
use Rattle.wt_demo.specs.Demo.{IsDemo, IsWholeDemo}
use Rattle.wt_rewriting.specs.Checking.{IsCheckOutcome, IsChecking}
use Rattle.wt_rewriting.specs.Files.{WithInputs, named}
use Rattle.wt_rewriting.specs.Rewriting.{IsRewriting, IsWhole}

-- the kind of words that are refused
abbrev pub usage_word : UsageFault → List ℕ
usage_word faults.NoCommand = codes "NoCommand"
usage_word faults.UnknownCommand = codes "UnknownCommand"
usage_word faults.WordCount = codes "WordCount"
usage_word faults.UnknownKey = codes "UnknownKey"
usage_word faults.RepeatedKey = codes "RepeatedKey"
usage_word faults.BadNumber = codes "BadNumber"
usage_word faults.OutOfRange = codes "OutOfRange"
usage_word faults.BadOps = codes "BadOps"
usage_word faults.MissingKey = codes "MissingKey"

-- words that are no command: `usage KIND`
abbrev pub usage : UsageFault → Outcome
usage fault = record { status = Some 1; text = codes "usage " ++ (usage_word fault ++ 10 ∷ []) }

-- the outcome of a command, for some inputs that its files may have given; one line a command. That of a discovery does not depend on
-- the number of its workers.
abbrev pub CommandOutcome : (List ℕ → Option (List ℕ)) → (Outcome → Type 0) → Command → Type 0
CommandOutcome told P (rewrite r s q) = let names = named r s q in WithInputs told names (λ rules schema queries. (o : Outcome) × IsRewriting names rules schema queries o × P o)
CommandOutcome told P (check name) = (rules : Input) × IsInput (told name) rules × (o : Outcome) × IsChecking name rules o × P o
CommandOutcome told P (demo first count) = (o : Outcome) × IsDemo first count o × P o
CommandOutcome told P (discover bounds workers) = (o : Outcome) × IsDiscovered bounds o × P o

-- the outcome of a run: that of the words where they are refused, else that of their command
abbrev pub RunOutcome : (List ℕ → Option (List ℕ)) → List (List ℕ) → (Outcome → Type 0) → Type 0
RunOutcome told words P = MatchResult (command_of words) (CommandOutcome told P) (λ fault. P (usage fault))

-- What a run owes. The words and what the store tells of each name give its outcome; it ends as `Ends` says, by the two counts of
-- faults and what the sink tells before and after.
pub record Answers (told : List ℕ → Option (List ℕ)) (words : List (List ℕ)) (read_rose write_rose : Type 0) (old new : Option (List ℕ)) (status : ℕ) : Type 0 where
  pub outcome : RunOutcome told words (λ o. Ends read_rose write_rose old new o status)

-- the words are those of a discovery of these bounds, with some number of workers
abbrev pub IsDiscovery : List (List ℕ) → Bounds → Type 0
IsDiscovery words bounds = (workers : ℕ) × (command_of words ≡ Ok (discover bounds workers))

-- what holds of the text of each whole answer of a command, for some inputs that its files may have given
abbrev pub WholeTexts : (List ℕ → Option (List ℕ)) → (List ℕ → Type 0) → Command → Type 0
WholeTexts told P (rewrite r s q) =
    let names = named r s q in WithInputs told names (λ rules schema queries. (whole : Outcome) → IsWhole names rules schema queries whole → P whole.text)
WholeTexts told P (check name) = (rules : Input) × IsInput (told name) rules × ((whole : Outcome) → IsCheckOutcome name rules whole → P whole.text)
WholeTexts told P (demo first count) = (whole : Outcome) → IsWholeDemo first count whole → P whole.text
WholeTexts told P (discover bounds workers) = (file : List ℕ) → IsFileOf bounds file → P file

-- the same of a run
abbrev pub RunTexts : (List ℕ → Option (List ℕ)) → List (List ℕ) → (List ℕ → Type 0) → Type 0
RunTexts told words P = MatchResult (command_of words) (WholeTexts told P) (λ fault. P (usage fault).text)
