-- Which words are which command, and the first fault of all others.
use Rattle.std.specs.Prelude.{◌≡◌, ◌≤◌, ℕ, List, [], ◌∷◌, codes, unwrap_or, Some, None, Result, Ok, Err, if◌then◌else◌}
use Rattle.std.specs.Str.{bytes_eq}
use Rattle.std.specs.declared.option.Option.{Option}
use Rattle.wt_pair.specs.declared.bounds.Bounds.{Bounds}
use Rattle.wt_pair.specs.Candidates.{IsWithinLimits}
use Rattle.wt_template.specs.declared.Ops.{Ops}
use Rattle.wt_words.specs.declared.fault.UsageFault.{UsageFault}
use Rattle.wt_words.specs.declared.fault.UsageFault.TheVariants.{NoCommand, UnknownCommand, WordCount, MissingKey}
use Rattle.wt_words.specs.declared.command.Command.{Command as Spoken}
use Rattle.wt_words.specs.declared.command.Command.TheVariants as spoken
use Rattle.wt_words.specs.declared.settings.Settings.{Settings}
use Rattle.wt_words.specs.Settings.{number, settings_from, no_settings}

-- a command with what its words give; names of files are bytes
pub data Command : Type 0 where
  discover : Bounds → ℕ → Command
  check : List ℕ → Command
  rewrite : List ℕ → List ℕ → List ℕ → Command
  demo : ℕ → ℕ → Command

-- a discovery has both sizes and the operators; where the others are not written, a set may leave out all atoms, a proof has at most 8
-- steps, and there are four workers
abbrev pub discovery : Settings → Option ℕ → Option ℕ → Option Ops → Result Command UsageFault
discovery s (Some src) (Some dst) (Some ops) =
    Ok (discover (record { src = src; dst = dst; ops = ops; depth = unwrap_or s.depth 64; steps = unwrap_or s.steps 8 }) (unwrap_or s.workers 4))
discovery s (Some src) (Some dst) None = Err MissingKey
discovery s (Some src) None ops = Err MissingKey
discovery s None dst ops = Err MissingKey

abbrev pub discovery_of : Result Settings UsageFault → Result Command UsageFault
discovery_of (Ok s) = discovery s s.src s.dst s.ops
discovery_of (Err fault) = Err fault

-- files have names
abbrev pub check_of : List (List ℕ) → Result Command UsageFault
check_of (rules ∷ []) = if bytes_eq rules [] then Err WordCount else Ok (check rules)
check_of words = Err WordCount

abbrev pub rewrite_of : List (List ℕ) → Result Command UsageFault
rewrite_of (rules ∷ schema ∷ queries ∷ []) =
    if bytes_eq rules [] then Err WordCount
    else if bytes_eq schema [] then Err WordCount
    else if bytes_eq queries [] then Err WordCount
    else Ok (rewrite rules schema queries)
rewrite_of words = Err WordCount

-- the number of the first query, and how many there are
abbrev pub counted : Result ℕ UsageFault → Result ℕ UsageFault → Result Command UsageFault
counted (Ok first) (Ok count) = Ok (demo first count)
counted (Ok first) (Err fault) = Err fault
counted (Err fault) count = Err fault

abbrev pub demo_of : List (List ℕ) → Result Command UsageFault
demo_of (first ∷ count ∷ []) = counted (number 0 999999 first) (number 1 100000 count)
demo_of words = Err WordCount

-- the command of a list of words
abbrev pub command_of : List (List ℕ) → Result Command UsageFault
command_of [] = Err NoCommand
command_of (command ∷ words) =
    if bytes_eq command (codes "discover") then discovery_of (settings_from no_settings words)
    else if bytes_eq command (codes "check") then check_of words
    else if bytes_eq command (codes "rewrite") then rewrite_of words
    else if bytes_eq command (codes "demo") then demo_of words
    else Err UnknownCommand

-- the command that the code holds, without where its names lie in memory
abbrev pub command_seen : Spoken → Command
command_seen (spoken.Discover bounds workers) = discover bounds workers
command_seen (spoken.Check rules) = check rules.now
command_seen (spoken.Rewrite rules schema queries) = rewrite rules.now schema.now queries.now
command_seen (spoken.Demo first count) = demo first count

-- what the code read is what the words give
abbrev pub Reads : Result Spoken UsageFault → Result Command UsageFault → Type 0
Reads (Ok command) read = read ≡ Ok (command_seen command)
Reads (Err fault) read = read ≡ Err fault

-- the bounds and numbers of a command are within the limits
abbrev pub IsLimited : Spoken → Type 0
IsLimited (spoken.Discover bounds workers) = IsWithinLimits bounds × (1 ≤ workers) × (workers ≤ 64)
IsLimited (spoken.Check rules) = Unit {0}
IsLimited (spoken.Rewrite rules schema queries) = Unit {0}
IsLimited (spoken.Demo first count) = (first ≤ 999999) × (1 ≤ count) × (count ≤ 100000)
