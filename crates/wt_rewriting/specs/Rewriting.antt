-- What `rewrite` answers.
use Rattle.std.specs.Prelude.{◌≡◌, ◌≢◌, ◌⊎◌, ℕ, List, [], ◌∷◌, ◌++◌, Bool, true, false, codes, take, Ok, Err, Some, None, Result}
use Rattle.std.specs.Fmt.{decimal}
use Rattle.std.specs.Io.KnownBytes.{append_known}
use Rattle.std.specs.declared.option.Option.{Option}
use Rattle.wt_ddl.specs.Schemas.{schema_of}
use Rattle.wt_ddl.specs.Refusals as ddl
use Rattle.wt_fault_names.specs.FaultNames.{lexical_name, schema_name}
use Rattle.wt_grammar.specs.Statements.{File, file_of}
use Rattle.wt_lex.specs.declared.token.LexFault.{LexFault}
use Rattle.wt_lines.specs.declared.line.Line.{Line}
use Rattle.wt_lines.specs.Lines.{AreLines, any_refused, lines_text}
use Rattle.wt_outcome.specs.declared.input.Input.{Input}
use Rattle.wt_outcome.specs.declared.input.Input.TheVariants.{Whole, TooLong}
use Rattle.wt_outcome.specs.declared.stop.Stop.{Stop}
use Rattle.wt_outcome.specs.Outcomes.{Outcome, Stops}
use Rattle.wt_rewriting.specs.Files.{Names}
use Rattle.wt_rule.specs.declared.Rule.{Rule}
use Rattle.wt_rule.specs.declared.RuleBook.{RuleBook}
use Rattle.wt_rule_read.specs.Answers.{IsAnswer}
use Rattle.wt_rule_read.specs.FaultNames.{rules_name}
use Rattle.wt_rule_line.specs.declared.fault.RuleFault.{RuleFault}
use Rattle.wt_schema.specs.declared.schema.Table.{Table}

-- Refused files.

abbrev pub refusing : List ℕ → Outcome
refusing text = record { status = Some 2; text = text }

-- `fault NAME line N KIND`
abbrev pub fault_in_line : List ℕ → ℕ → List ℕ → Outcome
fault_in_line name n kind = refusing (codes "fault " ++ (name ++ (codes " line " ++ (decimal n ++ (codes " " ++ (kind ++ 10 ∷ []))))))

-- `fault NAME offset N KIND`
abbrev pub fault_at : List ℕ → ℕ → List ℕ → Outcome
fault_at name at kind = refusing (codes "fault " ++ (name ++ (codes " offset " ++ (decimal at ++ (codes " " ++ (kind ++ 10 ∷ []))))))

-- a file of more than 16,777,216 bytes is refused as too long, behind them
abbrev pub too_long : List ℕ → Outcome
too_long name = fault_at name 16777216 (codes "TooLong")

-- one of rules, in its first line
abbrev pub too_many_rules : List ℕ → Outcome
too_many_rules name = fault_in_line name 1 (codes "TooLong")

-- A line for each statement; the status is 4 where one of them was refused.

abbrev pub status_of : Bool → ℕ
status_of true = 4
status_of false = 0

abbrev pub lines_outcome : List Line → Outcome
lines_outcome lines = record { status = Some (status_of (any_refused lines)); text = lines_text lines }

-- the lines of all statements
abbrev pub AreAll : List Table → List Rule → File → Outcome → Type 0
AreAll tables rules file o = (lines : List Line) × AreLines tables rules file.bytes file.statements lines × (o ≡ lines_outcome lines)

-- the lines of the first statements: what a run may have come to that ends before the last
abbrev pub AreFirst : List Table → List Rule → File → Outcome → Type 0
AreFirst tables rules file o = (n : ℕ) × (lines : List Line) × AreLines tables rules file.bytes (take n file.statements) lines
    × (o ≡ record { status = None; text = lines_text lines })

-- The three files, each refused at its turn.

abbrev pub IsFileOutcome : Names → List Table → List Rule → Result File (LexFault × ℕ) → Outcome → Type 0
IsFileOutcome names tables rules (Ok file) o = AreAll tables rules file o ⊎ AreFirst tables rules file o
IsFileOutcome names tables rules (Err (fault, at)) o = o ≡ fault_at names.queries at (lexical_name fault)

abbrev pub IsQueriesOutcome : Names → List Table → List Rule → Input → Outcome → Type 0
IsQueriesOutcome names tables rules (Whole bytes) o = IsFileOutcome names tables rules (file_of bytes) o
IsQueriesOutcome names tables rules TooLong o = o ≡ too_long names.queries

abbrev pub IsTablesOutcome : Names → List Rule → Input → ddl.Checked (List Table) → Outcome → Type 0
IsTablesOutcome names rules queries (Ok tables) o = IsQueriesOutcome names tables rules queries o
IsTablesOutcome names rules queries (Err (ddl.refused fault, at)) o = o ≡ fault_at names.schema at (schema_name fault)
IsTablesOutcome names rules queries (Err (ddl.odd fault, at)) o = o ≡ fault_at names.schema at (lexical_name fault)

abbrev pub IsSchemaOutcome : Names → List Rule → Input → Input → Outcome → Type 0
IsSchemaOutcome names rules (Whole bytes) queries o = IsTablesOutcome names rules queries (schema_of bytes) o
IsSchemaOutcome names rules TooLong queries o = o ≡ too_long names.schema

abbrev pub IsBookOutcome : Names → Input → Input → Result RuleBook (RuleFault × ℕ) → Outcome → Type 0
IsBookOutcome names schema queries (Ok book) o = IsSchemaOutcome names book.rules schema queries o
IsBookOutcome names schema queries (Err (fault, line)) o = o ≡ fault_in_line names.rules line (rules_name fault)

abbrev pub IsRulesOutcome : Names → Input → Input → Input → Outcome → Type 0
IsRulesOutcome names (Whole bytes) schema queries o = (read : Result RuleBook (RuleFault × ℕ)) × IsAnswer bytes read × IsBookOutcome names schema queries read o
IsRulesOutcome names TooLong schema queries o = o ≡ too_many_rules names.rules

-- what a run has come to that ends before it writes
abbrev pub nothing : Outcome
nothing = record { status = None; text = [] }

-- what the three files give; or what a run may have come to that ends early
abbrev pub IsRewriting : Names → Input → Input → Input → Outcome → Type 0
IsRewriting names rules schema queries o = IsRulesOutcome names rules schema queries o ⊎ (o ≡ nothing)

-- a whole answer of the three files: one with a status. What a run has come to that ends early begins it.
abbrev pub IsWhole : Names → Input → Input → Input → Outcome → Type 0
IsWhole names rules schema queries o = IsRulesOutcome names rules schema queries o × (o.status ≢ None)

-- The same while the command runs.

-- a part of the command ends with such an outcome's status and text, or it stops with a cause
abbrev pub Gives : (Outcome → Type 0) → Type 0 → Type 0 → Option (List ℕ) → Option (List ℕ) → Result ℕ Stop → Type 0
Gives P read_rose write_rose old new (Ok status) = (o : Outcome) × P o × (o.status ≡ Some status) × (new ≡ append_known old o.text)
Gives P read_rose write_rose old new (Err stop) = (o : Outcome) × (P o ⊎ (o ≡ nothing)) × Stops read_rose write_rose old new o.text stop

-- the lines of all statements were put, and whether one of them is a refusal; or a stop within the lines of the first of them
abbrev pub PutsLines : List Table → List Rule → File → Type 0 → Option (List ℕ) → Option (List ℕ) → Result Bool Stop → Type 0
PutsLines tables rules file write_rose old new (Ok some) =
    (lines : List Line) × AreLines tables rules file.bytes file.statements lines × (new ≡ append_known old (lines_text lines)) × (some ≡ any_refused lines)
PutsLines tables rules file write_rose old new (Err stop) =
    (n : ℕ) × (lines : List Line) × AreLines tables rules file.bytes (take n file.statements) lines × Stops ⊥ write_rose old new (lines_text lines) stop
