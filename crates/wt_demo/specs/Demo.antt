-- What `demo` answers.
use Rattle.std.specs.Prelude.{◌≡◌, ◌⊎◌, ℕ, zero, suc, ◌+◌, ◌%◌, List, [], ◌∷◌, ◌++◌, codes, length, slice_get, Result, Ok, Err, Some, None}
use Rattle.std.specs.Fmt.{decimal}
use Rattle.std.specs.declared.option.Option.{Option}
use Rattle.wt_ast.specs.Tree.{QueryTree}
use Rattle.wt_chains.specs.declared.applied.Applied.{Applied}
use Rattle.wt_chains.specs.Chains.{IsChain}
use Rattle.wt_ddl.specs.Schemas.{schema_of}
use Rattle.wt_ddl.specs.Refusals as ddl
use Rattle.wt_demo.specs.declared.tally.Tally.{Tally}
use Rattle.wt_demo.specs.Tallies.{both, nothing_counted, one_printed, one_refused}
use Rattle.wt_demo.specs.Texts.{rules_text, schema_text, statement_text}
use Rattle.wt_fault_names.specs.FaultNames.{lexical_name, schema_name}
use Rattle.wt_grammar.specs.Statements.{Answer, File, Statement, answer, file_of}
use Rattle.wt_lex.specs.declared.token.LexFault.{LexFault}
use Rattle.wt_lines.specs.Queries.{plan_of}
use Rattle.wt_outcome.specs.Outcomes.{Outcome}
use Rattle.wt_plan.specs.Measures.{cost}
use Rattle.wt_plan.specs.Tree.{PlanTree}
use Rattle.wt_query_plan.specs.Faults.{Fault, query_fault}
use Rattle.wt_rewriting.specs.Rewriting.{fault_at, fault_in_line, nothing}
use Rattle.wt_rule.specs.declared.Rule.{Rule}
use Rattle.wt_rule.specs.declared.RuleBook.{RuleBook}
use Rattle.wt_rule_read.specs.Answers.{IsAnswer}
use Rattle.wt_rule_read.specs.FaultNames.{rules_name}
use Rattle.wt_rule_line.specs.declared.fault.RuleFault.{RuleFault}
use Rattle.wt_schema.specs.declared.schema.Table.{Table}

-- What is counted of a statement.

-- of one that was read, with its first fault: the matches of its plan's chain, and the costs of the first and the last plan
abbrev pub IsToldTally : List Table → List Rule → QueryTree → Fault → Tally → Type 0
IsToldTally tables rules tree None t = (trace : List Applied) × (last : PlanTree) × IsChain tables rules (plan_of tables tree) trace last
    × (t ≡ one_printed (length trace) (cost (plan_of tables tree)) (cost last))
IsToldTally tables rules tree (Some fault) t = t ≡ one_refused

abbrev pub IsTreeTally : List Table → List Rule → QueryTree → Tally → Type 0
IsTreeTally tables rules tree t = IsToldTally tables rules tree (query_fault tables [] tree) t

abbrev pub IsAnswerTally : List Table → List Rule → Answer → Tally → Type 0
IsAnswerTally tables rules (Ok tree) t = IsTreeTally tables rules tree t
IsAnswerTally tables rules (Err refusal) t = t ≡ one_refused

abbrev pub IsFirstTally : List Table → List Rule → List ℕ → Option Statement → Tally → Type 0
IsFirstTally tables rules bytes (Some s) t = IsAnswerTally tables rules (answer bytes s) t
IsFirstTally tables rules bytes None t = t ≡ nothing_counted

-- of the first statement of a text
abbrev pub IsFileTally : List Table → List Rule → Result File (LexFault × ℕ) → Tally → Type 0
IsFileTally tables rules (Ok file) t = IsFirstTally tables rules file.bytes (slice_get file.statements zero) t
IsFileTally tables rules (Err fault) t = t ≡ one_refused

abbrev pub IsTextTally : List Table → List Rule → List ℕ → Tally → Type 0
IsTextTally tables rules bytes t = IsFileTally tables rules (file_of bytes) t

-- of the first statements; the one of number n, from 0, has the kind (first + n) modulo 7
abbrev pub IsTotal : List Table → List Rule → ℕ → ℕ → Tally → Type 0
IsTotal tables rules first zero t = t ≡ nothing_counted
IsTotal tables rules first (suc n) t = (before : Tally) × (own : Tally) × IsTotal tables rules first n before
    × IsTextTally tables rules (statement_text ((first + n) % 7) n) own × (t ≡ both before own)

-- The line: `queries N printed N refused N matches N cost N -> N`.

abbrev pub counts_text : ℕ → Tally → List ℕ
counts_text count t = codes "queries " ++ (decimal count ++ (codes " printed " ++ (decimal t.printed ++ (codes " refused " ++ decimal t.refused))))

abbrev pub costs_text : Tally → List ℕ
costs_text t = codes " matches " ++ (decimal t.matches ++ (codes " cost " ++ (decimal t.before ++ (codes " -> " ++ (decimal t.after ++ 10 ∷ [])))))

abbrev pub counted : ℕ → Tally → Outcome
counted count t = record { status = Some 0; text = counts_text count t ++ costs_text t }

abbrev pub IsTotalled : List Table → List Rule → ℕ → ℕ → Outcome → Type 0
IsTotalled tables rules first count o = (t : Tally) × IsTotal tables rules first count t × (o ≡ counted count t)

-- with the rules and over the tables that the texts of the demonstration are; they are called A and X
abbrev pub IsTablesDemo : List Rule → ddl.Checked (List Table) → ℕ → ℕ → Outcome → Type 0
IsTablesDemo rules (Ok tables) first count o = IsTotalled tables rules first count o
IsTablesDemo rules (Err (ddl.refused fault, at)) first count o = o ≡ fault_at (codes "X") at (schema_name fault)
IsTablesDemo rules (Err (ddl.odd fault, at)) first count o = o ≡ fault_at (codes "X") at (lexical_name fault)

abbrev pub IsBookDemo : Result RuleBook (RuleFault × ℕ) → ℕ → ℕ → Outcome → Type 0
IsBookDemo (Ok book) first count o = IsTablesDemo book.rules (schema_of schema_text) first count o
IsBookDemo (Err (fault, line)) first count o = o ≡ fault_in_line (codes "A") line (rules_name fault)

abbrev pub IsWholeDemo : ℕ → ℕ → Outcome → Type 0
IsWholeDemo first count o = (read : Result RuleBook (RuleFault × ℕ)) × IsAnswer rules_text read × IsBookDemo read first count o

-- that, or what a run may have come to that ends early
abbrev pub IsDemo : ℕ → ℕ → Outcome → Type 0
IsDemo first count o = IsWholeDemo first count o ⊎ (o ≡ nothing)
