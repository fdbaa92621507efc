-- The lines of statements: the rewritten query, or the refusal at its offset.
use Rattle.std.specs.Prelude.{◌≡◌, ℕ, List, [], ◌∷◌, ◌++◌, Bool, true, false, codes, Ok, Err, Some, None}
use Rattle.std.specs.Fmt.{decimal}
use Rattle.std.specs.List.{flat_map, list_any}
use Rattle.wt_ast.specs.Tree.{QueryTree}
use Rattle.wt_fault_names.specs.FaultNames.{build_name, lexical_name, query_name}
use Rattle.wt_grammar.specs.Reading.{Refusal, refused, odd}
use Rattle.wt_grammar.specs.Statements.{Statement, Answer, answer}
use Rattle.wt_lines.specs.declared.line.Line.{Line}
use Rattle.wt_lines.specs.Queries.{IsRewritten}
use Rattle.wt_query_plan.specs.Faults.{Fault, query_fault}
use Rattle.wt_rule.specs.declared.Rule.{Rule}
use Rattle.wt_schema.specs.declared.schema.Table.{Table}
use Rattle.wt_spelling.specs.Spelling.{statement_text}

-- `-- refused KIND at OFFSET`
abbrev pub refusal_line : List ℕ → ℕ → Line
refusal_line kind at = record { text = codes "-- refused " ++ (kind ++ (codes " at " ++ (decimal at ++ 10 ∷ []))); refused = true }

-- the query that is printed, with its line end
abbrev pub printed_line : QueryTree → Line
printed_line query = record { text = statement_text query ++ 10 ∷ []; refused = false }

-- a statement that was read: a query that the rules make of it, or its first fault
abbrev pub IsLineTold : List Table → List Rule → QueryTree → Fault → Line → Type 0
IsLineTold tables rules tree None line = (new : QueryTree) × IsRewritten tables rules tree new × (line ≡ printed_line new)
IsLineTold tables rules tree (Some (fault, place)) line = line ≡ refusal_line (build_name fault) place

abbrev pub IsTreeLine : List Table → List Rule → QueryTree → Line → Type 0
IsTreeLine tables rules tree line = IsLineTold tables rules tree (query_fault tables [] tree) line

abbrev pub refusal_name : Refusal → List ℕ
refusal_name (refused fault) = query_name fault
refusal_name (odd fault) = lexical_name fault

abbrev pub IsAnswerLine : List Table → List Rule → Answer → Line → Type 0
IsAnswerLine tables rules (Ok tree) line = IsTreeLine tables rules tree line
IsAnswerLine tables rules (Err (refusal, place)) line = line ≡ refusal_line (refusal_name refusal) place

abbrev pub IsStatementLine : List Table → List Rule → List ℕ → Statement → Line → Type 0
IsStatementLine tables rules bytes s line = IsAnswerLine tables rules (answer bytes s) line

-- a line for each statement, in order
abbrev pub AreLines : List Table → List Rule → List ℕ → List Statement → List Line → Type 0
AreLines tables rules bytes [] [] = Unit {0}
AreLines tables rules bytes (s ∷ ss) (line ∷ lines) = IsStatementLine tables rules bytes s line × AreLines tables rules bytes ss lines
AreLines tables rules bytes _ _ = ⊥

abbrev pub lines_text : List Line → List ℕ
lines_text lines = flat_map (λ line. line.text) lines

abbrev pub any_refused : List Line → Bool
any_refused lines = list_any (λ line. line.refused) lines
