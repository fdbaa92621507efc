-- What the calls of the reader returned, beside what the definitions give.
use Rattle.std.specs.Prelude.{◌≡◌, ℕ, Result, Ok, Err}
use Rattle.std.specs.Global.{Box}
use Rattle.wt_lex.specs.declared.token.LexFault.{LexFault}
use Rattle.wt_lex.specs.declared.token.LexError.{LexError}
use Rattle.wt_lex.specs.declared.token.LexError.TheVariants as lex_errors
use Rattle.wt_ast.specs.declared.tree.Query.{Query}
use Rattle.wt_ast.specs.Tree.{query_tree}
use Rattle.wt_grammar.specs.Reading.{refused, odd}
use Rattle.wt_grammar.specs.Statements.{File, Answer}
use Rattle.wt_front.specs.declared.error.QueryError.{QueryError}
use Rattle.wt_front.specs.declared.error.QueryError.TheVariants as errors

-- What reading a file returned is the file that the definition gives, or its fault, unless memory ran out.
abbrev pub Reads : {X : Type 0} → (X → File) → Result X LexError → Result File (LexFault × ℕ) → Type 0
Reads view (Ok x) file = file ≡ Ok (view x)
Reads view (Err lex_errors.Memory) file = Unit {0}
Reads view (Err (lex_errors.Fault f at)) file = file ≡ Err (f, at)

-- What reading a statement returned is the answer that the definition gives, unless memory ran out.
abbrev pub Answers : Result (Box Query) QueryError → Answer → Type 0
Answers (Ok q) answer = answer ≡ Ok (query_tree q.value)
Answers (Err errors.Memory) answer = Unit {0}
Answers (Err (errors.Refused f at)) answer = answer ≡ Err (refused f, at)
Answers (Err (errors.Lex f at)) answer = answer ≡ Err (odd f, at)
