-- What the reader gives for a statement of a file is a lawful tree.
use Rattle.std.proofs.Common.{◌≡◌, ℕ, List, ap, ◌∙◌, Some, Ok, Err, Result}
use Rattle.std.specs.Prelude.{map, slice_get, IfOk}
use Rattle.std.specs.Global.{Box}
use Rattle.std.specs.Option.{option_map}
use Rattle.std.proofs.lemmas.Option.{slice_get-map}
use Rattle.wt_lex.specs.declared.token.Token.{Token}
use Rattle.wt_ast.specs.declared.tree.Query.{Query}
use Rattle.wt_ast.specs.Tree.{query_tree}
use Rattle.wt_ast.specs.Lawful.{IsLawful}
use Rattle.wt_grammar.specs.Statements.{file_of, answer}
use Rattle.wt_sentence.proofs.LawfulFiles.{statement_is_lawful}
use Rattle.wt_front.specs.declared.error.QueryError.{QueryError}
use Rattle.wt_parse.specs.declared.statements.Piece.{Piece}
use Rattle.wt_parse.specs.Held.{shown}
use Rattle.wt_parse.specs.Outcomes.{Answers}

pub lawful_got : (bytes : List ℕ) (tokens : List Token) (pieces : List Piece) (n : ℕ) (p : Piece) (r : Result (Box Query) QueryError)
    → file_of bytes ≡ Ok (record { bytes = bytes; statements = map (shown tokens) pieces }) → slice_get pieces n ≡ Some p → Answers r (answer bytes (shown tokens p)) → IfOk r (λ q. IsLawful (query_tree q.value))
lawful_got bytes tokens pieces n p (Ok q) is here h =
    statement_is_lawful bytes (record { bytes = bytes; statements = map (shown tokens) pieces }) n (shown tokens p) (query_tree q.value) is
    (slice_get-map (shown tokens) pieces n ∙ ap (option_map (shown tokens)) here) h
lawful_got bytes tokens pieces n p (Err e) is here h = tt
