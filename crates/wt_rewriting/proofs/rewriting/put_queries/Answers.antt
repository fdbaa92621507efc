use Rattle.wt_grammar.specs.Statements.{file_of}
use Rattle.std.specs.Prelude.{Err}
use Rattle.std.proofs.Common.{subst}
use Rattle.wt_parse.specs.Outcomes.{Reads}
use Rattle.wt_rewriting.specs.Files.{names_of}
use Rattle.wt_rewriting.specs.Rewriting.{IsQueriesOutcome}
use Rattle.wt_rewriting.proofs.Giving.{given, given_as, nothing_given, queries_read, queries_refused, queries_too_long}
use Rattle.wt_rewriting.proofs.rewriting.put_queries.Goals as goal

pub returns-in_default : goal.returns-in_default
returns-in_default g c =
    given (IsQueriesOutcome (names_of c.args.names.now) c.args.schema.now.tables c.args.book.now.rules c.args.queries.now) ⊥ _ _ _ _ _
    (queries_too_long (names_of c.args.names.now) c.args.schema.now.tables c.args.book.now.rules c.args.queries.now c.in_default.is) c.put_too_long.ensures

pub returns-in-Ok : goal.returns-in-Ok
returns-in-Ok g c =
    given_as _ ⊥ _ (IsQueriesOutcome (names_of c.args.names.now) c.args.schema.now.tables c.args.book.now.rules c.args.queries.now)
    (queries_read (names_of c.args.names.now) c.args.schema.now.tables c.args.book.now.rules c.args.queries.now _ _ c.in-Whole.is c.as_slice.ensures c.in-Ok.queries c.in-Ok.ensures.exact) _ _ _ c.put_file.ensures

pub returns-in-Err-Fault : goal.returns-in-Err-Fault
returns-in-Err-Fault g c =
    given (IsQueriesOutcome (names_of c.args.names.now) c.args.schema.now.tables c.args.book.now.rules c.args.queries.now) ⊥ _ _ _ _ _
    (queries_refused (names_of c.args.names.now) c.args.schema.now.tables c.args.book.now.rules c.args.queries.now _ _ c.in-Whole.is c.as_slice.ensures c.in-Err-Fault.fault c.in-Err-Fault.at (subst (λ e. Reads (λ q. q) (Err e) (file_of c.as_slice.result.now)) c.in-Err-Fault.field-0-is c.in-Err-Fault.ensures.exact))
    (rw (← c.lexical_name.ensures) c.put_fault.ensures)

pub returns-in-Err-Memory : goal.returns-in-Err-Memory
returns-in-Err-Memory g c = nothing_given (IsQueriesOutcome (names_of c.args.names.now) c.args.schema.now.tables c.args.book.now.rules c.args.queries.now) ⊥ ⊥ (g.K.Sink.written c.args.sink.now)
