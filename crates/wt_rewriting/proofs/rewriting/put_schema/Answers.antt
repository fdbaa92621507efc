use Rattle.std.specs.Prelude.{Err}
use Rattle.std.proofs.Common.{subst}
use Rattle.wt_ddl.specs.Schemas.{Reads, schema_of}
use Rattle.wt_rewriting.specs.Files.{names_of}
use Rattle.wt_rewriting.specs.Rewriting.{IsSchemaOutcome}
use Rattle.wt_rewriting.proofs.Giving.{given, given_as, nothing_given, schema_odd, schema_read, schema_refused, schema_too_long}
use Rattle.wt_rewriting.proofs.rewriting.put_schema.Goals as goal

pub returns-in_default : goal.returns-in_default
returns-in_default g c =
    given (IsSchemaOutcome (names_of c.args.names.now) c.args.book.now.rules c.args.schema.now c.args.queries.now) ⊥ _ _ _ _ _
    (schema_too_long (names_of c.args.names.now) c.args.book.now.rules c.args.schema.now c.args.queries.now c.in_default.is) c.put_too_long.ensures

pub returns-in-Ok : goal.returns-in-Ok
returns-in-Ok g c =
    given_as _ ⊥ _ (IsSchemaOutcome (names_of c.args.names.now) c.args.book.now.rules c.args.schema.now c.args.queries.now)
    (schema_read (names_of c.args.names.now) c.args.book.now.rules c.args.schema.now c.args.queries.now _ _ c.in-Whole.is c.as_slice.ensures _ c.in-Ok.ensures.exact) _ _ _ c.put_queries.ensures

pub returns-in-Err-Fault : goal.returns-in-Err-Fault
returns-in-Err-Fault g c =
    given (IsSchemaOutcome (names_of c.args.names.now) c.args.book.now.rules c.args.schema.now c.args.queries.now) ⊥ _ _ _ _ _
    (schema_refused (names_of c.args.names.now) c.args.book.now.rules c.args.schema.now c.args.queries.now _ _ c.in-Whole.is c.as_slice.ensures c.in-Err-Fault.fault c.in-Err-Fault.at (subst (λ e. Reads (Err e) (schema_of c.as_slice.result.now)) c.in-Err-Fault.field-0-is c.in-Err-Fault.ensures.exact))
    (rw (← c.schema_name.ensures) c.put_fault.ensures)

pub returns-in-Err-Lex : goal.returns-in-Err-Lex
returns-in-Err-Lex g c =
    given (IsSchemaOutcome (names_of c.args.names.now) c.args.book.now.rules c.args.schema.now c.args.queries.now) ⊥ _ _ _ _ _
    (schema_odd (names_of c.args.names.now) c.args.book.now.rules c.args.schema.now c.args.queries.now _ _ c.in-Whole.is c.as_slice.ensures c.in-Err-Lex.fault c.in-Err-Lex.at (subst (λ e. Reads (Err e) (schema_of c.as_slice.result.now)) c.in-Err-Lex.field-0-is c.in-Err-Lex.ensures.exact))
    (rw (← c.lexical_name.ensures) c.put_fault-in-Err-Lex.ensures)

pub returns-in-Err-Memory : goal.returns-in-Err-Memory
returns-in-Err-Memory g c = nothing_given (IsSchemaOutcome (names_of c.args.names.now) c.args.book.now.rules c.args.schema.now c.args.queries.now) ⊥ ⊥ (g.K.Sink.written c.args.sink.now)
