use Rattle.std.proofs.Common.{subst}
use Rattle.std.specs.Prelude.{Err}
use Rattle.wt_ddl.specs.Schemas.{Reads, schema_of}
use Rattle.wt_rewriting.proofs.Giving.{given, given_as, nothing_given}
use Rattle.wt_demo.proofs.Counting.{tables_odd, tables_read, tables_refused}
use Rattle.wt_demo.specs.Demo.{IsTablesDemo}
use Rattle.wt_demo.specs.Texts.{schema_text}
use Rattle.wt_demo.proofs.demonstrating.put_tables.Goals as goal

pub returns-in-Ok : goal.returns-in-Ok
returns-in-Ok g c =
    given_as _ ⊥ _ (IsTablesDemo c.args.book.now.rules (schema_of schema_text) c.args.first c.args.count) (tables_read c.args.book.now.rules c.args.first c.args.count _ _ c.in-Ok.ensures.exact) _ _ _ c.put_total.ensures

pub returns-in-Err-Fault : goal.returns-in-Err-Fault
returns-in-Err-Fault g c =
    given (IsTablesDemo c.args.book.now.rules (schema_of schema_text) c.args.first c.args.count) ⊥ _ _ _ _ _
    (tables_refused c.args.book.now.rules c.args.first c.args.count _ c.in-Err-Fault.fault c.in-Err-Fault.at (subst (λ e. Reads (Err e) (schema_of schema_text)) c.in-Err-Fault.field-0-is c.in-Err-Fault.ensures.exact))
    (rw (← c.schema_name.ensures) c.put_fault.ensures)

pub returns-in-Err-Lex : goal.returns-in-Err-Lex
returns-in-Err-Lex g c =
    given (IsTablesDemo c.args.book.now.rules (schema_of schema_text) c.args.first c.args.count) ⊥ _ _ _ _ _
    (tables_odd c.args.book.now.rules c.args.first c.args.count _ c.in-Err-Lex.fault c.in-Err-Lex.at (subst (λ e. Reads (Err e) (schema_of schema_text)) c.in-Err-Lex.field-0-is c.in-Err-Lex.ensures.exact))
    (rw (← c.lexical_name.ensures) c.put_fault-in-Err-Lex.ensures)

pub returns-in-Err-Memory : goal.returns-in-Err-Memory
returns-in-Err-Memory g c = nothing_given (IsTablesDemo c.args.book.now.rules (schema_of schema_text) c.args.first c.args.count) ⊥ ⊥ (g.K.Sink.written c.args.sink.now)
