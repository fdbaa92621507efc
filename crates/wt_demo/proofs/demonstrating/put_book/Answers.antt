use Rattle.std.proofs.lemmas.Result.{err_from_is_err_and}
use Rattle.wt_ddl.specs.Schemas.{schema_of}
use Rattle.wt_rewriting.proofs.Giving.{nothing_given}
use Rattle.wt_demo.specs.Demo.{IsTablesDemo}
use Rattle.wt_demo.specs.Texts.{schema_text}
use Rattle.wt_demo.proofs.demonstrating.put_book.Goals as goal

pub returns-in_err-book : goal.returns-in_err-book
returns-in_err-book g c =
    let p = err_from_is_err_and c.from_residual.result c.from_residual.ensures.1 in
    rw (p.1, p.2) (nothing_given (IsTablesDemo c.args.book.rules (schema_of schema_text) c.args.first c.args.count) ⊥ ⊥ (g.K.Sink.written c.args.sink.now))
