use Rattle.std.proofs.lemmas.Result.{err_from_is_err_and}
use Rattle.wt_rewriting.specs.Files.{names_of}
use Rattle.wt_rewriting.specs.Rewriting.{IsSchemaOutcome}
use Rattle.wt_rewriting.proofs.Giving.{nothing_given}
use Rattle.wt_rewriting.proofs.rewriting.put_book.Goals as goal

pub returns-in_err-book : goal.returns-in_err-book
returns-in_err-book g c =
    let p = err_from_is_err_and c.from_residual.result c.from_residual.ensures.1 in
    rw (p.1, p.2) (nothing_given (IsSchemaOutcome (names_of c.args.names.now) c.args.book.rules c.args.files.now.schema c.args.files.now.queries) ⊥ ⊥ (g.K.Sink.written c.args.sink.now))
