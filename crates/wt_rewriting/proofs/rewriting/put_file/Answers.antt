use Rattle.std.proofs.lemmas.Result.{err_from_is_err_and}
use Rattle.wt_rewriting.proofs.Giving.{first_given, lines_given}
use Rattle.wt_rewriting.proofs.rewriting.put_file.Goals as goal

pub returns-in_err-refused : goal.returns-in_err-refused
returns-in_err-refused g c =
    let p = err_from_is_err_and c.from_residual.result c.from_residual.ensures.1 in
    rw (p.1, p.2) (first_given c.args.schema.now.tables c.args.book.now.rules c.args.queries.now _ _ _ _ c.in_err-refused.ensures)

pub returns : goal.returns
returns g c = lines_given c.args.schema.now.tables c.args.book.now.rules c.args.queries.now ⊥ _ _ c.in_ok-refused.refused _ c.status_of.ensures c.in_ok-refused.ensures
