use Rattle.std.proofs.Common.{refl}
use Rattle.std.proofs.lemmas.Result.{err_from_is_err_and}
use Rattle.wt_rewriting.proofs.Giving.{given, nothing_given}
use Rattle.wt_demo.specs.Demo.{IsTotalled}
use Rattle.wt_demo.proofs.demonstrating.put_total.Goals as goal

pub returns-in_err-all : goal.returns-in_err-all
returns-in_err-all g c =
    let p = err_from_is_err_and c.from_residual.result c.from_residual.ensures.1 in
    rw (p.1, p.2) (nothing_given (IsTotalled c.args.schema.now.tables c.args.book.now.rules c.args.first c.args.count) ⊥ ⊥ (g.K.Sink.written c.args.sink.now))

pub returns : goal.returns
returns g c = given (IsTotalled c.args.schema.now.tables c.args.book.now.rules c.args.first c.args.count) ⊥ _ _ _ _ _ (c.in_ok-all.all, c.in_ok-all.ensures, refl) c.put_counted.ensures
