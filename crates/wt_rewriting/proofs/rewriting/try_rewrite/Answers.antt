use Rattle.std.proofs.Common.{refl, inr}
use Rattle.std.proofs.lemmas.Result.{err_from_is_err_and}
use Rattle.wt_outcome.proofs.Inputs.{stops_reading}
use Rattle.wt_rewriting.specs.Files.{names_of}
use Rattle.wt_rewriting.specs.Rewriting.{IsRulesOutcome, nothing}
use Rattle.wt_rewriting.proofs.Files.{any_inputs}
use Rattle.wt_rewriting.proofs.Giving.{given_later}
use Rattle.wt_rewriting.proofs.rewriting.try_rewrite.Goals as goal

pub returns-in_err-files : goal.returns-in_err-files
returns-in_err-files g c =
    let p = err_from_is_err_and c.from_residual.result c.from_residual.ensures.1 in
    let some = any_inputs (g.S.Store.told c.args.store.now) (names_of c.args.names.now) in
    rw (p.1, p.2) (some.0, some.1, some.2, some.3, (nothing, inr refl, stops_reading _ _ _ _ _ c.in_err-files.ensures.err))

pub returns : goal.returns
returns g c =
    (_, _, _, c.in_ok-files.ensures.ok, given_later (IsRulesOutcome (names_of c.args.names.now) c.in_ok-files.files.rules c.in_ok-files.files.schema c.in_ok-files.files.queries) _ _ _ _ _ c.answer.ensures)
