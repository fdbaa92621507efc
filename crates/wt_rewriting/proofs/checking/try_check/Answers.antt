use Rattle.std.proofs.Common.{refl, inr}
use Rattle.std.proofs.lemmas.Result.{err_from_is_err_and}
use Rattle.wt_outcome.proofs.Inputs.{any_input, stops_reading}
use Rattle.wt_rewriting.specs.Checking.{IsCheckOutcome}
use Rattle.wt_rewriting.specs.Rewriting.{nothing}
use Rattle.wt_rewriting.proofs.Giving.{given_later}
use Rattle.wt_rewriting.proofs.checking.try_check.Goals as goal

pub returns-in_err-rules : goal.returns-in_err-rules
returns-in_err-rules g c =
    let p = err_from_is_err_and c.from_residual.result c.from_residual.ensures.1 in
    let some = any_input (g.S.Store.told c.args.store.now c.args.name.now) in
    rw (p.1, p.2) (some.0, some.1, (nothing, inr refl, stops_reading _ _ _ _ _ c.in_err-rules.ensures.err))

pub returns : goal.returns
returns g c = (c.in_ok-rules.rules, c.in_ok-rules.ensures.ok, given_later (IsCheckOutcome c.args.name.now c.in_ok-rules.rules) _ _ _ _ _ c.put_check.ensures)
