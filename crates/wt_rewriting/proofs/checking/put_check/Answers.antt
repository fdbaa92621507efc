use Rattle.std.specs.Prelude.{Err}
use Rattle.std.proofs.Common.{subst}
use Rattle.wt_rule_read.specs.Answers.{Tells}
use Rattle.wt_rewriting.specs.Checking.{IsCheckOutcome}
use Rattle.wt_rewriting.proofs.Giving.{check_read, check_refused, check_too_long, given, nothing_given}
use Rattle.wt_rewriting.proofs.checking.put_check.Goals as goal

pub returns-in_default : goal.returns-in_default
returns-in_default g c =
    given (IsCheckOutcome c.args.name.now c.args.rules.now) ⊥ _ _ _ _ _ (check_too_long c.args.name.now c.args.rules.now c.in_default.is) c.put_line_fault.ensures

pub returns-in-Ok : goal.returns-in-Ok
returns-in-Ok g c =
    given (IsCheckOutcome c.args.name.now c.args.rules.now) ⊥ _ _ _ _ _ (check_read c.args.name.now c.args.rules.now _ _ c.in-Whole.is c.as_slice.ensures c.in-Ok.book c.in-Ok.ensures.told)
    (rw (← c.len.ensures) c.put_read.ensures)

pub returns-in-Err-Fault : goal.returns-in-Err-Fault
returns-in-Err-Fault g c =
    given (IsCheckOutcome c.args.name.now c.args.rules.now) ⊥ _ _ _ _ _
    (check_refused c.args.name.now c.args.rules.now _ _ c.in-Whole.is c.as_slice.ensures c.in-Err-Fault.fault c.in-Err-Fault.line (subst (λ e. Tells c.as_slice.result.now (Err e)) c.in-Err-Fault.field-0-is c.in-Err-Fault.ensures.told))
    (rw (← c.rules_name.ensures) c.put_line_fault-in-Err-Fault.ensures)

pub returns-in-Err-Memory : goal.returns-in-Err-Memory
returns-in-Err-Memory g c = nothing_given (IsCheckOutcome c.args.name.now c.args.rules.now) ⊥ ⊥ (g.K.Sink.written c.args.sink.now)
