use Rattle.std.specs.Prelude.{Err}
use Rattle.std.proofs.Common.{subst}
use Rattle.wt_rule_read.specs.Answers.{Tells}
use Rattle.wt_rewriting.specs.Files.{names_of}
use Rattle.wt_rewriting.specs.Rewriting.{IsRulesOutcome}
use Rattle.wt_rewriting.proofs.Giving.{given, given_as, nothing_given, rules_read, rules_refused, rules_too_long}
use Rattle.wt_rewriting.proofs.rewriting.answer.Goals as goal

pub returns-in_default : goal.returns-in_default
returns-in_default g c =
    given (IsRulesOutcome (names_of c.args.names.now) c.args.files.now.rules c.args.files.now.schema c.args.files.now.queries) ⊥ _ _ _ _ _
    (rules_too_long (names_of c.args.names.now) c.args.files.now.rules c.args.files.now.schema c.args.files.now.queries c.in_default.is) c.put_line_fault.ensures

pub put_book-requires : goal.put_book-requires
put_book-requires g c = (c.type_bounds.sync-R, (c.in-Ok.ensures.lawful, c.in-Ok.ensures.few))

pub returns-in-Ok : goal.returns-in-Ok
returns-in-Ok g c =
    given_as _ ⊥ _ (IsRulesOutcome (names_of c.args.names.now) c.args.files.now.rules c.args.files.now.schema c.args.files.now.queries)
    (rules_read (names_of c.args.names.now) c.args.files.now.rules c.args.files.now.schema c.args.files.now.queries _ _ c.in-Whole.is c.as_slice.ensures c.in-Ok.book c.in-Ok.ensures.told) _ _ _ c.put_book.ensures

pub returns-in-Err-Fault : goal.returns-in-Err-Fault
returns-in-Err-Fault g c =
    given (IsRulesOutcome (names_of c.args.names.now) c.args.files.now.rules c.args.files.now.schema c.args.files.now.queries) ⊥ _ _ _ _ _
    (rules_refused (names_of c.args.names.now) c.args.files.now.rules c.args.files.now.schema c.args.files.now.queries _ _ c.in-Whole.is c.as_slice.ensures c.in-Err-Fault.fault c.in-Err-Fault.line (subst (λ e. Tells c.as_slice.result.now (Err e)) c.in-Err-Fault.field-0-is c.in-Err-Fault.ensures.told))
    (rw (← c.rules_name.ensures) c.put_line_fault-in-Err-Fault.ensures)

pub returns-in-Err-Memory : goal.returns-in-Err-Memory
returns-in-Err-Memory g c = nothing_given (IsRulesOutcome (names_of c.args.names.now) c.args.files.now.rules c.args.files.now.schema c.args.files.now.queries) ⊥ ⊥ (g.K.Sink.written c.args.sink.now)
