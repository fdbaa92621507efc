use Rattle.std.proofs.Common.{refl, subst}
use Rattle.std.specs.Prelude.{Err, Ok}
use Rattle.wt_rule_read.specs.Answers.{Tells}
use Rattle.wt_rewriting.proofs.Giving.{given, given_as, nothing_given}
use Rattle.wt_demo.specs.Demo.{IsWholeDemo}
use Rattle.wt_demo.specs.Texts.{rules_text}
use Rattle.wt_demo.proofs.demonstrating.put_demo.Goals as goal

pub put_book-requires : goal.put_book-requires
put_book-requires g c = record { lawful = c.in-Ok.ensures.lawful; few = c.in-Ok.ensures.few; first = c.requires.first; count = c.requires.count }

pub returns-in-Ok : goal.returns-in-Ok
returns-in-Ok g c = given_as _ ⊥ _ (IsWholeDemo c.args.first c.args.count) (λ o h. (Ok c.in-Ok.book, c.in-Ok.ensures.told, h)) _ _ _ c.put_book.ensures

pub returns-in-Err-Fault : goal.returns-in-Err-Fault
returns-in-Err-Fault g c =
    given (IsWholeDemo c.args.first c.args.count) ⊥ _ _ _ _ _
    (Err (c.in-Err-Fault.fault, c.in-Err-Fault.line), subst (λ e. Tells rules_text (Err e)) c.in-Err-Fault.field-0-is c.in-Err-Fault.ensures.told, refl)
    (rw (← c.rules_name.ensures) c.put_line_fault.ensures)

pub returns-in-Err-Memory : goal.returns-in-Err-Memory
returns-in-Err-Memory g c = nothing_given (IsWholeDemo c.args.first c.args.count) ⊥ ⊥ (g.K.Sink.written c.args.sink.now)
