use Rattle.std.proofs.Common.{subst}
use Rattle.wt_form_table.specs.Entries.{Goes, tables_of}
use Rattle.wt_form_table.specs.Spelled.{IsHead}
use Rattle.wt_form_table.proofs.Numbers.{told, goes_further, head_stays, terms_stay}
use Rattle.wt_form_table.proofs.table.FormTable.intern.Goals as goal

pub returns-clause-is : goal.returns-clause-is
returns-clause-is c = told c.number.result _ _ (Goes (tables_of c.terms.new.self) (tables_of c.number.new.self))
    (λ n h goes. (
      c.in_ok-head.head,
      c.in_ok-terms.terms,
      head_stays (tables_of c.head.new.self) (tables_of c.number.new.self) (goes_further (tables_of c.head.new.self) (tables_of c.terms.new.self) (tables_of c.number.new.self) c.in_ok-terms.ensures.more goes) c.in_ok-head.head c.args.form.now.head
          (subst (IsHead (tables_of c.head.new.self) c.in_ok-head.head) c.as_slice.ensures c.in_ok-head.ensures.is),
      terms_stay (tables_of c.terms.new.self) (tables_of c.number.new.self) goes c.in_ok-terms.terms _ c.in_ok-terms.ensures.is,
      h,
    )) c.number.ensures.first c.number.ensures.more
