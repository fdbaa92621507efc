use Rattle.wt_form_table.specs.declared.cell.Entry.TheVariants as entries
use Rattle.wt_form_table.specs.Entries.{First, Goes, tables_of}
use Rattle.wt_form_table.specs.Spelled.{Tested}
use Rattle.wt_form_table.proofs.Numbers.{told, told_on, goes_further, tested_is}
use Rattle.wt_form_table.proofs.table.FormTable.tested.Goals as goal

pub returns-clause-is : goal.returns-clause-is
returns-clause-is c = told c.number.result (λ n. First (tables_of c.number.new.self).entries n (entries.Then c.in_ok-first.first c.args.after)) (λ n. Tested (tables_of c.number.new.self) n c.args.test c.args.after)
    (Goes (tables_of c.test.new.self) (tables_of c.number.new.self))
    (λ n h goes. tested_is (tables_of c.test.new.self) (tables_of c.number.new.self) goes n c.in_ok-first.first c.args.test c.args.after c.in_ok-first.ensures.first h) c.number.ensures.first c.number.ensures.more

pub returns-clause-more : goal.returns-clause-more
returns-clause-more c = told_on c.number.result (Goes (tables_of c.test.new.self) (tables_of c.number.new.self)) (Goes (tables_of c.args.self.now) (tables_of c.number.new.self))
    (goes_further (tables_of c.args.self.now) (tables_of c.test.new.self) (tables_of c.number.new.self) c.in_ok-first.ensures.more) c.number.ensures.more
