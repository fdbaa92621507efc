use Rattle.std.proofs.Common.{sym, subst}
use Rattle.wt_symbol.specs.declared.head.PartCols.TheVariants.{Whole}
use Rattle.wt_form_table.specs.Entries.{Goes, tables_of}
use Rattle.wt_form_table.specs.Spelled.{IsHead}
use Rattle.wt_form_table.proofs.Numbers.{told, more_head, head_tail}
use Rattle.wt_form_table.proofs.table.FormTable.+head.Goals as goal

pub returns-in_ok-after-in-len1-up-clause-is : goal.returns-in_ok-after-in-len1-up-clause-is
returns-in_ok-after-in-len1-up-clause-is t c = told c.part.result _ _ (Goes (tables_of c.head.new.self) (tables_of c.part.new.self))
    (λ n h goes. subst (IsHead (tables_of c.part.new.self) n) (sym (head_tail c.args.parts.now (record { leaf = 0; cols = Whole }) c.in-len1-up.len_at_least))
    (more_head (tables_of c.head.new.self) (tables_of c.part.new.self) n _ _ _ goes c.in_ok-after-in-len1-up.ensures.is h)) c.part.ensures.is c.part.ensures.more
