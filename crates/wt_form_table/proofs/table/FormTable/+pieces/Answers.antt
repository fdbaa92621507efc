use Rattle.std.proofs.Common.{sym, subst}
use Rattle.wt_symbol.specs.declared.head.PartCols.TheVariants.{Whole}
use Rattle.wt_form.specs.declared.form.Expr.TheVariants.{Of}
use Rattle.wt_form_table.specs.Entries.{Goes, tables_of}
use Rattle.wt_form_table.specs.Spelled.{IsPieces}
use Rattle.wt_form_table.proofs.Numbers.{told, more_pieces, head_tail}
use Rattle.wt_form_table.proofs.table.FormTable.+pieces.Goals as goal

pub returns-in_ok-value-in-len1-up-clause-is : goal.returns-in_ok-value-in-len1-up-clause-is
returns-in_ok-value-in-len1-up-clause-is t c = told c.list.result _ _ (Goes (tables_of c.value.new.self) (tables_of c.list.new.self))
    (λ n h goes. subst (IsPieces (tables_of c.list.new.self) n) (sym (head_tail c.args.pieces.now (Of 0 0 Whole) c.in-len1-up.len_at_least))
    (more_pieces (tables_of c.pieces.new.self) (tables_of c.value.new.self) (tables_of c.list.new.self) n _ _ _ _ c.in_ok-value-in-len1-up.ensures.more goes c.in_ok-after-in-len1-up.ensures.is c.in_ok-value-in-len1-up.ensures.first h)) c.list.ensures.is c.list.ensures.more
