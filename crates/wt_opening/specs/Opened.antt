-- Expressions where a variable is opened.
use Rattle.std.specs.Prelude.{◌≡◌, Option, Some, None}
use Rattle.wt_form.specs.declared.form.Expr.{Expr}
use Rattle.wt_form.specs.Trees.{Conds, no_conds, cond_then, Cond, Pred, Join, is_in, not_in}
use Rattle.wt_form.specs.Opening.{Opening, expr_opened}
use Rattle.wt_opening.specs.declared.opened.Opening.{Opening as CodeOpening}

-- an opening of the program, as the steps have it
abbrev pub opening_seen : CodeOpening → Opening
opening_seen o = record { at = o.at; n = o.count; head = o.head; pieces = o.pieces }

-- the expression can be opened
abbrev pub CanOpen : Opening → Expr → Type 0
CanOpen o x = (y : Expr) × (expr_opened o x ≡ Some y)

-- each expression of the condition can, and of conditions
abbrev pub CondCanOpen : Opening → Cond → Type 0
CondCanOpen o (Pred p x) = CanOpen o x
CondCanOpen o (Join x y) = CanOpen o x × CanOpen o y
CondCanOpen o (is_in x h ts) = CanOpen o x
CondCanOpen o (not_in x h ts) = CanOpen o x

abbrev pub CondsCanOpen : Opening → Conds → Type 0
CondsCanOpen o no_conds = Unit {0}
CondsCanOpen o (cond_then c cs) = CondCanOpen o c × CondsCanOpen o cs

abbrev pub or_same : Option Expr → Expr → Expr
or_same (Some y) x = y
or_same None x = x

-- the expression opened, or as it was where that cannot be
abbrev pub opened_or_same : Opening → Expr → Expr
opened_or_same o x = or_same (expr_opened o x) x
