-- The tables of refusals: which kind a token is refused as, by where it stands. What has no row is Syntax.
use Rattle.std.specs.Prelude.{Bool, true, false, Option, Some, None}
use Rattle.wt_lex.specs.declared.token.Sym.TheVariants as sym
use Rattle.wt_reading.specs.declared.lexeme.Kind.{Kind}
use Rattle.wt_reading.specs.declared.lexeme.Kind.TheVariants.{Key, Number, Text, Mark}
use Rattle.wt_lex.specs.declared.words.Word.TheVariants as word
use Rattle.wt_grammar.specs.declared.fault.QueryFault.{QueryFault}
use Rattle.wt_grammar.specs.declared.fault.QueryFault.TheVariants as fault

-- where a statement begins
abbrev pub no_statement : Kind → QueryFault
no_statement (Key word.With) = fault.With
no_statement _ = fault.NotSelect

-- where an operand may begin; the second kind is that of the token behind
abbrev pub no_operand : Kind → Kind → QueryFault
no_operand (Key word.Exists) _ = fault.Exists
no_operand (Key word.Case) _ = fault.Case
no_operand (Key word.Cast) _ = fault.Cast
no_operand (Mark sym.Question) _ = fault.Parameter
no_operand (Mark sym.Dollar) _ = fault.Parameter
no_operand (Mark sym.Colon) _ = fault.Parameter
no_operand (Mark sym.Open) (Key word.Select) = fault.Subquery
no_operand (Mark sym.Plus) _ = fault.Arithmetic
no_operand (Mark sym.Minus) _ = fault.Arithmetic
no_operand (Key word.Null) _ = fault.Literal
no_operand (Key word.True) _ = fault.Literal
no_operand (Key word.False) _ = fault.Literal
no_operand _ _ = fault.Syntax

-- where an item of the SELECT list may begin: any literal is refused as that
abbrev pub no_item : Kind → Kind → QueryFault
no_item (Number n) _ = fault.Literal
no_item Text _ = fault.Literal
no_item (Mark sym.Minus) (Number n) = fault.Literal
no_item k behind = no_operand k behind

-- where a literal of an IN list stands
abbrev pub no_literal : Kind → QueryFault
no_literal (Key word.Null) = fault.Literal
no_literal (Key word.True) = fault.Literal
no_literal (Key word.False) = fault.Literal
no_literal _ = fault.Syntax

-- directly behind an operand or an item, where the grammar never has it
abbrev pub beyond : Kind → Option QueryFault
beyond (Mark sym.Plus) = Some fault.Arithmetic
beyond (Mark sym.Minus) = Some fault.Arithmetic
beyond (Mark sym.Star) = Some fault.Arithmetic
beyond (Mark sym.Slash) = Some fault.Arithmetic
beyond (Mark sym.Percent) = Some fault.Arithmetic
beyond (Mark sym.Bars) = Some fault.Arithmetic
beyond (Mark sym.ColonColon) = Some fault.Cast
beyond (Key word.Like) = Some fault.Like
beyond (Key word.Ilike) = Some fault.Like
beyond (Key word.Similar) = Some fault.Like
beyond _ = None

-- behind the NOT that follows an operand
abbrev pub no_negated : Kind → QueryFault
no_negated (Key word.Like) = fault.Like
no_negated (Key word.Ilike) = fault.Like
no_negated (Key word.Similar) = fault.Like
no_negated _ = fault.Syntax

-- where a query may end
abbrev pub no_end : Kind → QueryFault
no_end (Key word.Group) = fault.GroupBy
no_end (Key word.Having) = fault.Having
no_end (Key word.Union) = fault.SetOperation
no_end (Key word.Intersect) = fault.SetOperation
no_end (Key word.Except) = fault.SetOperation
no_end (Key word.Order) = fault.OrderBy
no_end (Key word.Limit) = fault.Limit
no_end (Key word.Offset) = fault.Limit
no_end (Key word.Fetch) = fault.Limit
no_end (Key word.Window) = fault.Window
no_end _ = fault.Syntax

-- behind a FROM item or the condition of an ON; the test says that parentheses round a join are open there
abbrev pub join_fault : Bool → Kind → Option QueryFault
join_fault true (Mark sym.Comma) = Some fault.CommaJoin
join_fault inside (Key word.Full) = Some fault.FullJoin
join_fault inside (Key word.Cross) = Some fault.CrossJoin
join_fault inside (Key word.Natural) = Some fault.NaturalJoin
join_fault inside (Key word.Using) = Some fault.Using
join_fault inside _ = None

abbrev pub syntax : Kind → QueryFault
syntax k = fault.Syntax

abbrev pub fault_or : Option QueryFault → QueryFault → QueryFault
fault_or (Some f) other = f
fault_or None other = other

-- behind a FROM item that still wants its ON, and where parentheses round a join close
abbrev pub no_join : Bool → Kind → QueryFault
no_join inside k = fault_or (join_fault inside k) fault.Syntax

-- where a query without WHERE may end, or its FROM go on
abbrev pub no_join_or_end : Kind → QueryFault
no_join_or_end k = fault_or (join_fault false k) (no_end k)
