-- Tests on kinds of tokens.
use Rattle.std.specs.Prelude.{Bool, ◌||◌}
use Rattle.wt_lex.specs.declared.token.Sym.TheVariants as sym
use Rattle.wt_lex.specs.declared.words.Word.TheVariants as word
use Rattle.wt_reading.specs.declared.lexeme.Kind.{Kind}
use Rattle.wt_reading.specs.declared.lexeme.Kind.TheVariants.{Key, Mark}
use Rattle.wt_reading.specs.Lexemes.{is_kind}

abbrev pub is_and : Kind → Bool
is_and = is_kind (Key word.And)

abbrev pub is_or : Kind → Bool
is_or = is_kind (Key word.Or)

abbrev pub is_not : Kind → Bool
is_not = is_kind (Key word.Not)

abbrev pub is_select : Kind → Bool
is_select = is_kind (Key word.Select)

abbrev pub is_distinct : Kind → Bool
is_distinct = is_kind (Key word.Distinct)

abbrev pub is_all : Kind → Bool
is_all = is_kind (Key word.All)

abbrev pub is_from : Kind → Bool
is_from = is_kind (Key word.From)

abbrev pub is_where : Kind → Bool
is_where = is_kind (Key word.Where)

abbrev pub is_between : Kind → Bool
is_between = is_kind (Key word.Between)

abbrev pub is_is : Kind → Bool
is_is = is_kind (Key word.Is)

abbrev pub is_null_word : Kind → Bool
is_null_word = is_kind (Key word.Null)

abbrev pub is_in : Kind → Bool
is_in = is_kind (Key word.In)

abbrev pub is_as : Kind → Bool
is_as = is_kind (Key word.As)

abbrev pub is_inner : Kind → Bool
is_inner = is_kind (Key word.Inner)

abbrev pub is_left : Kind → Bool
is_left = is_kind (Key word.Left)

abbrev pub is_right : Kind → Bool
is_right = is_kind (Key word.Right)

abbrev pub is_outer : Kind → Bool
is_outer = is_kind (Key word.Outer)

abbrev pub is_join : Kind → Bool
is_join = is_kind (Key word.Join)

abbrev pub is_on : Kind → Bool
is_on = is_kind (Key word.On)

abbrev pub is_dot : Kind → Bool
is_dot = is_kind (Mark sym.Dot)

abbrev pub is_star : Kind → Bool
is_star = is_kind (Mark sym.Star)

-- what begins the words of a join
abbrev pub begins_join : Kind → Bool
begins_join k = is_join k || is_inner k || is_left k || is_right k
