-- Tokens as a grammar sees them.
use Rattle.std.specs.Prelude.{ℕ, ◌==◌, Bool, true, false, List, [], ◌∷◌, Option, Some, None}
use denote.Enum.Bare.{sameb}
use Rattle.wt_lex.specs.contracts.token.Sym as mark
use Rattle.wt_lex.specs.contracts.words.Word as word
use Rattle.wt_lex.specs.declared.token.Sym.TheVariants as sym
use Rattle.wt_lex.specs.declared.token.Token.{Token}
use Rattle.wt_lex.specs.declared.token.TokenKind.{TokenKind}
use Rattle.wt_lex.specs.declared.token.TokenKind.TheVariants as kinds
use Rattle.wt_lex.specs.declared.words.Word.{Word}
use Rattle.wt_lex.specs.Names.{keyword}
use Rattle.wt_reading.specs.declared.lexeme.Kind.{Kind}
use Rattle.wt_reading.specs.declared.lexeme.Kind.TheVariants.{End, Key, Name, Number, Text, Mark, Odd}
use Rattle.wt_reading.specs.declared.lexeme.Lexeme.{Lexeme}

-- a word that is not reserved is a name
abbrev pub word_kind : Option Word → Kind
word_kind (Some w) = Key w
word_kind None = Name

abbrev pub kind_by : TokenKind → Option Word → Kind
kind_by kinds.Word w = word_kind w
kind_by kinds.Quoted w = Name
kind_by (kinds.Number n) w = Number n
kind_by kinds.Text w = Text
kind_by (kinds.Symbol s) w = Mark s
kind_by (kinds.Odd f) w = Odd

-- a token of a text with its kind
unfoldable pub lexeme : List ℕ → Token → Lexeme
lexeme bytes t = record { kind = kind_by t.kind (keyword bytes t); token = t }

abbrev pub Tokens : Type 0
Tokens = List Lexeme

-- the kind of the token at the front; End where there is none
abbrev pub kind : Tokens → Kind
kind [] = End
kind (t ∷ ts) = t.kind

-- its place, or that of the end
abbrev pub place : ℕ → Tokens → ℕ
place end [] = end
place end (t ∷ ts) = t.token.start

-- the token at the front has a kind of which the test holds
abbrev pub at : (Kind → Bool) → Tokens → Bool
at test ts = test (kind ts)

-- ---- tests on kinds

-- the kinds are one
abbrev pub is_kind : Kind → Kind → Bool
is_kind End End = true
is_kind (Key w) (Key v) = sameb word.the_type w v
is_kind Name Name = true
is_kind (Number n) (Number m) = n == m
is_kind Text Text = true
is_kind (Mark s) (Mark t) = sameb mark.the_type s t
is_kind Odd Odd = true
is_kind _ _ = false

abbrev pub is_open : Kind → Bool
is_open = is_kind (Mark sym.Open)

abbrev pub is_close : Kind → Bool
is_close = is_kind (Mark sym.Close)

abbrev pub is_comma : Kind → Bool
is_comma = is_kind (Mark sym.Comma)

abbrev pub is_semi : Kind → Bool
is_semi = is_kind (Mark sym.Semi)

abbrev pub is_name : Kind → Bool
is_name = is_kind Name

abbrev pub is_end : Kind → Bool
is_end = is_kind End
