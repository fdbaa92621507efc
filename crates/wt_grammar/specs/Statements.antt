-- The statements of a file, and what each of them is: a query, or its first refusal.
use Rattle.std.specs.Prelude.{ℕ, ◌-◌, Bool, true, false, not, if◌then◌else◌, nat_lt, ◌==◌, min, List, [], ◌∷◌, length, map, filter, slice_get, Option, Some, None, Result, Ok, Err}
use Rattle.wt_lex.specs.declared.token.Token.{Token}
use Rattle.wt_lex.specs.declared.token.TokenKind.{TokenKind}
use Rattle.wt_lex.specs.declared.token.TokenKind.TheVariants as kinds
use Rattle.wt_lex.specs.declared.token.LexFault.{LexFault}
use Rattle.wt_lex.specs.declared.token.Sym.TheVariants as sym
use Rattle.wt_lex.specs.Tokens.{lexed}
use Rattle.wt_ast.specs.Tree.{QueryTree}
use Rattle.wt_ast.specs.declared.marks.Mark.{Mark}
use Rattle.wt_ast.specs.declared.marks.Marked.TheVariants.{FromItem, Conjunct, HiddenIn}
use Rattle.wt_ast.specs.Marks.{marks, places}
use Rattle.wt_grammar.specs.declared.fault.QueryFault.{QueryFault}
use Rattle.wt_grammar.specs.declared.fault.QueryFault.TheVariants as fault
use Rattle.wt_reading.specs.Lexemes.{lexeme}
use Rattle.wt_grammar.specs.Reading.{Refusal, refused, odd, Read, statement}

-- The tokens of a statement, and the place of its end: that of its `;`, or the file's length.
pub record Statement : Type 0 where
  pub tokens : List Token
  pub end : ℕ

abbrev pub is_semicolon : TokenKind → Bool
is_semicolon (kinds.Symbol sym.Semi) = true
is_semicolon _ = false

abbrev pub add : Token → List Statement → List Statement
add t [] = []
add t (s ∷ rest) = record { tokens = t ∷ s.tokens; end = s.end } ∷ rest

-- the tokens of a file of so many bytes, cut at each `;`
abbrev pub cut : ℕ → List Token → List Statement
cut size [] = record { tokens = []; end = size } ∷ []
cut size (t ∷ ts) = if is_semicolon t.kind then record { tokens = []; end = t.start } ∷ cut size ts else add t (cut size ts)

abbrev pub has_tokens : Statement → Bool
has_tokens s = not (length s.tokens == 0)

-- empty statements are no statements
abbrev pub statements : ℕ → List Token → List Statement
statements size ts = filter has_tokens (cut size ts)

-- what a file holds: its bytes and its statements
pub record File : Type 0 where
  pub bytes : List ℕ
  pub statements : List Statement

abbrev pub file_by : List ℕ → Result (List Token) (LexFault × ℕ) → Result File (LexFault × ℕ)
file_by bytes (Ok tokens) = Ok (record { bytes = bytes; statements = statements (length bytes) tokens })
file_by bytes (Err e) = Err e

-- the file that bytes are, where they fall into tokens
abbrev pub file_of : List ℕ → Result File (LexFault × ℕ)
file_of bytes = file_by bytes (lexed bytes)

-- ---- one statement

abbrev pub Answer : Type 0
Answer = Result QueryTree (Refusal × ℕ)

-- where the first token begins
abbrev pub begin : Statement → List Token → ℕ
begin s [] = s.end
begin s (t ∷ ts) = t.start

-- more than 65,536 bytes from its first token to its end, blanks and comments among them
abbrev pub is_too_long : Statement → Bool
is_too_long s = nat_lt 65536 (s.end - begin s s.tokens)

abbrev pub odd_or : TokenKind → ℕ → Option (LexFault × ℕ) → Option (LexFault × ℕ)
odd_or (kinds.Odd f) at other = Some (f, at)
odd_or _ at other = other

-- its first token that is refused wherever it stands
abbrev pub first_odd : List Token → Option (LexFault × ℕ)
first_odd [] = None
first_odd (t ∷ ts) = odd_or t.kind t.start (first_odd ts)

abbrev pub earlier : Option ℕ → Option ℕ → Option ℕ
earlier None b = b
earlier (Some a) None = Some a
earlier (Some a) (Some b) = Some (min a b)

-- where the 257th FROM item or the 257th conjunct stands, the first of the two
abbrev pub crowded : List Mark → Option ℕ
crowded ms = earlier (slice_get (places FromItem ms) 256) (slice_get (places Conjunct ms) 256)

abbrev pub too_many : Option ℕ → Option (QueryFault × ℕ)
too_many None = None
too_many (Some at) = Some (fault.TooMany, at)

abbrev pub hidden_or : Option ℕ → Option (QueryFault × ℕ) → Option (QueryFault × ℕ)
hidden_or None other = other
hidden_or (Some at) other = Some (fault.InUnderOr, at)

-- why a tree with these marks is refused: a query in it stands below Or or Not, or it has too many parts
abbrev pub barred : List Mark → Option (QueryFault × ℕ)
barred ms = hidden_or (slice_get (places HiddenIn ms) 0) (too_many (crowded ms))

abbrev pub unless : Option (QueryFault × ℕ) → QueryTree → Answer
unless None q = Ok q
unless (Some e) q = Err (refused e.0, e.1)

-- a query that was read, unless it is barred
abbrev pub limited : Read QueryTree → Answer
limited (Ok x) = unless (barred (marks x.0)) x.0
limited (Err e) = Err e

abbrev pub lexical_or : Option (LexFault × ℕ) → Answer → Answer
lexical_or None answer = answer
lexical_or (Some e) answer = Err (odd e.0, e.1)

-- the query that a statement is, or its first refusal
unfoldable pub answer : List ℕ → Statement → Answer
answer bytes s =
    if is_too_long s then Err (refused fault.TooLong, begin s s.tokens)
    else lexical_or (first_odd s.tokens) (limited (statement s.end bytes (map (lexeme bytes) s.tokens)))
