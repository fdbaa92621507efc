-- How a text falls into gaps and tokens: how each piece of it is spelled, and what may stand behind it.
use Rattle.std.specs.Prelude.{◌≡◌, ◌≢◌, ℕ, ◌+◌, ◌≤◌, Bool, true, false, not, ◌||◌, ◌==◌, if◌then◌else◌, ◌⊎◌, List, [], ◌∷◌, ◌++◌, length, codes}
use Rattle.std.specs.Char.{is_ascii_digit, is_ascii_alphanumeric}
use Rattle.std.specs.List.{list_all}
use Rattle.wt_lex.specs.declared.token.LexFault.TheVariants as fault
use Rattle.wt_lex.specs.declared.token.Sym.{Sym}
use Rattle.wt_lex.specs.declared.token.Sym.TheVariants as sym
use Rattle.wt_lex.specs.declared.token.Token.{Token}
use Rattle.wt_lex.specs.declared.token.TokenKind.{TokenKind}
use Rattle.wt_lex.specs.declared.token.TokenKind.TheVariants.{Word, Quoted, Number, Text, Symbol, Odd}
use Rattle.wt_lex.specs.Fronts.{is_blank, begins_word, spoils, number_kind}

-- A gap or a token as it is written, or a number and the byte behind it that spoils it.
pub data Piece : Type 0 where
  gap : List ℕ → Piece
  item : TokenKind → List ℕ → Piece
  spoiled : TokenKind → List ℕ → ℕ → Piece

abbrev pub written : Piece → List ℕ
written (gap w) = w
written (item k w) = w
written (spoiled k w b) = w ++ b ∷ []

-- ---- what may stand behind a piece

-- nothing, or a byte of which the test does not hold
abbrev pub EndsBefore : (ℕ → Bool) → List ℕ → Type 0
EndsBefore test [] = Unit {0}
EndsBefore test (b ∷ z) = test b ≡ false

-- the test holds of each byte
abbrev pub Are : (ℕ → Bool) → List ℕ → Type 0
Are test w = list_all test w ≡ true

-- ---- gaps

-- a byte before the line's end
abbrev pub in_line : ℕ → Bool
in_line b = not (b == 10)

-- no `*/` stands in them
abbrev pub HasNoEnd : List ℕ → Type 0
HasNoEnd w = (a b : List ℕ) → w ≢ a ++ 42 ∷ 47 ∷ b

-- a blank; `--` and the bytes up to the line's end; `/*` and the bytes up to the first `*/`
abbrev pub IsGap : List ℕ → List ℕ → Type 0
IsGap w rest =
    ((b : ℕ) × (w ≡ b ∷ []) × (is_blank b ≡ true))
    ⊎ ((c : List ℕ) × (w ≡ codes "--" ++ c) × Are in_line c × EndsBefore in_line rest)
    ⊎ ((c : List ℕ) × (w ≡ codes "/*" ++ (c ++ codes "*/")) × HasNoEnd (c ++ 42 ∷ []))

-- ---- words and numbers

-- a letter, a digit or `_`
abbrev pub goes_on_word : ℕ → Bool
goes_on_word b = is_ascii_alphanumeric b || b == 95

abbrev pub IsWord : List ℕ → List ℕ → Type 0
IsWord w rest = (b : ℕ) × (c : List ℕ) × (w ≡ b ∷ c) × (begins_word b ≡ true) × Are goes_on_word c × EndsBefore goes_on_word rest

-- one or more digits, and the kind of number that they spell
abbrev pub AreDigits : TokenKind → List ℕ → Type 0
AreDigits k w = (1 ≤ length w) × Are is_ascii_digit w × (k ≡ number_kind w)

abbrev pub IsNumber : TokenKind → List ℕ → List ℕ → Type 0
IsNumber k w rest = AreDigits k w × EndsBefore is_ascii_digit rest × EndsBefore spoils rest

-- ---- quotes

-- a quote inside stands twice
abbrev pub doubled : ℕ → List ℕ → List ℕ
doubled q [] = []
doubled q (b ∷ bs) = if b == q then b ∷ b ∷ doubled q bs else b ∷ doubled q bs

abbrev pub quoted : ℕ → List ℕ → List ℕ
quoted q bs = q ∷ (doubled q bs ++ q ∷ [])

-- the content between quotes, and no quote behind
abbrev pub IsQuoted : ℕ → List ℕ → List ℕ → List ℕ → Type 0
IsQuoted q content w rest = (w ≡ quoted q content) × EndsBefore (λ b. b == q) rest

-- ---- symbols

abbrev pub symbol_written : Sym → List ℕ
symbol_written sym.Open = codes "("
symbol_written sym.Close = codes ")"
symbol_written sym.Comma = codes ","
symbol_written sym.Dot = codes "."
symbol_written sym.Semi = codes ";"
symbol_written sym.Star = codes "*"
symbol_written sym.Eq = codes "="
symbol_written sym.NotEq = codes "<>"
symbol_written sym.BangEq = codes "!="
symbol_written sym.Lt = codes "<"
symbol_written sym.Le = codes "<="
symbol_written sym.Gt = codes ">"
symbol_written sym.Ge = codes ">="
symbol_written sym.Plus = codes "+"
symbol_written sym.Minus = codes "-"
symbol_written sym.Slash = codes "/"
symbol_written sym.Percent = codes "%"
symbol_written sym.Bars = codes "||"
symbol_written sym.ColonColon = codes "::"
symbol_written sym.Colon = codes ":"
symbol_written sym.Question = codes "?"
symbol_written sym.Dollar = codes "$"

-- they are a symbol, or a comment begins with them
abbrev pub IsMark : List ℕ → Type 0
IsMark w = ((s : Sym) × (symbol_written s ≡ w)) ⊎ (w ≡ codes "--") ⊎ (w ≡ codes "/*")

-- with the next byte they are none
abbrev pub IsLongest : List ℕ → List ℕ → Type 0
IsLongest w rest = (c : ℕ) (z : List ℕ) → rest ≡ c ∷ z → IsMark (w ++ c ∷ []) → ⊥

-- a byte that begins nothing
abbrev pub IsBad : ℕ → List ℕ → Type 0
IsBad b rest =
    (is_blank b ≡ false) × (begins_word b ≡ false) × (is_ascii_digit b ≡ false) × (b ≢ 34) × (b ≢ 39)
    × (IsMark (b ∷ []) → ⊥) × IsLongest (b ∷ []) rest

-- ---- tokens

-- an empty name is bad, and so is a byte that begins nothing; a number may be out of range
abbrev pub IsOdd : TokenKind → List ℕ → List ℕ → Type 0
IsOdd k w rest =
    ((k ≡ Odd fault.BadCharacter) × IsQuoted 34 [] w rest)
    ⊎ ((b : ℕ) × (k ≡ Odd fault.BadCharacter) × (w ≡ b ∷ []) × IsBad b rest)
    ⊎ IsNumber k w rest

-- a token of this kind is written so, before what stands behind it
abbrev pub IsItem : TokenKind → List ℕ → List ℕ → Type 0
IsItem Word w rest = IsWord w rest
IsItem Quoted w rest = (name : List ℕ) × (1 ≤ length name) × IsQuoted 34 name w rest
IsItem (Number n) w rest = IsNumber (Number n) w rest
IsItem Text w rest = (text : List ℕ) × IsQuoted 39 text w rest
IsItem (Symbol s) w rest = (w ≡ symbol_written s) × IsLongest w rest
IsItem (Odd f) w rest = IsOdd (Odd f) w rest

abbrev pub IsPiece : Piece → List ℕ → Type 0
IsPiece (gap w) rest = IsGap w rest
IsPiece (item k w) rest = IsItem k w rest
IsPiece (spoiled k w b) rest = AreDigits k w × (spoils b ≡ true)

-- ---- texts

-- a text falls into these pieces, up to what is left of it
abbrev pub FallsInto : List Piece → List ℕ → List ℕ → Type 0
FallsInto [] left text = text ≡ left
FallsInto (p ∷ ps) left text = (rest : List ℕ) × (text ≡ written p ++ rest) × IsPiece p rest × FallsInto ps left rest

-- a quote or a comment that is not closed: the quotes behind it stand in pairs, or no `*/` does
abbrev pub IsOpen : List ℕ → Type 0
IsOpen z =
    ((c : List ℕ) × (z ≡ 34 ∷ doubled 34 c)) ⊎ ((c : List ℕ) × (z ≡ 39 ∷ doubled 39 c))
    ⊎ ((c : List ℕ) × (z ≡ codes "/*" ++ c) × HasNoEnd c)

abbrev pub token : TokenKind → ℕ → ℕ → Token
token kind start len = record { kind = kind; start = start; end = start + len }

-- the tokens of a piece that stands at a place
abbrev pub made : ℕ → Piece → List Token
made at (gap w) = []
made at (item k w) = token k at (length w) ∷ []
made at (spoiled k w b) = token k at (length w) ∷ token (Odd fault.BadCharacter) (at + length w) 1 ∷ []

-- the tokens of pieces, each where it stands
abbrev pub tokens_at : ℕ → List Piece → List Token
tokens_at at [] = []
tokens_at at (p ∷ ps) = made at p ++ tokens_at (at + length (written p)) ps

-- the pieces one behind another
abbrev pub all_written : List Piece → List ℕ
all_written [] = []
all_written (p ∷ ps) = written p ++ all_written ps

-- each may stand before what stands behind it
abbrev pub Joined : List Piece → Type 0
Joined [] = Unit {0}
Joined (p ∷ ps) = IsPiece p (all_written ps) × Joined ps
