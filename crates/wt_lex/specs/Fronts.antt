-- What stands at the front of a text: a gap, a token, or a quote or comment that is not closed.
use Rattle.std.specs.Prelude.{◌≤◌, ℕ, ◌+◌, ◌-◌, ◌*◌, Bool, true, false, not, ◌&&◌, ◌||◌, if◌then◌else◌, ◌==◌, nat_lt, List, [], ◌∷◌, take, drop, slice_index, Option, Some, None}
use Rattle.std.specs.Char.{is_ascii_digit, is_ascii_alphanumeric, is_ascii_alphabetic}
use Rattle.std.specs.List.{prefix_len}
use Rattle.wt_lex.specs.declared.front.Class.{Class}
use Rattle.wt_lex.specs.declared.front.Class.TheVariants as class
use Rattle.wt_lex.specs.declared.front.Front.{Front}
use Rattle.wt_lex.specs.declared.front.Front.TheVariants.{Gap, Item, Spoiled, Unclosed}
use Rattle.wt_lex.specs.declared.token.LexFault.TheVariants as fault
use Rattle.wt_lex.specs.declared.token.Sym.{Sym}
use Rattle.wt_lex.specs.declared.token.Sym.TheVariants as sym
use Rattle.wt_lex.specs.declared.token.TokenKind.{TokenKind}
use Rattle.wt_lex.specs.declared.token.TokenKind.TheVariants.{Word, Quoted, Number, Text, Symbol, Odd}

-- a letter, a digit or `_`; a digit; a byte before the line's end; one that is no `*`
abbrev pub is_in : Class → ℕ → Bool
is_in class.Word b = is_ascii_alphanumeric b || b == 95
is_in class.Digit b = is_ascii_digit b
is_in class.Line b = not (b == 10)
is_in class.NoStar b = not (b == 42)

-- blank, tab, LF, CR
abbrev pub is_blank : ℕ → Bool
is_blank b = b == 32 || b == 9 || b == 10 || b == 13

-- a letter or `_`
abbrev pub begins_word : ℕ → Bool
begins_word b = is_ascii_alphabetic b || b == 95

-- how many bytes at the front are of the class
abbrev pub run : Class → List ℕ → ℕ
run c z = prefix_len (is_in c) z

-- one more than the greatest number, which is 2 to the power of 63
abbrev pub past_most : ℕ
past_most = 9223372036854775809

abbrev pub value_more : ℕ → List ℕ → ℕ
value_more n [] = n
value_more n (d ∷ ds) = value_more (10 * n + (d - 48)) ds

-- the number that decimal digits spell
abbrev pub value : List ℕ → ℕ
value ds = value_more 0 ds

-- digits are a number up to the greatest, and else out of range
abbrev pub number_kind : List ℕ → TokenKind
number_kind ds = if nat_lt (value ds) past_most then Number (value ds) else Odd fault.NumberRange

-- what spoils a number that it follows directly: a letter, `_` or `.`
abbrev pub spoils : ℕ → Bool
spoils b = begins_word b || b == 46

abbrev pub digits_of : List ℕ → ℕ
digits_of z = run class.Digit z

abbrev pub number : List ℕ → Front
number z =
    if spoils (slice_index z (digits_of z)) then Spoiled (number_kind (take (digits_of z) z)) (digits_of z)
    else Item (number_kind (take (digits_of z) z)) (digits_of z)

-- The place behind the closing quote, for bytes that begin at `at` inside the quotes. A doubled quote does not close:
-- `seen` says that the byte before was a quote, which closes unless another follows.
abbrev pub closing : ℕ → Bool → ℕ → List ℕ → Option ℕ
closing quote false at [] = None
closing quote true at [] = Some at
closing quote false at (b ∷ z) = closing quote (b == quote) (at + 1) z
closing quote true at (b ∷ z) = if b == quote then closing quote false (at + 1) z else Some at

-- The place behind the first `*/`, for bytes that begin at `at` inside the comment; `star` says that the byte before was
-- a `*`. Comments do not nest.
abbrev pub comment_end : Bool → ℕ → List ℕ → Option ℕ
comment_end star at [] = None
comment_end star at (b ∷ z) = if star && b == 47 then Some (at + 1) else comment_end (b == 42) (at + 1) z

abbrev pub closed_text : Option ℕ → Front
closed_text None = Unclosed
closed_text (Some n) = Item Text n

-- an empty name is no name
abbrev pub closed_name : Option ℕ → Front
closed_name None = Unclosed
closed_name (Some n) = if n == 2 then Item (Odd fault.BadCharacter) 2 else Item Quoted n

abbrev pub closed_comment : Option ℕ → Front
closed_comment None = Unclosed
closed_comment (Some n) = Gap n

-- the symbols of two bytes: `<>`, `!=`, `<=`, `>=`, `||`, `::`
abbrev pub long_symbol : ℕ → ℕ → Option Sym
long_symbol b next =
    if b == 60 && next == 62 then Some sym.NotEq
    else (if b == 33 && next == 61 then Some sym.BangEq
    else (if b == 60 && next == 61 then Some sym.Le
    else (if b == 62 && next == 61 then Some sym.Ge
    else (if b == 124 && next == 124 then Some sym.Bars
    else (if b == 58 && next == 58 then Some sym.ColonColon
    else None)))))

-- the symbols of one byte
abbrev pub short_symbol : ℕ → Option Sym
short_symbol b =
    if b == 40 then Some sym.Open else (if b == 41 then Some sym.Close else (if b == 44 then Some sym.Comma
    else (if b == 46 then Some sym.Dot else (if b == 59 then Some sym.Semi else (if b == 42 then Some sym.Star
    else (if b == 61 then Some sym.Eq else (if b == 60 then Some sym.Lt else (if b == 62 then Some sym.Gt
    else (if b == 43 then Some sym.Plus else (if b == 45 then Some sym.Minus else (if b == 47 then Some sym.Slash
    else (if b == 37 then Some sym.Percent else (if b == 58 then Some sym.Colon else (if b == 63 then Some sym.Question
    else (if b == 36 then Some sym.Dollar else None)))))))))))))))

abbrev pub of_one : Option Sym → Front
of_one (Some s) = Item (Symbol s) 1
of_one None = Item (Odd fault.BadCharacter) 1

abbrev pub longest : Option Sym → Option Sym → Front
longest (Some s) short = Item (Symbol s) 2
longest None short = of_one short

-- the longest symbol at the front, by the first two bytes; any other byte is bad, alone
abbrev pub symbol : ℕ → ℕ → Front
symbol b next = longest (long_symbol b next) (short_symbol b)

-- a comment from `--` to the line's end, one from `/*` to the next `*/`, or a symbol
abbrev pub mark : List ℕ → Front
mark z =
    if slice_index z 0 == 45 && slice_index z 1 == 45 then Gap (2 + run class.Line (drop 2 z))
    else (if slice_index z 0 == 47 && slice_index z 1 == 42 then closed_comment (comment_end false 2 (drop 2 z))
    else symbol (slice_index z 0) (slice_index z 1))

-- what stands at the front of bytes that are not empty
unfoldable pub front : List ℕ → Front
front z =
    if is_blank (slice_index z 0) then Gap 1
    else (if begins_word (slice_index z 0) then Item Word (run class.Word z)
    else (if is_ascii_digit (slice_index z 0) then number z
    else (if slice_index z 0 == 34 then closed_name (closing 34 false 1 (drop 1 z))
    else (if slice_index z 0 == 39 then closed_text (closing 39 false 1 (drop 1 z))
    else mark z))))

-- how many bytes it takes, where it is closed
abbrev pub len_of : Front → ℕ
len_of (Gap n) = n
len_of (Item kind n) = n
len_of (Spoiled kind n) = n + 1
len_of Unclosed = 1

-- a number that is spoiled has a digit
abbrev pub HasDigits : Front → Type 0
HasDigits (Spoiled kind n) = 1 ≤ n
HasDigits _ = Unit {0}
