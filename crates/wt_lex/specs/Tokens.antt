-- How a text falls into tokens, or why it has none.
use Rattle.std.specs.Prelude.{◌≡◌, ℕ, zero, suc, ◌+◌, ◌-◌, Bool, true, false, if◌then◌else◌, nat_lt, List, [], ◌∷◌, ◌++◌, length, Result, Ok, Err}
use Rattle.std.specs.Str.{is_utf8}
use Rattle.std.specs.Str.Lossy.{utf8_valid_len}
use Rattle.wt_lex.specs.declared.front.Front.{Front}
use Rattle.wt_lex.specs.declared.front.Front.TheVariants.{Gap, Item, Spoiled, Unclosed}
use Rattle.wt_lex.specs.declared.token.LexFault.{LexFault}
use Rattle.wt_lex.specs.declared.token.LexFault.TheVariants as fault
use Rattle.wt_lex.specs.declared.token.LexError.{LexError}
use Rattle.wt_lex.specs.declared.token.LexError.TheVariants as errors
use Rattle.wt_lex.specs.declared.token.TokenKind.{TokenKind}
use Rattle.wt_lex.specs.declared.token.TokenKind.TheVariants.{Odd}
use Rattle.wt_lex.specs.declared.token.Token.{Token}
use Rattle.wt_lex.specs.Fronts.{front, len_of}

abbrev pub token : TokenKind → ℕ → ℕ → Token
token kind start len = record { kind = kind; start = start; end = start + len }

-- the tokens that a front makes, for one that stands at `at`
abbrev pub made : ℕ → Front → List Token
made at (Gap n) = []
made at (Item kind n) = token kind at n ∷ []
made at (Spoiled kind n) = token kind at n ∷ token (Odd fault.BadCharacter) (at + n) 1 ∷ []
made at Unclosed = []

abbrev pub is_closed : Front → Bool
is_closed Unclosed = false
is_closed _ = true

abbrev pub before : List Token → Result (List Token) ℕ → Result (List Token) ℕ
before first (Ok others) = Ok (first ++ others)
before first (Err at) = Err at

-- The tokens of the bytes from the place `at` on, or the place of a quote or comment that is not closed. The second
-- number counts the bytes that still belong to the front before.
unfoldable pub tokens_from : ℕ → ℕ → List ℕ → Result (List Token) ℕ
tokens_from at left [] = Ok []
tokens_from at (suc left) (b ∷ z) = tokens_from (at + 1) left z
tokens_from at zero (b ∷ z) =
    if is_closed (front (b ∷ z)) then before (made at (front (b ∷ z))) (tokens_from (at + 1) (len_of (front (b ∷ z)) - 1) z) else Err at

abbrev pub open_quote : Result (List Token) ℕ → Result (List Token) (LexFault × ℕ)
open_quote (Ok tokens) = Ok tokens
open_quote (Err at) = Err (fault.OpenQuote, at)

-- The tokens of a text, or the first of three faults with its offset: too long, not UTF-8 from a place on, a quote or
-- comment left open. A token that is refused wherever it stands is a token of the kind Odd.
unfoldable pub lexed : List ℕ → Result (List Token) (LexFault × ℕ)
lexed bytes =
    if nat_lt 16777216 (length bytes) then Err (fault.TooLong, 16777216)
    else (if is_utf8 bytes then open_quote (tokens_from 0 0 bytes)
    else Err (fault.NotText, utf8_valid_len bytes))

-- the error is want of memory, or an open quote at such a place
abbrev pub FailsAt : {X : Type 0} → Result X LexError → (ℕ → Type 0) → Type 0
FailsAt (Ok x) P = Unit {0}
FailsAt (Err errors.Memory) P = Unit {0}
FailsAt (Err (errors.Fault f place)) P = (f ≡ fault.OpenQuote) × P place

-- What a call returned, seen by `view`, is what the definition gives, unless memory ran out.
abbrev pub Gives : {X : Type 0} → (X → List Token) → Result X LexError → Result (List Token) (LexFault × ℕ) → Type 0
Gives view (Ok x) read = read ≡ Ok (view x)
Gives view (Err errors.Memory) read = Unit {0}
Gives view (Err (errors.Fault f place)) read = read ≡ Err (f, place)
