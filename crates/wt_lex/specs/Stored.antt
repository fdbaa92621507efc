-- Of private contracts: what the compact form of a token shows over its text, where a number is the one that its digits
-- spell, and how each kind of token stands in its text.
use Rattle.std.specs.Prelude.{◌≡◌, ℕ, ◌+◌, ◌-◌, ◌<◌, ◌≤◌, true, List, length, slice_index}
use Rattle.std.specs.Char.{is_ascii_digit}
use Rattle.std.specs.List.{AllByRecursion, list_all}
use Rattle.std.specs.Str.{IsAscii}
use Rattle.wt_lex.specs.declared.tokens.StoredKind.{StoredKind}
use Rattle.wt_lex.specs.declared.tokens.StoredKind.TheVariants as stored
use Rattle.wt_lex.specs.declared.tokens.Stored.{Stored}
use Rattle.wt_lex.specs.declared.token.TokenKind.{TokenKind}
use Rattle.wt_lex.specs.declared.token.TokenKind.TheVariants as kinds
use Rattle.wt_lex.specs.declared.token.Token.{Token}
use Rattle.wt_lex.specs.Fronts.{number_kind}
use Rattle.wt_lex.specs.Names.{piece, spelled}

-- the kind of a token that is spelled so
abbrev pub shown_kind : StoredKind → List ℕ → TokenKind
shown_kind stored.Word spelling = kinds.Word
shown_kind stored.Quoted spelling = kinds.Quoted
shown_kind stored.Number spelling = number_kind spelling
shown_kind stored.Text spelling = kinds.Text
shown_kind (stored.Symbol s) spelling = kinds.Symbol s
shown_kind (stored.Odd f) spelling = kinds.Odd f

abbrev pub shown : List ℕ → Stored → Token
shown text s = record { kind = shown_kind s.kind (piece text s.start s.end); start = s.start; end = s.end }

-- ---- how each kind of token stands in its text

-- a quoted token has its quotes at its ends, and at least so many bytes
abbrev pub IsBetween : ℕ → ℕ → List ℕ → Token → Type 0
IsBetween quote least bytes t =
    (t.start + least ≤ t.end) × (t.end ≤ length bytes) × (slice_index bytes t.start ≡ quote) × (slice_index bytes (t.end - 1) ≡ quote)

-- a word is not empty and ASCII
abbrev pub IsAsciiWord : List ℕ → Token → Type 0
IsAsciiWord bytes t = (t.start < t.end) × (t.end ≤ length bytes) × IsAscii (spelled bytes t)

-- a number is written in digits, which spell it
abbrev pub IsSpelled : ℕ → List ℕ → Token → Type 0
IsSpelled n bytes t = (list_all is_ascii_digit (spelled bytes t) ≡ true) × (number_kind (spelled bytes t) ≡ kinds.Number n)

abbrev pub StandsBy : TokenKind → List ℕ → Token → Type 0
StandsBy kinds.Word bytes t = IsAsciiWord bytes t
StandsBy kinds.Quoted bytes t = IsBetween 34 3 bytes t
StandsBy (kinds.Number n) bytes t = IsSpelled n bytes t
StandsBy kinds.Text bytes t = IsBetween 39 2 bytes t
StandsBy _ bytes t = Unit {0}

abbrev pub StandsIn : List ℕ → Token → Type 0
StandsIn bytes t = StandsBy t.kind bytes t

abbrev pub AllStandIn : List ℕ → List Token → Type 0
AllStandIn bytes = AllByRecursion (StandsIn bytes)
