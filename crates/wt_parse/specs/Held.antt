-- Of private contracts: what the stored form of a file shows, whose statements are pieces of its tokens.
use Rattle.std.specs.Prelude.{◌≡◌, ℕ, ◌-◌, ◌<◌, ◌≤◌, List, [], ◌∷◌, take, drop, length, nat_lt, if◌then◌else◌, Result, Ok, Err, Option, Some, None}
use Rattle.wt_lex.specs.declared.token.Token.{Token}
use Rattle.wt_grammar.specs.declared.fault.QueryFault.{QueryFault}
use Rattle.wt_grammar.specs.Statements.{Statement, first_odd}
use Rattle.wt_parse.specs.declared.statements.Piece.{Piece}
use Rattle.wt_front.specs.declared.error.QueryError.{QueryError}
use Rattle.wt_front.specs.declared.error.QueryError.TheVariants as errors

-- the statement of the tokens from a place to before another
abbrev pub piece : List Token → ℕ → ℕ → ℕ → Statement
piece tokens from to end = record { tokens = take (to - from) (drop from tokens); end = end }

abbrev pub shown : List Token → Piece → Statement
shown tokens p = piece tokens p.from p.to p.end

-- a piece has tokens, and they are there
abbrev pub Holds : List Token → Piece → Type 0
Holds tokens p = (p.from < p.to) × (p.to ≤ length tokens)

-- a piece, if it has tokens
abbrev pub kept : ℕ → ℕ → ℕ → List Piece
kept from to end = if nat_lt from to then record { from = from; to = to; end = end } ∷ [] else []

-- no token is refused wherever it stands, or this is the first that is
abbrev pub NoOdd : Result (Unit {0}) QueryError → List Token → Type 0
NoOdd (Ok x) tokens = first_odd tokens ≡ None
NoOdd (Err (errors.Lex f at)) tokens = first_odd tokens ≡ Some (f, at)
NoOdd (Err _) tokens = ⊥

-- why a tree is refused, if it is, unless memory ran out
abbrev pub Bars : Option QueryError → Option (QueryFault × ℕ) → Type 0
Bars None bar = bar ≡ None
Bars (Some errors.Memory) bar = Unit {0}
Bars (Some (errors.Refused f at)) bar = bar ≡ Some (f, at)
Bars (Some (errors.Lex f at)) bar = ⊥
