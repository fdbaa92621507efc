-- What a text is as a schema: its tables, or its first fault.
use Rattle.std.specs.Prelude.{◌≡◌, ℕ, List, [], ◌∷◌, map, Option, Some, None, Result, Ok, Err}
use Rattle.wt_lex.specs.declared.token.LexFault.{LexFault}
use Rattle.wt_lex.specs.declared.token.Token.{Token}
use Rattle.wt_lex.specs.declared.token.TokenKind.{TokenKind}
use Rattle.wt_lex.specs.declared.token.TokenKind.TheVariants as kinds
use Rattle.wt_lex.specs.Tokens.{lexed}
use Rattle.wt_reading.specs.Lexemes.{lexeme}
use Rattle.wt_schema.specs.declared.schema.Schema.{Schema}
use Rattle.wt_schema.specs.declared.schema.Table.{Table}
use Rattle.wt_ddl.specs.declared.fault.DdlError.{DdlError}
use Rattle.wt_ddl.specs.declared.fault.DdlError.TheVariants as errors
use Rattle.wt_ddl.specs.declared.table.TableRead.{TableRead}
use Rattle.wt_ddl.specs.Reading.{Read, statements}
use Rattle.wt_ddl.specs.Refusals.{refused, odd, Fault, Checked}
use Rattle.wt_ddl.specs.Linking.{linked_tables}

-- the first token that is refused wherever it stands
abbrev pub odd_by : TokenKind → ℕ → Option Fault → Option Fault
odd_by (kinds.Odd f) at later = Some (odd f, at)
odd_by _ at later = later

abbrev pub first_odd : List Token → Option Fault
first_odd [] = None
first_odd (t ∷ ts) = odd_by t.kind t.start (first_odd ts)

abbrev pub linked_up : Read (List TableRead) → Checked (List Table)
linked_up (Ok x) = linked_tables x.0
linked_up (Err e) = Err e

abbrev pub unless_odd : List ℕ → List Token → Option Fault → Checked (List Table)
unless_odd bytes ts None = linked_up (statements bytes (map (lexeme bytes) ts))
unless_odd bytes ts (Some e) = Err e

abbrev pub of_tokens : List ℕ → Result (List Token) (LexFault × ℕ) → Checked (List Table)
of_tokens bytes (Ok ts) = unless_odd bytes ts (first_odd ts)
of_tokens bytes (Err f) = Err (odd f.0, f.1)

-- The tables, or the first fault: the faults of tokens, then those that reading from left to right meets, then those of
-- references.
unfoldable pub schema_of : List ℕ → Checked (List Table)
schema_of bytes = of_tokens bytes (lexed bytes)

-- A call reads a schema: its tables, or the first fault, unless memory ran out.
abbrev pub Reads : Result Schema DdlError → Checked (List Table) → Type 0
Reads (Ok schema) defined = defined ≡ Ok schema.tables
Reads (Err errors.Memory) defined = Unit {0}
Reads (Err (errors.Fault f at)) defined = defined ≡ Err (refused f, at)
Reads (Err (errors.Lex f at)) defined = defined ≡ Err (odd f, at)
