-- Of private contracts: what a function returned, beside what is defined, unless memory ran out.
use Rattle.std.specs.Prelude.{◌≡◌, ℕ, List, Option, Some, None, Result, Ok, Err}
use Rattle.wt_lex.specs.declared.token.LexFault.{LexFault}
use Rattle.wt_reading.proofs.Loops.{put_front}
use Rattle.wt_lex.specs.declared.token.Token.{Token}
use Rattle.wt_ddl.specs.declared.fault.DdlError.{DdlError}
use Rattle.wt_ddl.specs.declared.fault.DdlError.TheVariants as errors
use Rattle.wt_ddl.specs.Refusals.{refused, odd, Fault, Checked}
use Rattle.wt_ddl.specs.Reading.{Read}

-- the refusal is the one that is defined
abbrev pub Fails : {A : Type 0} → DdlError → Checked A → Type 0
Fails errors.Memory defined = Unit {0}
Fails (errors.Fault f at) defined = defined ≡ Err (refused f, at)
Fails (errors.Lex f at) defined = defined ≡ Err (odd f, at)

-- it gives what is defined
abbrev pub Agrees : {A : Type 0} → Result A DdlError → Checked A → Type 0
Agrees (Ok x) defined = defined ≡ Ok x
Agrees (Err e) defined = Fails e defined

-- it leaves what is defined
abbrev pub Puts : {A : Type 0} → Result (Unit {0}) DdlError → A → Checked A → Type 0
Puts (Ok u) new defined = defined ≡ Ok new
Puts (Err e) new defined = Fails e defined

-- it gives what the reading gives, and as many tokens
abbrev pub Gives : {A : Type 0} → Result (A × ℕ) DdlError → Read A → Type 0
Gives (Ok x) read = read ≡ Ok (x.0, x.1)
Gives (Err e) read = Fails e read

-- it takes as many tokens as the reading, and leaves its value
abbrev pub Leaves : {A : Type 0} → Result ℕ DdlError → A → Read A → Type 0
Leaves (Ok n) new read = read ≡ Ok (new, n)
Leaves (Err e) new read = Fails e read

abbrev pub Takes : Result ℕ DdlError → Read (Unit {0}) → Type 0
Takes r read = Leaves r tt read

-- a loop that adds to a list: the number of tokens, with what was read added, or the refusal
abbrev pub Adds : {A : Type 0} → Result ℕ DdlError → List A → List A → Read (List A) → Type 0
Adds (Ok n) old new read = put_front old 0 read ≡ Ok (new, n)
Adds (Err e) old new read = Fails e read

-- it gives the tokens of a text, or their fault as one of the schema
abbrev pub Lexes : Result (List Token) DdlError → Result (List Token) (LexFault × ℕ) → Type 0
Lexes (Ok ts) lexes = lexes ≡ Ok ts
Lexes (Err errors.Memory) lexes = Unit {0}
Lexes (Err (errors.Lex f at)) lexes = lexes ≡ Err (f, at)
Lexes (Err (errors.Fault f at)) lexes = ⊥

-- it gives the fault that is defined, or none where none is
abbrev pub IsFault : Option DdlError → Option Fault → Type 0
IsFault None defined = defined ≡ None
IsFault (Some errors.Memory) defined = ⊥
IsFault (Some (errors.Fault f at)) defined = defined ≡ Some (refused f, at)
IsFault (Some (errors.Lex f at)) defined = defined ≡ Some (odd f, at)
