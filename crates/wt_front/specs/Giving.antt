-- What a function of the reader returned, beside what a reading gives.
use Rattle.wt_reading.proofs.Loops.{put_front}
use Rattle.wt_reading.specs.Readings.{Reading}
use Rattle.std.specs.Prelude.{◌≡◌, Bool, false, ℕ, List, Option, Some, None, Result, Ok, Err}
use Rattle.wt_reading.specs.declared.lexeme.Kind.{Kind}
use Rattle.wt_lex.specs.declared.words.Word.{Word}
use Rattle.wt_lex.specs.declared.words.Word.TheVariants as word
use Rattle.wt_grammar.specs.Kinds.{is_and, is_or}
use Rattle.wt_grammar.specs.Reading.{Read, refused, odd}
use Rattle.wt_front.specs.declared.error.QueryError.{QueryError}
use Rattle.wt_front.specs.declared.error.QueryError.TheVariants as errors

-- the same refusal, unless memory ran out
abbrev pub Fails : {A : Type 0} → QueryError → Read A → Type 0
Fails errors.Memory read = Unit {0}
Fails (errors.Refused f at) read = read ≡ Err (refused f, at)
Fails (errors.Lex f at) read = read ≡ Err (odd f, at)

-- the same value, seen by `view`, and number of tokens, or the same refusal, unless memory ran out
abbrev pub Gives : {X A : Type 0} → (X → A) → Result (X × ℕ) QueryError → Read A → Type 0
Gives view (Ok x) read = read ≡ Ok (view x.0, x.1)
Gives view (Err e) read = Fails e read

-- a loop that adds to a list: the number of tokens, with what was read added, or the refusal
abbrev pub Adds : {A : Type 0} → Result ℕ QueryError → List A → List A → Read (List A) → Type 0
Adds (Ok n) old new read = put_front old 0 read ≡ Ok (new, n)
Adds (Err e) old new read = Fails e read

-- the word between the parts of a run: AND or OR
abbrev pub is_joint : Word → Kind → Bool
is_joint word.And k = is_and k
is_joint word.Or k = is_or k
is_joint _ k = false

-- how many tokens a reading took, if it gave a value
abbrev pub size_of : {E A : Type 0} → Reading E A → Option ℕ
size_of (Ok x) = Some x.1
size_of (Err e) = None
