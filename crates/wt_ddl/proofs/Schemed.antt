-- What a text is as a schema, by what its tokens are.
use Rattle.std.proofs.Common.{◌≡◌, ℕ, ◌≤◌, List, length, refl, ap, ◌∙◌, Option, Some, None, Result, Ok, Err}
use Rattle.std.specs.Prelude.{map}
use Rattle.std.specs.List.{All}
use Rattle.std.specs.Result.{IsErrAnd}
use Rattle.std.proofs.lemmas.List.Elements.{All-weaker}
use Rattle.std.proofs.lemmas.Result.{err_from_is_err_and}
use Rattle.wt_lex.specs.declared.token.LexFault.{LexFault}
use Rattle.wt_lex.specs.declared.token.Token.{Token}
use Rattle.wt_lex.specs.Tokens.{lexed}
use Rattle.wt_lex.proofs.Lexing.{lexed_ok, tokens_stand}
use Rattle.wt_reading.specs.Lexemes.{Tokens, lexeme}
use Rattle.wt_schema.specs.declared.schema.Schema.{Schema}
use Rattle.wt_schema.specs.declared.schema.Table.{Table}
use Rattle.wt_schema.specs.Lawful.{IsName, IsSchema}
use Rattle.wt_ddl.specs.declared.fault.DdlError.{DdlError}
use Rattle.wt_ddl.specs.declared.fault.DdlError.TheVariants as errors
use Rattle.wt_ddl.specs.declared.table.TableRead.{TableRead}
use Rattle.wt_ddl.specs.Giving.{Fails, Lexes, IsFault}
use Rattle.wt_ddl.specs.Grammar.{IsText}
use Rattle.wt_ddl.specs.Linking.{linked_tables}
use Rattle.wt_ddl.specs.Reading as spec
use Rattle.wt_ddl.specs.Reading.{Read}
use Rattle.wt_ddl.specs.Refusals.{Fault, Checked, refused, odd, chain}
use Rattle.wt_ddl.specs.Schemas.{Reads, first_odd, linked_up, unless_odd, of_tokens, schema_of}
use Rattle.wt_ddl.proofs.Closed.{IfDone, done_is, IsClosed}
use Rattle.wt_ddl.proofs.Created.{AreTables, statements_law}
use Rattle.wt_ddl.proofs.Lawful.{IfRead, read_is, Stand, good_drop, name_law, No_fact, No_claim, no_names}
use Rattle.wt_ddl.proofs.LinkedUp.{linked_tables_law}
use Rattle.wt_ddl.proofs.Sentences.{sentence_law}

-- ---- by the tokens

pub schema_is : (bytes : List ℕ) (ts : List Token) → lexed bytes ≡ Ok ts → first_odd ts ≡ None → schema_of bytes ≡ linked_up (spec.statements bytes (map (lexeme bytes) ts))
unfolding schema_of
schema_is bytes ts e f = ap (of_tokens bytes) e ∙ ap (unless_odd bytes ts) f

schema_odd : (bytes : List ℕ) (ts : List Token) (error : Fault) → lexed bytes ≡ Ok ts → first_odd ts ≡ Some error → schema_of bytes ≡ Err error
unfolding schema_of
schema_odd bytes ts error e f = ap (of_tokens bytes) e ∙ ap (unless_odd bytes ts) f

schema_lex : (bytes : List ℕ) (f : LexFault) (at : ℕ) → lexed bytes ≡ Err (f, at) → schema_of bytes ≡ Err (odd f, at)
unfolding schema_of
schema_lex bytes f at e = ap (of_tokens bytes) e

as_read : (e : DdlError) (r : Checked (List Table)) → Fails e r → Reads (Err e) r
as_read errors.Memory r h = tt
as_read (errors.Fault f at) r h = h
as_read (errors.Lex f at) r h = h

lex_error : (bytes : List ℕ) (e : DdlError) → Lexes (Err e) (lexed bytes) → Reads (Err e) (schema_of bytes)
lex_error bytes errors.Memory h = tt
lex_error bytes (errors.Lex f at) h = schema_lex bytes f at h
lex_error bytes (errors.Fault f at) h = absurd h

pub lex_exit : (bytes : List ℕ) (e : DdlError) (got : Result Schema DdlError) → IsErrAnd got (λ y. y ≡ e) → Lexes (Err e) (lexed bytes) → Reads got (schema_of bytes)
lex_exit bytes e got was h =
    let y = err_from_is_err_and got was in rw (y.1 ∙ ap Err y.2) (lex_error bytes e h)

pub odd_fails : (bytes : List ℕ) (ts : List Token) (error : DdlError) → lexed bytes ≡ Ok ts → IsFault (Some error) (first_odd ts) → Reads (Err error) (schema_of bytes)
odd_fails bytes ts errors.Memory e f = tt
odd_fails bytes ts (errors.Fault x at) e f = schema_odd bytes ts (refused x, at) e f
odd_fails bytes ts (errors.Lex x at) e f = schema_odd bytes ts (odd x, at) e f

pub none_odd : (found : Option DdlError) (defined : Option Fault) → ((e : DdlError) → found ≡ Some e → ⊥) → IsFault found defined → defined ≡ None
none_odd None defined h k = k
none_odd (Some e) defined h k = absurd (h e refl)

fails_same : {A : Type 0} (e : DdlError) (r s : Checked A) → s ≡ r → Fails e r → Fails e s
fails_same errors.Memory r s same h = tt
fails_same (errors.Fault x at) r s same h = same ∙ h
fails_same (errors.Lex x at) r s same h = same ∙ h

pub tables_exit : (bytes : List ℕ) (ts : List Token) (e : DdlError) (got : Result Schema DdlError) → lexed bytes ≡ Ok ts → first_odd ts ≡ None → IsErrAnd got (λ y. y ≡ e)
    → Fails e (linked_up (spec.statements bytes (map (lexeme bytes) ts))) → Reads got (schema_of bytes)
tables_exit bytes ts e got is even was h =
    let y = err_from_is_err_and got was in
    rw (y.1 ∙ ap Err y.2) (as_read e (schema_of bytes) (fails_same e (linked_up (spec.statements bytes (map (lexeme bytes) ts))) (schema_of bytes) (schema_is bytes ts is even) h))

-- ---- what is read is a schema

up_law : (r : Read (List TableRead)) → IfRead (AreTables IsName) r → IfDone IsSchema (linked_up r)
up_law (Ok x) h = linked_tables_law x.0 h
up_law (Err e) h = tt

whole_law : (bytes : List ℕ) → IfDone IsSchema (schema_of bytes)
unfolding schema_of
whole_law bytes = by (lexed bytes) refl
  where
    odds : (ts : List Token) → lexed bytes ≡ Ok ts → (o : Option Fault) → IfDone IsSchema (unless_odd bytes ts o)
    odds ts e None =
        let ok = lexed_ok bytes ts e in
        up_law (spec.statements bytes (map (lexeme bytes) ts)) (statements_law bytes IsName (Stand bytes) (good_drop bytes ok.1) (name_law bytes ok.1) (map (lexeme bytes) ts) (ts, refl, tokens_stand bytes ts e))
    odds ts e (Some error) = tt

    by : (r : Result (List Token) (LexFault × ℕ)) → lexed bytes ≡ r → IfDone IsSchema (of_tokens bytes r)
    by (Ok ts) e = odds ts e (first_odd ts)
    by (Err f) e = tt

pub schema_law : (bytes : List ℕ) (tables : List Table) → schema_of bytes ≡ Ok tables → IsSchema tables
schema_law bytes tables e = done_is IsSchema (schema_of bytes) tables (whole_law bytes) e

-- ---- limits

pub tables_few : (bytes : List ℕ) (ts : Tokens) (tables : List TableRead) (n : ℕ) → spec.statements bytes ts ≡ Ok (tables, n) → (length tables ≤ 256) × All (λ t. length t.columns ≤ 64) tables
tables_few bytes ts tables n e =
    let is : AreTables No_fact tables = read_is (AreTables No_fact) (spec.statements bytes ts) tables n (statements_law bytes No_fact No_claim (λ i l g. tt) (λ l g. no_names bytes l) ts tt) e in
    (is.few, All-weaker (IsClosed No_fact No_fact) (λ t. length t.columns ≤ 64) (λ t h. h.few) tables is.closed)

-- ---- what is read is a sentence, of these tables

whole_sentence : (bytes : List ℕ) → IfDone (IsText bytes) (schema_of bytes)
unfolding schema_of
whole_sentence bytes = by (lexed bytes) refl
  where
    linked : (ts : List Token) → lexed bytes ≡ Ok ts → (reads : List TableRead) (n : ℕ) → spec.statements bytes (map (lexeme bytes) ts) ≡ Ok (reads, n) → (r : Checked (List Table)) → linked_tables reads ≡ r → IfDone (IsText bytes) r
    linked ts e reads n f (Ok tables) g =
        let (parts, s, made) = sentence_law bytes (map (lexeme bytes) ts) reads n f in (ts, parts, e, s, ap (λ r. chain r linked_tables) made ∙ g)
    linked ts e reads n f (Err error) g = tt

    up : (ts : List Token) → lexed bytes ≡ Ok ts → (r : Read (List TableRead)) → spec.statements bytes (map (lexeme bytes) ts) ≡ r → IfDone (IsText bytes) (linked_up r)
    up ts e (Ok x) f = linked ts e x.0 x.1 f (linked_tables x.0) refl
    up ts e (Err error) f = tt

    odds : (ts : List Token) → lexed bytes ≡ Ok ts → (o : Option Fault) → IfDone (IsText bytes) (unless_odd bytes ts o)
    odds ts e None = up ts e (spec.statements bytes (map (lexeme bytes) ts)) refl
    odds ts e (Some error) = tt

    by : (r : Result (List Token) (LexFault × ℕ)) → lexed bytes ≡ r → IfDone (IsText bytes) (of_tokens bytes r)
    by (Ok ts) e = odds ts e (first_odd ts)
    by (Err f) e = tt

pub text_law : (bytes : List ℕ) (tables : List Table) → schema_of bytes ≡ Ok tables → IsText bytes tables
text_law bytes tables e = done_is (IsText bytes) (schema_of bytes) tables (whole_sentence bytes) e
