-- A text whose tokens are a sentence is read, or refused for its names; and as its tables, where it has some.
use Rattle.std.proofs.Common.{◌≡◌, ℕ, true, List, [], length, refl, ap, sym, ◌∙◌, subst, IfErr, Ok, Err}
use Rattle.std.specs.Prelude.{map}
use Rattle.wt_lex.specs.declared.token.Token.{Token}
use Rattle.wt_lex.specs.Tokens.{lexed}
use Rattle.wt_reading.specs.Lexemes.{lexeme}
use Rattle.wt_schema.specs.declared.schema.Table.{Table}
use Rattle.wt_ddl.specs.declared.table.TableRead.{TableRead}
use Rattle.wt_ddl.specs.Grammar.{Part, IsSentence, IsText, Sentence, tables_of}
use Rattle.wt_ddl.specs.Linking.{linked_tables}
use Rattle.wt_ddl.specs.Reading.{Read, statements}
use Rattle.wt_ddl.specs.Refusals.{Checked, chain}
use Rattle.wt_ddl.specs.Schemas.{schema_of, of_tokens, unless_odd, linked_up}
use Rattle.wt_ddl_sentence.specs.Faults.{IsOrNames, is_of_names}
use Rattle.wt_ddl_sentence.proofs.Plain.{no_odd}
use Rattle.wt_ddl_sentence.proofs.Settling.{OfNames, linked_tables_names}
use Rattle.wt_ddl_sentence.proofs.Statements.{Added, sentence_read}
use Rattle.wt_ddl_sentence.proofs.Words.{real_text}

read_is : (bytes : List ℕ) (ts : List Token) (parts : List Part) → lexed bytes ≡ Ok ts → Sentence bytes parts (map (lexeme bytes) ts) → schema_of bytes ≡ linked_up (statements bytes (map (lexeme bytes) ts))
unfolding schema_of
read_is bytes ts parts e s = ap (of_tokens bytes) e ∙ ap (unless_odd bytes ts) (no_odd bytes parts ts s)

-- ---- whatever it names

up_names : (bytes : List ℕ) (c : Checked (List TableRead)) (n : ℕ) (r : Read (List TableRead)) → Added bytes [] c n r → OfNames (linked_up r)
up_names bytes (Ok added) n (Ok x) h = linked_tables_names x.0
up_names bytes (Ok added) n (Err e) h = h
up_names bytes (Err f) n (Ok x) h = absurd h
up_names bytes (Err f) n (Err e) h = h

no_error : {A : Type 0} (r : Checked A) → OfNames r → IfErr r (λ e. is_of_names e.0 ≡ true)
no_error (Ok x) h = tt
no_error (Err e) h = h

pub read_or_names : (bytes : List ℕ) → IsSentence bytes → IfErr (schema_of bytes) (λ e. is_of_names e.0 ≡ true)
read_or_names bytes (ts, parts, e, s) =
    let us = map (lexeme bytes) ts in
    subst (λ r. IfErr r (λ e. is_of_names e.0 ≡ true)) (sym (read_is bytes ts parts e s))
    (no_error (linked_up (statements bytes us)) (up_names bytes (tables_of parts) (length us) (statements bytes us) (sentence_read bytes parts us (real_text bytes ts) s)))

-- ---- as its tables

up_is : (bytes : List ℕ) (c : Checked (List TableRead)) (n : ℕ) (r : Read (List TableRead)) (tables : List Table) → Added bytes [] c n r → chain c linked_tables ≡ Ok tables → IsOrNames tables (linked_up r)
up_is bytes (Ok added) n (Ok x) tables h e = subst (IsOrNames tables) (sym (ap linked_tables h.0 ∙ e)) refl
up_is bytes (Ok added) n (Err f) tables h e = h
up_is bytes (Err f) n r tables h e = absurd cc

pub read_as : (bytes : List ℕ) (tables : List Table) → IsText bytes tables → IsOrNames tables (schema_of bytes)
read_as bytes tables (ts, parts, e, s, linked) =
    let us = map (lexeme bytes) ts in
    subst (IsOrNames tables) (sym (read_is bytes ts parts e s))
    (up_is bytes (tables_of parts) (length us) (statements bytes us) tables (sentence_read bytes parts us (real_text bytes ts) s) linked)
