-- What stands at the front of the tokens that are left of a text.
use Rattle.std.specs.Prelude.{ℕ, Bool, true, false, List, [], ◌∷◌, Option, Some, None}
use Rattle.wt_lex.specs.declared.token.Token.{Token}
use Rattle.wt_lex.specs.declared.token.TokenKind.{TokenKind}
use Rattle.wt_lex.specs.declared.token.TokenKind.TheVariants as kinds
use Rattle.wt_lex.specs.Names.{is_word, name_bytes}
use Rattle.wt_reading.specs.Lexemes.{Tokens}
use Rattle.wt_ddl.specs.declared.syntax.Named.{Named}

abbrev pub first : Tokens → Option Token
first [] = None
first (t ∷ ts) = Some t.token

abbrev pub is_none : Option Token → Bool
is_none None = true
is_none (Some t) = false

-- no token is left
abbrev pub at_end : Tokens → Bool
at_end ts = is_none (first ts)

abbrev pub is_word_kind : TokenKind → Bool
is_word_kind kinds.Word = true
is_word_kind _ = false

abbrev pub is_bare_word : Option Token → Bool
is_bare_word None = false
is_bare_word (Some t) = is_word_kind t.kind

-- the token at the front is a bare word, reserved or not
abbrev pub at_some_word : Tokens → Bool
at_some_word ts = is_bare_word (first ts)

module _ (bytes : List ℕ) where
  abbrev pub is_the_word : List ℕ → Option Token → Bool
  is_the_word word None = false
  is_the_word word (Some t) = is_word bytes t word

  -- it is this word, whatever the case of its letters
  abbrev pub at_word : List ℕ → Tokens → Bool
  at_word word ts = is_the_word word (first ts)

  -- the name that a token stands for, and where
  abbrev pub named : Option Token → Named
  named None = record { name = []; at = 0 }
  named (Some t) = record { name = name_bytes bytes t; at = t.start }
