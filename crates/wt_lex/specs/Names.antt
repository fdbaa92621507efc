-- What words, quoted names and texts stand for.
use Rattle.std.specs.Prelude.{ℕ, ◌+◌, ◌-◌, Bool, true, false, if◌then◌else◌, ◌==◌, List, [], ◌∷◌, map, take, drop, Option}
use Rattle.std.specs.Char.{to_ascii_lowercase}
use Rattle.std.specs.List.{find}
use Rattle.std.specs.Str.{bytes_eq}
use Rattle.wt_lex.specs.declared.token.TokenKind.{TokenKind}
use Rattle.wt_lex.specs.declared.token.TokenKind.TheVariants as kinds
use Rattle.wt_lex.specs.declared.token.Token.{Token}
use Rattle.wt_lex.specs.declared.words.Word.{Word}
use Rattle.wt_lex.specs.Words.{spelling, all_words}

-- the bytes from a place to before another
abbrev pub piece : List ℕ → ℕ → ℕ → List ℕ
piece bytes from to = take (to - from) (drop from bytes)

-- a token as it is written
abbrev pub spelled : List ℕ → Token → List ℕ
spelled bytes t = piece bytes t.start t.end

-- a token without its first and its last byte, its quotes
abbrev pub inside : List ℕ → Token → List ℕ
inside bytes t = piece bytes (t.start + 1) (t.end - 1)

-- in lower case; bytes beyond ASCII's letters stay
abbrev pub folded : List ℕ → List ℕ
folded word = map to_ascii_lowercase word

-- Each doubled quote once. `second` says that the byte before was a quote, so that another one is the second of a pair.
abbrev pub undoubled : ℕ → Bool → List ℕ → List ℕ
undoubled quote second [] = []
undoubled quote true (b ∷ z) = if b == quote then undoubled quote false z else b ∷ undoubled quote false z
undoubled quote false (b ∷ z) = b ∷ undoubled quote (b == quote) z

abbrev pub name_by : TokenKind → List ℕ → List ℕ → List ℕ
name_by kinds.Word spelling content = folded spelling
name_by kinds.Quoted spelling content = undoubled 34 false content
name_by _ spelling content = []

-- the name that a token stands for: a Word in lower case, or what stands between the quotes of a Quoted
abbrev pub name_bytes : List ℕ → Token → List ℕ
name_bytes bytes t = name_by t.kind (spelled bytes t) (inside bytes t)

abbrev pub text_by : TokenKind → List ℕ → List ℕ
text_by kinds.Text content = undoubled 39 false content
text_by _ content = []

-- what stands between the quotes of a Text
abbrev pub text_bytes : List ℕ → Token → List ℕ
text_bytes bytes t = text_by t.kind (inside bytes t)

-- the same word but for the case of its letters
abbrev pub is_folded : List ℕ → List ℕ → Bool
is_folded spelling word = bytes_eq (folded spelling) (folded word)

abbrev pub word_by : TokenKind → List ℕ → List ℕ → Bool
word_by kinds.Word spelling word = is_folded spelling word
word_by _ spelling word = false

-- the token is this word, whatever the case of its letters
abbrev pub is_word : List ℕ → Token → List ℕ → Bool
is_word bytes t word = word_by t.kind (spelled bytes t) word

-- the reserved word that a token is
abbrev pub keyword : List ℕ → Token → Option Word
keyword bytes t = find (λ w. is_word bytes t (spelling w)) all_words
