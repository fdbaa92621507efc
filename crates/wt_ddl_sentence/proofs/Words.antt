-- What the first token of a part says of the tests that a reading asks of it, where each token has the kind that it has in a
-- text.
use Rattle.std.proofs.Common.{◌≡◌, ℕ, Bool, true, false, List, [], ◌∷◌, ◌++◌, refl, ap, sym, ◌∙◌, subst, Option, Some, None}
use Rattle.std.specs.Prelude.{map}
use Rattle.std.specs.Str.{bytes_eq}
use Rattle.std.proofs.lemmas.Slice.Eq.{bytes_eq-Decides}
use Rattle.wt_lex.specs.declared.token.Token.{Token}
use Rattle.wt_lex.specs.declared.token.TokenKind.{TokenKind}
use Rattle.wt_lex.specs.declared.token.TokenKind.TheVariants as kinds
use Rattle.wt_lex.specs.declared.token.Sym.TheVariants as symbols
use Rattle.wt_lex.specs.declared.words.Word.{Word}
use Rattle.wt_lex.specs.Names.{folded, spelled, word_by, is_word, keyword}
use Rattle.wt_lex.specs.Words.{spelling}
use Rattle.wt_lex.proofs.Reserving.{keyword_is}
use Rattle.wt_reading.specs.declared.lexeme.Kind.{Kind}
use Rattle.wt_reading.specs.declared.lexeme.Kind.TheVariants.{Key, Name, Mark}
use Rattle.wt_reading.specs.declared.lexeme.Lexeme.{Lexeme}
use Rattle.wt_reading.specs.Lexemes.{Tokens, lexeme, kind, kind_by, word_kind, at, is_open, is_close, is_comma, is_semi, is_name}
use Rattle.wt_reading.specs.Sentences.{Is}
use Rattle.wt_ddl.specs.Fronts.{at_word, at_some_word, is_word_kind}
use Rattle.wt_ddl.specs.Grammar as grammar

-- two words are not the same, whatever the case of their letters
abbrev pub Differ : List ℕ → List ℕ → Type 0
Differ w v = bytes_eq (folded w) (folded v) ≡ false

-- each token has the kind that it has in the text
abbrev pub Real : List ℕ → Tokens → Type 0
Real bytes [] = Unit {0}
Real bytes (t ∷ ts) = (t.kind ≡ kind_by t.token.kind (keyword bytes t.token)) × Real bytes ts

pub real_text : (bytes : List ℕ) (us : List Token) → Real bytes (map (lexeme bytes) us)
unfolding lexeme
real_text bytes [] = tt
real_text bytes (t ∷ us) = (refl, real_text bytes us)

pub real_behind : (bytes : List ℕ) (a b : Tokens) → Real bytes (a ++ b) → Real bytes b
real_behind bytes [] b h = h
real_behind bytes (t ∷ a) b h = real_behind bytes a b h.1

-- ---- one token

word_only : (k : TokenKind) (s w v : List ℕ) → Differ w v → word_by k s w ≡ true → word_by k s v ≡ false
word_only kinds.Word s w v d h = let e : folded s ≡ folded w = (bytes_eq-Decides (folded s) (folded w)).0 h in ap (λ l. bytes_eq l (folded v)) e ∙ d
word_only kinds.Quoted s w v d h = refl
word_only (kinds.Number n) s w v d h = refl
word_only kinds.Text s w v d h = refl
word_only (kinds.Symbol x) s w v d h = refl
word_only (kinds.Odd f) s w v d h = refl

word_is : (k : TokenKind) (s w : List ℕ) → word_by k s w ≡ true → k ≡ kinds.Word
word_is kinds.Word s w h = refl
word_is kinds.Quoted s w h = absurd (cc)
word_is (kinds.Number n) s w h = absurd (cc)
word_is kinds.Text s w h = absurd (cc)
word_is (kinds.Symbol x) s w h = absurd (cc)
word_is (kinds.Odd f) s w h = absurd (cc)

no_word_by : (k : TokenKind) (s w : List ℕ) → is_word_kind k ≡ false → word_by k s w ≡ false
no_word_by kinds.Word s w h = absurd (cc)
no_word_by kinds.Quoted s w h = refl
no_word_by (kinds.Number n) s w h = refl
no_word_by kinds.Text s w h = refl
no_word_by (kinds.Symbol x) s w h = refl
no_word_by (kinds.Odd f) s w h = refl

-- the kind of a word is none of a symbol
abbrev IsSymbol : (Kind → Bool) → Type 0
IsSymbol test = (w : Option Word) → test (word_kind w) ≡ false

-- a symbol is no word
mark_no_word : (test : Kind → Bool) → IsSymbol test → test Name ≡ false → (k : TokenKind) (w : Option Word) → test (kind_by k w) ≡ true → is_word_kind k ≡ false
mark_no_word test none name kinds.Word w h = let e = none w in absurd cc
mark_no_word test none name kinds.Quoted w h = refl
mark_no_word test none name (kinds.Number n) w h = refl
mark_no_word test none name kinds.Text w h = refl
mark_no_word test none name (kinds.Symbol s) w h = refl
mark_no_word test none name (kinds.Odd f) w h = refl

pub open_symbol : IsSymbol is_open
open_symbol (Some w) = refl
open_symbol None = refl

pub close_symbol : IsSymbol is_close
close_symbol (Some w) = refl
close_symbol None = refl

pub comma_symbol : IsSymbol is_comma
comma_symbol (Some w) = refl
comma_symbol None = refl

pub semi_symbol : IsSymbol is_semi
semi_symbol (Some w) = refl
semi_symbol None = refl

comma_not_open : (k : Kind) → is_comma k ≡ true → is_open k ≡ false
comma_not_open (Mark symbols.Comma) h = refl
comma_not_open _ h = absurd cc

close_not_open : (k : Kind) → is_close k ≡ true → is_open k ≡ false
close_not_open (Mark symbols.Close) h = refl
close_not_open _ h = absurd cc

close_not_comma : (k : Kind) → is_close k ≡ true → is_comma k ≡ false
close_not_comma (Mark symbols.Close) h = refl
close_not_comma _ h = absurd cc

pub not_open_at_comma : (ts : Tokens) → at is_comma ts ≡ true → at is_open ts ≡ false
not_open_at_comma ts h = comma_not_open (kind ts) h

pub not_open_at_close : (ts : Tokens) → at is_close ts ≡ true → at is_open ts ≡ false
not_open_at_close ts h = close_not_open (kind ts) h

pub no_comma_at_close : (ts : Tokens) → at is_close ts ≡ true → at is_comma ts ≡ false
no_comma_at_close ts h = close_not_comma (kind ts) h

module _ (bytes : List ℕ) where
  pub other_word : (w v : List ℕ) (ts : Tokens) → Differ w v → at_word bytes w ts ≡ true → at_word bytes v ts ≡ false
  other_word w v [] d h = refl
  other_word w v (t ∷ ts) d h = word_only t.token.kind (spelled bytes t.token) w v d h

  -- a word is a bare word, and no symbol
  pub some_word_at : (w : List ℕ) (ts : Tokens) → at_word bytes w ts ≡ true → at_some_word ts ≡ true
  some_word_at w [] h = absurd (cc)
  some_word_at w (t ∷ ts) h = ap is_word_kind (word_is t.token.kind (spelled bytes t.token) w h)

  pub no_symbol_at : (test : Kind → Bool) → IsSymbol test → (w : List ℕ) (ts : Tokens) → Real bytes ts → at_word bytes w ts ≡ true → at test ts ≡ false
  no_symbol_at test none w [] real h = absurd (cc)
  no_symbol_at test none w (t ∷ ts) (e, real) h =
      ap test e ∙ ap (λ k. test (kind_by k (keyword bytes t.token))) (word_is t.token.kind (spelled bytes t.token) w h) ∙ none (keyword bytes t.token)

  -- a symbol is no word
  pub no_some_word_at : (test : Kind → Bool) → IsSymbol test → test Name ≡ false → (ts : Tokens) → Real bytes ts → at test ts ≡ true → at_some_word ts ≡ false
  no_some_word_at test none name [] real h = refl
  no_some_word_at test none name (t ∷ ts) (e, real) h = mark_no_word test none name t.token.kind (keyword bytes t.token) (sym (ap test e) ∙ h)

  -- where no word stands, this one does not
  pub no_word : (w : List ℕ) (ts : Tokens) → at_some_word ts ≡ false → at_word bytes w ts ≡ false
  no_word w [] h = refl
  no_word w (t ∷ ts) h = no_word_by t.token.kind (spelled bytes t.token) w h

  -- a name is no reserved word
  pub name_no_word : (w : Word) (t : Lexeme) → t.kind ≡ kind_by t.token.kind (keyword bytes t.token) → is_name t.kind ≡ true → is_word bytes t.token (spelling w) ≡ false
  name_no_word w t e h = by (is_word bytes t.token (spelling w)) refl
    where
      key : is_word bytes t.token (spelling w) ≡ true → t.kind ≡ Key w
      key f = e ∙ (λ i. kind_by (word_is t.token.kind (spelled bytes t.token) (spelling w) f i) (keyword_is bytes t.token w f i))

      by : (b : Bool) → is_word bytes t.token (spelling w) ≡ b → b ≡ false
      by false f = refl
      by true f = let g : is_name (Key w) ≡ true = ap is_name (sym (key f)) ∙ h in absurd cc

  -- ---- what stands in front

  pub word_at : (w : List ℕ) (a rest : Tokens) → grammar.Word bytes w a → at_word bytes w (a ++ rest) ≡ true
  word_at w a rest (t, e, h) = subst (λ l. at_word bytes w (l ++ rest) ≡ true) (sym e) h

  pub name_not : (w : Word) (a rest : Tokens) (n : _) → grammar.Name bytes n a → Real bytes (a ++ rest) → at_word bytes (spelling w) (a ++ rest) ≡ false
  name_not w a rest n (t, e, (h, is)) real =
      subst (λ l. at_word bytes (spelling w) (l ++ rest) ≡ false) (sym e) (name_no_word w t (subst (λ l. Real bytes (l ++ rest)) e real).0 h)

pub sign_at : (test : Kind → Bool) (a rest : Tokens) → Is test a → at test (a ++ rest) ≡ true
sign_at test a rest (t, e, h) = subst (λ l. at test (l ++ rest) ≡ true) (sym e) h
