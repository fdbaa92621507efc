-- The tokens of bits, as a grammar sees them.
use Rattle.std.proofs.Common.{◌≡◌, ℕ, ◌+◌, Bool, true, false, List, [], ◌∷◌, ◌++◌, length, refl, ap, sym, ◌∙◌, subst, append_assoc, length-append}
use Rattle.std.specs.Prelude.{map, if◌then◌else◌, decimal, codes}
use Rattle.std.proofs.lemmas.Slice.Eq.{bytes_eq-Decides}
use Rattle.wt_lex.specs.declared.token.Sym.{Sym}
use Rattle.wt_lex.specs.declared.token.Token.{Token}
use Rattle.wt_lex.specs.declared.token.TokenKind.TheVariants as kinds
use Rattle.wt_lex.specs.declared.words.Word.{Word}
use Rattle.wt_lex.specs.Names.{keyword, is_word, spelled, folded, name_bytes, text_bytes}
use Rattle.wt_lex.specs.Spelling.{Piece, item, written, quoted, symbol_written, token, made, tokens_at, FallsInto}
use Rattle.wt_lex.specs.Words.{spelling, is_bare}
use Rattle.wt_lex.proofs.Returning.{spelled_at, quoted_name, quoted_text, bare_name, bare_free}
use Rattle.wt_lex.proofs.Reserving.{keyword_is, lower}
use Rattle.wt_reading.specs.declared.lexeme.Kind.TheVariants.{Key, Name, Number, Text, Mark}
use Rattle.wt_reading.specs.declared.lexeme.Lexeme.{Lexeme}
use Rattle.wt_reading.specs.Lexemes.{Tokens, lexeme, word_kind}
use Rattle.wt_reading.specs.Sentences.{Seq}
use Rattle.wt_grammar.specs.Reading.{name_at, text_at}
use Rattle.wt_spelling.specs.Spelling.{name_text}
use Rattle.wt_spelling.proofs.Bits.{Bit, a_blank, a_word, a_sign, a_name, a_number, a_text, capitals, bit_text, piece_of}
use Rattle.wt_spelling.proofs.Standing.{Cuts, is_key}

module _ (bytes : List ℕ) where
  -- a token is a bit that is no blank
  abbrev pub Shown : Bit → Lexeme → Type 0
  Shown a_blank t = ⊥
  Shown (a_word w) t = t.kind ≡ Key w
  Shown (a_sign s) t = t.kind ≡ Mark s
  Shown (a_name n) t = (t.kind ≡ Name) × (n ≡ name_at bytes (t ∷ []))
  Shown (a_number n) t = t.kind ≡ Number n
  Shown (a_text x) t = (t.kind ≡ Text) × (x ≡ text_at bytes (t ∷ []))

  abbrev pub Front : Bit → (Tokens → Type 0) → Tokens → Type 0
  Front a_blank P ts = P ts
  Front b P ts = (t : Lexeme) × (r : Tokens) × (ts ≡ t ∷ r) × Shown b t × P r

  -- the tokens are the bits that are no blanks
  abbrev pub Shows : List Bit → Tokens → Type 0
  Shows [] ts = ts ≡ []
  Shows (b ∷ bs) ts = Front b (Shows bs) ts

  split_front : (b : Bit) (P Q R : Tokens → Type 0) → ((r : Tokens) → P r → Seq Q R r) → (ts : Tokens) → Front b P ts → Seq (Front b Q) R ts
  split_front a_blank P Q R f ts h = f ts h
  split_front _ P Q R f ts (t, r, e, s, p) = let (x, y, g, q, k) = f r p in (t ∷ x, y, e ∙ ap (λ l. t ∷ l) g, (t, x, refl, s, q), k)

  pub split : (a b : List Bit) (ts : Tokens) → Shows (a ++ b) ts → Seq (Shows a) (Shows b) ts
  split [] b ts h = ([], ts, refl, refl, h)
  split (x ∷ a) b ts h = split_front x (Shows (a ++ b)) (Shows a) (Shows b) (split a b) ts h

  -- ---- what stands in the bytes

  key_shown : (before rest : List ℕ) (w : Word) → bytes ≡ before ++ (capitals w ++ rest) → (lexeme bytes (token kinds.Word (length before) (length (capitals w)))).kind ≡ Key w
  unfolding lexeme
  key_shown before rest w e =
      let t = token kinds.Word (length before) (length (capitals w)) in
      let (_, _, _, _, _, low) = is_key w in
      let as_written : spelled bytes t ≡ capitals w = ap (λ (z : List ℕ). spelled z t) e ∙ spelled_at before (capitals w) rest kinds.Word in
      let same : folded (spelled bytes t) ≡ folded (spelling w) = ap folded as_written ∙ low ∙ sym (lower w) in
      let is : is_word bytes t (spelling w) ≡ true = (bytes_eq-Decides (folded (spelled bytes t)) (folded (spelling w))).1 same in
      ap word_kind (keyword_is bytes t w is)

  abbrev name_token : List ℕ → List ℕ → Lexeme
  name_token before n = lexeme bytes (if is_bare n then token kinds.Word (length before) (length n) else token kinds.Quoted (length before) (length (quoted 34 n)))

  name_shown : (before rest n : List ℕ) → bytes ≡ before ++ (name_text n ++ rest) → Shown (a_name n) (name_token before n)
  unfolding lexeme name_at
  name_shown before rest n e = by (is_bare n) refl e
    where
      by : (t : Bool) → is_bare n ≡ t → bytes ≡ before ++ ((if t then n else quoted 34 n) ++ rest)
          → Shown (a_name n) (lexeme bytes (if t then token kinds.Word (length before) (length n) else token kinds.Quoted (length before) (length (quoted 34 n))))
      by true b e = (
        ap word_kind (ap (λ (z : List ℕ). keyword z (token kinds.Word (length before) (length n))) e ∙ bare_free before n rest b),
        sym (ap (λ (z : List ℕ). name_bytes z (token kinds.Word (length before) (length n))) e ∙ bare_name before n rest b),
      )
      by false b e = (refl, sym (ap (λ (z : List ℕ). name_bytes z (token kinds.Quoted (length before) (length (quoted 34 n)))) e ∙ quoted_name before n rest))

  text_shown : (before rest x : List ℕ) → bytes ≡ before ++ (quoted 39 x ++ rest) → Shown (a_text x) (lexeme bytes (token kinds.Text (length before) (length (quoted 39 x))))
  unfolding lexeme text_at
  text_shown before rest x e = (refl, sym (ap (λ (z : List ℕ). text_bytes z (token kinds.Text (length before) (length (quoted 39 x)))) e ∙ quoted_text before x rest))

  sign_shown : (at : ℕ) (s : Sym) → Shown (a_sign s) (lexeme bytes (token (kinds.Symbol s) at (length (symbol_written s))))
  unfolding lexeme
  sign_shown at s = refl

  number_shown : (at n : ℕ) → Shown (a_number n) (lexeme bytes (token (kinds.Number n) at (length (decimal n))))
  unfolding lexeme
  number_shown at n = refl

  -- ---- all of them

  name_written : (n : List ℕ) → written (piece_of (a_name n)) ≡ name_text n
  name_written n = by (is_bare n)
    where
      by : (t : Bool) → written (if t then item kinds.Word n else item kinds.Quoted (quoted 34 n)) ≡ (if t then n else quoted 34 n)
      by true = refl
      by false = refl

  further : (before w : List ℕ) (ps : List Piece) → tokens_at (length before + length w) ps ≡ tokens_at (length (before ++ w)) ps
  further before w ps = ap (λ n. tokens_at n ps) (sym (length-append before w))

  next : (before w rest : List ℕ) → before ++ (w ++ rest) ≡ (before ++ w) ++ rest
  next before w rest = sym (append_assoc before w rest)

  shift : (bs : List Bit) (before w : List ℕ) → Shows bs (map (lexeme bytes) (tokens_at (length (before ++ w)) (map piece_of bs)))
      → Shows bs (map (lexeme bytes) (tokens_at (length before + length w) (map piece_of bs)))
  shift bs before w h = subst (λ (ts : List Token). Shows bs (map (lexeme bytes) ts)) (sym (further before w (map piece_of bs))) h

  -- bits that are what the bytes have from a place on are shown by the tokens there
  pub cuts_show : (bs : List Bit) (before left text : List ℕ) → bytes ≡ before ++ text → Cuts bs left text → Shows bs (map (lexeme bytes) (tokens_at (length before) (map piece_of bs)))
  cuts_show [] before left text e h = refl
  cuts_show (a_blank ∷ bs) before left text e (rest, g, s, c) = shift bs before (codes " ") (cuts_show bs (before ++ codes " ") left rest (e ∙ ap (λ z. before ++ z) g ∙ next before (codes " ") rest) c)
  cuts_show (a_word w ∷ bs) before left text e (rest, g, s, c) =
      let at = e ∙ ap (λ z. before ++ z) g in
      (_, _, refl, key_shown before rest w at, shift bs before (bit_text (a_word w)) (cuts_show bs (before ++ bit_text (a_word w)) left rest (at ∙ next before (bit_text (a_word w)) rest) c))
  cuts_show (a_sign x ∷ bs) before left text e (rest, g, s, c) =
      let at = e ∙ ap (λ z. before ++ z) g in
      (_, _, refl, sign_shown (length before) x, shift bs before (bit_text (a_sign x)) (cuts_show bs (before ++ bit_text (a_sign x)) left rest (at ∙ next before (bit_text (a_sign x)) rest) c))
  cuts_show (a_number n ∷ bs) before left text e (rest, g, s, c) =
      let at = e ∙ ap (λ z. before ++ z) g in
      (_, _, refl, number_shown (length before) n, shift bs before (bit_text (a_number n)) (cuts_show bs (before ++ bit_text (a_number n)) left rest (at ∙ next before (bit_text (a_number n)) rest) c))
  cuts_show (a_text x ∷ bs) before left text e (rest, g, s, c) =
      let at = e ∙ ap (λ z. before ++ z) g in
      (_, _, refl, text_shown before rest x at, shift bs before (bit_text (a_text x)) (cuts_show bs (before ++ bit_text (a_text x)) left rest (at ∙ next before (bit_text (a_text x)) rest) c))
  cuts_show (a_name n ∷ bs) before left text e (rest, g, s, c) =
      let at = e ∙ ap (λ z. before ++ z) g in
      by (is_bare n) (name_shown before rest n at) (shift bs before (name_text n) (cuts_show bs (before ++ name_text n) left rest (at ∙ next before (name_text n) rest) c))
    where
      by : (t : Bool) → Shown (a_name n) (lexeme bytes (if t then token kinds.Word (length before) (length n) else token kinds.Quoted (length before) (length (quoted 34 n))))
          → Shows bs (map (lexeme bytes) (tokens_at (length before + length (if t then n else quoted 34 n)) (map piece_of bs)))
          → Shows (a_name n ∷ bs) (map (lexeme bytes) (made (length before) (if t then item kinds.Word n else item kinds.Quoted (quoted 34 n))
          ++ tokens_at (length before + length (written (if t then item kinds.Word n else item kinds.Quoted (quoted 34 n)))) (map piece_of bs)))
      by true shown others = (_, _, refl, shown, others)
      by false shown others = (_, _, refl, shown, others)

pub cuts_bit : (b : Bit) → written (piece_of b) ≡ bit_text b
cuts_bit (a_name n) = name_written [] n
cuts_bit _ = refl

-- such bits are what a text falls into
pub cuts_fall : (bs : List Bit) (left text : List ℕ) → Cuts bs left text → FallsInto (map piece_of bs) left text
cuts_fall [] left text e = e
cuts_fall (b ∷ bs) left text (rest, e, s, c) = (rest, e ∙ ap (λ w. w ++ rest) (sym (cuts_bit b)), s.1, cuts_fall bs left rest c)
