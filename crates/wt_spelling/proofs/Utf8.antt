-- What bits are written as is UTF-8.
use Rattle.std.proofs.Common.{◌≡◌, ℕ, ◌+◌, ◌/◌, ◌%◌, ◌<◌, ◌≤◌, Bool, true, false, List, [], ◌∷◌, ◌++◌, refl, ap, sym, ◌∙◌, subst, arith, codes}
use Rattle.std.specs.Prelude.{if◌then◌else◌, ◌==◌, ◌&&◌, nat_lt, decimal}
use Rattle.std.specs.Str.{IsUtf8}
use lib.Utf8.{encode, encodes, scalars, scalar}
use Rattle.std.proofs.lemmas.Bool.Decides.{nat_tests}
use Rattle.std.proofs.lemmas.Fmt.{IsAscii-decimal}
use Rattle.std.proofs.lemmas.Str.{IsUtf8-append, IsUtf8-nil, IsUtf8-from_ascii, IsUtf8-from_is_utf8, IsUtf8-encode, encode_ascii}
use Rattle.std.proofs.lemmas.Str.Ascii.{IsAscii-cons, IsAscii-nil}
use Rattle.wt_lex.specs.declared.token.Sym.{Sym}
use Rattle.wt_lex.specs.declared.token.Sym.TheVariants as sym
use Rattle.wt_lex.specs.declared.words.Word.{Word}
use Rattle.wt_lex.specs.Fronts.{begins_word}
use Rattle.wt_lex.specs.Spelling.{Are, goes_on_word, doubled, quoted, symbol_written}
use Rattle.wt_lex.specs.Words.{is_bare}
use Rattle.wt_lex.proofs.Splits.{are_parts, doubled_quote, doubled_other}
use Rattle.wt_spelling.specs.Spelling.{name_text}
use Rattle.wt_spelling.proofs.Bits.{Bit, a_blank, a_word, a_sign, a_name, a_number, a_text, capitals, bit_text}
use Rattle.wt_spelling.proofs.Standing.{IsPlain, Cuts, is_key}

-- ---- quotes that stand twice

ascii_then : (b : ℕ) (z : List ℕ) → b < 128 → IsUtf8 z → IsUtf8 (b ∷ z)
ascii_then b z low h = IsUtf8-append (b ∷ []) z (IsUtf8-from_ascii (b ∷ []) (IsAscii-cons b [] low IsAscii-nil)) h

abbrev AllHigh : List ℕ → Type 0
AllHigh [] = Unit {0}
AllHigh (b ∷ z) = (128 ≤ b) × AllHigh z

encode_high : (c : ℕ) → 128 ≤ c → AllHigh (encode c)
unfolding encode
encode_high c h =
    let low : nat_lt c 128 ≡ false = grind (arith, nat_tests) in
    rw low (by (nat_lt c 2048) (nat_lt c 65536))
  where
    by : (s t : Bool) → AllHigh (if s then (192 + c / 64) ∷ (128 + c % 64) ∷ [] else (if t then (224 + c / 4096) ∷ (128 + (c / 64) % 64) ∷ (128 + c % 64) ∷ [] else (240 + c / 262144) ∷ (128 + (c / 4096) % 64) ∷ (128 + (c / 64) % 64) ∷ (128 + c % 64) ∷ []))
    by true t = (omega arith, (omega arith, tt))
    by false true = (omega arith, (omega arith, (omega arith, tt)))
    by false false = (omega arith, (omega arith, (omega arith, (omega arith, tt))))

-- bytes past ASCII stay, and none of them is a quote
doubled-high : (q : ℕ) (xs rest : List ℕ) → q < 128 → AllHigh xs → doubled q (xs ++ rest) ≡ xs ++ doubled q rest
doubled-high q [] rest h high = refl
doubled-high q (b ∷ z) rest h high =
    let other : (b == q) ≡ false = grind (arith, nat_tests, high.0) in
    doubled_other q b (z ++ rest) other ∙ ap (λ l. b ∷ l) (doubled-high q z rest h high.1)

and_both : (s t : Bool) → (s && t) ≡ true → (s ≡ true) × (t ≡ true)
and_both true t e = (refl, e)
and_both false t e = absurd cc

doubled_encodes : (q : ℕ) (cs : List ℕ) → q < 128 → scalars cs ≡ true → IsUtf8 (doubled q (encodes cs))
doubled_encodes q [] h all = IsUtf8-nil
doubled_encodes q (c ∷ cs) h all =
    let both = and_both (scalar c) (scalars cs) all in
    by (doubled_encodes q cs h both.1) both.0 (nat_lt c 128) refl
  where
    ascii : IsUtf8 (doubled q (encodes cs)) → c < 128 → (t : Bool) → (c == q) ≡ t → IsUtf8 (doubled q (c ∷ encodes cs))
    ascii ih low true e = subst (λ (z : List ℕ). IsUtf8 z) (sym (doubled_quote q c (encodes cs) e)) (ascii_then c (c ∷ doubled q (encodes cs)) low (ascii_then c (doubled q (encodes cs)) low ih))
    ascii ih low false e = subst (λ (z : List ℕ). IsUtf8 z) (sym (doubled_other q c (encodes cs) e)) (ascii_then c (doubled q (encodes cs)) low ih)

    by : IsUtf8 (doubled q (encodes cs)) → scalar c ≡ true → (t : Bool) → nat_lt c 128 ≡ t → IsUtf8 (doubled q (encode c ++ encodes cs))
    by ih one true e =
        let low : c < 128 = grind (arith, nat_tests) in
        rw (encode_ascii c low) (ascii ih low (c == q) refl)
    by ih one false e =
        let high : 128 ≤ c = grind (arith, nat_tests) in
        rw (doubled-high q (encode c) (encodes cs) h (encode_high c high))
        (IsUtf8-append (encode c) (doubled q (encodes cs)) (IsUtf8-encode c one) ih)

quoted_utf8 : (q : ℕ) (bs : List ℕ) → q < 128 → IsUtf8 bs → IsUtf8 (quoted q bs)
quoted_utf8 q bs h u =
    let inner : IsUtf8 (doubled q bs) = subst (λ (y : List ℕ). IsUtf8 (doubled q y)) u.1.1 (doubled_encodes q u.0 h u.1.0) in
    ascii_then q (doubled q bs ++ q ∷ []) h (IsUtf8-append (doubled q bs) (q ∷ []) inner (ascii_then q [] h IsUtf8-nil))

-- ---- bits

word_byte : (b : ℕ) → goes_on_word b ≡ true → b < 128
word_byte b h = grind (arith, nat_tests)

begins_byte : (b : ℕ) → begins_word b ≡ true → b < 128
begins_byte b h = grind (arith, nat_tests)

word_bytes : (w : List ℕ) → Are goes_on_word w → IsUtf8 w
word_bytes [] h = IsUtf8-nil
word_bytes (b ∷ w) h = let (one, others) = are_parts goes_on_word b w h in ascii_then b w (word_byte b one) (word_bytes w others)

capitals_utf8 : (w : Word) → IsUtf8 (capitals w)
capitals_utf8 w =
    let (b, c, e, begins, are, _) = is_key w in
    subst (λ (z : List ℕ). IsUtf8 z) (sym e) (ascii_then b c (begins_byte b begins) (word_bytes c are))

pub low_utf8 : (w : List ℕ) → Are (λ b. nat_lt b 128) w → IsUtf8 w
low_utf8 [] h = IsUtf8-nil
low_utf8 (b ∷ w) h = let (one, others) = are_parts (λ b. nat_lt b 128) b w h in ascii_then b w (low b one) (low_utf8 w others)
  where
    low : (b : ℕ) → nat_lt b 128 ≡ true → b < 128
    low b h = grind (arith, nat_tests)

sign_low : (s : Sym) → Are (λ b. nat_lt b 128) (symbol_written s)
sign_low sym.Open = refl
sign_low _ = refl

name_utf8 : (n : List ℕ) → IsUtf8 n → IsUtf8 (name_text n)
name_utf8 n u = by (is_bare n)
  where
    by : (t : Bool) → IsUtf8 (if t then n else quoted 34 n)
    by true = u
    by false = quoted_utf8 34 n (omega arith) u

bit_utf8 : (b : Bit) → IsPlain b → IsUtf8 (bit_text b)
bit_utf8 a_blank h = low_utf8 (codes " ") refl
bit_utf8 (a_word w) h = capitals_utf8 w
bit_utf8 (a_sign s) h = low_utf8 (symbol_written s) (sign_low s)
bit_utf8 (a_name n) h = name_utf8 n (IsUtf8-from_is_utf8 n h.0)
bit_utf8 (a_number n) h = IsUtf8-from_ascii (decimal n) (IsAscii-decimal n (omega arith))
bit_utf8 (a_text t) h = quoted_utf8 39 t (omega arith) (IsUtf8-from_is_utf8 t h)

pub cuts_utf8 : (bs : List Bit) (left text : List ℕ) → IsUtf8 left → Cuts bs left text → IsUtf8 text
cuts_utf8 [] left text u e = subst (λ (z : List ℕ). IsUtf8 z) (sym e) u
cuts_utf8 (b ∷ bs) left text u (rest, e, s, c) =
    subst (λ (z : List ℕ). IsUtf8 z) (sym e) (IsUtf8-append (bit_text b) rest (bit_utf8 b s.0) (cuts_utf8 bs left rest u c))
