-- A Word and a Quoted of a text stand for names that are UTF-8 and not empty, and a Text for content that is UTF-8.
use Rattle.std.proofs.Common.{◌≡◌, ℕ, ◌+◌, ◌-◌, ◌/◌, ◌%◌, ◌<◌, ◌≤◌, Bool, true, false, List, [], ◌∷◌, ◌++◌, length, drop, refl, ap, ◌∙◌, subst, arith, length-drop}
use Rattle.std.specs.Prelude.{if◌then◌else◌, ◌==◌, ◌&&◌, not, nat_lt}
use Rattle.std.specs.Char.{is_ascii_uppercase, to_ascii_lowercase}
use Rattle.std.specs.List.{list_all}
use Rattle.std.specs.Str.{IsUtf8}
use lib.Utf8.{encode, encodes, scalars, scalar}
use Rattle.std.proofs.lemmas.Bool.Decides.{nat_tests}
use Rattle.std.proofs.lemmas.Str.{IsUtf8-append, IsUtf8-nil, IsUtf8-between, IsUtf8-from_ascii, IsUtf8-encode, IsCharBoundary-before_ascii, IsCharBoundary-after_ascii, encode_ascii}
use Rattle.std.proofs.lemmas.Str.Ascii.{IsAscii-cons, IsAscii-nil, IsAscii-map, lowercase_ascii}
use Rattle.std.proofs.lemmas.List.{length-take, length-map}
use Rattle.wt_lex.specs.declared.token.TokenKind.{TokenKind}
use Rattle.wt_lex.specs.declared.token.TokenKind.TheVariants as kinds
use Rattle.wt_lex.specs.declared.token.Token.{Token}
use Rattle.wt_lex.specs.Names.{undoubled, piece, spelled, inside, folded, name_bytes, name_by, text_bytes, text_by}
use Rattle.wt_lex.specs.Stored.{IsBetween, IsAsciiWord, StandsBy, StandsIn}

-- a name is UTF-8 and not empty
abbrev pub IsName : List ℕ → Type 0
IsName name = IsUtf8 name × (0 < length name)

-- the kinds of tokens that stand for names
abbrev pub IsNamed : TokenKind → Type 0
IsNamed kinds.Word = Unit {0}
IsNamed kinds.Quoted = Unit {0}
IsNamed _ = ⊥

-- ---- quotes that are left out

abbrev AllHigh : List ℕ → Type 0
AllHigh [] = Unit {0}
AllHigh (b ∷ z) = (128 ≤ b) × AllHigh z

encode_high : (c : ℕ) → 128 ≤ c → AllHigh (encode c) × (0 < length (encode c))
unfolding encode
encode_high c h =
    let low : nat_lt c 128 ≡ false = grind (arith, nat_tests) in
    rw low (by (nat_lt c 2048) (nat_lt c 65536))
  where
    by : (s t : Bool) → AllHigh (if s then (192 + c / 64) ∷ (128 + c % 64) ∷ [] else (if t then (224 + c / 4096) ∷ (128 + (c / 64) % 64) ∷ (128 + c % 64) ∷ [] else (240 + c / 262144) ∷ (128 + (c / 4096) % 64) ∷ (128 + (c / 64) % 64) ∷ (128 + c % 64) ∷ [])) × (0 < length (if s then (192 + c / 64) ∷ (128 + c % 64) ∷ [] else (if t then (224 + c / 4096) ∷ (128 + (c / 64) % 64) ∷ (128 + c % 64) ∷ [] else (240 + c / 262144) ∷ (128 + (c / 4096) % 64) ∷ (128 + (c / 64) % 64) ∷ (128 + c % 64) ∷ [])))
    by true t = ((omega arith, (omega arith, tt)), omega arith)
    by false true = ((omega arith, (omega arith, (omega arith, tt))), omega arith)
    by false false = ((omega arith, (omega arith, (omega arith, (omega arith, tt)))), omega arith)

-- bytes past ASCII stay, and none of them is a quote
undoubled-high : (q : ℕ) (xs rest : List ℕ) → q < 128 → AllHigh xs → undoubled q false (xs ++ rest) ≡ xs ++ undoubled q false rest
undoubled-high q [] rest h high = refl
undoubled-high q (b ∷ z) rest h high =
    let other : (b == q) ≡ false = grind (arith, nat_tests, high.0) in
    ap (λ t. b ∷ undoubled q t (z ++ rest)) other ∙ ap (λ l. b ∷ l) (undoubled-high q z rest h high.1)

undoubled-high_first : (q : ℕ) (s : Bool) (xs rest : List ℕ) → q < 128 → AllHigh xs → 0 < length xs → undoubled q s (xs ++ rest) ≡ xs ++ undoubled q false rest
undoubled-high_first q s [] rest h high some = absurd (omega arith)
undoubled-high_first q false (b ∷ z) rest h high some = undoubled-high q (b ∷ z) rest h high
undoubled-high_first q true (b ∷ z) rest h high some =
    let other : (b == q) ≡ false = grind (arith, nat_tests, high.0) in
    ap (λ t. if t then undoubled q false (z ++ rest) else b ∷ undoubled q false (z ++ rest)) other ∙ ap (λ l. b ∷ l) (undoubled-high q z rest h high.1)

and_both : (s t : Bool) → (s && t) ≡ true → (s ≡ true) × (t ≡ true)
and_both true t e = (refl, e)
and_both false t e = (e, absurd (cc))

lower_stays : (b : ℕ) → not (is_ascii_uppercase b) ≡ true → to_ascii_lowercase b ≡ b
lower_stays b h = grind (arith, nat_tests)

-- a word without upper-case letters is in lower case
pub folded_lower : (w : List ℕ) → list_all (λ b. not (is_ascii_uppercase b)) w ≡ true → folded w ≡ w
folded_lower [] h = refl
folded_lower (b ∷ w) h =
    let (one, others) = and_both (not (is_ascii_uppercase b)) (list_all (λ b. not (is_ascii_uppercase b)) w) h in
    (λ i. lower_stays b one i ∷ folded_lower w others i)

ascii_then : (b : ℕ) (z : List ℕ) → b < 128 → IsUtf8 z → IsUtf8 (b ∷ z)
ascii_then b z low h = IsUtf8-append (b ∷ []) z (IsUtf8-from_ascii (b ∷ []) (IsAscii-cons b [] low IsAscii-nil)) h

undoubled_encodes : (q : ℕ) (s : Bool) (cs : List ℕ) → q < 128 → scalars cs ≡ true → IsUtf8 (undoubled q s (encodes cs))
undoubled_encodes q s [] h all = IsUtf8-nil
undoubled_encodes q s (c ∷ cs) h all =
    let both = and_both (scalar c) (scalars cs) all in
    by (λ t. undoubled_encodes q t cs h both.1) both.0 (nat_lt c 128) refl
  where
    ascii : ((t : Bool) → IsUtf8 (undoubled q t (encodes cs))) → c < 128 → (s t : Bool) → (c == q) ≡ t → IsUtf8 (undoubled q s (c ∷ encodes cs))
    ascii ih low false t e = ascii_then c (undoubled q (c == q) (encodes cs)) low (ih (c == q))
    ascii ih low true true e = rw e (ih false)
    ascii ih low true false e = rw e (ascii_then c (undoubled q false (encodes cs)) low (ih false))

    by : ((t : Bool) → IsUtf8 (undoubled q t (encodes cs))) → scalar c ≡ true → (t : Bool) → nat_lt c 128 ≡ t → IsUtf8 (undoubled q s (encode c ++ encodes cs))
    by ih one true e =
        let low : c < 128 = grind (arith, nat_tests) in
        rw (encode_ascii c low) (ascii ih low s (c == q) refl)
    by ih one false e =
        let high : 128 ≤ c = grind (arith, nat_tests) in
        rw (undoubled-high_first q s (encode c) (encodes cs) h (encode_high c high).0 (encode_high c high).1)
        (IsUtf8-append (encode c) (undoubled q false (encodes cs)) (IsUtf8-encode c one) (ih false))

pub undoubled_utf8 : (q : ℕ) (z : List ℕ) → q < 128 → IsUtf8 z → IsUtf8 (undoubled q false z)
undoubled_utf8 q z h u = subst (λ (y : List ℕ). IsUtf8 (undoubled q false y)) u.1.1 (undoubled_encodes q false u.0 h u.1.0)

undoubled_some : (q : ℕ) (z : List ℕ) → 0 < length z → 0 < length (undoubled q false z)
undoubled_some q [] h = absurd (omega arith)
undoubled_some q (b ∷ z) h = omega arith

-- ---- what a token stands for

within_quotes : (q least : ℕ) (bytes : List ℕ) (t : Token) → q < 128 → 2 ≤ least → IsUtf8 bytes → IsBetween q least bytes t → IsUtf8 (inside bytes t)
within_quotes q least bytes t low two u h =
    IsUtf8-between bytes (t.start + 1) (t.end - 1) u (omega arith)
    (IsCharBoundary-after_ascii bytes t.start u (omega arith) (omega (arith, h.2)))
    (IsCharBoundary-before_ascii bytes (t.end - 1) (omega arith) (omega (arith, h.3)))

length-piece : (bytes : List ℕ) (from to : ℕ) → from ≤ to → to ≤ length bytes → length (piece bytes from to) ≡ to - from
length-piece bytes from to h l = omega (arith, length-take (to - from) (drop from bytes), length-drop from bytes)

pub name_of_word : (bytes : List ℕ) (t : Token) → IsAsciiWord bytes t → IsName (folded (spelled bytes t))
name_of_word bytes t h = (
  IsUtf8-from_ascii (folded (spelled bytes t)) (IsAscii-map to_ascii_lowercase (spelled bytes t) lowercase_ascii h.2),
  omega (arith, length-map (spelled bytes t) to_ascii_lowercase, length-piece bytes t.start t.end (omega arith) h.1),
)

pub name_of_quoted : (bytes : List ℕ) (t : Token) → IsUtf8 bytes → IsBetween 34 3 bytes t → IsName (undoubled 34 false (inside bytes t))
name_of_quoted bytes t u h = (
  undoubled_utf8 34 (inside bytes t) (omega arith) (within_quotes 34 3 bytes t (omega arith) (omega arith) u h),
  undoubled_some 34 (inside bytes t) (omega (arith, length-piece bytes (t.start + 1) (t.end - 1) (omega (arith, h.0)) (omega (arith, h.1)))),
)

-- a token that stands in a UTF-8 text, of these kinds, stands for a name
pub name_stands : (bytes : List ℕ) (t : Token) → IsUtf8 bytes → StandsIn bytes t → IsNamed t.kind → IsName (name_bytes bytes t)
name_stands bytes t u h named = by t.kind h named
  where
    by : (k : TokenKind) → StandsBy k bytes t → IsNamed k → IsName (name_by k (spelled bytes t) (inside bytes t))
    by kinds.Word s n = name_of_word bytes t s
    by kinds.Quoted s n = name_of_quoted bytes t u s
    by (kinds.Number m) s n = absurd n
    by kinds.Text s n = absurd n
    by (kinds.Symbol x) s n = absurd n
    by (kinds.Odd f) s n = absurd n

pub text_stands : (bytes : List ℕ) (t : Token) → IsUtf8 bytes → StandsIn bytes t → IsUtf8 (text_bytes bytes t)
text_stands bytes t u h = by t.kind h
  where
    by : (k : TokenKind) → StandsBy k bytes t → IsUtf8 (text_by k (inside bytes t))
    by kinds.Word s = IsUtf8-nil
    by kinds.Quoted s = IsUtf8-nil
    by (kinds.Number m) s = IsUtf8-nil
    by kinds.Text s = undoubled_utf8 39 (inside bytes t) (omega arith) (within_quotes 39 2 bytes t (omega arith) (omega arith) u s)
    by (kinds.Symbol x) s = IsUtf8-nil
    by (kinds.Odd f) s = IsUtf8-nil
