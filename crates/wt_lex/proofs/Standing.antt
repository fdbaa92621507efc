-- Each token of a text stands in it: words are ASCII, and quoted tokens have their quotes at their ends.
use Rattle.std.proofs.Common.{◌≡◌, ℕ, zero, suc, ◌+◌, ◌-◌, ◌<◌, ◌≤◌, Bool, true, false, ◌⊎◌, inl, inr, List, [], ◌∷◌, ◌++◌, length, take, drop, get_or, refl, ap, sym, ◌∙◌, subst, arith, length-drop, Some, None, Option, Result, Ok, Err}
use Rattle.std.specs.Prelude.{if◌then◌else◌, ◌==◌, ◌&&◌, nat_lt, slice_index}
use Rattle.std.specs.Char.{is_ascii_digit}
use Rattle.std.specs.List.{AllByRecursion, list_all, prefix_len}
use Rattle.std.specs.Str.{IsAscii}
use Rattle.std.proofs.lemmas.Bool.{cond_both}
use Rattle.std.proofs.lemmas.Bool.Decides.{nat_tests}
use Rattle.std.proofs.lemmas.List.{get_or-take, length-take, get_or-drop, drop-drop}
use Rattle.std.proofs.lemmas.List.Sums.{prefix_len-le-length, prefix_len_passes}
use Rattle.std.proofs.lemmas.Str.Ascii.{IsAscii-from_reads}
use Rattle.wt_lex.specs.declared.front.Class.TheVariants as class
use Rattle.wt_lex.specs.declared.front.Front.{Front}
use Rattle.wt_lex.specs.declared.front.Front.TheVariants.{Item, Spoiled}
use Rattle.wt_lex.specs.declared.token.LexFault.TheVariants as fault
use Rattle.wt_lex.specs.declared.token.Sym.{Sym}
use Rattle.wt_lex.specs.declared.token.TokenKind.{TokenKind}
use Rattle.wt_lex.specs.declared.token.TokenKind.TheVariants as kinds
use Rattle.wt_lex.specs.declared.token.Token.{Token}
use Rattle.wt_lex.specs.Fronts.{front, is_in, is_blank, begins_word, run, number_kind, value, past_most, spoils, digits_of, closing, comment_end, closed_name, closed_text, closed_comment, longest, long_symbol, short_symbol, len_of}
use Rattle.wt_lex.specs.Tokens.{token, made, is_closed, before, tokens_from}
use Rattle.wt_lex.specs.Stored.{IsBetween, IsAsciiWord, StandsIn, AllStandIn}

-- ---- a quoted token

-- it closes at once, where a quote stands before; or behind a quote further on
closing_at : (q : ℕ) (seen : Bool) (at n : ℕ) (z : List ℕ) → closing q seen at z ≡ Some n
    → ((seen ≡ true) × (n ≡ at)) ⊎ ((at < n) × (n ≤ at + length z) × (get_or z (n - at - 1) 0 ≡ q))
closing_at q false at n [] e = absurd (cc)
closing_at q true at n [] e = inl (refl, cc)
closing_at q false at n (b ∷ z) e = by (closing_at q (b == q) (at + 1) n z e)
  where
    by : (((b == q) ≡ true) × (n ≡ at + 1)) ⊎ ((at + 1 < n) × (n ≤ at + 1 + length z) × (get_or z (n - (at + 1) - 1) 0 ≡ q))
        → ((false ≡ true) × (n ≡ at)) ⊎ ((at < n) × (n ≤ at + length (b ∷ z)) × (get_or (b ∷ z) (n - at - 1) 0 ≡ q))
    by (inl h) =
        let zero_place : n - at - 1 ≡ 0 = omega arith in
        let same : b ≡ q = grind (arith, nat_tests, h.0) in
        inr (omega arith, omega arith, ap (λ k. get_or (b ∷ z) k 0) zero_place ∙ same)
    by (inr h) =
        let place : n - at - 1 ≡ suc (n - (at + 1) - 1) = omega arith in
        inr (omega arith, omega arith, ap (λ k. get_or (b ∷ z) k 0) place ∙ h.2)
closing_at q true at n (b ∷ z) e = by (closing_at q false (at + 1) n z) (b == q) refl
  where
    behind : (b ≡ q) → (((false ≡ true) × (n ≡ at + 1)) ⊎ ((at + 1 < n) × (n ≤ at + 1 + length z) × (get_or z (n - (at + 1) - 1) 0 ≡ q)))
        → ((true ≡ true) × (n ≡ at)) ⊎ ((at < n) × (n ≤ at + length (b ∷ z)) × (get_or (b ∷ z) (n - at - 1) 0 ≡ q))
    behind same (inl h) = absurd (cc)
    behind same (inr h) =
        let place : n - at - 1 ≡ suc (n - (at + 1) - 1) = omega arith in
        inr (omega arith, omega arith, ap (λ k. get_or (b ∷ z) k 0) place ∙ h.2)

    by : (closing q false (at + 1) z ≡ Some n → (((false ≡ true) × (n ≡ at + 1)) ⊎ ((at + 1 < n) × (n ≤ at + 1 + length z) × (get_or z (n - (at + 1) - 1) 0 ≡ q))))
        → (t : Bool) → (b == q) ≡ t → ((true ≡ true) × (n ≡ at)) ⊎ ((at < n) × (n ≤ at + length (b ∷ z)) × (get_or (b ∷ z) (n - at - 1) 0 ≡ q))
    by further true s =
        let same : b ≡ q = grind (arith, nat_tests) in
        behind same (further (ap (λ t. if t then closing q false (at + 1) z else Some at) (sym s) ∙ e))
    by further false s =
        let now : Some at ≡ Some n = ap (λ t. if t then closing q false (at + 1) z else Some at) (sym s) ∙ e in
        inl (refl, cc)

pub closes : (q n : ℕ) (z : List ℕ) → closing q false 1 (drop 1 z) ≡ Some n → 0 < length z → (2 ≤ n) × (n ≤ length z) × (get_or z (n - 1) 0 ≡ q)
closes q n [] e some = absurd (omega arith)
closes q n (b ∷ z) e some = by (closing_at q false 1 n z e)
  where
    by : ((false ≡ true) × (n ≡ 1)) ⊎ ((1 < n) × (n ≤ 1 + length z) × (get_or z (n - 1 - 1) 0 ≡ q)) → (2 ≤ n) × (n ≤ length (b ∷ z)) × (get_or (b ∷ z) (n - 1) 0 ≡ q)
    by (inl h) = absurd (cc)
    by (inr h) =
        let place : n - 1 ≡ suc (n - 1 - 1) = omega arith in
        (omega arith, omega arith, ap (λ k. get_or (b ∷ z) k 0) place ∙ h.2)

abbrev Front_stands : List ℕ → ℕ → Front → Type 0
Front_stands bytes at f = AllStandIn bytes (made at f)

within : (bytes : List ℕ) (at n : ℕ) → n ≤ length (drop at bytes) → 1 ≤ n → at + n ≤ length bytes
within bytes at n h some = omega (arith, length-drop at bytes)

between : (q least : ℕ) (bytes : List ℕ) (at n : ℕ) (k : TokenKind) → (2 ≤ n) × (n ≤ length (drop at bytes)) × (get_or (drop at bytes) (n - 1) 0 ≡ q) → least ≤ n → get_or (drop at bytes) 0 0 ≡ q
    → IsBetween q least bytes (token k at n)
between q least bytes at n k h enough opens =
    let place : at + (n - 1) ≡ at + n - 1 = omega (arith, h.0) in
    let first : at + 0 ≡ at = omega arith in (
      omega arith,
      within bytes at n h.1 (omega (arith, h.0)),
      ap (λ i. get_or bytes i 0) (sym first) ∙ sym (get_or-drop at bytes 0 0) ∙ opens,
      ap (λ i. get_or bytes i 0) (sym place) ∙ sym (get_or-drop at bytes (n - 1) 0) ∙ h.2,
    )

name_stands_at : (bytes : List ℕ) (at : ℕ) (r : Option ℕ) → ((n : ℕ) → r ≡ Some n → (2 ≤ n) × (n ≤ length (drop at bytes)) × (get_or (drop at bytes) (n - 1) 0 ≡ 34)) → get_or (drop at bytes) 0 0 ≡ 34
    → Front_stands bytes at (closed_name r)
name_stands_at bytes at None h opens = tt
name_stands_at bytes at (Some n) h opens =
    cond_both (n == 2) (Item (kinds.Odd fault.BadCharacter) 2) (Item kinds.Quoted n) (Front_stands bytes at) (λ e. (tt, tt))
    (λ e. let enough : 3 ≤ n = grind (arith, nat_tests, (h n refl).0) in (between 34 3 bytes at n kinds.Quoted (h n refl) enough opens, tt))

text_stands_at : (bytes : List ℕ) (at : ℕ) (r : Option ℕ) → ((n : ℕ) → r ≡ Some n → (2 ≤ n) × (n ≤ length (drop at bytes)) × (get_or (drop at bytes) (n - 1) 0 ≡ 39)) → get_or (drop at bytes) 0 0 ≡ 39
    → Front_stands bytes at (closed_text r)
text_stands_at bytes at None h opens = tt
text_stands_at bytes at (Some n) h opens = (between 39 2 bytes at n kinds.Text (h n refl) (h n refl).0 opens, tt)

-- ---- a word

word_byte : (b : ℕ) → is_in class.Word b ≡ true → b < 128
word_byte b h = grind (arith, nat_tests)

begins_in : (b : ℕ) → begins_word b ≡ true → is_in class.Word b ≡ true
begins_in b h = grind (arith, nat_tests)

pub run_some : (z : List ℕ) → 0 < length z → begins_word (get_or z 0 0) ≡ true → 1 ≤ run class.Word z
run_some [] some h = absurd (omega arith)
run_some (b ∷ z) some h = rw (begins_in b h) (omega arith)

word_stands : (bytes : List ℕ) (at : ℕ) → 0 < length (drop at bytes) → begins_word (get_or (drop at bytes) 0 0) ≡ true
    → IsAsciiWord bytes (token kinds.Word at (run class.Word (drop at bytes)))
word_stands bytes at some begins =
    let n = run class.Word (drop at bytes) in
    let one : 1 ≤ n = run_some (drop at bytes) some begins in
    let size : n ≤ length (drop at bytes) = prefix_len-le-length (is_in class.Word) (drop at bytes) in
    let back : at + n - at ≡ n = omega arith in
    let all : IsAscii (take n (drop at bytes)) =
    IsAscii-from_reads (take n (drop at bytes)) n (omega (arith, length-take n (drop at bytes)))
    (λ k l. subst (λ (b : ℕ). b < 128) (sym (get_or-take n (drop at bytes) k 0 l)) (word_byte _ (prefix_len_passes (is_in class.Word) (drop at bytes) k 0 l))) in
    (omega arith, within bytes at n size one, subst (λ (i : ℕ). IsAscii (take i (drop at bytes))) (sym back) all)

-- ---- any front

all_pass : (p : ℕ → Bool) (xs : List ℕ) → list_all p (take (prefix_len p xs) xs) ≡ true
all_pass p [] = refl
all_pass p (x ∷ xs) = by (all_pass p xs) (p x) refl
  where
    by : list_all p (take (prefix_len p xs) xs) ≡ true → (t : Bool) → p x ≡ t → list_all p (take (prefix_len p (x ∷ xs)) (x ∷ xs)) ≡ true
    by rest true e =
        let one : 1 + prefix_len p xs ≡ suc (prefix_len p xs) = omega arith in
        rw e (ap (λ n. list_all p (take n (x ∷ xs))) one ∙ ap (λ t. t && list_all p (take (prefix_len p xs) xs)) e ∙ rest)
    by rest false e = rw e refl

number_stands : (bytes : List ℕ) (at : ℕ) → StandsIn bytes (token (number_kind (take (digits_of (drop at bytes)) (drop at bytes))) at (digits_of (drop at bytes)))
number_stands bytes at =
    let z = drop at bytes in
    let n = digits_of z in
    let ds = take n z in
    let back : at + n - at ≡ n = omega arith in
    cond_both (nat_lt (value ds) past_most) (kinds.Number (value ds)) (kinds.Odd fault.NumberRange) (λ k. StandsIn bytes (token k at n))
    (λ e. (
      ap (λ i. list_all is_ascii_digit (take i z)) back ∙ all_pass is_ascii_digit z,
      ap (λ i. number_kind (take i z)) back ∙ ap (λ t. if t then kinds.Number (value ds) else kinds.Odd fault.NumberRange) e,
    ))
    (λ e. tt)

symbol_stands : (bytes : List ℕ) (at : ℕ) (long short : Option Sym) → Front_stands bytes at (longest long short)
symbol_stands bytes at (Some s) short = (tt, tt)
symbol_stands bytes at None (Some s) = (tt, tt)
symbol_stands bytes at None None = (tt, tt)

comment_stands : (bytes : List ℕ) (at : ℕ) (r : Option ℕ) → Front_stands bytes at (closed_comment r)
comment_stands bytes at None = tt
comment_stands bytes at (Some n) = tt

front_stands : (bytes : List ℕ) (at : ℕ) → 0 < length (drop at bytes) → Front_stands bytes at (front (drop at bytes))
unfolding front
front_stands bytes at some =
    let z = drop at bytes in
    let P = Front_stands bytes at in
    cond_both (is_blank (slice_index z 0)) _ _ P (λ _. tt)
    (λ _. cond_both (begins_word (slice_index z 0)) _ _ P (λ e. (word_stands bytes at some e, tt))
    (λ _. cond_both (is_ascii_digit (slice_index z 0)) _ _ P
    (λ _. cond_both (spoils (slice_index z (digits_of z))) _ _ P
    (λ _. (number_stands bytes at, (tt, tt)))
    (λ _. (number_stands bytes at, tt)))
    (λ _. cond_both (slice_index z 0 == 34) _ _ P
    (λ e. let opens : get_or z 0 0 ≡ 34 = grind (arith, nat_tests) in name_stands_at bytes at (closing 34 false 1 (drop 1 z)) (λ n is. closes 34 n z is some) opens)
    (λ _. cond_both (slice_index z 0 == 39) _ _ P
    (λ e. let opens : get_or z 0 0 ≡ 39 = grind (arith, nat_tests) in text_stands_at bytes at (closing 39 false 1 (drop 1 z)) (λ n is. closes 39 n z is some) opens)
    (λ _. cond_both (slice_index z 0 == 45 && slice_index z 1 == 45) _ _ P (λ _. tt)
    (λ _. cond_both (slice_index z 0 == 47 && slice_index z 1 == 42) _ _ P (λ _. comment_stands bytes at (comment_end false 2 (drop 2 z)))
    (λ _. symbol_stands bytes at (long_symbol (slice_index z 0) (slice_index z 1)) (short_symbol (slice_index z 0)))))))))

pub item_stands : (bytes : List ℕ) (at n : ℕ) (k : TokenKind) → at < length bytes → Item k n ≡ front (drop at bytes) → StandsIn bytes (token k at n)
item_stands bytes at n k within is = (subst (Front_stands bytes at) (sym is) (front_stands bytes at (omega (arith, length-drop at bytes)))).0

pub spoiled_stands : (bytes : List ℕ) (at n : ℕ) (k : TokenKind) → at < length bytes → Spoiled k n ≡ front (drop at bytes) → StandsIn bytes (token k at n)
spoiled_stands bytes at n k within is = (subst (Front_stands bytes at) (sym is) (front_stands bytes at (omega (arith, length-drop at bytes)))).0

-- ---- all tokens

all_append : (P : Token → Type 0) (xs ys : List Token) → AllByRecursion P xs → AllByRecursion P ys → AllByRecursion P (xs ++ ys)
all_append P [] ys h k = k
all_append P (x ∷ xs) ys h k = (h.0, all_append P xs ys h.1 k)

abbrev pub IfCut : (List Token → Type 0) → Result (List Token) ℕ → Type 0
IfCut P (Ok ts) = P ts
IfCut P (Err at) = Unit {0}

before_stands : (bytes : List ℕ) (first : List Token) (r : Result (List Token) ℕ) → AllStandIn bytes first → IfCut (AllStandIn bytes) r → IfCut (AllStandIn bytes) (before first r)
before_stands bytes first (Ok ts) h k = all_append (StandsIn bytes) first ts h k
before_stands bytes first (Err at) h k = tt

drop_next : (bytes z : List ℕ) (at b : ℕ) → b ∷ z ≡ drop at bytes → z ≡ drop (at + 1) bytes
drop_next bytes z at b e = ap (drop 1) e ∙ drop-drop 1 at bytes

cut_stands : (bytes : List ℕ) (left at : ℕ) (z : List ℕ) → z ≡ drop at bytes → IfCut (AllStandIn bytes) (tokens_from at left z)
unfolding tokens_from
cut_stands bytes left at [] e = tt
cut_stands bytes (suc left) at (b ∷ z) e = cut_stands bytes left (at + 1) z (drop_next bytes z at b e)
cut_stands bytes zero at (b ∷ z) e =
    cond_both (is_closed (front (b ∷ z))) _ _ (IfCut (AllStandIn bytes))
    (λ _. before_stands bytes (made at (front (b ∷ z))) _
    (let P : List ℕ → Type 0 = λ y. AllStandIn bytes (made at (front y)) in subst P (sym e) (front_stands bytes at (omega (arith, ap length e))))
    (cut_stands bytes (len_of (front (b ∷ z)) - 1) (at + 1) z (drop_next bytes z at b e)))
    (λ _. tt)

pub all_stand : (bytes : List ℕ) (ts : List Token) → tokens_from 0 0 bytes ≡ Ok ts → AllStandIn bytes ts
all_stand bytes ts e = let P : Result (List Token) ℕ → Type 0 = IfCut (AllStandIn bytes) in subst P e (cut_stands bytes 0 0 bytes refl)
