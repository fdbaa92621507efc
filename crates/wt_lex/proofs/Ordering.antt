-- The tokens of a text stand in order, each with a byte, and end within it.
use Rattle.std.proofs.Common.{◌≡◌, ◌≢◌, ℕ, zero, suc, ◌+◌, ◌-◌, ◌<◌, ◌≤◌, Bool, true, false, ◌⊎◌, inl, inr, List, [], ◌∷◌, length, drop, get_or, refl, ap, sym, ◌∙◌, subst, arith, length-drop, Some, None, Option, Result, Ok, Err}
use Rattle.std.specs.Prelude.{if◌then◌else◌, ◌==◌, ◌&&◌, slice_index, IfSome}
use Rattle.std.specs.Char.{is_ascii_digit}
use Rattle.std.proofs.lemmas.Bool.{cond_both}
use Rattle.std.proofs.lemmas.Bool.Decides.{nat_tests}
use Rattle.std.proofs.lemmas.List.{get_or_past}
use Rattle.std.proofs.lemmas.List.Sums.{prefix_len-le-length}
use Rattle.wt_lex.specs.declared.front.Class.TheVariants as class
use Rattle.wt_lex.specs.declared.front.Front.{Front}
use Rattle.wt_lex.specs.declared.front.Front.TheVariants.{Gap, Item, Spoiled, Unclosed}
use Rattle.wt_lex.specs.declared.token.Sym.{Sym}
use Rattle.wt_lex.specs.declared.token.Token.{Token}
use Rattle.wt_lex.specs.Fronts.{front, is_in, is_blank, begins_word, run, spoils, digits_of, closing, comment_end, closed_name, closed_text, closed_comment, longest, long_symbol, short_symbol, len_of, HasDigits}
use Rattle.wt_lex.specs.Sound.{InOrder}
use Rattle.wt_lex.specs.Tokens.{made, is_closed, before, tokens_from}
use Rattle.wt_lex.proofs.Standing.{closes, run_some, IfCut}

-- ---- a front has a byte, and ends within the bytes

abbrev Takes : List ℕ → Front → Type 0
Takes z f = (1 ≤ len_of f) × (len_of f ≤ length z) × HasDigits f

read_within : (z : List ℕ) (i : ℕ) → slice_index z i ≢ 0 → i < length z
read_within z i h = by (search arith)
  where
    by : (i < length z) ⊎ (length z ≤ i) → i < length z
    by (inl l) = l
    by (inr l) = absurd (h (get_or_past z i 0 l))

digit_in : (b : ℕ) → is_ascii_digit b ≡ true → is_in class.Digit b ≡ true
digit_in b h = h

digits_some : (z : List ℕ) → 0 < length z → is_ascii_digit (get_or z 0 0) ≡ true → 1 ≤ digits_of z
digits_some [] some h = absurd (omega arith)
digits_some (b ∷ z) some h = rw h (omega arith)

spoils_some : (b : ℕ) → spoils b ≡ true → b ≢ 0
spoils_some b h e = let zero_spoils : spoils 0 ≡ true = ap spoils (sym e) ∙ h in cc

second : (s : Bool) (b k : ℕ) → (s && b == k) ≡ true → b ≡ k
second true b k e = grind (arith, nat_tests)
second false b k e = absurd (cc)

comment_end_at : (star : Bool) (at n : ℕ) (z : List ℕ) → comment_end star at z ≡ Some n → (at < n) × (n ≤ at + length z)
comment_end_at star at n [] e = absurd (cc)
comment_end_at star at n (b ∷ z) e = by (comment_end_at (b == 42) (at + 1) n z) (star && b == 47) refl
  where
    by : (comment_end (b == 42) (at + 1) z ≡ Some n → (at + 1 < n) × (n ≤ at + 1 + length z)) → (t : Bool) → (star && b == 47) ≡ t → (at < n) × (n ≤ at + length (b ∷ z))
    by further true s =
        let now : Some (at + 1) ≡ Some n = ap (λ t. if t then Some (at + 1) else comment_end (b == 42) (at + 1) z) (sym s) ∙ e in
        let is : at + 1 ≡ n = cc in
        (omega arith, omega arith)
    by further false s =
        let later = further (ap (λ t. if t then Some (at + 1) else comment_end (b == 42) (at + 1) z) (sym s) ∙ e) in
        (omega (arith, later.0), omega (arith, later.1))

comment_closes : (z : List ℕ) (n : ℕ) → 2 ≤ length z → comment_end false 2 (drop 2 z) ≡ Some n → (1 ≤ n) × (n ≤ length z)
comment_closes z n two e =
    let at = comment_end_at false 2 n (drop 2 z) e in
    (omega (arith, at.0), omega (arith, at.1, length-drop 2 z))

line_within : (z : List ℕ) → 2 ≤ length z → 2 + run class.Line (drop 2 z) ≤ length z
line_within z two = omega (arith, prefix_len-le-length (is_in class.Line) (drop 2 z), length-drop 2 z)

-- the second byte is no 0, so there are two
two_bytes : (s : Bool) (z : List ℕ) (k : ℕ) → (s && slice_index z 1 == k) ≡ true → k ≢ 0 → 2 ≤ length z
two_bytes s z k e some = read_within z 1 (λ none. some (sym (second s (slice_index z 1) k e) ∙ none))

name_takes : (z : List ℕ) (r : Option ℕ) → 0 < length z → ((n : ℕ) → r ≡ Some n → (2 ≤ n) × (n ≤ length z)) → Takes z (closed_name r)
name_takes z None some h = (omega arith, omega arith, tt)
name_takes z (Some n) some h =
    cond_both (n == 2) _ _ (Takes z) (λ e. let is : n ≡ 2 = grind (arith, nat_tests) in (omega arith, omega (arith, (h n refl).1), tt))
    (λ e. (omega (arith, (h n refl).0), (h n refl).1, tt))

text_takes : (z : List ℕ) (r : Option ℕ) → 0 < length z → ((n : ℕ) → r ≡ Some n → (2 ≤ n) × (n ≤ length z)) → Takes z (closed_text r)
text_takes z None some h = (omega arith, omega arith, tt)
text_takes z (Some n) some h = (omega (arith, (h n refl).0), (h n refl).1, tt)

comment_takes : (z : List ℕ) (r : Option ℕ) → 0 < length z → ((n : ℕ) → r ≡ Some n → (1 ≤ n) × (n ≤ length z)) → Takes z (closed_comment r)
comment_takes z None some h = (omega arith, omega arith, tt)
comment_takes z (Some n) some h = ((h n refl).0, (h n refl).1, tt)

long_within : (b next : ℕ) → IfSome (long_symbol b next) (λ _. next ≢ 0)
long_within b next =
    cond_both (b == 60 && next == 62) _ _ P (λ e. some (b == 60) 62 e (omega arith))
    (λ _. cond_both (b == 33 && next == 61) _ _ P (λ e. some (b == 33) 61 e (omega arith))
    (λ _. cond_both (b == 60 && next == 61) _ _ P (λ e. some (b == 60) 61 e (omega arith))
    (λ _. cond_both (b == 62 && next == 61) _ _ P (λ e. some (b == 62) 61 e (omega arith))
    (λ _. cond_both (b == 124 && next == 124) _ _ P (λ e. some (b == 124) 124 e (omega arith))
    (λ _. cond_both (b == 58 && next == 58) _ _ P (λ e. some (b == 58) 58 e (omega arith)) (λ _. tt))))))
  where
    P : Option Sym → Type 0
    P s = IfSome s (λ _. next ≢ 0)

    some : (s : Bool) (k : ℕ) → (s && next == k) ≡ true → 0 < k → next ≢ 0
    some s k e positive z = omega (arith, second s next k e)

symbol_takes : (z : List ℕ) (long short : Option Sym) → 0 < length z → IfSome long (λ _. slice_index z 1 ≢ 0) → Takes z (longest long short)
symbol_takes z (Some s) short some h = (omega arith, omega (arith, read_within z 1 h), tt)
symbol_takes z None (Some s) some h = (omega arith, omega arith, tt)
symbol_takes z None None some h = (omega arith, omega arith, tt)

front_takes : (z : List ℕ) → 0 < length z → Takes z (front z)
unfolding front
front_takes z some =
    let P = Takes z in
    cond_both (is_blank (slice_index z 0)) _ _ P (λ _. (omega arith, omega arith, tt))
    (λ _. cond_both (begins_word (slice_index z 0)) _ _ P (λ e. (run_some z some e, prefix_len-le-length (is_in class.Word) z, tt))
    (λ _. cond_both (is_ascii_digit (slice_index z 0)) _ _ P
    (λ d. cond_both (spoils (slice_index z (digits_of z))) _ _ P
    (λ s. (omega arith, omega (arith, read_within z (digits_of z) (spoils_some _ s)), digits_some z some d))
    (λ _. (digits_some z some d, prefix_len-le-length (is_in class.Digit) z, tt)))
    (λ _. cond_both (slice_index z 0 == 34) _ _ P
    (λ _. name_takes z (closing 34 false 1 (drop 1 z)) some (λ n is. let c = closes 34 n z is some in (c.0, c.1)))
    (λ _. cond_both (slice_index z 0 == 39) _ _ P
    (λ _. text_takes z (closing 39 false 1 (drop 1 z)) some (λ n is. let c = closes 39 n z is some in (c.0, c.1)))
    (λ _. cond_both (slice_index z 0 == 45 && slice_index z 1 == 45) _ _ P (λ e. (omega arith, line_within z (two_bytes _ z 45 e (λ h. omega arith)), tt))
    (λ _. cond_both (slice_index z 0 == 47 && slice_index z 1 == 42) _ _ P (λ e. comment_takes z (comment_end false 2 (drop 2 z)) some (λ n. comment_closes z n (two_bytes _ z 42 e (λ h. omega arith))))
    (λ _. symbol_takes z (long_symbol (slice_index z 0) (slice_index z 1)) (short_symbol (slice_index z 0)) some (long_within (slice_index z 0) (slice_index z 1)))))))))

-- ---- all tokens

sooner : (from at end : ℕ) (ts : List Token) → from ≤ at → InOrder at end ts → InOrder from end ts
sooner from at end [] l h = tt
sooner from at end (t ∷ ts) l h = (omega (arith, h.0), h.1, h.2, h.3)

made_in_order : (at end : ℕ) (f : Front) (ts : List Token) → 1 ≤ len_of f → at + len_of f ≤ end → HasDigits f → InOrder (at + len_of f) end ts
    → IfCut (InOrder at end) (before (made at f) (Ok ts))
made_in_order at end (Gap n) ts one within digits h = sooner at (at + n) end ts (omega arith) h
made_in_order at end (Item kind n) ts one within digits h = (omega arith, omega arith, within, h)
made_in_order at end (Spoiled kind n) ts one within digits h =
    let place : at + n + 1 ≡ at + (n + 1) = omega arith in
    (omega arith, omega (arith, digits), omega arith, (omega arith, omega arith, omega arith, subst (λ i. InOrder i end ts) (sym place) h))
made_in_order at end Unclosed ts one within digits h = sooner at (at + 1) end ts (omega arith) h

before_in_order : (at end : ℕ) (f : Front) (r : Result (List Token) ℕ) → 1 ≤ len_of f → at + len_of f ≤ end → HasDigits f → IfCut (InOrder (at + len_of f) end) r
    → IfCut (InOrder at end) (before (made at f) r)
before_in_order at end f (Ok ts) one within digits h = made_in_order at end f ts one within digits h
before_in_order at end f (Err place) one within digits h = tt

cut_in_order : (left at end : ℕ) (z : List ℕ) → at + length z ≡ end → IfCut (InOrder (at + left) end) (tokens_from at left z)
unfolding tokens_from
cut_in_order left at end [] e = tt
cut_in_order (suc left) at end (b ∷ z) e =
    let place : at + 1 + left ≡ at + suc left = omega arith in
    subst (λ i. IfCut (InOrder i end) (tokens_from (at + 1) left z)) place (cut_in_order left (at + 1) end z (omega arith))
cut_in_order zero at end (b ∷ z) e =
    let takes = front_takes (b ∷ z) (omega arith) in
    let n = len_of (front (b ∷ z)) in
    let place : at + 1 + (n - 1) ≡ at + n = omega (arith, takes.0) in
    let here : at + 0 ≡ at = omega arith in
    let rest = subst (λ i. IfCut (InOrder i end) (tokens_from (at + 1) (n - 1) z)) place (cut_in_order (n - 1) (at + 1) end z (omega arith)) in
    cond_both (is_closed (front (b ∷ z))) _ _ (IfCut (InOrder (at + 0) end))
    (λ _. subst (λ i. IfCut (InOrder i end) (before (made at (front (b ∷ z))) (tokens_from (at + 1) (n - 1) z))) (sym here)
    (before_in_order at end (front (b ∷ z)) _ takes.0 (omega (arith, takes.1)) takes.2 rest))
    (λ _. tt)

pub all_in_order : (bytes : List ℕ) (ts : List Token) → tokens_from 0 0 bytes ≡ Ok ts → InOrder 0 (length bytes) ts
all_in_order bytes ts e = subst (IfCut (InOrder 0 (length bytes))) e (cut_in_order 0 0 (length bytes) bytes (omega arith))
