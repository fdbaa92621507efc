-- Which of the three faults comes first, or that the text is cut.
use Rattle.std.proofs.Common.{◌≡◌, ℕ, ◌<◌, ◌≤◌, nat_lt, true, false, Bool, List, length, refl, ap, arith, Result, Ok, Err, ◌⊎◌, inl, inr}
use Rattle.std.specs.Str.{IsUtf8, is_utf8}
use Rattle.std.specs.Str.Lossy.{utf8_valid_len}
use Rattle.std.proofs.lemmas.Str.{IsUtf8-from_is_utf8, is_utf8-from_IsUtf8}
use Rattle.std.proofs.lemmas.Bool.Decides.{nat_tests}
use Rattle.std.specs.Prelude.{if◌then◌else◌}
use Rattle.wt_lex.specs.declared.token.LexFault.{LexFault}
use Rattle.wt_lex.specs.declared.token.LexFault.TheVariants as fault
use Rattle.wt_lex.specs.declared.token.Token.{Token}
use Rattle.wt_lex.specs.Stored.{AllStandIn}
use Rattle.wt_lex.specs.Sound.{InOrder}
use Rattle.wt_lex.proofs.Ordering.{all_in_order}
use Rattle.wt_lex.proofs.Standing.{all_stand}
use Rattle.wt_lex.specs.Tokens.{lexed, open_quote, tokens_from}

long : (n : ℕ) → 16777216 < n → nat_lt 16777216 n ≡ true
long n h = grind (arith, nat_tests)

not_long : (n : ℕ) → n ≤ 16777216 → nat_lt 16777216 n ≡ false
not_long n h = grind (arith, nat_tests)

not_utf8 : (bytes : List ℕ) → (IsUtf8 bytes → ⊥) → is_utf8 bytes ≡ false
not_utf8 bytes h = by (is_utf8 bytes) refl
  where
    by : (t : Bool) → is_utf8 bytes ≡ t → t ≡ false
    by true e = absurd (h (IsUtf8-from_is_utf8 bytes e))
    by false e = refl

pub lexed_long : (bytes : List ℕ) → 16777216 < length bytes → lexed bytes ≡ Err (fault.TooLong, 16777216)
unfolding lexed
lexed_long bytes h = rw (long (length bytes) h)

pub lexed_not_text : (bytes : List ℕ) (n : ℕ) → length bytes ≤ 16777216 → (IsUtf8 bytes → ⊥) → n ≡ utf8_valid_len bytes → lexed bytes ≡ Err (fault.NotText, n)
unfolding lexed
lexed_not_text bytes n h bad at = rw (not_long (length bytes) h, not_utf8 bytes bad, at)

pub lexed_text : (bytes : List ℕ) → length bytes ≤ 16777216 → IsUtf8 bytes → lexed bytes ≡ open_quote (tokens_from 0 0 bytes)
unfolding lexed
lexed_text bytes h good = rw (not_long (length bytes) h, is_utf8-from_IsUtf8 bytes good)

-- ---- what stands where a text has tokens

chosen : {A : Type 0} (b : Bool) (x y z : A) → (if b then x else y) ≡ z → ((b ≡ true) × (x ≡ z)) ⊎ ((b ≡ false) × (y ≡ z))
chosen true x y z h = inl (refl, h)
chosen false x y z h = inr (refl, h)

small : (n : ℕ) → nat_lt 16777216 n ≡ false → n ≤ 16777216
small n h = grind (arith, nat_tests)

cut_ok : (r : Result (List Token) ℕ) (ts : List Token) → open_quote r ≡ Ok ts → r ≡ Ok ts
cut_ok (Ok us) ts h = let e : us ≡ ts = cc in ap Ok e
cut_ok (Err at) ts h = absurd (cc)

-- a text that has tokens is short enough and UTF-8, and is cut into them
pub lexed_ok : (bytes : List ℕ) (ts : List Token) → lexed bytes ≡ Ok ts → (length bytes ≤ 16777216) × IsUtf8 bytes × (tokens_from 0 0 bytes ≡ Ok ts)
unfolding lexed
lexed_ok bytes ts h = by (chosen (nat_lt 16777216 (length bytes)) _ _ _ h)
  where
    cut : (length bytes ≤ 16777216) → ((is_utf8 bytes ≡ true) × (open_quote (tokens_from 0 0 bytes) ≡ Ok ts)) ⊎ ((is_utf8 bytes ≡ false) × (◌≡◌ {A = Result (List Token) (LexFault × ℕ)} (Err (fault.NotText, utf8_valid_len bytes)) (Ok ts)))
        → (length bytes ≤ 16777216) × IsUtf8 bytes × (tokens_from 0 0 bytes ≡ Ok ts)
    cut few (inl (text, e)) = (few, IsUtf8-from_is_utf8 bytes text, cut_ok (tokens_from 0 0 bytes) ts e)
    cut few (inr (text, e)) = absurd (cc)

    by : ((nat_lt 16777216 (length bytes) ≡ true) × (◌≡◌ {A = Result (List Token) (LexFault × ℕ)} (Err (fault.TooLong, 16777216)) (Ok ts)))
        ⊎ ((nat_lt 16777216 (length bytes) ≡ false) × ((if is_utf8 bytes then open_quote (tokens_from 0 0 bytes) else Err (fault.NotText, utf8_valid_len bytes)) ≡ Ok ts))
        → (length bytes ≤ 16777216) × IsUtf8 bytes × (tokens_from 0 0 bytes ≡ Ok ts)
    by (inl (long, e)) = absurd (cc)
    by (inr (short, e)) = cut (small (length bytes) short) (chosen (is_utf8 bytes) _ _ _ e)

-- and each of its tokens stands in it
pub tokens_stand : (bytes : List ℕ) (ts : List Token) → lexed bytes ≡ Ok ts → AllStandIn bytes ts
tokens_stand bytes ts h = all_stand bytes ts (lexed_ok bytes ts h).2

-- and they stand in order
pub tokens_in_order : (bytes : List ℕ) (ts : List Token) → lexed bytes ≡ Ok ts → InOrder 0 (length bytes) ts
tokens_in_order bytes ts h = all_in_order bytes ts (lexed_ok bytes ts h).2
