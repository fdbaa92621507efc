-- Numbers as they are written.
use Rattle.std.proofs.Common.{◌≡◌, ◌≢◌, ℕ, zero, suc, ◌+◌, ◌-◌, ◌*◌, ◌/◌, ◌%◌, ◌^◌, ◌<◌, ◌≤◌, Bool, true, false, List, [], ◌∷◌, ◌++◌, length, refl, ap, ◌∙◌, arith, length-append, pow-suc}
use Rattle.std.specs.Prelude.{◌&&◌}
use Rattle.std.specs.List.{list_all}
use Rattle.std.specs.Fmt.{decimal}
use Rattle.std.proofs.lemmas.Fmt.{decimal_by_steps}
use Rattle.std.proofs.lemmas.Grind.{common_steps}
use Rattle.wt_rule_text.specs.Numbers.{is_digit, is_plain, is_number, read_on}
use Rattle.wt_rule_text.specs.Forms.{IsNumber}

-- the first digit is no zero
abbrev Leads : List ℕ → Type 0
Leads [] = ⊥
Leads (b ∷ bs) = b ≢ 48

record Written (n : ℕ) (ds : List ℕ) : Type 0 where
  digits : list_all is_digit ds ≡ true
  plain : is_plain ds ≡ true
  reads : read_on 0 ds ≡ n
  leads : 0 < n → Leads ds
  short : (k : ℕ) → n < 10 ^ suc k → length ds ≤ suc k

digit : (d : ℕ) → d < 10 → is_digit (48 + d) ≡ true
digit d h = grind (arith, common_steps)

read_more : (n : ℕ) (ds : List ℕ) (d : ℕ) → read_on n (ds ++ d ∷ []) ≡ 10 * read_on n ds + (d - 48)
read_more n [] d = refl
read_more n (b ∷ bs) d = read_more (10 * n + (b - 48)) bs d

both : (a b c : Bool) → (a && b) ≡ true → (b ≡ true → c ≡ true) → (a && c) ≡ true
both true b c h f = f h
both false b c h f = absurd (cc)

all_more : (ds : List ℕ) (d : ℕ) → list_all is_digit ds ≡ true → is_digit d ≡ true → list_all is_digit (ds ++ d ∷ []) ≡ true
all_more [] d h g = ap (λ b. b && true) g
all_more (b ∷ bs) d h g = both (is_digit b) (list_all is_digit bs) (list_all is_digit (bs ++ d ∷ [])) h (λ k. all_more bs d k g)

plain_more : (ds : List ℕ) (d : ℕ) → Leads ds → is_plain (ds ++ d ∷ []) ≡ true
plain_more [] d h = absurd h
plain_more (b ∷ []) d h = grind (arith, common_steps)
plain_more (b ∷ c ∷ bs) d h = grind (arith, common_steps)

leads_more : (ds : List ℕ) (d : ℕ) → Leads ds → Leads (ds ++ d ∷ [])
leads_more [] d h = absurd h
leads_more (b ∷ bs) d h = h

one_digit : (n : ℕ) → n < 10 → Written n ((48 + n) ∷ [])
one_digit n h = record {
  digits = ap (λ b. b && true) (digit n h);
  plain = refl;
  reads = omega arith;
  leads = λ some e. omega arith;
  short = λ k s. omega arith;
}

shorter : (n : ℕ) (ds : List ℕ) (k : ℕ) → 10 ≤ n → Written (n / 10) ds → n < 10 ^ suc k → length (ds ++ ((48 + n % 10) ∷ [])) ≤ suc k
shorter n ds zero l w s = absurd (omega arith)
shorter n ds (suc k) l w s =
    let pow : 10 ^ suc (suc k) ≡ 10 ^ suc k * 10 = pow-suc 10 (suc k) in
    let less : n / 10 < 10 ^ suc k = omega arith in
    omega (arith, length-append ds ((48 + n % 10) ∷ []), w.short k less)

more_digits : (n : ℕ) (ds : List ℕ) → 10 ≤ n → Written (n / 10) ds → Written n (ds ++ ((48 + n % 10) ∷ []))
more_digits n ds l w =
    let lead = w.leads (omega arith) in
    record {
      digits = all_more ds (48 + n % 10) w.digits (digit (n % 10) (omega arith));
      plain = plain_more ds (48 + n % 10) lead;
      reads = read_more 0 ds (48 + n % 10) ∙ (let e = w.reads in omega arith);
      leads = λ some. leads_more ds (48 + n % 10) lead;
      short = λ k s. shorter n ds k l w s;
    }

written : (n : ℕ) → n < 2 ^ 64 → Written n (decimal n)
written n small = decimal_by_steps Written one_digit more_digits n small

pub is_decimal : (n : ℕ) → n < 2 ^ 64 → IsNumber n (decimal n)
is_decimal n small =
    let w = written n small in
    let all : is_number (decimal n) ≡ true = ap (λ b. b && is_plain (decimal n)) w.digits ∙ w.plain in
    record { digits = all; is = let e = w.reads in omega arith }

-- a byte is written with at most three digits
pub byte_length : (n : ℕ) → n < 256 → length (decimal n) ≤ 3
byte_length n small = (written n (omega arith)).short 2 (omega arith)

pub short_number : (n : ℕ) → n < 2 ^ 64 → length (decimal n) ≤ 20
short_number n small = (written n small).short 19 (omega arith)
