-- Numbers and symbols are read where they stand, and only there.
use Rattle.std.proofs.Common.{◌≡◌, ℕ, suc, ◌+◌, Bool, true, false, List, [], ◌∷◌, ◌++◌, length, take, drop, Some, None, refl, sym, ap, ◌∙◌}
use Rattle.std.specs.Prelude.{◌&&◌, not, if◌then◌else◌}
use Rattle.std.specs.List.{list_all}
use Rattle.std.proofs.lemmas.List.{take_at}
use Rattle.wt_rule_text.specs.Numbers.{is_digit, is_plain, is_number, value}
use Rattle.wt_rule_text.specs.Reading.{leading, after, number, number_in, symbol}
use Rattle.wt_rule_text.specs.Forms.{IsNumber, IsSymbol}
use Rattle.wt_rule_text.proofs.Spans.{Span, Stops, ends, split, join, after_some, after_is, bind_some, spanned, FoundWhole}

and_both : (a b : Bool) → (a && b) ≡ true → (a ≡ true) × (b ≡ true)
and_both true b h = (refl, h)
and_both false b h = absurd (cc)

not_true : (b : Bool) → not b ≡ true → b ≡ false
not_true true h = absurd (cc)
not_true false h = refl

-- all digits, and then none
leading_all : (ds rest : List ℕ) → list_all is_digit ds ≡ true → Stops rest → leading (ds ++ rest) ≡ length ds
leading_all [] [] all stop = refl
leading_all [] (b ∷ rest) all stop = let no = not_true (is_digit b) stop in rw no refl
leading_all (d ∷ ds) rest all stop =
    let both = and_both (is_digit d) (list_all is_digit ds) all in
    ap (λ y. if y then suc (leading (ds ++ rest)) else 0) both.0 ∙ ap suc (leading_all ds rest both.1 stop)

-- what leads is digits, and a digit does not follow
abbrev Led : List ℕ → Type 0
Led l = (list_all is_digit (take (leading l) l) ≡ true) × Stops (drop (leading l) l) × (l ≡ take (leading l) l ++ drop (leading l) l) × (length (take (leading l) l) ≡ leading l)

led_by : (y : Bool) (b : ℕ) (bs : List ℕ) → is_digit b ≡ y → Led bs → Led (b ∷ bs)
led_by true b bs same rest =
    let e : leading (b ∷ bs) ≡ suc (leading bs) = ap (λ y. if y then suc (leading bs) else 0) same in
    rw e (ap (λ y. y && list_all is_digit (take (leading bs) bs)) same ∙ rest.0, rest.1, ap (λ l. b ∷ l) rest.2, ap suc rest.3)
led_by false b bs same rest =
    let e : leading (b ∷ bs) ≡ 0 = ap (λ y. if y then suc (leading bs) else 0) same in
    rw e (refl, ap not same, refl, refl)

led : (l : List ℕ) → Led l
led [] = (refl, refl, refl, refl)
led (b ∷ bs) = led_by (is_digit b) b bs refl (led bs)

if_pair : (b : Bool) (x y : ℕ × ℕ) → (if b then Some x else None) ≡ Some y → (b ≡ true) × (x ≡ y)
if_pair true x y is = (refl, cc)
if_pair false x y is = absurd (cc)

pub number_some : (line : List ℕ) (at n : ℕ) (text : List ℕ) (end : ℕ) → IsNumber n text → Span line at text end → Stops (drop end line) → number line at ≡ Some (n, end)
unfolding number
number_some line at n text end is span stop =
    let both = and_both (list_all is_digit text) (is_plain text) is.digits in
    let count : leading (drop at line) ≡ length text = ap leading span.is ∙ leading_all text (drop end line) both.0 stop in
    let digits : take (leading (drop at line)) (drop at line) ≡ text = ap (λ k. take k (drop at line)) count ∙ ap (take (length text)) span.is ∙ take_at text (drop end line) _ refl in
    ap (λ k. number_in (drop at line) k at) count
    ∙ ap (λ ds. if is_plain ds then Some (value ds, at + length text) else None) (ap (λ k. take k (drop at line)) (sym count) ∙ digits)
    ∙ ap (λ y. if y then Some (value text, at + length text) else None) both.1
    ∙ ap (λ k. Some (k, at + length text)) (sym is.is) ∙ ap (λ k. Some (n, k)) (sym span.place)

pub number_is : (line : List ℕ) (at n end : ℕ) → number line at ≡ Some (n, end) → (text : List ℕ) × IsNumber n text × Span line at text end × Stops (drop end line)
unfolding number
number_is line at n end is =
    let l = drop at line in
    let text = take (leading l) l in
    let there = led l in
    let found = if_pair (is_plain text) (value text, at + leading l) (n, end) is in
    let place : at + leading l ≡ end = ap (λ p. p.1) found.1 in
    let count : value text ≡ n = ap (λ p. p.0) found.1 in
    let all : is_number text ≡ true = ap (λ y. y && is_plain text) there.0 ∙ found.0 in
    let both = spanned line at text (drop (leading l) l) there.2 in
    let here : at + length text ≡ end = ap (λ k. at + k) there.3 ∙ place in
    let span : Span line at text end = rw (← here) both.0 in
    let stop : Stops (drop end line) = rw (← here) (ap ends both.1 ∙ there.1) in
    (text, record { digits = all; is = sym count }, span, stop)

pub symbol_some : (letter line : List ℕ) (at n : ℕ) (text : List ℕ) (end : ℕ) → IsSymbol letter n text → Span line at text end → Stops (drop end line) → symbol letter line at ≡ Some (n, end)
symbol_some letter line at n text end is span stop =
    let (word, digits) = split line at letter is.digits end (rw (is.is) at span) in
    rw (after_some line at letter _ word) (number_some line _ n is.digits end is.number digits stop)

pub symbol_is : (letter line : List ℕ) (at : ℕ) (p : ℕ × ℕ) → symbol letter line at ≡ Some p → FoundWhole (IsSymbol letter) line at p
symbol_is letter line at p is =
    let (mid, word, rest) = bind_some (after line at letter) (number line) p is in
    let (digits, number, span, stop) = number_is line mid p.0 p.1 rest in
    (letter ++ digits, record { digits = digits; number = number; is = refl }, join line at letter mid digits p.1 (after_is line at letter mid word) span, stop)
