-- Readings of tokens from left to right: a reading gives a value and how many tokens it took, or why there is none.
use Rattle.std.specs.Prelude.{ℕ, zero, suc, ◌+◌, ◌-◌, Bool, if◌then◌else◌, List, [], ◌∷◌, ◌++◌, drop, Result, Ok, Err}
use Rattle.wt_reading.specs.declared.lexeme.Kind.{Kind}
use Rattle.wt_reading.specs.Lexemes.{Tokens, at, is_comma, is_close}

abbrev pub Reading : Type 0 → Type 0 → Type 0
Reading E A = Result (A × ℕ) E

-- ---- one behind another

-- so many tokens in front of what is read
abbrev pub plus : {E A : Type 0} → ℕ → Reading E A → Reading E A
plus n (Ok x) = Ok (x.0, n + x.1)
plus n (Err e) = Err e

-- a reading of the tokens, and what it is followed by on the tokens behind it
abbrev pub followed : {E A B : Type 0} → Tokens → Reading E A → (A → Tokens → Reading E B) → Reading E B
followed ts (Ok x) f = plus x.1 (f x.0 (drop x.1 ts))
followed ts (Err e) f = Err e

-- one reading and then another, whatever the first one gave
abbrev pub chain : {E A B : Type 0} → Reading E A → Reading E B → Reading E B
chain (Ok x) r = plus x.1 r
chain (Err e) r = Err e

-- how many tokens were taken
abbrev pub taken : {E A : Type 0} → Reading E A → ℕ
taken (Ok x) = x.1
taken (Err e) = 0

-- ---- one token

-- one token that has to stand here, or why it is refused
unfoldable pub expect : {E : Type 0} → (Tokens → Bool) → (Tokens → E) → Tokens → Reading E (Unit {0})
expect wanted fault ts = if wanted ts then Ok (tt, 1) else Err (fault ts)

-- a part behind the token at the front, and the parenthesis that closes it
abbrev pub within : {E A : Type 0} → (Tokens → Reading E A) → (A → Tokens → E) → Tokens → Reading E A
within part fault ts = plus 1 (followed (drop 1 ts) (part (drop 1 ts)) (λ x rest. followed rest (expect (at is_close) (fault x) rest) (λ _ r. Ok (x, 0))))

-- ---- any number of parts

abbrev pub joined_to : {E A : Type 0} → Reading E A → Reading E (List A) → Reading E (List A)
joined_to (Ok x) (Ok xs) = Ok (x.0 ∷ xs.0, x.1 + xs.1 + 1)
joined_to (Ok x) (Err e) = Err e
joined_to (Err e) r = Err e

-- More parts, each behind a separator. The number counts the tokens that still belong to the part before.
unfoldable pub more : {E A : Type 0} → (Kind → Bool) → (Tokens → Reading E A) → ℕ → Tokens → Reading E (List A)
more sep part n [] = Ok ([], 0)
more sep part (suc n) (t ∷ ts) = more sep part n ts
more sep part zero (t ∷ ts) = if sep t.kind then joined_to (part ts) (more sep part (taken (part ts)) ts) else Ok ([], 0)

-- one or more, with commas
unfoldable pub list : {E A : Type 0} → (Tokens → Reading E A) → Tokens → Reading E (List A)
list part ts = followed ts (part ts) (λ x rest. followed rest (more is_comma part 0 rest) (λ xs r. Ok (x ∷ xs, 0)))

abbrev pub onward : {E A : Type 0} → Reading E A → (A → ℕ → Reading E A) → Reading E A
onward (Ok x) f = plus x.1 (f x.0 x.1)
onward (Err e) f = Err e

-- While the test holds of the tokens that are left, a part more, each from what was read so far. The number counts the
-- tokens that still belong to the part before.
unfoldable pub repeat : {E A : Type 0} → (Tokens → Bool) → (A → Tokens → Reading E A) → ℕ → A → Tokens → Reading E A
repeat test part n a [] = Ok (a, 0)
repeat test part (suc n) a (t ∷ ts) = repeat test part n a ts
repeat test part zero a (t ∷ ts) =
    if test (t ∷ ts) then onward (part a (t ∷ ts)) (λ b m. repeat test part (m - 1) b ts) else Ok (a, 0)

-- one part more, behind those that were read
unfoldable pub one_more : {E A : Type 0} → (List A → Tokens → Reading E A) → List A → Tokens → Reading E (List A)
one_more part xs ts = followed ts (part xs ts) (λ x rest. Ok (xs ++ x ∷ [], 0))
