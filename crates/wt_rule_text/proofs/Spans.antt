-- Texts between two places of a line.
use Rattle.std.proofs.Common.{◌≡◌, ℕ, ◌+◌, ◌≤◌, Bool, true, false, List, [], ◌∷◌, ◌++◌, length, take, drop, Some, None, refl, sym, ap, subst, ◌∙◌, arith, append_assoc, length-append, length-drop, inl, inr}
use Rattle.std.specs.Prelude.{◌⊎◌, not, if◌then◌else◌}
use Rattle.std.specs.Str.{bytes_eq}
use Rattle.std.specs.declared.option.Option.{Option}
use Rattle.std.proofs.lemmas.Slice.Eq.{bytes_eq-Decides}
use Rattle.std.proofs.lemmas.List.{take_at, drop_at, drop-drop}
use Rattle.std.proofs.lemmas.Option.{same_Some}
use Rattle.wt_rule_text.specs.Numbers.{is_digit}
use Rattle.wt_rule_text.specs.Reading.{after, or_else, first_of, ◌>>=◌}

-- the text stands from one place to another
pub record Span (line : List ℕ) (at : ℕ) (text : List ℕ) (end : ℕ) : Type 0 where
  pub is : drop at line ≡ text ++ drop end line
  pub place : end ≡ at + length text

-- no digit stands first
abbrev pub ends : List ℕ → Bool
ends [] = true
ends (b ∷ bs) = not (is_digit b)

abbrev pub Stops : List ℕ → Type 0
Stops rest = ends rest ≡ true

pub spanned : (line : List ℕ) (at : ℕ) (text rest : List ℕ) → drop at line ≡ text ++ rest → Span line at text (at + length text) × (drop (at + length text) line ≡ rest)
spanned line at text rest is =
    let rest_is : drop (at + length text) line ≡ rest = sym (drop-drop (length text) at line) ∙ ap (drop (length text)) is ∙ drop_at text rest _ refl in
    (record { is = is ∙ ap (λ r. text ++ r) (sym rest_is); place = refl }, rest_is)

pub split : (line : List ℕ) (at : ℕ) (s t : List ℕ) (end : ℕ) → Span line at (s ++ t) end → Span line at s (at + length s) × Span line (at + length s) t end
split line at s t end span =
    let first = spanned line at s (t ++ drop end line) (span.is ∙ append_assoc s t (drop end line)) in
    (first.0, record { is = first.1; place = omega (arith, span.place, length-append s t) })

pub join : (line : List ℕ) (at : ℕ) (s : List ℕ) (mid : ℕ) (t : List ℕ) (end : ℕ) → Span line at s mid → Span line mid t end → Span line at (s ++ t) end
join line at s mid t end a b = record {
  is = a.is ∙ ap (λ r. s ++ r) b.is ∙ sym (append_assoc s t (drop end line));
  place = omega (arith, a.place, b.place, length-append s t);
}

pub stops : (line : List ℕ) (at : ℕ) (text : List ℕ) (end : ℕ) → Span line at text end → ends (text ++ drop end line) ≡ true → Stops (drop at line)
stops line at text end span h = ap ends span.is ∙ h

pub within : (line : List ℕ) (at : ℕ) (text : List ℕ) (end : ℕ) → Span line at text end → length text ≤ length line
within line at text end span =
    let e = ap length span.is in omega (arith, e, length-drop at line, length-append text (drop end line))

-- ---- words

pub after_some : (line : List ℕ) (at : ℕ) (word : List ℕ) (end : ℕ) → Span line at word end → after line at word ≡ Some end
unfolding after
after_some line at word end span =
    let here : bytes_eq (take (length word) (drop at line)) word ≡ true = (bytes_eq-Decides _ word).1 (ap (take (length word)) span.is ∙ take_at word (drop end line) _ refl) in
    ap (λ b. if b then Some (at + length word) else None) here ∙ ap Some (sym span.place)

pub after_none : (line : List ℕ) (at : ℕ) (word l : List ℕ) → drop at line ≡ l → bytes_eq (take (length word) l) word ≡ false → after line at word ≡ None
unfolding after
after_none line at word l is differs = ap (λ b. if b then Some (at + length word) else None) (ap (λ x. bytes_eq (take (length word) x) word) is ∙ differs)

if_some : (b : Bool) (n m : ℕ) → (if b then Some n else None) ≡ Some m → (b ≡ true) × (n ≡ m)
if_some true n m is = (refl, cc)
if_some false n m is = absurd (cc)

taken : (word l : List ℕ) → take (length word) l ≡ word → l ≡ word ++ drop (length word) l
taken [] l is = refl
taken (c ∷ word) [] is = absurd (cc)
taken (c ∷ word) (b ∷ l) is =
    let head : b ≡ c = cc in
    let rest : take (length word) l ≡ word = cc in
    ap (λ x. x ∷ l) head ∙ ap (λ x. c ∷ x) (taken word l rest)

pub after_is : (line : List ℕ) (at : ℕ) (word : List ℕ) (end : ℕ) → after line at word ≡ Some end → Span line at word end
unfolding after
after_is line at word end is =
    let both = if_some (bytes_eq (take (length word) (drop at line)) word) (at + length word) end is in
    let first : drop at line ≡ word ++ drop (length word) (drop at line) = taken word (drop at line) ((bytes_eq-Decides _ word).0 both.0) in
    record { is = first ∙ ap (λ r. word ++ r) (drop-drop (length word) at line ∙ ap (λ n. drop n line) both.1); place = sym both.1 }

-- ---- steps that may fail

pub bind_some : {A B : Type 0} (o : Option A) (f : A → Option B) (y : B) → (o >>= f) ≡ Some y → (x : A) × (o ≡ Some x) × (f x ≡ Some y)
bind_some None f y is = absurd (cc)
bind_some (Some x) f y is = (x, refl, is)

pub or_some : {A : Type 0} (o p : Option A) (y : A) → or_else o p ≡ Some y → (o ≡ Some y) ⊎ (p ≡ Some y)
or_some None p y is = inr is
or_some (Some x) p y is = inl is

pub first_some : {A B : Type 0} (o : Option A) (f : A → Option B) (p : Option B) (y : B) → first_of o f p ≡ Some y → ((x : A) × (o ≡ Some x) × (f x ≡ Some y)) ⊎ (p ≡ Some y)
first_some None f p y is = inr is
first_some (Some x) f p y is = inl (x, refl, is)

-- ---- what was found at a place

abbrev pub Found : {A : Type 0} → (A → List ℕ → Type 0) → List ℕ → ℕ → A × ℕ → Type 0
Found Is line at p = (text : List ℕ) × Is p.0 text × Span line at text p.1

-- with no digit behind it
abbrev pub FoundWhole : {A : Type 0} → (A → List ℕ → Type 0) → List ℕ → ℕ → A × ℕ → Type 0
FoundWhole Is line at p = (text : List ℕ) × Is p.0 text × Span line at text p.1 × Stops (drop p.1 line)

abbrev pub FoundTwo : {A B : Type 0} → (A → B → List ℕ → Type 0) → List ℕ → ℕ → A × B × ℕ → Type 0
FoundTwo Is line at p = (text : List ℕ) × Is p.0 p.1 text × Span line at text p.2

-- what was made is what was found
pub made : {A : Type 0} (P : A → Type 0) (x y : A) → Some x ≡ Some y → P x → P y
made P x y is h = subst P (same_Some x y is) h
