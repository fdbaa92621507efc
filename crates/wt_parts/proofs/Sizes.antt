-- How many tokens a list with commas takes, part by part.
use Rattle.std.proofs.Common.{◌≡◌, ℕ, ◌+◌, true, false, List, ◌∷◌, drop, refl, ap, sym, ◌∙◌, arith, add-zero, Option, Some, None, Ok, Err}
use Rattle.std.proofs.lemmas.List.{drop-drop}
use Rattle.wt_reading.specs.Lexemes.{Tokens, kind, is_comma, is_close}
use Rattle.wt_reading.specs.Readings.{Reading, plus, followed, joined_to, more, list}
use Rattle.wt_reading.proofs.Loops.{more_goes, more_fails, more_stops}
use Rattle.wt_grammar.specs.Reading.{closes_tuple, in_follows}
use Rattle.std.specs.Prelude.{◌&&◌}
use Rattle.wt_front.specs.Giving.{size_of}

-- so many tokens in front
abbrev pub behind : ℕ → Option ℕ → Option ℕ
behind n None = None
behind n (Some m) = Some (n + m)

size_plus : {E A : Type 0} (n : ℕ) (r : Reading E A) → size_of (plus n r) ≡ behind n (size_of r)
size_plus n (Ok x) = refl
size_plus n (Err e) = refl

size_last : {E A B : Type 0} (ts : Tokens) (r : Reading E A) (f : A → B) → size_of (followed ts r (λ x rest. Ok (f x, 0))) ≡ size_of r
size_last ts (Ok x) f = ap (λ n. Some n) (add-zero x.1)
size_last ts (Err e) f = refl

size_joined : {E A : Type 0} (x : A) (n : ℕ) (r : Reading E (List A)) → size_of (joined_to (Ok (x, n)) r) ≡ behind (n + 1) (size_of r)
size_joined x n (Ok xs) = let e : n + xs.1 + 1 ≡ n + 1 + xs.1 = omega arith in ap (λ n. Some n) e
size_joined x n (Err e) = refl

behind_behind : (n m : ℕ) (o : Option ℕ) → behind n (behind m o) ≡ behind (n + m) o
behind_behind n m None = refl
behind_behind n m (Some k) = let e : n + (m + k) ≡ n + m + k = omega arith in ap (λ n. Some n) e

-- a tuple is closed behind what was taken
pub closed_behind : {A : Type 0} (ts : Tokens) (r : Reading (Unit {0}) A) (n : ℕ) → Some n ≡ size_of r → closes_tuple ts r ≡ (is_close (kind (drop n ts)) && in_follows (drop 1 (drop n ts)))
closed_behind ts (Ok x) n h = let e : x.1 ≡ n = cc in ap (λ k. is_close (kind (drop k ts)) && in_follows (drop 1 (drop k ts))) e
closed_behind ts (Err e) n h = absurd cc

pub never_closed : {A : Type 0} (ts : Tokens) (r : Reading (Unit {0}) A) → None ≡ size_of r → closes_tuple ts r ≡ false
never_closed ts (Ok x) h = absurd cc
never_closed ts (Err e) h = refl

module _ {E A : Type 0} (part : Tokens → Reading E A) where
  pub first_fails : (ts : Tokens) → size_of (part ts) ≡ None → size_of (list part ts) ≡ None
  unfolding list
  first_fails ts h = by (part ts) refl
    where
      by : (r : Reading E A) → part ts ≡ r → size_of (followed ts (part ts) (λ x rest. followed rest (more is_comma part 0 rest) (λ xs r. Ok (x ∷ xs, 0)))) ≡ None
      by (Ok x) e = let z : Some x.1 ≡ None = sym (ap size_of e) ∙ h in absurd cc
      by (Err f) e = rw e refl

  pub first_goes : (ts : Tokens) (n : ℕ) → size_of (part ts) ≡ Some n → behind n (size_of (more is_comma part 0 (drop n ts))) ≡ size_of (list part ts)
  unfolding list
  first_goes ts n h = by (part ts) refl
    where
      by : (r : Reading E A) → part ts ≡ r → behind n (size_of (more is_comma part 0 (drop n ts))) ≡ size_of (followed ts (part ts) (λ x rest. followed rest (more is_comma part 0 rest) (λ xs r. Ok (x ∷ xs, 0))))
      by (Ok x) e =
          let s : Some x.1 ≡ Some n = sym (ap size_of e) ∙ h in
          let m : n ≡ x.1 = cc in
          ap (λ k. behind k (size_of (more is_comma part 0 (drop k ts)))) m
          ∙ sym (ap (λ r. size_of (followed ts r (λ x rest. followed rest (more is_comma part 0 rest) (λ xs r. Ok (x ∷ xs, 0))))) e
          ∙ size_plus x.1 (followed (drop x.1 ts) (more is_comma part 0 (drop x.1 ts)) (λ xs r. Ok (x.0 ∷ xs, 0)))
          ∙ ap (behind x.1) (size_last (drop x.1 ts) (more is_comma part 0 (drop x.1 ts)) (λ xs. x.0 ∷ xs)))
      by (Err f) e = let z : None ≡ Some n = sym (ap size_of e) ∙ h in absurd cc

  pub next_goes : (at n : ℕ) (ts : Tokens) (whole : Option ℕ) → behind at (size_of (more is_comma part 0 (drop at ts))) ≡ whole → is_comma (kind (drop at ts)) ≡ true
      → size_of (part (drop (at + 1) ts)) ≡ Some n → behind (at + (n + 1)) (size_of (more is_comma part 0 (drop (at + (n + 1)) ts))) ≡ whole
  next_goes at n ts whole so comma h = by (part (drop (at + 1) ts)) refl
    where
      by : (r : Reading E A) → part (drop (at + 1) ts) ≡ r → behind (at + (n + 1)) (size_of (more is_comma part 0 (drop (at + (n + 1)) ts))) ≡ whole
      by (Ok x) e =
          let s : Some x.1 ≡ Some n = sym (ap size_of e) ∙ h in
          let m : n ≡ x.1 = cc in
          ap (λ k. behind (at + (k + 1)) (size_of (more is_comma part 0 (drop (at + (k + 1)) ts)))) m
          ∙ sym (behind_behind at (x.1 + 1) (size_of (more is_comma part 0 (drop (at + (x.1 + 1)) ts))))
          ∙ ap (λ l. behind at (behind (x.1 + 1) (size_of (more is_comma part 0 l)))) (sym (drop-drop (x.1 + 1) at ts))
          ∙ ap (behind at) (sym (ap size_of (more_goes is_comma part (drop at ts) x.0 x.1 refl comma (ap part (drop-drop 1 at ts) ∙ e)) ∙ size_joined x.0 x.1 (more is_comma part 0 (drop (x.1 + 1) (drop at ts)))))
          ∙ so
      by (Err f) e = let z : None ≡ Some n = sym (ap size_of e) ∙ h in absurd cc

  pub next_fails : (at : ℕ) (ts : Tokens) (whole : Option ℕ) → behind at (size_of (more is_comma part 0 (drop at ts))) ≡ whole → is_comma (kind (drop at ts)) ≡ true
      → size_of (part (drop (at + 1) ts)) ≡ None → None ≡ whole
  next_fails at ts whole so comma h = by (part (drop (at + 1) ts)) refl
    where
      by : (r : Reading E A) → part (drop (at + 1) ts) ≡ r → None ≡ whole
      by (Ok x) e = let z : Some x.1 ≡ None = sym (ap size_of e) ∙ h in absurd cc
      by (Err f) e = sym (ap (λ r. behind at (size_of r)) (more_fails is_comma part (drop at ts) f refl comma (ap part (drop-drop 1 at ts) ∙ e))) ∙ so

  pub next_stops : (at : ℕ) (ts : Tokens) (whole : Option ℕ) → behind at (size_of (more is_comma part 0 (drop at ts))) ≡ whole → is_comma (kind (drop at ts)) ≡ false → Some at ≡ whole
  next_stops at ts whole so comma = ap (λ n. Some n) (sym (add-zero at)) ∙ sym (ap (λ r. behind at (size_of r)) (more_stops is_comma part (drop at ts) comma)) ∙ so

pub ruleset closings = (closed_behind, never_closed)
