-- Symbols are told by the kind of their token.
use Rattle.std.proofs.Common.{◌≡◌, ℕ, zero, suc, ◌+◌, List, [], ◌∷◌, drop, length, min, refl, ap, sym, ◌∙◌, Some}
use Rattle.std.specs.Prelude.{map, slice_get}
use Rattle.std.proofs.Common.{arith, ◌-◌, ◌≤◌, inl, inr, ◌⊎◌}
use Rattle.std.proofs.lemmas.List.{drop-drop, drop-map}
use Rattle.wt_ddl.proofs.Turns.{drop-none}
use Rattle.wt_lex.specs.declared.token.Token.{Token}
use Rattle.wt_lex.specs.Names.{keyword}
use Rattle.wt_reading.specs.Lexemes.{lexeme, kind, kind_by}
use Rattle.wt_ddl.specs.Fronts.{first}

pub first-drop : (bytes : List ℕ) (ts : List Token) (i : ℕ) (t : Token) → slice_get ts i ≡ Some t → first (map (lexeme bytes) (drop i ts)) ≡ Some t
unfolding lexeme
first-drop bytes [] i t h = absurd (cc)
first-drop bytes (x ∷ xs) zero t h = h
first-drop bytes (x ∷ xs) (suc i) t h = first-drop bytes xs i t h

pub kind-drop : (bytes : List ℕ) (ts : List Token) (i : ℕ) (t : Token) → slice_get ts i ≡ Some t → kind (map (lexeme bytes) (drop i ts)) ≡ kind_by t.kind (keyword bytes t)
unfolding lexeme
kind-drop bytes [] i t h = absurd (cc)
kind-drop bytes (x ∷ xs) zero t h = let e : x ≡ t = cc in ap (λ t. kind_by t.kind (keyword bytes t)) e
kind-drop bytes (x ∷ xs) (suc i) t h = kind-drop bytes xs i t h

-- the tokens behind the first n, as far as there are some
pub after_is : (bytes : List ℕ) (ts : List Token) (at n m : ℕ) → m ≡ min n (length ts - at) → at ≤ length ts → map (lexeme bytes) (drop (at + m) ts) ≡ drop n (map (lexeme bytes) (drop at ts))
after_is bytes ts at n m is within = ap (map (lexeme bytes)) same ∙ sym (drop-map (lexeme bytes) n (drop at ts))
  where
    by : (k : ℕ) → n ≡ m + k → (k ≡ 0) ⊎ (length ts ≤ at + m) → drop (at + m) ts ≡ drop (at + n) ts
    by k e (inl z) = let f : at + m ≡ at + n = omega arith in ap (λ i. drop i ts) f
    by k e (inr past) = drop-none ts (at + m) past ∙ sym (drop-none ts (at + n) (omega arith))

    left : (k : ℕ) → n ≡ m + k → (k ≡ 0) ⊎ (length ts ≤ at + m)
    left zero e = inl refl
    left (suc k) e = inr (omega arith)

    same : drop (at + m) ts ≡ drop n (drop at ts)
    same = let e : n ≡ m + (n - m) = omega arith in by (n - m) e (left (n - m) e) ∙ sym (drop-drop n at ts)

pub lexeme-drop : (bytes : List ℕ) (ts : List Token) (i : ℕ) (t : Token) → slice_get ts i ≡ Some t → kind (map (lexeme bytes) (drop i ts)) ≡ (lexeme bytes t).kind
unfolding lexeme
lexeme-drop bytes ts i t h = kind-drop bytes ts i t h
