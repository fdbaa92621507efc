-- One step of cutting: what is made at the front, then the tokens of the rest.
use Rattle.std.proofs.Common.{◌≡◌, ℕ, suc, zero, ◌+◌, ◌-◌, ◌<◌, ◌≤◌, true, false, List, [], ◌∷◌, ◌++◌, length, drop, refl, ap, sym, ◌∙◌, arith, append_assoc, add-zero, length-drop, Result, Ok, Err}
use Rattle.std.proofs.lemmas.List.{drop-drop}
use Rattle.std.specs.Result.{IsErrAnd}
use Rattle.std.proofs.lemmas.Result.{err_from_is_err_and}
use Rattle.wt_lex.specs.declared.token.LexError.{LexError}
use Rattle.wt_lex.specs.declared.token.LexError.TheVariants as errors
use Rattle.wt_lex.specs.declared.token.Token.{Token}
use Rattle.wt_lex.specs.Fronts.{front, len_of}
use Rattle.wt_lex.specs.Tokens.{tokens_from, before, made, is_closed, open_quote, FailsAt, Gives}

skip : (k at : ℕ) (z : List ℕ) → tokens_from at k z ≡ tokens_from (at + k) 0 (drop k z)
unfolding tokens_from
skip zero at z = ap (λ i. tokens_from i 0 z) (sym (add-zero at))
skip (suc k) at [] = refl
skip (suc k) at (b ∷ z) = skip k (at + 1) z ∙ ap (λ i. tokens_from i 0 (drop k z)) (omega arith)

drop_one : (n b : ℕ) (z : List ℕ) → 1 ≤ n → drop (n - 1) z ≡ drop n (b ∷ z)
drop_one zero b z h = absurd (omega arith)
drop_one (suc n) b z h = let e : suc n - 1 ≡ n = omega arith in ap (λ k. drop k z) e

pub tokens_next : (at n : ℕ) (z : List ℕ) → 0 < length z → len_of (front z) ≡ n → 1 ≤ n → is_closed (front z) ≡ true
    → tokens_from at 0 z ≡ before (made at (front z)) (tokens_from (at + n) 0 (drop n z))
unfolding tokens_from
tokens_next at n [] some is positive closed = absurd (omega arith)
tokens_next at n (b ∷ z) some is positive closed =
    rw (closed, is, skip (n - 1) (at + 1) z, drop_one n b z positive) (ap (λ i. before (made at (front (b ∷ z))) (tokens_from i 0 (drop n (b ∷ z)))) (omega arith))

pub tokens_open : (at : ℕ) (z : List ℕ) → 0 < length z → is_closed (front z) ≡ false → tokens_from at 0 z ≡ Err at
unfolding tokens_from
tokens_open at [] some is_open = absurd (omega arith)
tokens_open at (b ∷ z) some is_open = rw is_open

pub tokens_none : (at : ℕ) (z : List ℕ) → length z ≡ 0 → tokens_from at 0 z ≡ Ok []
unfolding tokens_from
tokens_none at [] none = refl
tokens_none at (b ∷ z) none = absurd (omega arith)

before-append : (a b : List Token) (r : Result (List Token) ℕ) → before (a ++ b) r ≡ before a (before b r)
before-append a b (Ok others) = ap Ok (append_assoc a b others)
before-append a b (Err at) = refl

drop_more : (at n : ℕ) (z : List ℕ) → drop n (drop at z) ≡ drop (at + n) z
drop_more at n z = drop-drop n at z

by_error : {X : Type 0} (view : X → List Token) (e : LexError) (P : ℕ → Type 0) (cuts : Result (List Token) ℕ)
    → FailsAt {X = ℕ} (Err e) P → ((place : ℕ) → P place → cuts ≡ Err place) → Gives {X = X} view (Err e) (open_quote cuts)
by_error view errors.Memory P cuts fails so = tt
by_error view (errors.Fault f place) P cuts fails so = ap open_quote (so place fails.1) ∙ ap (λ g. Err (g, place)) (sym fails.0)

pub cut_next : (out new : List Token) (at n : ℕ) (bytes : List ℕ) → at < length bytes → n ≡ len_of (front (drop at bytes)) → 1 ≤ n
    → is_closed (front (drop at bytes)) ≡ true → new ≡ out ++ made at (front (drop at bytes))
    → before new (tokens_from (at + n) 0 (drop (at + n) bytes)) ≡ before out (tokens_from at 0 (drop at bytes))
cut_next out new at n bytes within is positive closed more =
    let z = drop at bytes in
    let some : 0 < length z = omega (arith, length-drop at bytes) in
    ap (λ ts. before ts (tokens_from (at + n) 0 (drop (at + n) bytes))) more
    ∙ before-append out (made at (front z)) _
    ∙ ap (λ y. before out (before (made at (front z)) (tokens_from (at + n) 0 y))) (sym (drop_more at n bytes))
    ∙ ap (before out) (sym (tokens_next at n z some (sym is) positive closed))

pub cut_open : (out : List Token) (at : ℕ) (bytes : List ℕ) → at < length bytes → is_closed (front (drop at bytes)) ≡ false
    → before out (tokens_from at 0 (drop at bytes)) ≡ Err at
cut_open out at bytes within is_open =
    let some : 0 < length (drop at bytes) = omega (arith, length-drop at bytes) in
    ap (before out) (tokens_open at (drop at bytes) some is_open)

pub gives_err : {X : Type 0} (view : X → List Token) (r : Result X LexError) (e : LexError) (P : ℕ → Type 0) (cuts : Result (List Token) ℕ)
    → IsErrAnd r (λ y. y ≡ e) → FailsAt {X = ℕ} (Err e) P → ((place : ℕ) → P place → cuts ≡ Err place) → Gives view r (open_quote cuts)
gives_err view r e P cuts was fails so =
    let y = err_from_is_err_and r was in
    rw (y.1 ∙ ap Err y.2) (by_error view e P cuts fails so)
