-- One turn of a loop over parts: it goes on, fails or stops, and so does the reading of those that are left.
use Rattle.std.proofs.Common.{◌≡◌, ℕ, suc, zero, ◌+◌, ◌-◌, ◌≤◌, Bool, true, false, List, [], ◌∷◌, ◌++◌, length, drop, refl, ap, sym, ◌∙◌, arith, append_assoc, add-zero, append-nil, Ok, Err, add-one}
use Rattle.std.specs.Prelude.{map}
use Rattle.std.proofs.lemmas.List.{drop-drop}
use Rattle.wt_reading.specs.declared.lexeme.Kind.{Kind}
use Rattle.wt_reading.specs.declared.lexeme.Kind.TheVariants.{End}
use Rattle.wt_reading.specs.declared.lexeme.Lexeme.{Lexeme}
use Rattle.wt_reading.specs.Lexemes.{Tokens, kind}
use Rattle.wt_reading.specs.Readings.{Reading, more, joined_to, plus, repeat}
use Rattle.wt_reading.proofs.Inversions.{skip}

-- what a reading of more parts gives, behind the parts and the tokens that were read before
abbrev pub put_front : {E A : Type 0} → List A → ℕ → Reading E (List A) → Reading E (List A)
put_front xs n (Ok ys) = Ok (xs ++ ys.0, n + ys.1)
put_front xs n (Err e) = Err e

pub plus_plus : {E A : Type 0} (n m : ℕ) (r : Reading E A) → plus n (plus m r) ≡ plus (n + m) r
plus_plus n m (Ok x) = let e : n + (m + x.1) ≡ n + m + x.1 = omega arith in ap (λ k. Ok (x.0, k)) e
plus_plus n m (Err e) = refl

pub plus_zero : {E A : Type 0} (r : Reading E A) → plus 0 r ≡ r
plus_zero (Ok x) = let e : 0 + x.1 ≡ x.1 = omega arith in ap (λ k. Ok (x.0, k)) e
plus_zero (Err e) = refl

module _ {E A : Type 0} (sep : Kind → Bool) (part : Tokens → Reading E A) where
  pub more_stops : (ts : Tokens) → sep (kind ts) ≡ false → more sep part 0 ts ≡ Ok ([], 0)
  unfolding more
  more_stops [] h = refl
  more_stops (t ∷ ts) h = rw h

  pub more_goes : (ts : Tokens) (x : A) (n : ℕ) → sep End ≡ false → sep (kind ts) ≡ true → part (drop 1 ts) ≡ Ok (x, n)
      → more sep part 0 ts ≡ joined_to (Ok (x, n)) (more sep part 0 (drop (n + 1) ts))
  unfolding more
  more_goes [] x n end h e = absurd cc
  more_goes (t ∷ ts) x n end h e = rw (h, e, skip sep part n ts, add-one)

  pub more_fails : (ts : Tokens) (e : E) → sep End ≡ false → sep (kind ts) ≡ true → part (drop 1 ts) ≡ Err e → more sep part 0 ts ≡ Err e
  unfolding more
  more_fails [] e end h p = absurd cc
  more_fails (t ∷ ts) e end h p = rw (h, p)

  put_more : (xs : List A) (at n : ℕ) (x : A) (r : Reading E (List A)) → put_front xs at (joined_to (Ok (x, n)) r) ≡ put_front (xs ++ x ∷ []) (at + (n + 1)) r
  put_more xs at n x (Ok ys) = let e : at + (n + ys.1 + 1) ≡ at + (n + 1) + ys.1 = omega arith in let l = append_assoc xs (x ∷ []) ys.0 in (λ i. Ok (sym l i, e i))
  put_more xs at n x (Err e) = refl

  pub loop_goes : (xs new : List A) (at n to : ℕ) (x : A) (ts : Tokens) → sep End ≡ false → sep (kind (drop at ts)) ≡ true → part (drop (at + 1) ts) ≡ Ok (x, n)
      → new ≡ xs ++ x ∷ [] → to ≡ at + (n + 1)
      → put_front new to (more sep part 0 (drop to ts)) ≡ put_front xs at (more sep part 0 (drop at ts))
  loop_goes xs new at n to x ts end h e pushed there =
      (λ i. put_front (pushed i) (there i) (more sep part 0 (drop (there i) ts)))
      ∙ sym (put_more xs at n x (more sep part 0 (drop (at + (n + 1)) ts)))
      ∙ ap (λ r. put_front xs at (joined_to (Ok (x, n)) (more sep part 0 r))) (sym (drop-drop (n + 1) at ts))
      ∙ ap (put_front xs at) (sym (more_goes (drop at ts) x n end h (ap part (drop-drop 1 at ts) ∙ e)))

  pub loop_fails : (xs : List A) (at : ℕ) (e : E) (ts : Tokens) → sep End ≡ false → sep (kind (drop at ts)) ≡ true → part (drop (at + 1) ts) ≡ Err e
      → put_front xs at (more sep part 0 (drop at ts)) ≡ Err e
  loop_fails xs at e ts end h p = ap (put_front xs at) (more_fails (drop at ts) e end h (ap part (drop-drop 1 at ts) ∙ p))

  pub loop_stops : (xs : List A) (at : ℕ) (ts : Tokens) → sep (kind (drop at ts)) ≡ false → put_front xs at (more sep part 0 (drop at ts)) ≡ Ok (xs, at)
  loop_stops xs at ts h = ap (put_front xs at) (more_stops (drop at ts) h) ∙ (λ i. Ok (append-nil xs i, add-zero at i))

pub put_err : {E A : Type 0} (xs : List A) (n : ℕ) (r : Reading E (List A)) (f : E) → put_front xs n r ≡ Err f → r ≡ Err f
put_err xs n (Ok ys) f h = absurd cc
put_err xs n (Err e) f h = h

pub map_push : {A B : Type 0} (f : A → B) (xs : List A) (x : A) → map f (xs ++ x ∷ []) ≡ map f xs ++ f x ∷ []
map_push f [] x = refl
map_push f (y ∷ xs) x = ap (λ l. f y ∷ l) (map_push f xs x)

-- ---- parts that each begin from what was read so far

module _ {E A : Type 0} (test : Tokens → Bool) (part : A → Tokens → Reading E A) (some : (ts : Tokens) → test ts ≡ true → 1 ≤ length ts) where
  pub repeat_skip : (k : ℕ) (a : A) (ts : Tokens) → repeat test part k a ts ≡ repeat test part 0 a (drop k ts)
  unfolding repeat
  repeat_skip zero a ts = refl
  repeat_skip (suc k) a [] = refl
  repeat_skip (suc k) a (t ∷ ts) = repeat_skip k a ts

  drop_one : (m : ℕ) (t : Lexeme) (ts : Tokens) → 1 ≤ m → drop (m - 1) ts ≡ drop m (t ∷ ts)
  drop_one zero t ts h = absurd (omega arith)
  drop_one (suc m) t ts h = let e : suc m - 1 ≡ m = omega arith in ap (λ k. drop k ts) e

  pub repeat_stops : (a : A) (ts : Tokens) → test ts ≡ false → repeat test part 0 a ts ≡ Ok (a, 0)
  unfolding repeat
  repeat_stops a [] h = refl
  repeat_stops a (t ∷ ts) h = rw h refl

  pub repeat_goes : (a b : A) (m : ℕ) (ts : Tokens) → test ts ≡ true → 1 ≤ m → part a ts ≡ Ok (b, m) → repeat test part 0 a ts ≡ plus m (repeat test part 0 b (drop m ts))
  unfolding repeat
  repeat_goes a b m [] h p e = let l = some [] h in absurd (omega arith)
  repeat_goes a b m (t ∷ ts) h p e = rw (h, e) (ap (plus m) (repeat_skip (m - 1) b ts ∙ ap (repeat test part 0 b) (drop_one m t ts p)))

  pub repeat_fails : (a : A) (ts : Tokens) (f : E) → test ts ≡ true → part a ts ≡ Err f → repeat test part 0 a ts ≡ Err f
  unfolding repeat
  repeat_fails a [] f h e = let l = some [] h in absurd (omega arith)
  repeat_fails a (t ∷ ts) f h e = rw (h, e) refl

  -- the same behind what was read before
  pub turn_goes : (a b : A) (at n : ℕ) (ts : Tokens) (whole : Reading E A) → plus at (repeat test part 0 a (drop at ts)) ≡ whole → test (drop at ts) ≡ true → 1 ≤ n → part a (drop at ts) ≡ Ok (b, n)
      → plus (at + n) (repeat test part 0 b (drop (at + n) ts)) ≡ whole
  turn_goes a b at n ts whole so h p e =
      sym (plus_plus at n (repeat test part 0 b (drop (at + n) ts)))
      ∙ ap (λ l. plus at (plus n (repeat test part 0 b l))) (sym (drop-drop n at ts))
      ∙ ap (plus at) (sym (repeat_goes a b n (drop at ts) h p e))
      ∙ so

  pub turn_fails : (a : A) (at : ℕ) (ts : Tokens) (f : E) (whole : Reading E A) → plus at (repeat test part 0 a (drop at ts)) ≡ whole → test (drop at ts) ≡ true → part a (drop at ts) ≡ Err f → whole ≡ Err f
  turn_fails a at ts f whole so h e = sym so ∙ ap (plus at) (repeat_fails a (drop at ts) f h e)

  pub turn_stops : (a : A) (at : ℕ) (ts : Tokens) (whole : Reading E A) → plus at (repeat test part 0 a (drop at ts)) ≡ whole → test (drop at ts) ≡ false → whole ≡ Ok (a, at)
  turn_stops a at ts whole so h = sym so ∙ ap (plus at) (repeat_stops a (drop at ts) h) ∙ ap (λ k. Ok (a, k)) (add-zero at)
