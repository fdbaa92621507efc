-- Readings put together: each sentence is read to its end, with its value, or refused for names.
use Rattle.std.proofs.Common.{◌≡◌, ℕ, ◌+◌, ◌≤◌, Bool, true, false, List, [], ◌∷◌, ◌++◌, length, drop, refl, ap, sym, ◌∙◌, subst, arith, length-append, append_assoc, add-zero, append-nil, Ok, Err}
use Rattle.std.specs.Prelude.{if◌then◌else◌}
use Rattle.std.proofs.Math.Seq.{drop-append_seam}
use Rattle.wt_reading.specs.declared.lexeme.Lexeme.{Lexeme}
use Rattle.wt_reading.specs.Lexemes.{Tokens}
use Rattle.wt_reading.specs.Readings.{plus, followed, repeat, one_more}
use Rattle.wt_reading.specs.Sentences.{Each}
use Rattle.wt_reading.proofs.Loops.{repeat_stops, repeat_goes, repeat_fails}
use Rattle.wt_ddl.specs.Reading.{Read}
use Rattle.wt_ddl_sentence.specs.Faults.{is_of_names}

-- a reading gave this value and took so many tokens, or was refused for names
abbrev pub IsRead : {A : Type 0} → A → ℕ → Read A → Type 0
IsRead x n (Ok y) = (y.0 ≡ x) × (y.1 ≡ n)
IsRead x n (Err e) = is_of_names e.0 ≡ true

-- ---- one choice

pub taken : {A : Type 0} (b : Bool) (r s : Read A) (x : A) (n : ℕ) → b ≡ true → IsRead x n r → IsRead x n (if b then r else s)
taken b r s x n e h = subst (λ t. IsRead x n (if t then r else s)) (sym e) h

pub skipped : {A : Type 0} (b : Bool) (r s : Read A) (x : A) (n : ℕ) → b ≡ false → IsRead x n s → IsRead x n (if b then r else s)
skipped b r s x n e h = subst (λ t. IsRead x n (if t then r else s)) (sym e) h

pub both_ways : {A : Type 0} (b : Bool) (r s : Read A) (x : A) (n : ℕ) → IsRead x n r → IsRead x n s → IsRead x n (if b then r else s)
both_ways true r s x n h g = h
both_ways false r s x n h g = g

-- ---- one part behind another

pub plus_read : {A : Type 0} (m : ℕ) (x : A) (n : ℕ) (r : Read A) → IsRead x n r → IsRead x (m + n) (plus m r)
plus_read m x n (Ok y) h = (h.0, ap (λ k. m + k) h.1)
plus_read m x n (Err e) h = h

followed_read : {A B : Type 0} (ts rest : Tokens) (n m : ℕ) (x : A) (y : B) (r : Read A) (f : A → Tokens → Read B) → drop n ts ≡ rest → IsRead x n r → IsRead y m (f x rest) → IsRead y (n + m) (followed ts r f)
followed_read ts rest n m x y (Err e) f d h k = h
followed_read ts rest n m x y (Ok z) f d h k =
    let there : rest ≡ drop z.1 ts = sym d ∙ ap (λ i. drop i ts) (sym h.1) in
    let moved : IsRead y m (f z.0 (drop z.1 ts)) = subst (λ l. IsRead y m (f z.0 l)) there (subst (λ x. IsRead y m (f x rest)) (sym h.0) k) in
    subst (λ i. IsRead y (i + m) (plus z.1 (f z.0 (drop z.1 ts)))) h.1 (plus_read z.1 y m (f z.0 (drop z.1 ts)) moved)

pub then_read : {A B : Type 0} (part : Tokens → Read A) (f : A → Tokens → Read B) (a b c rest : Tokens) (x : A) (y : B) → a ≡ b ++ c
    → IsRead x (length b) (part (b ++ (c ++ rest))) → IsRead y (length c) (f x (c ++ rest)) → IsRead y (length a) (followed (a ++ rest) (part (a ++ rest)) f)
then_read part f a b c rest x y e h g =
    let whole : a ++ rest ≡ b ++ (c ++ rest) = ap (λ l. l ++ rest) e ∙ append_assoc b c rest in
    let size : length b + length c ≡ length a = sym (length-append b c) ∙ sym (ap length e) in
    subst (λ l. IsRead y (length a) (followed l (part l) f)) (sym whole)
    (subst (λ n. IsRead y n (followed (b ++ (c ++ rest)) (part (b ++ (c ++ rest))) f)) size
    (followed_read (b ++ (c ++ rest)) (c ++ rest) (length b) (length c) x y (part (b ++ (c ++ rest))) f (drop-append_seam b (c ++ rest)) h g))

-- a part behind which nothing more is taken
pub end_read : {A B : Type 0} (part : Tokens → Read A) (f : A → Tokens → Read B) (a rest : Tokens) (x : A) (y : B)
    → IsRead x (length a) (part (a ++ rest)) → IsRead y 0 (f x rest) → IsRead y (length a) (followed (a ++ rest) (part (a ++ rest)) f)
end_read part f a rest x y h g =
    subst (λ n. IsRead y n (followed (a ++ rest) (part (a ++ rest)) f)) (add-zero (length a))
    (followed_read (a ++ rest) rest (length a) 0 x y (part (a ++ rest)) f (drop-append_seam a rest) h g)

-- a reading that gives what was read, or a value of it
pub last_read : {A B : Type 0} (part : Tokens → Read A) (f : A → B) (a rest : Tokens) (x : A) → IsRead x (length a) (part (a ++ rest)) → IsRead (f x) (length a) (followed (a ++ rest) (part (a ++ rest)) (λ x r. Ok (f x, 0)))
last_read part f a rest x h = end_read part (λ x r. Ok (f x, 0)) a rest x (f x) h (refl, refl)

-- behind one token, and behind two
pub first_read : {A : Type 0} (r : Tokens → Read A) (a b rest : Tokens) (t : Lexeme) (x : A) → a ≡ t ∷ b → IsRead x (length b) (r (b ++ rest)) → IsRead x (length a) (plus 1 (r (drop 1 (a ++ rest))))
first_read r a b rest t x e h =
    let size : 1 + length b ≡ length a = omega (arith, ap length e) in
    subst (λ l. IsRead x (length a) (plus 1 (r (drop 1 (l ++ rest))))) (sym e) (subst (λ n. IsRead x n (plus 1 (r (b ++ rest)))) size (plus_read 1 x (length b) (r (b ++ rest)) h))

pub two_read : {A : Type 0} (r : Tokens → Read A) (a b rest : Tokens) (t u : Lexeme) (x : A) → a ≡ t ∷ u ∷ b → IsRead x (length b) (r (b ++ rest)) → IsRead x (length a) (plus 2 (r (drop 2 (a ++ rest))))
two_read r a b rest t u x e h =
    let size : 2 + length b ≡ length a = omega (arith, ap length e) in
    subst (λ l. IsRead x (length a) (plus 2 (r (drop 2 (l ++ rest))))) (sym e) (subst (λ n. IsRead x n (plus 2 (r (b ++ rest)))) size (plus_read 2 x (length b) (r (b ++ rest)) h))

-- ---- lists and loops

module _ {A : Type 0} (test : Tokens → Bool) (part : A → Tokens → Read A) (some : (ts : Tokens) → test ts ≡ true → 1 ≤ length ts) where
  -- one part more, and the others behind it
  pub repeat_step : (x y z : A) (a rest : Tokens) (n : ℕ) → 1 ≤ length a → test (a ++ rest) ≡ true → IsRead y (length a) (part x (a ++ rest)) → IsRead z n (repeat test part 0 y rest)
      → IsRead z (length a + n) (repeat test part 0 x (a ++ rest))
  repeat_step x y z a rest n there h one next = by (part x (a ++ rest)) refl one
    where
      by : (r : Read A) → part x (a ++ rest) ≡ r → IsRead y (length a) r → IsRead z (length a + n) (repeat test part 0 x (a ++ rest))
      by (Err e) f k = subst (IsRead z (length a + n)) (sym (repeat_fails test part some x (a ++ rest) e h f)) k
      by (Ok w) f k =
          let positive : 1 ≤ w.1 = omega (arith, k.1) in
          let left : drop w.1 (a ++ rest) ≡ rest = ap (λ i. drop i (a ++ rest)) k.1 ∙ drop-append_seam a rest in
          let others : IsRead z n (repeat test part 0 w.0 (drop w.1 (a ++ rest))) = subst (λ l. IsRead z n (repeat test part 0 w.0 l)) (sym left) (subst (λ y. IsRead z n (repeat test part 0 y rest)) (sym k.0) next) in
          subst (IsRead z (length a + n)) (sym (repeat_goes test part some x w.0 w.1 (a ++ rest) h positive f))
          (subst (λ i. IsRead z (i + n) (plus w.1 (repeat test part 0 w.0 (drop w.1 (a ++ rest))))) k.1 (plus_read w.1 z n (repeat test part 0 w.0 (drop w.1 (a ++ rest))) others))

  pub repeat_none : (x : A) (rest : Tokens) → test rest ≡ false → IsRead x 0 (repeat test part 0 x rest)
  repeat_none x rest h = subst (IsRead x 0) (sym (repeat_stops test part some x rest h)) (refl, refl)

pub one_more_read : {A : Type 0} (part : List A → Tokens → Read A) (xs : List A) (x : A) (a rest : Tokens) → IsRead x (length a) (part xs (a ++ rest)) → IsRead (xs ++ x ∷ []) (length a) (one_more part xs (a ++ rest))
unfolding one_more
one_more_read part xs x a rest h = last_read (part xs) (λ x. xs ++ x ∷ []) a rest x h

-- Any number of parts, each of which is read before what stands behind it, where the last is followed by `rest`.
module _ {A : Type 0} (test : Tokens → Bool) (part : List A → Tokens → Read A) (some : (ts : Tokens) → test ts ≡ true → 1 ≤ length ts) (Part : A → Tokens → Type 0) (Good : Tokens → Type 0)
    (Good_behind : (a b : Tokens) → Good (a ++ b) → Good b)
    (there : (x : A) (a : Tokens) → Part x a → 1 ≤ length a) (begins : (x : A) (a rest : Tokens) → Part x a → Good (a ++ rest) → test (a ++ rest) ≡ true)
    (F : Tokens → Type 0) (again : (x : A) (a rest : Tokens) → Part x a → Good (a ++ rest) → F (a ++ rest))
    (each : (xs : List A) (x : A) (a rest : Tokens) → Part x a → Good (a ++ rest) → F rest → IsRead x (length a) (part xs (a ++ rest))) where
  pub many_read : (xs ys : List A) (a rest : Tokens) → Each Part ys a → Good (a ++ rest) → F rest → test rest ≡ false → IsRead (xs ++ ys) (length a) (repeat test (one_more part) 0 xs (a ++ rest))
  many_read xs [] a rest e good f stop =
      subst (λ l. IsRead (xs ++ []) (length l) (repeat test (one_more part) 0 xs (l ++ rest))) (sym e)
      (subst (λ l. IsRead l 0 (repeat test (one_more part) 0 xs rest)) (sym (append-nil xs)) (repeat_none test (one_more part) some xs rest stop))
  many_read xs (y ∷ ys) a rest (b, c, e, p, q) good f stop =
      let whole : a ++ rest ≡ b ++ (c ++ rest) = ap (λ l. l ++ rest) e ∙ append_assoc b c rest in
      let ok : Good (b ++ (c ++ rest)) = subst Good whole good in
      let behind : F (c ++ rest) = follow ys c rest q (Good_behind b (c ++ rest) ok) f in
      let others : IsRead ((xs ++ y ∷ []) ++ ys) (length c) (repeat test (one_more part) 0 (xs ++ y ∷ []) (c ++ rest)) = many_read (xs ++ y ∷ []) ys c rest q (Good_behind b (c ++ rest) ok) f stop in
      let size : length b + length c ≡ length a = sym (length-append b c) ∙ sym (ap length e) in
      let values : (xs ++ y ∷ []) ++ ys ≡ xs ++ y ∷ ys = append_assoc xs (y ∷ []) ys in
      subst (λ l. IsRead (xs ++ y ∷ ys) (length a) (repeat test (one_more part) 0 xs l)) (sym whole)
      (subst (λ n. IsRead (xs ++ y ∷ ys) n (repeat test (one_more part) 0 xs (b ++ (c ++ rest)))) size
      (subst (λ v. IsRead v (length b + length c) (repeat test (one_more part) 0 xs (b ++ (c ++ rest)))) values
      (repeat_step test (one_more part) some xs (xs ++ y ∷ []) ((xs ++ y ∷ []) ++ ys) b (c ++ rest) (length c) (there y b p) (begins y b (c ++ rest) p ok) (one_more_read part xs y b (c ++ rest) (each xs y b (c ++ rest) p ok behind)) others)))
    where
      follow : (ys : List A) (c rest : Tokens) → Each Part ys c → Good (c ++ rest) → F rest → F (c ++ rest)
      follow [] c rest q ok f = subst (λ l. F (l ++ rest)) (sym q) f
      follow (z ∷ zs) c rest (d, g, e, p, q) ok f = subst F (sym (ap (λ l. l ++ rest) e ∙ append_assoc d g rest)) (again z d (g ++ rest) p (subst Good (ap (λ l. l ++ rest) e ∙ append_assoc d g rest) ok))

-- ---- readings that are refused for names

abbrev pub Refused : {A : Type 0} → Read A → Type 0
Refused (Ok y) = ⊥
Refused (Err e) = is_of_names e.0 ≡ true

refused_plus : {A : Type 0} (n : ℕ) (r : Read A) → Refused r → Refused (plus n r)
refused_plus n (Ok y) h = h
refused_plus n (Err e) h = h

pub refused_first : {A B : Type 0} (ts : Tokens) (r : Read A) (f : A → Tokens → Read B) → Refused r → Refused (followed ts r f)
refused_first ts (Ok y) f h = absurd h
refused_first ts (Err e) f h = h

pub refused_then : {A B : Type 0} (part : Tokens → Read A) (f : A → Tokens → Read B) (a b c rest : Tokens) (x : A) → a ≡ b ++ c
    → IsRead x (length b) (part (b ++ (c ++ rest))) → Refused (f x (c ++ rest)) → Refused (followed (a ++ rest) (part (a ++ rest)) f)
refused_then part f a b c rest x e h g =
    let whole : a ++ rest ≡ b ++ (c ++ rest) = ap (λ l. l ++ rest) e ∙ append_assoc b c rest in
    subst (λ l. Refused (followed l (part l) f)) (sym whole) (by (part (b ++ (c ++ rest))) h)
  where
    by : (r : Read _) → IsRead x (length b) r → Refused (followed (b ++ (c ++ rest)) r f)
    by (Err k) m = m
    by (Ok z) m =
        let there : c ++ rest ≡ drop z.1 (b ++ (c ++ rest)) = sym (drop-append_seam b (c ++ rest)) ∙ ap (λ i. drop i (b ++ (c ++ rest))) (sym m.1) in
        refused_plus z.1 (f z.0 (drop z.1 (b ++ (c ++ rest)))) (subst (λ l. Refused (f z.0 l)) there (subst (λ x. Refused (f x (c ++ rest))) (sym m.0) g))

pub refused_two : {A : Type 0} (r : Tokens → Read A) (a b rest : Tokens) (t u : Lexeme) → a ≡ t ∷ u ∷ b → Refused (r (b ++ rest)) → Refused (plus 2 (r (drop 2 (a ++ rest))))
refused_two r a b rest t u e h = subst (λ l. Refused (plus 2 (r (drop 2 (l ++ rest))))) (sym e) (refused_plus 2 (r (b ++ rest)) h)

pub refused_more : {A : Type 0} (part : List A → Tokens → Read A) (xs : List A) (ts : Tokens) → Refused (part xs ts) → Refused (one_more part xs ts)
unfolding one_more
refused_more part xs ts h = refused_first ts (part xs ts) (λ x r. Ok (xs ++ x ∷ [], 0)) h

module _ {A : Type 0} (test : Tokens → Bool) (part : A → Tokens → Read A) (some : (ts : Tokens) → test ts ≡ true → 1 ≤ length ts) where
  pub refused_repeat : (x : A) (ts : Tokens) → test ts ≡ true → Refused (part x ts) → Refused (repeat test part 0 x ts)
  refused_repeat x ts h = by (part x ts) refl
    where
      by : (r : Read A) → part x ts ≡ r → Refused r → Refused (repeat test part 0 x ts)
      by (Ok y) e k = absurd k
      by (Err f) e k = subst Refused (sym (repeat_fails test part some x ts f h e)) k

  pub refused_step : (x y : A) (a rest : Tokens) → 1 ≤ length a → test (a ++ rest) ≡ true → IsRead y (length a) (part x (a ++ rest)) → Refused (repeat test part 0 y rest) → Refused (repeat test part 0 x (a ++ rest))
  refused_step x y a rest there h one next = by (part x (a ++ rest)) refl one
    where
      by : (r : Read A) → part x (a ++ rest) ≡ r → IsRead y (length a) r → Refused (repeat test part 0 x (a ++ rest))
      by (Err e) f k = subst Refused (sym (repeat_fails test part some x (a ++ rest) e h f)) k
      by (Ok w) f k =
          let positive : 1 ≤ w.1 = omega (arith, k.1) in
          let left : drop w.1 (a ++ rest) ≡ rest = ap (λ i. drop i (a ++ rest)) k.1 ∙ drop-append_seam a rest in
          let others : Refused (repeat test part 0 w.0 (drop w.1 (a ++ rest))) = subst (λ l. Refused (repeat test part 0 w.0 l)) (sym left) (subst (λ y. Refused (repeat test part 0 y rest)) (sym k.0) next) in
          subst Refused (sym (repeat_goes test part some x w.0 w.1 (a ++ rest) h positive f)) (refused_plus w.1 (repeat test part 0 w.0 (drop w.1 (a ++ rest))) others)
