-- What a repeated reading that succeeds was made of.
use Rattle.std.proofs.Common.{◌≡◌, ℕ, zero, suc, ◌+◌, ◌≤◌, ◌⊎◌, inl, inr, Bool, true, false, List, [], ◌∷◌, ◌++◌, length, drop, refl, ap, sym, ◌∙◌, subst, arith, length-drop, append_assoc, append-nil, Ok, Err}
use Rattle.wt_reading.specs.declared.lexeme.Kind.{Kind}
use Rattle.wt_reading.specs.Lexemes.{Tokens}
use Rattle.wt_reading.specs.Readings.{Reading, repeat, one_more}
use Rattle.wt_reading.specs.Sentences.{Seq, Is, Each, Behind}
use Rattle.wt_reading.proofs.Inversions.{ok_parts, plus_ok, last_ok}
use Rattle.wt_reading.proofs.Loops.{repeat_goes, repeat_fails, repeat_stops}
use Rattle.wt_reading.proofs.Took.{Took, took_none, took_then}

module _ {E A : Type 0} (test : Tokens → Bool) (part : A → Tokens → Reading E A) (some : (ts : Tokens) → test ts ≡ true → 1 ≤ length ts)
    (grows : (a b : A) (ts : Tokens) (m : ℕ) → test ts ≡ true → part a ts ≡ Ok (b, m) → 1 ≤ m) where
  -- it stops at once, or one part is read and then the others
  pub repeat_ok : (a b : A) (ts : Tokens) (n : ℕ) → repeat test part 0 a ts ≡ Ok (b, n)
      → ((test ts ≡ false) × (a ≡ b) × (n ≡ 0))
      ⊎ ((c : A) × (m : ℕ) × (k : ℕ) × (test ts ≡ true) × (part a ts ≡ Ok (c, m)) × (1 ≤ m) × (repeat test part 0 c (drop m ts) ≡ Ok (b, k)) × (n ≡ m + k))
  repeat_ok a b ts n h = by (test ts) refl (part a ts) refl
    where
      by : (t : Bool) → test ts ≡ t → (r : Reading E A) → part a ts ≡ r
          → ((test ts ≡ false) × (a ≡ b) × (n ≡ 0))
          ⊎ ((c : A) × (m : ℕ) × (k : ℕ) × (test ts ≡ true) × (part a ts ≡ Ok (c, m)) × (1 ≤ m) × (repeat test part 0 c (drop m ts) ≡ Ok (b, k)) × (n ≡ m + k))
      by false e r f = let (x, y) = ok_parts a b 0 n (sym (repeat_stops test part some a ts e) ∙ h) in inl (e, x, sym y)
      by true e (Ok x) f =
          let one = grows a x.0 ts x.1 e f in
          let (k, g, s) = plus_ok x.1 (repeat test part 0 x.0 (drop x.1 ts)) b n (sym (repeat_goes test part some a x.0 x.1 ts e one f) ∙ h) in
          inr (x.0, x.1, k, e, f, one, g, s)
      by true e (Err g) f = let z = sym (repeat_fails test part some a ts g e f) ∙ h in absurd cc

pub one_more_ok : {E A : Type 0} (part : List A → Tokens → Reading E A) (xs ys : List A) (ts : Tokens) (n : ℕ) → one_more part xs ts ≡ Ok (ys, n)
    → (x : A) × (part xs ts ≡ Ok (x, n)) × (ys ≡ xs ++ x ∷ [])
unfolding one_more
one_more_ok part xs ys ts n h = last_ok ts (part xs ts) (λ x. xs ++ x ∷ []) ys n h

-- parts that each begin from those that were read
module _ {E A : Type 0} (test : Tokens → Bool) (Part : A → Tokens → Type 0) (part : List A → Tokens → Reading E A) (some : (ts : Tokens) → test ts ≡ true → 1 ≤ length ts)
    (sound : (xs : List A) (ts : Tokens) (x : A) (n : ℕ) → test ts ≡ true → part xs ts ≡ Ok (x, n) → (1 ≤ n) × Took (Part x) ts n) where
  grows : (xs ys : List A) (ts : Tokens) (m : ℕ) → test ts ≡ true → one_more part xs ts ≡ Ok (ys, m) → 1 ≤ m
  grows xs ys ts m h e = let (x, f, g) = one_more_ok part xs ys ts m e in (sound xs ts x m h f).0

  pub repeat_sound : (bound : ℕ) (xs ys : List A) (ts : Tokens) (n : ℕ) → length ts ≤ bound → repeat test (one_more part) 0 xs ts ≡ Ok (ys, n)
      → (zs : List A) × (ys ≡ xs ++ zs) × Took (Each Part zs) ts n
  repeat_sound zero xs ys ts n l h = by (repeat_ok test (one_more part) some grows xs ys ts n h)
    where
      by : ((test ts ≡ false) × (xs ≡ ys) × (n ≡ 0))
          ⊎ ((c : List A) × (m : ℕ) × (k : ℕ) × (test ts ≡ true) × (one_more part xs ts ≡ Ok (c, m)) × (1 ≤ m) × (repeat test (one_more part) 0 c (drop m ts) ≡ Ok (ys, k)) × (n ≡ m + k))
          → (zs : List A) × (ys ≡ xs ++ zs) × Took (Each Part zs) ts n
      by (inl (e, f, g)) = ([], sym f ∙ sym (append-nil xs), subst (Took (Each Part []) ts) (sym g) (took_none ts))
      by (inr (c, m, k, t, p, o, r, s)) = let some_left = some ts t in absurd (omega arith)
  repeat_sound (suc bound) xs ys ts n l h = by (repeat_ok test (one_more part) some grows xs ys ts n h) (repeat_sound bound)
    where
      by : ((test ts ≡ false) × (xs ≡ ys) × (n ≡ 0))
          ⊎ ((c : List A) × (m : ℕ) × (k : ℕ) × (test ts ≡ true) × (one_more part xs ts ≡ Ok (c, m)) × (1 ≤ m) × (repeat test (one_more part) 0 c (drop m ts) ≡ Ok (ys, k)) × (n ≡ m + k))
          → ((xs ys : List A) (ts : Tokens) (n : ℕ) → length ts ≤ bound → repeat test (one_more part) 0 xs ts ≡ Ok (ys, n) → (zs : List A) × (ys ≡ xs ++ zs) × Took (Each Part zs) ts n)
          → (zs : List A) × (ys ≡ xs ++ zs) × Took (Each Part zs) ts n
      by (inl (e, f, g)) next = ([], sym f ∙ sym (append-nil xs), subst (Took (Each Part []) ts) (sym g) (took_none ts))
      by (inr (c, m, k, t, p, o, r, s)) next =
          let (x, q, is) = one_more_ok part xs c ts m p in
          let (zs, e, took) = next c ys (drop m ts) k (omega (arith, l, o, length-drop m ts)) r in
          (x ∷ zs, e ∙ ap (λ l. l ++ zs) is ∙ append_assoc xs (x ∷ []) zs, took_then (Part x) (Each Part zs) ts m k n (sound xs ts x m t q).1 took s)

-- each behind its separator
pub each_behind : {A : Type 0} (sep : Kind → Bool) (Part : A → Tokens → Type 0) (xs : List A) (a : Tokens) → Each (λ x. Seq (Is sep) (Part x)) xs a → Behind sep Part xs a
each_behind sep Part [] a h = h
each_behind sep Part (x ∷ xs) a (b, c, e, (s, p, f, is, q), others) =
    (s, p ++ c, e ∙ ap (λ l. l ++ c) f ∙ append_assoc s p c, is, (p, c, refl, q, each_behind sep Part xs c others))
