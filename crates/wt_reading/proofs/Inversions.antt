-- What a reading that succeeds was made of.
use Rattle.std.proofs.Common.{◌≡◌, ℕ, ◌+◌, ◌⊎◌, inl, inr, Bool, true, false, List, [], ◌∷◌, drop, refl, ap, sym, ◌∙◌, Ok, Err, zero, suc, arith}
use Rattle.std.specs.Prelude.{if◌then◌else◌}
use Rattle.wt_reading.specs.declared.lexeme.Kind.{Kind}
use Rattle.wt_reading.specs.declared.lexeme.Lexeme.{Lexeme}
use Rattle.wt_reading.specs.Lexemes.{Tokens}
use Rattle.wt_reading.specs.Readings.{Reading, plus, followed, joined_to, taken, more}

pub chosen : {A : Type 0} (b : Bool) (x y z : A) → (if b then x else y) ≡ z → ((b ≡ true) × (x ≡ z)) ⊎ ((b ≡ false) × (y ≡ z))
chosen true x y z h = inl (refl, h)
chosen false x y z h = inr (refl, h)

-- a test that holds, where the other branch is refused
pub held : {E A : Type 0} (b : Bool) (x : Reading E A) (e : E) (y : A) (n : ℕ) → (if b then x else Err e) ≡ Ok (y, n) → (b ≡ true) × (x ≡ Ok (y, n))
held true x e y n h = (refl, h)
held false x e y n h = absurd cc

pub ok_parts : {E A : Type 0} (x y : A) (n m : ℕ) → ◌≡◌ {A = Reading E A} (Ok (x, n)) (Ok (y, m)) → (x ≡ y) × (n ≡ m)
ok_parts {E} {A} x y n m h = let e : ◌≡◌ {A = A × ℕ} (x, n) (y, m) = cc in (ap (λ p. p.0) e, ap (λ p. p.1) e)

pub plus_ok : {E A : Type 0} (m : ℕ) (r : Reading E A) (y : A) (n : ℕ) → plus m r ≡ Ok (y, n) → (k : ℕ) × (r ≡ Ok (y, k)) × (n ≡ m + k)
plus_ok m (Ok z) y n h = let (e, f) = ok_parts z.0 y (m + z.1) n h in (z.1, (λ i. Ok (e i, z.1)), sym f)
plus_ok m (Err z) y n h = absurd cc

pub followed_ok : {E A B : Type 0} (ts : Tokens) (r : Reading E A) (f : A → Tokens → Reading E B) (y : B) (n : ℕ) → followed ts r f ≡ Ok (y, n)
    → (x : A) × (m : ℕ) × (k : ℕ) × (r ≡ Ok (x, m)) × (f x (drop m ts) ≡ Ok (y, k)) × (n ≡ m + k)
followed_ok ts (Ok x) f y n h = let (k, e, s) = plus_ok x.1 (f x.0 (drop x.1 ts)) y n h in (x.0, x.1, k, refl, e, s)
followed_ok ts (Err e) f y n h = absurd cc

-- a reading that is followed by nothing but a value
pub last_ok : {E A B : Type 0} (ts : Tokens) (r : Reading E A) (f : A → B) (y : B) (n : ℕ) → followed ts r (λ x rest. Ok (f x, 0)) ≡ Ok (y, n)
    → (x : A) × (r ≡ Ok (x, n)) × (y ≡ f x)
last_ok ts (Ok x) f y n h =
    let (e, s) = ok_parts (f x.0) y (x.1 + 0) n h in
    let size : x.1 ≡ n = add_none x.1 n s in
    (x.0, (λ i. Ok (x.0, size i)), sym e)
  where
    add_none : (a b : ℕ) → a + 0 ≡ b → a ≡ b
    add_none a b h = omega arith
last_ok ts (Err e) f y n h = absurd cc

pub joined_inv : {E A : Type 0} (r : Reading E A) (q : Reading E (List A)) (y : A) (ys : List A) (n : ℕ) → joined_to r q ≡ Ok (y ∷ ys, n)
    → (m : ℕ) × (k : ℕ) × (r ≡ Ok (y, m)) × (q ≡ Ok (ys, k)) × (n ≡ m + k + 1)
joined_inv (Ok x) (Ok xs) y ys n h =
    let (e, f) = ok_parts (x.0 ∷ xs.0) (y ∷ ys) (x.1 + xs.1 + 1) n h in
    let e0 : x.0 ≡ y = cc in
    let e1 : xs.0 ≡ ys = cc in
    (x.1, xs.1, (λ i. Ok (e0 i, x.1)), (λ i. Ok (e1 i, xs.1)), sym f)
joined_inv (Ok x) (Err e) y ys n h = absurd cc
joined_inv (Err e) q y ys n h = absurd cc

pub joined_nil : {E A : Type 0} (r : Reading E A) (q : Reading E (List A)) (n : ℕ) → joined_to r q ≡ Ok ([], n) → ⊥
joined_nil (Ok x) (Ok xs) n h = let (e, f) = ok_parts (x.0 ∷ xs.0) [] (x.1 + xs.1 + 1) n h in cc
joined_nil (Ok x) (Err e) n h = cc
joined_nil (Err e) q n h = cc

module _ {E A : Type 0} (sep : Kind → Bool) (part : Tokens → Reading E A) where
  pub skip : (k : ℕ) (ts : Tokens) → more sep part k ts ≡ more sep part 0 (drop k ts)
  unfolding more
  skip zero ts = refl
  skip (suc k) [] = refl
  skip (suc k) (t ∷ ts) = skip k ts

  pub more_cons : (t : Lexeme) (ts : Tokens) (y : A) (ys : List A) (n : ℕ) → more sep part 0 (t ∷ ts) ≡ Ok (y ∷ ys, n)
      → (m : ℕ) × (k : ℕ) × (sep t.kind ≡ true) × (part ts ≡ Ok (y, m)) × (more sep part 0 (drop m ts) ≡ Ok (ys, k)) × (n ≡ m + k + 1)
  unfolding more
  more_cons t ts y ys n h = by (chosen (sep t.kind) _ _ _ h)
    where
      by : ((sep t.kind ≡ true) × (joined_to (part ts) (more sep part (taken (part ts)) ts) ≡ Ok (y ∷ ys, n))) ⊎ ((sep t.kind ≡ false) × (◌≡◌ {A = Reading E (List A)} (Ok ([], 0)) (Ok (y ∷ ys, n))))
          → (m : ℕ) × (k : ℕ) × (sep t.kind ≡ true) × (part ts ≡ Ok (y, m)) × (more sep part 0 (drop m ts) ≡ Ok (ys, k)) × (n ≡ m + k + 1)
      by (inl (s, j)) =
          let (m, k, r, q, e) = joined_inv (part ts) _ y ys n j in
          (m, k, s, r, sym (skip m ts) ∙ ap (λ r. more sep part (taken r) ts) (sym r) ∙ q, e)
      by (inr (s, j)) = let (e, f) = ok_parts [] (y ∷ ys) 0 n j in absurd cc

  pub more_nil : (ts : Tokens) (n : ℕ) → more sep part 0 ts ≡ Ok ([], n) → n ≡ 0
  unfolding more
  more_nil [] n h = sym (ok_parts [] [] 0 n h).1
  more_nil (t ∷ ts) n h = by (chosen (sep t.kind) _ _ _ h)
    where
      by : ((sep t.kind ≡ true) × (joined_to (part ts) (more sep part (taken (part ts)) ts) ≡ Ok ([], n))) ⊎ ((sep t.kind ≡ false) × (◌≡◌ {A = Reading E (List A)} (Ok ([], 0)) (Ok ([], n)))) → n ≡ 0
      by (inl (s, j)) = absurd (joined_nil (part ts) _ n j)
      by (inr (s, j)) = sym (ok_parts [] [] 0 n j).1

  pub nothing : (y : A) (ys : List A) (n : ℕ) → more sep part 0 [] ≡ Ok (y ∷ ys, n) → ⊥
  unfolding more
  nothing y ys n h = let (e, f) = ok_parts [] (y ∷ ys) 0 n h in cc
