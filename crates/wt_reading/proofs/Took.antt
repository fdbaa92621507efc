-- The first tokens are a sentence.
use Rattle.std.proofs.Common.{◌≡◌, ℕ, ◌+◌, Bool, true, false, List, [], ◌∷◌, ◌++◌, length, drop, refl, ap, sym, ◌∙◌, arith, append_assoc, Ok, length-append, subst}
use Rattle.wt_reading.specs.declared.lexeme.Kind.{Kind}
use Rattle.wt_reading.specs.declared.lexeme.Kind.TheVariants.{End}
use Rattle.wt_reading.specs.declared.lexeme.Lexeme.{Lexeme}
use Rattle.wt_reading.specs.Lexemes.{Tokens, kind, place, at, is_comma, is_open, is_close}
use Rattle.wt_reading.specs.Readings.{Reading, more, list, expect, within}
use Rattle.wt_reading.specs.Sentences.{Seq, One, Is, IsAt, Behind, Listed, Parens}
use Rattle.wt_reading.proofs.Inversions.{held, ok_parts, plus_ok, followed_ok, last_ok, more_cons, more_nil, nothing}

-- the first n tokens are such
abbrev pub Took : (Tokens → Type 0) → Tokens → ℕ → Type 0
Took P ts n = (a : Tokens) × (b : Tokens) × (ts ≡ a ++ b) × (length a ≡ n) × P a

-- whatever is read is a sentence, with its value
abbrev pub Sound : {E A : Type 0} → (A → Tokens → Type 0) → (Tokens → Reading E A) → Type 0
Sound {A = A} Part part = (ts : Tokens) (x : A) (n : ℕ) → part ts ≡ Ok (x, n) → Took (Part x) ts n

pub drop_front : (a b : Tokens) → drop (length a) (a ++ b) ≡ b
drop_front [] b = refl
drop_front (t ∷ a) b = drop_front a b

pub behind_front : (ts a b : Tokens) (n : ℕ) → ts ≡ a ++ b → length a ≡ n → drop n ts ≡ b
behind_front ts a b n e l = (λ i. drop (sym l i) (e i)) ∙ drop_front a b

pub took_none : (ts : Tokens) → Took (λ l. l ≡ []) ts 0
took_none ts = ([], ts, refl, refl, refl)

pub took_then : (P Q : Tokens → Type 0) (ts : Tokens) (n m k : ℕ) → Took P ts n → Took Q (drop n ts) m → k ≡ n + m → Took (Seq P Q) ts k
took_then P Q ts n m k (a, b, e, l, p) (a', b', e', l', q) s =
    let rest = sym (behind_front ts a b n e l) ∙ e' in
    (a ++ a', b', e ∙ ap (λ z. a ++ z) rest ∙ sym (append_assoc a a' b'), length-append a a' ∙ (λ i. l i + l' i) ∙ sym s, (a, a', refl, p, q))

pub took_as : (P Q : Tokens → Type 0) (ts : Tokens) (n m : ℕ) → ((a : Tokens) → P a → Q a) → n ≡ m → Took P ts n → Took Q ts m
took_as P Q ts n m f s (a, b, e, l, p) = (a, b, e, l ∙ s, f a p)

-- one token of a kind that is not End
pub took_one : (wanted : Kind → Bool) (end : ℕ) (ts : Tokens) → wanted End ≡ false → wanted (kind ts) ≡ true → Took (IsAt wanted (place end ts)) ts 1
took_one wanted end [] none h = absurd cc
took_one wanted end (t ∷ ts) none h = (t ∷ [], ts, refl, refl, (t, refl, (h, refl)))

pub took_is : (wanted : Kind → Bool) (ts : Tokens) → wanted End ≡ false → wanted (kind ts) ≡ true → Took (Is wanted) ts 1
took_is wanted [] none h = absurd cc
took_is wanted (t ∷ ts) none h = (t ∷ [], ts, refl, refl, (t, refl, h))

-- what `expect` lets through
pub expected : {E : Type 0} (wanted : Tokens → Bool) (fault : Tokens → E) (ts : Tokens) (u : Unit {0}) (n : ℕ) → expect wanted fault ts ≡ Ok (u, n)
    → (wanted ts ≡ true) × (n ≡ 1)
unfolding expect
expected wanted fault ts u n h =
    let (w, e) = held (wanted ts) (Ok (tt, 1)) _ u n h in
    (w, sym (ok_parts tt u 1 n e).1)

module _ {E A : Type 0} (sep : Kind → Bool) (Part : A → Tokens → Type 0) (part : Tokens → Reading E A) (part_sound : Sound Part part) where
  pub behind_sound : (sep_end : sep End ≡ false) (xs : List A) (ts : Tokens) (n : ℕ) → more sep part 0 ts ≡ Ok (xs, n) → Took (Behind sep Part xs) ts n
  behind_sound sep_end [] ts n h = ([], ts, refl, sym (more_nil sep part ts n h), refl)
  behind_sound sep_end (y ∷ ys) [] n h = absurd (nothing sep part y ys n h)
  behind_sound sep_end (y ∷ ys) (t ∷ ts) n h =
      let (m, k, s, r, q, e) = more_cons sep part t ts y ys n h in
      took_then (Is sep) (Seq (Part y) (Behind sep Part ys)) (t ∷ ts) 1 (m + k) n (took_is sep (t ∷ ts) sep_end s)
      (took_then (Part y) (Behind sep Part ys) ts m k (m + k) (part_sound ts y m r) (behind_sound sep_end ys (drop m ts) k q) refl) (omega arith)

module _ {E A : Type 0} (Part : A → Tokens → Type 0) (part : Tokens → Reading E A) (part_sound : Sound Part part) where
  pub list_sound : Sound (Listed Part) (list part)
  unfolding list
  list_sound ts xs n h =
      let (y, m, k, r, q, e) = followed_ok ts (part ts) _ xs n h in
      let (ys, q', is) = last_ok (drop m ts) (more is_comma part 0 (drop m ts)) (λ zs. y ∷ zs) xs k q in
      took_as (Seq (Part y) (Behind is_comma Part ys)) (Listed Part xs) ts n n (λ a p. (y, ys, p, is)) refl
      (took_then (Part y) (Behind is_comma Part ys) ts m k n (part_sound ts y m r) (behind_sound is_comma Part part part_sound refl ys (drop m ts) k q') e)

-- a part behind an opening parenthesis, and the one that closes it
pub within_at : {E A : Type 0} (Part : A → Tokens → Type 0) (part : Tokens → Reading E A) (fault : A → Tokens → E) (ts : Tokens) (x : A) (n : ℕ) → is_open (kind ts) ≡ true
    → ((y : A) (m : ℕ) → part (drop 1 ts) ≡ Ok (y, m) → Took (Part y) (drop 1 ts) m) → within part fault ts ≡ Ok (x, n) → Took (Parens Part x) ts n
within_at Part part fault ts x n opens part_sound h =
    let (k, e, s) = plus_ok 1 _ x n h in
    let (y, m, j, r, q, s') = followed_ok (drop 1 ts) (part (drop 1 ts)) _ x k e in
    let (u, r', is) = last_ok (drop m (drop 1 ts)) (expect (at is_close) (fault y) (drop m (drop 1 ts))) (λ _. y) x j q in
    let (closed, one) = expected (at is_close) (fault y) (drop m (drop 1 ts)) u j r' in
    took_then (Is is_open) (Seq (Part x) (Is is_close)) ts 1 k n (took_is is_open ts refl opens)
    (took_then (Part x) (Is is_close) (drop 1 ts) m 1 k
    (part_sound x m (r ∙ ap (λ z. Ok (z, m)) (sym is)))
    (took_is is_close (drop m (drop 1 ts)) refl closed) (s' ∙ ap (λ z. m + z) one)) s

-- tokens that there are
abbrev pub There : Tokens → Type 0
There a = (t : Lexeme) × (r : Tokens) × (a ≡ t ∷ r)

pub some_seq : (P Q : Tokens → Type 0) → ((a : Tokens) → P a → There a) → (a : Tokens) → Seq P Q a → There a
some_seq P Q some a (b, c, e, p, q) = let (t, r, f) = some b p in (t, r ++ c, e ∙ ap (λ l. l ++ c) f)

pub some_one : (P : Lexeme → Type 0) (a : Tokens) → One P a → There a
some_one P a (t, e, p) = (t, [], e)

-- a sentence begins where the tokens do
pub took_begin : (P : ℕ → Tokens → Type 0) (end : ℕ) (ts : Tokens) (n : ℕ) → ((a : Tokens) → P (place end ts) a → There a) → Took (P (place end ts)) ts n
    → Took (λ a. P (place end a) a) ts n
took_begin P end ts n some (a, b, e, l, p) =
    let (t, r, f) = some a p in
    let same : place end ts ≡ place end a = ap (place end) (e ∙ ap (λ z. z ++ b) f) ∙ ap (place end) (sym f) in
    (a, b, e, l, subst (λ n. P n a) same p)
