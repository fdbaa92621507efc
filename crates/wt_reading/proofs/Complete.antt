-- Each sentence is read to its end, before what may follow it.
use Rattle.std.proofs.Common.{◌≡◌, ℕ, suc, ◌+◌, Bool, true, false, List, [], ◌∷◌, ◌++◌, length, drop, refl, ap, sym, ◌∙◌, arith, append_assoc, length-append, add-zero, Ok, subst}
use Rattle.wt_reading.specs.declared.lexeme.Kind.{Kind}
use Rattle.wt_reading.specs.declared.lexeme.Lexeme.{Lexeme}
use Rattle.wt_reading.specs.Lexemes.{Tokens, kind, is_comma}
use Rattle.wt_reading.specs.Readings.{Reading, plus, followed, joined_to, more, list}
use Rattle.wt_reading.specs.Sentences.{Behind, Listed}
use Rattle.wt_reading.proofs.Inversions.{skip}
use Rattle.wt_reading.proofs.Took.{drop_front}

-- ---- readings put together

pub then_reads : {E A B : Type 0} (part : Tokens → Reading E A) (f : A → Tokens → Reading E B) (ts a b rest : Tokens) (x : A) (y : B) → ts ≡ a ++ b
    → part (a ++ (b ++ rest)) ≡ Ok (x, length a) → f x (b ++ rest) ≡ Ok (y, length b) → followed (ts ++ rest) (part (ts ++ rest)) f ≡ Ok (y, length ts)
then_reads part f ts a b rest x y e h g =
    let whole = ap (λ l. l ++ rest) e ∙ append_assoc a b rest in
    ap (λ l. followed l (part l) f) whole
    ∙ ap (λ r. followed (a ++ (b ++ rest)) r f) h
    ∙ ap (λ l. plus (length a) (f x l)) (drop_front a (b ++ rest))
    ∙ ap (plus (length a)) g
    ∙ ap (λ n. Ok (y, n)) (sym (length-append a b) ∙ sym (ap length e))

pub last_reads : {E A B : Type 0} (part : Tokens → Reading E A) (f : A → B) (ts rest : Tokens) (x : A) → part (ts ++ rest) ≡ Ok (x, length ts)
    → followed (ts ++ rest) (part (ts ++ rest)) (λ x r. Ok (f x, 0)) ≡ Ok (f x, length ts)
last_reads part f ts rest x h =
    ap (λ r. followed (ts ++ rest) r (λ x r. Ok (f x, 0))) h ∙ ap (λ n. Ok (f x, n)) (add-zero (length ts))

-- a token in front of what is read
pub plus_one : {E A : Type 0} (r : Reading E A) (x : A) (n : ℕ) → r ≡ Ok (x, n) → plus 1 r ≡ Ok (x, suc n)
plus_one r x n h = let e : 1 + n ≡ suc n = omega arith in ap (plus 1) h ∙ ap (λ k. Ok (x, k)) e

pub stops : {E A : Type 0} (sep : Kind → Bool) (part : Tokens → Reading E A) (ts : Tokens) → sep (kind ts) ≡ false → more sep part 0 ts ≡ Ok ([], 0)
unfolding more
stops sep part [] h = refl
stops sep part (t ∷ ts) h = rw h

pub goes : {E A : Type 0} (sep : Kind → Bool) (part : Tokens → Reading E A) (t : Lexeme) (ts : Tokens) (x : A) (n : ℕ) → sep t.kind ≡ true → part ts ≡ Ok (x, n)
    → more sep part 0 (t ∷ ts) ≡ joined_to (Ok (x, n)) (more sep part 0 (drop n ts))
unfolding more
goes sep part t ts x n h e = rw (h, e, skip sep part n ts)

-- each sentence of the part is read before what may follow it
abbrev pub Completes : {E A : Type 0} → (A → Tokens → Type 0) → (Tokens → Type 0) → (Tokens → Reading E A) → Type 0
Completes {A = A} Part Follow part = (a rest : Tokens) (x : A) → Part x a → Follow rest → part (a ++ rest) ≡ Ok (x, length a)

module _ {E A : Type 0} (sep : Kind → Bool) (Part : A → Tokens → Type 0) (Follow : Tokens → Type 0) (part : Tokens → Reading E A)
    (complete : Completes Part Follow part) (sep_follows : (ts : Tokens) → sep (kind ts) ≡ true → Follow ts) where
  follows : (b rest : Tokens) (xs : List A) → Behind sep Part xs b → Follow rest → Follow (b ++ rest)
  follows b rest [] h f = subst (λ b. Follow (b ++ rest)) (sym h) f
  follows b rest (x ∷ xs) (s, c, e, (t, e', w), q) f = subst (λ b. Follow (b ++ rest)) (sym (e ∙ ap (λ z. z ++ c) e')) (sep_follows (t ∷ (c ++ rest)) w)

  pub behind_reads : (b rest : Tokens) (xs : List A) → Behind sep Part xs b → Follow rest → sep (kind rest) ≡ false → more sep part 0 (b ++ rest) ≡ Ok (xs, length b)
  behind_reads b rest [] h f s = ap (λ b. more sep part 0 (b ++ rest)) h ∙ stops sep part rest s ∙ ap (λ b. Ok ([], length b)) (sym h)
  behind_reads b rest (x ∷ xs) (c, d, e, (t, e', w), (a, b', e'', p, q)) f s =
      let whole : b ≡ t ∷ (a ++ b') = e ∙ (λ i. e' i ++ e'' i) in
      let read : part (a ++ (b' ++ rest)) ≡ Ok (x, length a) = complete a (b' ++ rest) x p (follows b' rest xs q f) in
      let others : more sep part 0 (drop (length a) (a ++ (b' ++ rest))) ≡ Ok (xs, length b') = ap (more sep part 0) (drop_front a (b' ++ rest)) ∙ behind_reads b' rest xs q f s in
      let size : length a + length b' + 1 ≡ length b = omega (arith, ap length whole, length-append a b') in
      ap (λ b. more sep part 0 (b ++ rest)) whole
      ∙ ap (λ l. more sep part 0 (t ∷ l)) (append_assoc a b' rest)
      ∙ goes sep part t (a ++ (b' ++ rest)) x (length a) w read
      ∙ ap (joined_to (Ok (x, length a))) others
      ∙ ap (λ n. Ok (x ∷ xs, n)) size

pub list_reads : {E A : Type 0} (Part : A → Tokens → Type 0) (Follow : Tokens → Type 0) (part : Tokens → Reading E A) → Completes Part Follow part
    → ((ts : Tokens) → is_comma (kind ts) ≡ true → Follow ts) → (a rest : Tokens) (xs : List A) → Listed Part xs a → Follow rest → is_comma (kind rest) ≡ false
    → list part (a ++ rest) ≡ Ok (xs, length a)
unfolding list
list_reads Part Follow part complete comma ts rest xs (y, ys, (a, b, e, p, q), is) f s =
    then_reads part (λ x rest. followed rest (more is_comma part 0 rest) (λ xs r. Ok (x ∷ xs, 0))) ts a b rest y (y ∷ ys) e
    (complete a (b ++ rest) y p (follows is_comma Part Follow part complete comma b rest ys q f))
    (last_reads (more is_comma part 0) (λ xs. y ∷ xs) b rest ys (behind_reads is_comma Part Follow part complete comma b rest ys q f s))
    ∙ ap (λ z. Ok (z, length ts)) (sym is)
