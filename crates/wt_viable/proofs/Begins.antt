-- The tokens before a refusal begin a sentence of a part: readings put together.
use Rattle.std.proofs.Common.{◌≡◌, ℕ, suc, zero, ◌-◌, ◌≤◌, arith, ◌⊎◌, inl, inr, Bool, true, false, List, [], ◌∷◌, ◌++◌, drop, refl, ap, sym, ◌∙◌, append_assoc, append-nil, Ok, Err, subst}
use Rattle.wt_ast.specs.Tree.{FromTree, CondTree, CondTrees}
use Rattle.wt_lex.specs.declared.token.TokenKind.TheVariants as kinds
use Rattle.wt_reading.specs.declared.lexeme.Kind.{Kind}
use Rattle.wt_reading.specs.declared.lexeme.Kind.TheVariants.{End, Mark}
use Rattle.wt_lex.specs.declared.token.Sym.TheVariants as sym
use Rattle.wt_reading.specs.declared.lexeme.Lexeme.{Lexeme}
use Rattle.wt_grammar.specs.declared.fault.QueryFault.{QueryFault}
use Rattle.wt_reading.specs.Lexemes.{Tokens, kind, place, is_open, is_close, is_comma}
use Rattle.wt_reading.specs.Readings.{plus, followed, taken, joined_to, more, list, expect, within, onward, repeat}
use Rattle.wt_grammar.specs.Reading.{Read, Refusal, refused, refusal, run, one_or}
use Rattle.wt_reading.specs.Sentences.{Seq, Is, Behind, Listed, Parens}
use Rattle.wt_sentence.specs.Grammar.{Run, Chain}
use Rattle.wt_reading.proofs.Inversions.{chosen}
use Rattle.wt_reading.proofs.Took.{Took, Sound, behind_front, took_is, expected}

-- tokens with some value
abbrev pub Any : {A : Type 0} → (A → Tokens → Type 0) → Tokens → Type 0
Any {A} Part l = (x : A) × Part x l

-- some tokens are such
abbrev pub Ending : (Tokens → Type 0) → Type 0
Ending P = (l : Tokens) × P l

-- the tokens before a place begin tokens that are such
abbrev pub Begins : ℕ → (Tokens → Type 0) → Tokens → ℕ → Type 0
Begins end P ts at = (before : Tokens) × (behind : Tokens) × (ts ≡ before ++ behind) × (at ≡ place end behind) × (more : Tokens) × P (before ++ more)

-- wherever a reading refuses, the tokens before it begin tokens that are such
abbrev pub Viable : {A : Type 0} → ℕ → (Tokens → Type 0) → (Tokens → Read A) → Type 0
Viable end P part = (ts : Tokens) (why : Refusal) (at : ℕ) → part ts ≡ Err (why, at) → Begins end P ts at

-- a token of a kind, at no place that counts
abbrev pub token_of : Kind → Lexeme
token_of k = record { kind = k; token = record { kind = kinds.Text; start = 0; end = 0 } }

pub a_token : (wanted : Kind → Bool) (k : Kind) → wanted k ≡ true → Ending (Is wanted)
a_token wanted k h = (token_of k ∷ [], (token_of k, refl, h))

pub then_ending : (P Q : Tokens → Type 0) → Ending P → Ending Q → Ending (Seq P Q)
then_ending P Q (a, p) (b, q) = (a ++ b, (a, b, refl, p, q))

pub as_ending : (P Q : Tokens → Type 0) → ((l : Tokens) → P l → Q l) → Ending P → Ending Q
as_ending P Q f (l, p) = (l, f l p)

-- one part, and no other
pub listed_one : {A : Type 0} (Part : A → Tokens → Type 0) (l : Tokens) → Any Part l → Any (Listed Part) l
listed_one Part l (x, p) = (x ∷ [], (x, [], (l, [], sym (append-nil l), p, refl), refl))

pub run_one : (sep : Kind → Bool) (whole : ℕ → CondTrees → CondTree) (Part : CondTree → Tokens → Type 0) (l : Tokens) → Any Part l → Any (Run sep whole Part) l
run_one sep whole Part l (x, p) = (x, (x, [], (l, [], sym (append-nil l), p, refl), refl))

-- ---- what a refused reading was made of

pub err_parts : {A : Type 0} (f why : Refusal) (p at : ℕ) → ◌≡◌ {A = Read A} (Err (f, p)) (Err (why, at)) → at ≡ p
err_parts {A} f why p at h = let e : ◌≡◌ {A = Refusal × ℕ} (f, p) (why, at) = cc in sym (ap (λ p. p.1) e)

pub ok_no_err : {A : Type 0} {x : A × ℕ} {e : Refusal × ℕ} → ◌≡◌ {A = Read A} (Ok x) (Err e) → ⊥
ok_no_err h = cc

pub plus_err : {A : Type 0} (m : ℕ) (r : Read A) (e : Refusal × ℕ) → plus m r ≡ Err e → r ≡ Err e
plus_err m (Ok x) e h = absurd cc
plus_err m (Err z) e h = h

pub followed_err : {A B : Type 0} (ts : Tokens) (r : Read A) (f : A → Tokens → Read B) (e : Refusal × ℕ) → followed ts r f ≡ Err e
    → (r ≡ Err e) ⊎ ((x : A) × (m : ℕ) × (r ≡ Ok (x, m)) × (f x (drop m ts) ≡ Err e))
followed_err ts (Ok x) f e h = inr (x.0, x.1, refl, plus_err x.1 (f x.0 (drop x.1 ts)) e h)
followed_err ts (Err z) f e h = let same : z ≡ e = cc in inl (λ i. Err (same i))

-- a reading that is followed by nothing but a value
pub last_err : {A B : Type 0} (ts : Tokens) (r : Read A) (f : A → B) (e : Refusal × ℕ) → followed ts r (λ x rest. Ok (f x, 0)) ≡ Err e → r ≡ Err e
last_err ts (Ok x) f e h = absurd cc
last_err ts (Err z) f e h = let same : z ≡ e = cc in (λ i. Err (same i))

joined_err : {A : Type 0} (r : Read A) (f : ℕ → Read (List A)) (e : Refusal × ℕ) → joined_to r (f (taken r)) ≡ Err e
    → (r ≡ Err e) ⊎ ((x : A) × (m : ℕ) × (r ≡ Ok (x, m)) × (f m ≡ Err e))
joined_err {A = A} (Ok x) f e h = inr (x.0, x.1, refl, by (f x.1) h)
  where
    by : (q : Read (List A)) → joined_to (Ok x) q ≡ Err e → q ≡ Err e
    by (Ok xs) h = absurd cc
    by (Err z) h = h
joined_err (Err z) f e h = let same : z ≡ e = cc in inl (λ i. Err (same i))

module _ (end : ℕ) where
  -- ---- where the tokens before a place end

  -- refused at the front
  pub begins_here : (P : Tokens → Type 0) (ts : Tokens) (at : ℕ) → at ≡ place end ts → Ending P → Begins end P ts at
  begins_here P ts at e (more, p) = ([], ts, refl, e, more, p)

  pub begins_at_front : {A : Type 0} (P : Tokens → Type 0) (ts : Tokens) (f why : Refusal) (at : ℕ) → Ending P → ◌≡◌ {A = Read A} (Err (f, place end ts)) (Err (why, at)) → Begins end P ts at
  begins_at_front P ts f why at p h = begins_here P ts at (err_parts f why (place end ts) at h) p

  -- refused behind a part that is read
  pub begins_behind : (P : Tokens → Type 0) (ts : Tokens) (n at : ℕ) → at ≡ place end (drop n ts) → Took P ts n → Begins end P ts at
  begins_behind P ts n at h (a, b, e, l, p) = (a, b, e, h ∙ ap (place end) (behind_front ts a b n e l), [], subst P (sym (append-nil a)) p)

  -- refused in the second of two parts
  pub begins_then : (P Q : Tokens → Type 0) (ts : Tokens) (n at : ℕ) → Took P ts n → Begins end Q (drop n ts) at → Begins end (Seq P Q) ts at
  begins_then P Q ts n at (a, b, e, l, p) (a', b', e', f, more, q) =
      let rest = sym (behind_front ts a b n e l) ∙ e' in
      (a ++ a', b', e ∙ ap (λ z. a ++ z) rest ∙ sym (append_assoc a a' b'), f, more, (a, a' ++ more, append_assoc a a' more, p, q))

  pub begins_as : (P Q : Tokens → Type 0) (ts : Tokens) (at : ℕ) → ((l : Tokens) → P l → Q l) → Begins end P ts at → Begins end Q ts at
  begins_as P Q ts at g (a, b, e, f, more, p) = (a, b, e, f, more, g (a ++ more) p)

  -- ---- readings put together

  -- a reading and another behind it
  pub begins_followed : {A B : Type 0} (P Q : A → Tokens → Type 0) (ts : Tokens) (r : Read A) (f : A → Tokens → Read B) (why : Refusal) (at : ℕ)
      → (r ≡ Err (why, at) → Begins end (Any P) ts at) → ((x : A) (m : ℕ) → r ≡ Ok (x, m) → Took (P x) ts m)
      → ((x : A) → Ending (Q x)) → ((x : A) (l : Tokens) → f x l ≡ Err (why, at) → Begins end (Q x) l at)
      → followed ts r f ≡ Err (why, at) → Begins end (λ l. (x : A) × Seq (P x) (Q x) l) ts at
  begins_followed {A = A} P Q ts r f why at first sound last second h = by (followed_err ts r f (why, at) h)
    where
      by : (r ≡ Err (why, at)) ⊎ ((x : A) × (m : ℕ) × (r ≡ Ok (x, m)) × (f x (drop m ts) ≡ Err (why, at))) → Begins end (λ l. (x : A) × Seq (P x) (Q x) l) ts at
      by (inl e) = let (a, b, e1, e2, more, (x, p)) = first e in let (l, q) = last x in (a, b, e1, e2, more ++ l, (x, (a ++ more, l, sym (append_assoc a more l), p, q)))
      by (inr (x, m, e, g)) =
          begins_as (Seq (P x) (Q x)) (λ l. (x : A) × Seq (P x) (Q x) l) ts at (λ l q. (x, q)) (begins_then (P x) (Q x) ts m at (sound x m e) (second x (drop m ts) g))

  -- one token that has to stand here, of which k is one
  pub begins_expect : (wanted : Kind → Bool) (k : Kind) (other : Kind → QueryFault) (ts : Tokens) (why : Refusal) (at : ℕ) → wanted k ≡ true
      → expect (λ l. wanted (kind l)) (refusal end other) ts ≡ Err (why, at) → Begins end (Is wanted) ts at
  unfolding expect
  begins_expect wanted k other ts why at is h =
      elim (chosen (wanted (kind ts)) _ _ _ h) [
        | inl p ↦ absurd (ok_no_err p.1)
        | inr p ↦ begins_at_front (Is wanted) ts (refused (other (kind ts))) why at (a_token wanted k is) p.1
      ]

  -- and a reading behind it
  pub begins_expected : {B : Type 0} (wanted : Kind → Bool) (k : Kind) (other : Kind → QueryFault) (Q : Tokens → Type 0) (ts : Tokens) (f : Tokens → Read B) (why : Refusal) (at : ℕ)
      → wanted k ≡ true → wanted End ≡ false → Ending Q → ((l : Tokens) → f l ≡ Err (why, at) → Begins end Q l at)
      → followed ts (expect (λ l. wanted (kind l)) (refusal end other) ts) (λ _ rest. f rest) ≡ Err (why, at) → Begins end (Seq (Is wanted) Q) ts at
  begins_expected wanted k other Q ts f why at is ends last second h =
      begins_as (λ l. (u : Unit {0}) × Seq (Is wanted) Q l) (Seq (Is wanted) Q) ts at (λ l p. p.1)
      (begins_followed (λ _. Is wanted) (λ _. Q) ts (expect (λ l. wanted (kind l)) (refusal end other) ts) (λ _ rest. f rest) why at
      (λ e. begins_as (Is wanted) (Any (λ (u : Unit {0}). Is wanted)) ts at (λ l p. (tt, p)) (begins_expect wanted k other ts why at is e)) read_one (λ _. last) (λ _ l e. second l e) h)
    where
      read_one : (u : Unit {0}) (m : ℕ) → expect (λ l. wanted (kind l)) (refusal end other) ts ≡ Ok (u, m) → Took (Is wanted) ts m
      read_one u m e = let (w, one) = expected (λ l. wanted (kind l)) (refusal end other) ts u m e in subst (Took (Is wanted) ts) (sym one) (took_is wanted ts ends w)

  -- a part behind an opening parenthesis, and the one that closes it
  pub begins_within : {A : Type 0} (Part : A → Tokens → Type 0) (part : Tokens → Read A) (other : A → Kind → QueryFault) (ts : Tokens) (why : Refusal) (at : ℕ) → is_open (kind ts) ≡ true
      → (part (drop 1 ts) ≡ Err (why, at) → Begins end (Any Part) (drop 1 ts) at) → ((x : A) (m : ℕ) → part (drop 1 ts) ≡ Ok (x, m) → Took (Part x) (drop 1 ts) m)
      → within part (λ x. refusal end (other x)) ts ≡ Err (why, at) → Begins end (Any (Parens Part)) ts at
  begins_within {A} Part part other ts why at opens first sound h =
      begins_as (Seq (Is is_open) (λ l. (x : A) × Seq (Part x) (Is is_close) l)) (Any (Parens Part)) ts at (λ l (a, b, e, o, (x, p)). (x, (a, b, e, o, p)))
      (begins_then (Is is_open) (λ l. (x : A) × Seq (Part x) (Is is_close) l) ts 1 at (took_is is_open ts refl opens)
      (begins_followed Part (λ _. Is is_close) (drop 1 ts) (part (drop 1 ts)) (λ x rest. followed rest (expect (λ l. is_close (kind l)) (refusal end (other x)) rest) (λ _ r. Ok (x, 0))) why at first sound
      (λ x. a_token is_close (Mark sym.Close) refl)
      (λ x l e. begins_expect is_close (Mark sym.Close) (other x) l why at refl (last_err l (expect (λ l. is_close (kind l)) (refusal end (other x)) l) (λ _. x) (why, at) e))
      (plus_err 1 _ (why, at) h)))

  module _ {A : Type 0} (sep : Kind → Bool) (Part : A → Tokens → Type 0) (part : Tokens → Read A) (part_sound : Sound Part part) (part_begins : Viable end (Any Part) part) where
    -- parts, each behind a separator
    pub begins_more : (n : ℕ) (ts : Tokens) (why : Refusal) (at : ℕ) → more sep part n ts ≡ Err (why, at) → Begins end (Any (Behind sep Part)) (drop n ts) at
    unfolding more
    begins_more n [] why at h = absurd cc
    begins_more (suc n) (t ∷ ts) why at h = begins_more n ts why at h
    begins_more zero (t ∷ ts) why at h = by (λ m g. begins_more m ts why at g) (chosen (sep t.kind) _ _ _ h)
      where
        one : sep t.kind ≡ true → Took (Is sep) (t ∷ ts) 1
        one s = (t ∷ [], ts, refl, refl, (t, refl, s))

        go : ((m : ℕ) → more sep part m ts ≡ Err (why, at) → Begins end (Any (Behind sep Part)) (drop m ts) at) → sep t.kind ≡ true
            → (part ts ≡ Err (why, at)) ⊎ ((x : A) × (m : ℕ) × (part ts ≡ Ok (x, m)) × (more sep part m ts ≡ Err (why, at))) → Begins end (Any (Behind sep Part)) (t ∷ ts) at
        go ih s (inl e) =
            begins_as (Seq (Is sep) (Any Part)) (Any (Behind sep Part)) (t ∷ ts) at (λ l (a, b, f, o, (x, p)). (x ∷ [], (a, b, f, o, (b, [], sym (append-nil b), p, refl))))
            (begins_then (Is sep) (Any Part) (t ∷ ts) 1 at (one s) (part_begins ts why at e))
        go ih s (inr (x, m, e, g)) =
            begins_as (Seq (Is sep) (Seq (Part x) (Any (Behind sep Part)))) (Any (Behind sep Part)) (t ∷ ts) at
            (λ l (a, b, f, o, (c, d, k, p, (xs, q))). (x ∷ xs, (a, b, f, o, (c, d, k, p, q))))
            (begins_then (Is sep) (Seq (Part x) (Any (Behind sep Part))) (t ∷ ts) 1 at (one s)
            (begins_then (Part x) (Any (Behind sep Part)) ts m at (part_sound ts x m e) (ih m g)))

        by : ((m : ℕ) → more sep part m ts ≡ Err (why, at) → Begins end (Any (Behind sep Part)) (drop m ts) at)
            → ((sep t.kind ≡ true) × (joined_to (part ts) (more sep part (taken (part ts)) ts) ≡ Err (why, at))) ⊎ ((sep t.kind ≡ false) × (◌≡◌ {A = Read (List A)} (Ok ([], 0)) (Err (why, at))))
            → Begins end (Any (Behind sep Part)) (t ∷ ts) at
        by ih (inl p) = go ih p.0 (joined_err (part ts) (λ m. more sep part m ts) (why, at) p.1)
        by ih (inr p) = absurd cc

    -- a part, and parts behind separators
    begins_parts : {B : Type 0} (ts : Tokens) (f : A → List A → B) (why : Refusal) (at : ℕ) → followed ts (part ts) (λ x rest. followed rest (more sep part 0 rest) (λ xs r. Ok (f x xs, 0))) ≡ Err (why, at)
        → Begins end (λ l. (x : A) × Seq (Part x) (Any (Behind sep Part)) l) ts at
    begins_parts ts f why at h =
        begins_followed Part (λ _. Any (Behind sep Part)) ts (part ts) (λ x rest. followed rest (more sep part 0 rest) (λ xs r. Ok (f x xs, 0))) why at (part_begins ts why at)
        (part_sound ts) (λ x. ([], ([], refl))) (λ x l e. begins_more 0 l why at (last_err l (more sep part 0 l) (λ xs. f x xs) (why, at) e)) h

  pub begins_list : {A : Type 0} (Part : A → Tokens → Type 0) (part : Tokens → Read A) → Sound Part part → Viable end (Any Part) part → Viable end (Any (Listed Part)) (list part)
  unfolding list
  begins_list {A} Part part sound viable ts why at h =
      begins_as (λ l. (x : A) × Seq (Part x) (Any (Behind is_comma Part)) l) (Any (Listed Part)) ts at (λ l (x, (a, b, e, p, (xs, q))). (x ∷ xs, (x, xs, (a, b, e, p, q), refl)))
      (begins_parts is_comma Part part sound viable ts (λ x xs. x ∷ xs) why at h)

  pub begins_run : (sep : Kind → Bool) (whole : ℕ → CondTrees → CondTree) (Part : CondTree → Tokens → Type 0) (part : Tokens → Read CondTree) → Sound Part part → Viable end (Any Part) part
      → Viable end (Any (Run sep whole Part)) (run sep whole part)
  unfolding run
  begins_run sep whole Part part sound viable ts why at h =
      begins_as (λ l. (x : CondTree) × Seq (Part x) (Any (Behind sep Part)) l) (Any (Run sep whole Part)) ts at (λ l (x, (a, b, e, p, (xs, q))). (one_or whole x xs, (x, xs, (a, b, e, p, q), refl)))
      (begins_parts sep Part part sound viable ts (λ x xs. one_or whole x xs) why at h)

  -- steps, each from what was made before
  abbrev pub MoreSteps : (FromTree → FromTree → Tokens → Type 0) → FromTree → Tokens → Type 0
  MoreSteps Step a l = (m : ℕ) × (f : FromTree) × Chain Step m a f l

  pub no_steps : (Step : FromTree → FromTree → Tokens → Type 0) (a : FromTree) → Ending (MoreSteps Step a)
  no_steps Step a = ([], (0, a, (refl, refl)))

  module _ (test : Kind → Bool) (Step : FromTree → FromTree → Tokens → Type 0) (step : FromTree → Tokens → Read FromTree)
      (sound : (a : FromTree) (ts : Tokens) (f : FromTree) (n : ℕ) → test (kind ts) ≡ true → step a ts ≡ Ok (f, n) → Took (Step a f) ts n)
      (some : (a f : FromTree) (ts : Tokens) (n : ℕ) → Took (Step a f) ts n → 1 ≤ n)
      (begins : (a : FromTree) (ts : Tokens) (why : Refusal) (at : ℕ) → test (kind ts) ≡ true → step a ts ≡ Err (why, at) → Begins end (Any (Step a)) ts at) where
    -- the number counts the tokens that still belong to what stands before
    pub begins_chain : (a : FromTree) (n : ℕ) (ts : Tokens) (why : Refusal) (at : ℕ) → repeat (λ l. test (kind l)) step n a ts ≡ Err (why, at) → Begins end (MoreSteps Step a) (drop n ts) at
    unfolding repeat
    begins_chain a n [] why at h = absurd cc
    begins_chain a (suc n) (t ∷ ts) why at h = begins_chain a n ts why at h
    begins_chain a zero (t ∷ ts) why at h = by (λ b m e. begins_chain b m ts why at e) (chosen (test t.kind) _ _ _ h)
      where
        drop_less : (k : ℕ) → 1 ≤ k → drop (k - 1) ts ≡ drop k (t ∷ ts)
        drop_less zero h = absurd (omega arith)
        drop_less (suc k) h = let e : suc k - 1 ≡ k = omega arith in ap (λ z. drop z ts) e

        go : ((b : FromTree) (m : ℕ) → repeat (λ l. test (kind l)) step m b ts ≡ Err (why, at) → Begins end (MoreSteps Step b) (drop m ts) at) → test t.kind ≡ true
            → (r : Read FromTree) → step a (t ∷ ts) ≡ r → onward r (λ b m. repeat (λ l. test (kind l)) step (m - 1) b ts) ≡ Err (why, at) → Begins end (MoreSteps Step a) (t ∷ ts) at
        go ih holds (Err x) is e =
            let same : x ≡ (why, at) = cc in
            begins_as (Any (Step a)) (MoreSteps Step a) (t ∷ ts) at (λ l (g, p). (1, g, (g, (l, [], sym (append-nil l), p, (refl, refl)))))
            (begins a (t ∷ ts) why at holds (is ∙ (λ i. Err (same i))))
        go ih holds (Ok x) is e =
            let took = sound a (t ∷ ts) x.0 x.1 holds is in
            let one : 1 ≤ x.1 = some a x.0 (t ∷ ts) x.1 took in
            let behind = ih x.0 (x.1 - 1) (plus_err x.1 (repeat (λ l. test (kind l)) step (x.1 - 1) x.0 ts) (why, at) e) in
            begins_as (Seq (Step a x.0) (MoreSteps Step x.0)) (MoreSteps Step a) (t ∷ ts) at (λ l (b, c, k, p, (m, f, q)). (suc m, f, (x.0, (b, c, k, p, q))))
            (begins_then (Step a x.0) (MoreSteps Step x.0) (t ∷ ts) x.1 at took (subst (λ l. Begins end (MoreSteps Step x.0) l at) (drop_less x.1 one) behind))

        by : ((b : FromTree) (m : ℕ) → repeat (λ l. test (kind l)) step m b ts ≡ Err (why, at) → Begins end (MoreSteps Step b) (drop m ts) at)
            → ((test t.kind ≡ true) × (onward (step a (t ∷ ts)) (λ b m. repeat (λ l. test (kind l)) step (m - 1) b ts) ≡ Err (why, at)))
            ⊎ ((test t.kind ≡ false) × (◌≡◌ {A = Read FromTree} (Ok (a, 0)) (Err (why, at)))) → Begins end (MoreSteps Step a) (t ∷ ts) at
        by ih (inl p) = go ih p.0 (step a (t ∷ ts)) refl p.1
        by ih (inr p) = absurd cc
