-- One turn of a loop over parts with a separator, and the exits of such loops.
use Rattle.std.proofs.lemmas.List.{take_more}
use Rattle.std.proofs.lemmas.Option.{slice_get_within, get_or_from_slice_get}
use Rattle.std.specs.Prelude.{slice_get}
use Rattle.std.proofs.Common.{Some, take, length, ◌≡◌, ℕ, suc, zero, ◌+◌, ◌-◌, ◌≤◌, Bool, true, false, List, [], ◌∷◌, ◌++◌, drop, ap, ◌∙◌, arith, add-zero, Result, Ok, Err}
use Rattle.std.specs.Result.{IsErrAnd}
use Rattle.std.proofs.lemmas.Result.{err_from_is_err_and}
use Rattle.wt_ast.specs.Tree.{CondTree, CondTrees}
use Rattle.wt_reading.specs.declared.lexeme.Kind.{Kind}
use Rattle.wt_reading.specs.declared.lexeme.Kind.TheVariants.{End}
use Rattle.wt_reading.specs.Lexemes.{Tokens, at}
use Rattle.wt_reading.specs.Readings.{more, plus, followed}
use Rattle.wt_grammar.specs.Reading.{Read, Refusal, refused, odd, Nest, run, one_or}
use Rattle.wt_front.specs.declared.error.QueryError.{QueryError}
use Rattle.wt_front.specs.declared.error.QueryError.TheVariants as errors
use Rattle.wt_front.specs.Giving.{Gives, Fails, Adds}

by_error : {X A : Type 0} (view : X → A) (e : QueryError) (old new : List A) (B : Type 0) (read : Read A) (r : Read (List A))
    → Gives {X = X} view (Err e) read → ((f : Refusal × ℕ) → read ≡ Err f → r ≡ Err f) → Fails e r
by_error view errors.Memory old new B read r fails then_fails = tt
by_error view (errors.Refused f at) old new B read r fails then_fails = then_fails (refused f, at) fails
by_error view (errors.Lex f at) old new B read r fails then_fails = then_fails (odd f, at) fails

-- the exit of a `?` on a part
pub exit : {X A : Type 0} (view : X → A) (e : QueryError) (got : Result ℕ QueryError) (old new : List A) (read : Read A) (r : Read (List A))
    → IsErrAnd got (λ y. y ≡ e) → Gives {X = X} view (Err e) read → ((f : Refusal × ℕ) → read ≡ Err f → r ≡ Err f) → Adds got old new r
exit view e got old new read r was fails then_fails =
    let y = err_from_is_err_and got was in
    rw (y.1 ∙ ap Err y.2) (by_error view e old new (Unit {0}) read r fails then_fails)

gives_error : {X Y A B : Type 0} (view : X → A) (view' : Y → B) (e : QueryError) (read : Read B) (r : Read A) → Gives {X = Y} view' (Err e) read → ((f : Refusal × ℕ) → read ≡ Err f → r ≡ Err f) → Gives {X = X} view (Err e) r
gives_error view view' errors.Memory read r fails next = tt
gives_error view view' (errors.Refused f at) read r fails next = next (refused f, at) fails
gives_error view view' (errors.Lex f at) read r fails next = next (odd f, at) fails

-- the exit of a `?` on a part, in a function that gives what it read
pub gives_exit : {X Y A B : Type 0} (view : X → A) (view' : Y → B) (e : QueryError) (got : Result (X × ℕ) QueryError) (read : Read B) (r : Read A)
    → IsErrAnd got (λ y. y ≡ e) → Gives {X = Y} view' (Err e) read → ((f : Refusal × ℕ) → read ≡ Err f → r ≡ Err f) → Gives view got r
gives_exit view view' e got read r was fails next =
    let y = err_from_is_err_and got was in
    rw (y.1 ∙ ap Err y.2) (gives_error view view' e read r fails next)

module _ (end : ℕ) (bytes : List ℕ) (ns : Nest) (sep : Kind → Bool) (whole : ℕ → CondTrees → CondTree) (part : Tokens → Read CondTree) where
  pub run_ok : (ts : Tokens) (x : CondTree) (xs : List CondTree) (n m : ℕ) → part ts ≡ Ok (x, n) → more sep part 0 (drop n ts) ≡ Ok (xs, m) → run sep whole part ts ≡ Ok (one_or whole x xs, n + m)
  unfolding run
  run_ok ts x xs n m e f =
      ap (λ r. followed ts r (λ x rest. followed rest (more sep part 0 rest) (λ xs r. Ok (one_or whole x xs, 0)))) e
      ∙ ap (λ r. plus n (followed (drop n ts) r (λ xs r. Ok (one_or whole x xs, 0)))) f
      ∙ ap (λ k. Ok (one_or whole x xs, n + k)) (add-zero m)

  pub run_err : (ts : Tokens) (x : CondTree) (n : ℕ) (f : Refusal × ℕ) → part ts ≡ Ok (x, n) → more sep part 0 (drop n ts) ≡ Err f → run sep whole part ts ≡ Err f
  unfolding run
  run_err ts x n f e g =
      ap (λ r. followed ts r (λ x rest. followed rest (more sep part 0 rest) (λ xs r. Ok (one_or whole x xs, 0)))) e
      ∙ ap (λ r. plus n (followed (drop n ts) r (λ xs r. Ok (one_or whole x xs, 0)))) g

-- the elements from a place to before another, and one more
pub slice_more : {A : Type 0} (from : ℕ) (xs : List A) (i : ℕ) (x : A) → from ≤ i → slice_get xs i ≡ Some x
    → take (i + 1 - from) (drop from xs) ≡ take (i - from) (drop from xs) ++ x ∷ []
slice_more zero xs i x h g =
    let a : i + 1 - 0 ≡ i + 1 = omega arith in
    let b : i ≡ i - 0 = omega arith in
    ap (λ n. take n xs) a ∙ take_more xs i x (slice_get_within xs i x g) ∙ (λ j. take (b j) xs ++ get_or_from_slice_get xs i x x g j ∷ [])
slice_more (suc from) [] i x h g = absurd cc
slice_more (suc from) (y ∷ xs) zero x h g = absurd (omega arith)
slice_more (suc from) (y ∷ xs) (suc i) x h g =
    let a : suc i + 1 - suc from ≡ i + 1 - from = omega arith in
    let b : i - from ≡ suc i - suc from = omega arith in
    ap (λ n. take n (drop from xs)) a ∙ slice_more from xs i x (omega arith) g ∙ ap (λ n. take n (drop from xs) ++ x ∷ []) b

-- where a test of which End is none holds, there is a token
pub there : (test : Kind → Bool) → test End ≡ false → (ts : Tokens) → at test ts ≡ true → 1 ≤ length ts
there test none [] h = absurd cc
there test none (t ∷ ts) h = omega arith
