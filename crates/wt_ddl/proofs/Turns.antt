-- A step for each element of a list, as far as a loop has come.
use Rattle.std.proofs.Common.{◌≡◌, ℕ, suc, zero, ◌+◌, ◌<◌, ◌≤◌, List, [], ◌∷◌, ◌++◌, length, drop, get_or, refl, ap, sym, ◌∙◌, arith, Result, Ok, Err}
use Rattle.std.specs.Result.{IsErrAnd}
use Rattle.std.proofs.lemmas.List.{drop_more}
use Rattle.std.proofs.lemmas.Result.{err_from_is_err_and}
use Rattle.wt_ddl.specs.declared.fault.DdlError.{DdlError}
use Rattle.wt_ddl.specs.declared.fault.DdlError.TheVariants as errors
use Rattle.wt_ddl.specs.Giving.{Fails, Agrees, Puts}
use Rattle.wt_ddl.specs.Refusals.{refused, odd, Fault, Checked, chain}
use Rattle.wt_ddl.specs.Settling.{in_turn}

pub fails_as : {A B : Type 0} (e : DdlError) (given : Checked B) (r : Checked A) → Fails e given → ((f : Fault) → given ≡ Err f → r ≡ Err f) → Fails e r
fails_as errors.Memory given r h next = tt
fails_as (errors.Fault f at) given r h next = next (refused f, at) h
fails_as (errors.Lex f at) given r h next = next (odd f, at) h

pub drop-none : {X : Type 0} (xs : List X) (i : ℕ) → length xs ≤ i → drop i xs ≡ []
drop-none [] zero l = refl
drop-none [] (suc i) l = refl
drop-none (x ∷ xs) zero l = absurd (omega arith)
drop-none (x ∷ xs) (suc i) l = drop-none xs i (omega arith)

module _ {A X : Type 0} (step : A → X → Checked A) where
  pub in_turn-append : (a : A) (xs ys : List X) → in_turn step a (xs ++ ys) ≡ chain (in_turn step a xs) (λ b. in_turn step b ys)
  in_turn-append a [] ys = refl
  in_turn-append a (x ∷ xs) ys = by (λ b. in_turn-append b xs ys) (step a x)
    where
      by : ((b : A) → in_turn step b (xs ++ ys) ≡ chain (in_turn step b xs) (λ c. in_turn step c ys)) → (r : Checked A)
          → chain r (λ b. in_turn step b (xs ++ ys)) ≡ chain (chain r (λ b. in_turn step b xs)) (λ c. in_turn step c ys)
      by ih (Ok b) = ih b
      by ih (Err e) = refl

  here : (a : A) (xs : List X) (i : ℕ) (x : X) → i < length xs → x ≡ get_or xs i x → in_turn step a (drop i xs) ≡ chain (step a x) (λ b. in_turn step b (drop (i + 1) xs))
  here a xs i x l is = ap (in_turn step a) (drop_more xs i x l) ∙ ap (λ y. chain (step a y) (λ b. in_turn step b (drop (i + 1) xs))) (sym is)

  pub step_goes : (a b : A) (xs : List X) (i : ℕ) (x : X) (whole : Checked A) → in_turn step a (drop i xs) ≡ whole → i < length xs → x ≡ get_or xs i x → step a x ≡ Ok b
      → in_turn step b (drop (i + 1) xs) ≡ whole
  step_goes a b xs i x whole so l is p = sym (ap (λ r. chain r (λ b. in_turn step b (drop (i + 1) xs))) p) ∙ sym (here a xs i x l is) ∙ so

  pub step_fails : (a : A) (xs : List X) (i : ℕ) (x : X) (e : DdlError) (got : Result A DdlError) (whole : Checked A) → in_turn step a (drop i xs) ≡ whole → i < length xs → x ≡ get_or xs i x
      → IsErrAnd got (λ y. y ≡ e) → Fails e (step a x) → Agrees got whole
  step_fails a xs i x e got whole so l is was fails =
      let y = err_from_is_err_and got was in
      rw (y.1 ∙ ap Err y.2)
      (fails_as e (step a x) whole fails (λ f p. sym so ∙ here a xs i x l is ∙ ap (λ r. chain r (λ b. in_turn step b (drop (i + 1) xs))) p))

  pub step_ends : (a : A) (xs : List X) (i : ℕ) (whole : Checked A) → in_turn step a (drop i xs) ≡ whole → length xs ≤ i → whole ≡ Ok a
  step_ends a xs i whole so l = sym so ∙ ap (in_turn step a) (drop-none xs i l)

  -- the elements so far, one more, and those that are left
  pub more_goes : (a b c : A) (xs : List X) (x : X) → in_turn step a xs ≡ Ok b → step b x ≡ Ok c → in_turn step a (xs ++ x ∷ []) ≡ Ok c
  more_goes a b c xs x so p =
      in_turn-append a xs (x ∷ []) ∙ ap (λ r. chain r (λ b. in_turn step b (x ∷ []))) so ∙ ap (λ r. chain r (λ b. Ok b)) p

  pub more_fails : (a b new : A) (xs all left : List X) (x : X) (e : DdlError) (got : Result (Unit {0}) DdlError) → in_turn step a xs ≡ Ok b → xs ++ x ∷ left ≡ all
      → IsErrAnd got (λ y. y ≡ e) → Fails e (step b x) → Puts got new (in_turn step a all)
  more_fails a b new xs all left x e got so split was fails =
      let y = err_from_is_err_and got was in
      rw (y.1 ∙ ap Err y.2)
      (fails_as e (step b x) (in_turn step a all) fails (λ f p.
      ap (in_turn step a) (sym split) ∙ in_turn-append a xs (x ∷ left) ∙ ap (λ r. chain r (λ b. in_turn step b (x ∷ left))) so ∙ ap (λ r. chain r (λ b. in_turn step b left)) p))
