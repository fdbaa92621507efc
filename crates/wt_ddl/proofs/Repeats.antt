-- One turn of a loop over parts, and the exits of such loops.
use Rattle.std.proofs.Common.{◌≡◌, not, ℕ, ◌+◌, ◌≤◌, Bool, true, false, List, [], ◌∷◌, ◌++◌, length, drop, refl, ap, sym, ◌∙◌, arith, Result, Ok, Err}
use Rattle.std.specs.Result.{IsErrAnd}
use Rattle.std.proofs.lemmas.Result.{err_from_is_err_and}
use Rattle.wt_reading.specs.declared.lexeme.Kind.{Kind}
use Rattle.wt_reading.specs.declared.lexeme.Kind.TheVariants.{End}
use Rattle.wt_reading.specs.Lexemes.{Tokens, kind, at}
use Rattle.wt_reading.specs.Readings.{plus, repeat, more}
use Rattle.wt_reading.proofs.Loops as base
use Rattle.wt_reading.proofs.Loops.{put_front, put_err}
use Rattle.wt_ddl.specs.declared.fault.DdlError.{DdlError}
use Rattle.wt_ddl.specs.Fronts.{at_end, at_some_word}
use Rattle.wt_ddl.specs.Giving.{Fails, Leaves, Gives, Adds}
use Rattle.wt_ddl.specs.Reading.{Read, at_option, some_left}
use Rattle.wt_ddl.proofs.Turns.{fails_as}

-- The three ends of a turn, where `s` is what the test looked at and `r` what the part read.
module _ {A : Type 0} (test : Tokens → Bool) (part : A → Tokens → Read A) (some : (ts : Tokens) → test ts ≡ true → 1 ≤ length ts) where
  turn_refused : (a : A) (at : ℕ) (ts r s : Tokens) (e : DdlError) (whole : Read A) → plus at (repeat test part 0 a (drop at ts)) ≡ whole
      → s ≡ drop at ts → r ≡ drop at ts → test s ≡ true → Fails e (part a r) → Fails e whole
  turn_refused a at ts r s e whole so tested there h fails =
      fails_as e (part a r) whole fails (λ f p. base.turn_fails test part some a at ts f whole so (ap test (sym tested) ∙ h) (ap (part a) (sym there) ∙ p))

  pub turn_fails : (a new : A) (at : ℕ) (ts r s : Tokens) (e : DdlError) (got : Result ℕ DdlError) (whole : Read A) → plus at (repeat test part 0 a (drop at ts)) ≡ whole
      → s ≡ drop at ts → r ≡ drop at ts → test s ≡ true → IsErrAnd got (λ y. y ≡ e) → Fails e (part a r) → Leaves got new whole
  turn_fails a new at ts r s e got whole so tested there h was fails =
      let y = err_from_is_err_and got was in
      rw (y.1 ∙ ap Err y.2) (turn_refused a at ts r s e whole so tested there h fails)

  -- the same in a function that gives what was read
  pub turn_gives_none : (a : A) (at : ℕ) (ts r s : Tokens) (e : DdlError) (got : Result (A × ℕ) DdlError) (whole : Read A) → plus at (repeat test part 0 a (drop at ts)) ≡ whole
      → s ≡ drop at ts → r ≡ drop at ts → test s ≡ true → IsErrAnd got (λ y. y ≡ e) → Fails e (part a r) → Gives got whole
  turn_gives_none a at ts r s e got whole so tested there h was fails =
      let y = err_from_is_err_and got was in
      rw (y.1 ∙ ap Err y.2) (turn_refused a at ts r s e whole so tested there h fails)

  pub turn_goes : (a b : A) (at m : ℕ) (ts r s : Tokens) (whole : Read A) → plus at (repeat test part 0 a (drop at ts)) ≡ whole
      → s ≡ drop at ts → r ≡ drop at ts → test s ≡ true → part a r ≡ Ok (b, m) → 1 ≤ m
      → plus (at + m) (repeat test part 0 b (drop (at + m) ts)) ≡ whole
  turn_goes a b at m ts r s whole so tested there h p one =
      base.turn_goes test part some a b at m ts whole so (ap test (sym tested) ∙ h) one (ap (part a) (sym there) ∙ p)

  pub turn_stops : (a : A) (at : ℕ) (ts s : Tokens) (whole : Read A) → plus at (repeat test part 0 a (drop at ts)) ≡ whole → s ≡ drop at ts → test s ≡ false → whole ≡ Ok (a, at)
  turn_stops a at ts s whole so tested h = base.turn_stops test part some a at ts whole so (ap test (sym tested) ∙ h)

-- the exit of a part in a loop over a list with a separator
pub list_fails : {A : Type 0} (sep : Kind → Bool) (part : Tokens → Read A) (xs old new : List A) (at : ℕ) (ts r s : Tokens) (e : DdlError) (got : Result ℕ DdlError) → sep End ≡ false
    → put_front xs at (more sep part 0 (drop at ts)) ≡ put_front old 0 (more sep part 0 ts)
    → s ≡ drop at ts → r ≡ drop (at + 1) ts → sep (kind s) ≡ true → IsErrAnd got (λ y. y ≡ e) → Fails e (part r) → Adds got old new (more sep part 0 ts)
list_fails sep part xs old new at ts r s e got end so tested there h was fails =
    let y = err_from_is_err_and got was in
    let test : sep (kind (drop at ts)) ≡ true = ap (λ l. sep (kind l)) (sym tested) ∙ h in
    rw (y.1 ∙ ap Err y.2)
    (fails_as e (part r) (more sep part 0 ts) fails (λ f p. put_err old 0 (more sep part 0 ts) f (sym so ∙ base.loop_fails sep part xs at f ts end test (ap part (sym there) ∙ p))))

pub list_goes : {A : Type 0} (sep : Kind → Bool) (part : Tokens → Read A) (xs new old : List A) (at n : ℕ) (x : A) (ts r s : Tokens) → sep End ≡ false
    → put_front xs at (more sep part 0 (drop at ts)) ≡ put_front old 0 (more sep part 0 ts)
    → s ≡ drop at ts → r ≡ drop (at + 1) ts → sep (kind s) ≡ true → part r ≡ Ok (x, n) → new ≡ xs ++ x ∷ []
    → put_front new (at + (n + 1)) (more sep part 0 (drop (at + (n + 1)) ts)) ≡ put_front old 0 (more sep part 0 ts)
list_goes sep part xs new old at n x ts r s end so tested there h p pushed =
    base.loop_goes sep part xs new at n (at + (n + 1)) x ts end (ap (λ l. sep (kind l)) (sym tested) ∙ h) (ap part (sym there) ∙ p) pushed refl ∙ so

pub list_stops : {A : Type 0} (sep : Kind → Bool) (part : Tokens → Read A) (xs old : List A) (at : ℕ) (ts s : Tokens)
    → put_front xs at (more sep part 0 (drop at ts)) ≡ put_front old 0 (more sep part 0 ts) → s ≡ drop at ts → sep (kind s) ≡ false → put_front old 0 (more sep part 0 ts) ≡ Ok (xs, at)
list_stops sep part xs old at ts s so tested h = sym so ∙ base.loop_stops sep part xs at ts (ap (λ l. sep (kind l)) (sym tested) ∙ h)

-- where a test holds, there is a token
pub kind_some : (test : Kind → Bool) → test End ≡ false → (ts : Tokens) → at test ts ≡ true → 1 ≤ length ts
kind_some test none [] h = absurd (cc)
kind_some test none (t ∷ ts) h = omega arith

pub word_some : (ts : Tokens) → at_some_word ts ≡ true → 1 ≤ length ts
word_some [] h = absurd (cc)
word_some (t ∷ ts) h = omega arith

pub option_some : (bytes : List ℕ) (ts : Tokens) → at_option bytes ts ≡ true → 1 ≤ length ts
option_some bytes [] h = absurd (cc)
option_some bytes (t ∷ ts) h = omega arith

pub left_some : (ts : Tokens) → some_left ts ≡ true → 1 ≤ length ts
left_some [] h = absurd (cc)
left_some (t ∷ ts) h = omega arith

pub left_true : (ts : Tokens) (end : Bool) → end ≡ at_end ts → end ≡ false → some_left ts ≡ true
left_true ts end e h = ap not (sym e ∙ h)

pub left_false : (ts : Tokens) (end : Bool) → end ≡ at_end ts → end ≡ true → some_left ts ≡ false
left_false ts end e h = ap not (sym e ∙ h)
