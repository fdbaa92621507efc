-- What is told of a call at the end of a function, in other words.
use Rattle.std.proofs.Common.{◌≡◌, ℕ, List, IfOk, Ok, Err, Result, is_ok}
use Rattle.std.specs.Prelude.{if◌then◌else◌}

pub told : {X Y : Type 0} (r : Result X Y) (P Q : X → Type 0) → ((x : X) → P x → Q x) → IfOk r P → IfOk r Q
told (Ok x) P Q f h = f x h
told (Err y) P Q f h = h

pub told_if : {X Y : Type 0} (r : Result X Y) (new more less : List ℕ) (Q : X → Type 0) → ((x : X) → new ≡ more → Q x) → new ≡ (if is_ok r then more else less) → IfOk r Q
told_if (Ok x) new more less Q f h = f x h
told_if (Err y) new more less Q f h = tt
