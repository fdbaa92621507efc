-- What is known of an answer that may be Err or None.
use Rattle.std.proofs.Common.{◌≡◌, subst}
use Rattle.std.specs.Prelude.{Result, Ok, Err, Option, Some, None, IfOk, IfSome, IfNone}

pub some_case : {X : Type 0} (P : X → Type 0) (o : Option X) (x : X) → o ≡ Some x → IfSome o P → P x
some_case P o x e h = subst (λ z. IfSome z P) e h

pub none_case : {X : Type 0} (P : Type 0) (o : Option X) → o ≡ None → IfNone o P → P
none_case P o e h = subst (λ z. IfNone z P) e h

pub ok_some_then : {X E : Type 0} (P Q : X → Type 0) (r : Result (Option X) E) → IfOk r (λ o. IfSome o P) → ((x : X) → P x → Q x) → IfOk r (λ o. IfSome o Q)
ok_some_then P Q (Ok (Some x)) h f = f x h
ok_some_then P Q (Ok None) h f = tt
ok_some_then P Q (Err e) h f = tt

pub ok_none_then : {X E : Type 0} (P Q : Type 0) (r : Result (Option X) E) → IfOk r (λ o. IfNone o P) → (P → Q) → IfOk r (λ o. IfNone o Q)
ok_none_then P Q (Ok None) h f = f h
ok_none_then P Q (Ok (Some x)) h f = tt
ok_none_then P Q (Err e) h f = tt
