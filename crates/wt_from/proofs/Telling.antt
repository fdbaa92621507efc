-- What a call told of one fault, told of an equal one.
use Rattle.std.proofs.Common.{◌≡◌, None, Result, Ok, Err, sym, ap, ◌∙◌}
use Rattle.std.specs.Result.{IsErrAnd}
use Rattle.std.proofs.lemmas.Result.{err_from_is_err_and}
use Rattle.wt_query_plan.specs.declared.fault.BuildError.{BuildError}
use Rattle.wt_query_plan.specs.declared.fault.BuildError.TheVariants.{Refused, Memory}
use Rattle.wt_query_plan.specs.Faults.{Fault}
use Rattle.wt_query_plan.specs.Telling.{Tells}

pub refused : {T U : Type 0} (F G : Fault) (P : T → Type 0) (Q : U → Type 0) (e : BuildError) → F ≡ G → Tells F P (Err e) → Tells G Q (Err e)
refused F G P Q (Refused f at) same h = sym same ∙ h
refused F G P Q Memory same h = tt

-- the same at the way out of a `?`
pub way_out : {T U : Type 0} (F G : Fault) (P : T → Type 0) (Q : U → Type 0) (e : BuildError) (r : Result U BuildError) → F ≡ G → IsErrAnd r (λ y. y ≡ e) → Tells F P (Err e) → Tells G Q r
way_out F G P Q e r same was h = let y = err_from_is_err_and r was in rw (y.1 ∙ ap Err y.2) (refused F G P Q e same h)

-- behind calls that told no fault, in other words
pub told_then : {T : Type 0} (F G : Fault) (P Q : T → Type 0) (r : Result T BuildError) → F ≡ G → F ≡ None → ((x : T) → P x → Q x) → Tells None P r → Tells G Q r
told_then F G P Q (Ok x) same none f h = (sym same ∙ none, f x h.1)
told_then F G P Q (Err (Refused k at)) same none f h = absurd (let bad : ⊥ = cc in bad)
told_then F G P Q (Err Memory) same none f h = tt
