-- What a call answers whose refusal is a fault of the query.
use Rattle.std.specs.Prelude.{◌≡◌, Some, None, Result, Ok, Err}
use Rattle.wt_query_plan.specs.declared.fault.BuildError.{BuildError}
use Rattle.wt_query_plan.specs.declared.fault.BuildError.TheVariants.{Refused, Memory}
use Rattle.wt_query_plan.specs.Faults.{Fault}

-- it refuses exactly with the fault, and answers only where there is none; want of memory says nothing
abbrev pub Tells : {T : Type 0} → Fault → (T → Type 0) → Result T BuildError → Type 0
Tells fault P (Ok x) = (fault ≡ None) × P x
Tells fault P (Err (Refused f at)) = fault ≡ Some (f, at)
Tells fault P (Err Memory) = Unit {0}
