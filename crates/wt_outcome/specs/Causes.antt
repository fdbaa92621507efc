-- Why a command stopped, as a status.
use Rattle.std.specs.Prelude.{ℕ}
use Rattle.wt_outcome.specs.declared.stop.Stop.{Stop}
use Rattle.wt_outcome.specs.declared.stop.Stop.TheVariants.{Read, Write, Memory}

abbrev pub stop_status : Stop → ℕ
stop_status Read = 3
stop_status Write = 5
stop_status Memory = 6
