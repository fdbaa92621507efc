-- What a worker is handed.
use Rattle.std.specs.Prelude.{ℕ, Option, Some, None}
use Rattle.wt_symbol.specs.Sides.{PairTree}
use Rattle.wt_constraint.specs.declared.set.AtomSet.{AtomSet}
use Rattle.wt_constraint.specs.Sets.{HasAtom}
use Rattle.wt_form.specs.Under.{Provable}
use Rattle.wt_form.specs.Relaxed.{LeavesOut}
use Rattle.wt_cores.specs.Cores.{Within, all_atoms}
use Rattle.wt_workers.specs.declared.desk.Task.{Task}
use Rattle.wt_workers.specs.declared.work.Turn.{Turn}
use Rattle.wt_workers.specs.declared.work.Turn.TheVariants.{Prove, Settled, Busy, Stop}

-- without one of these atoms the pair is not provable under the set
abbrev pub AreNeededBy : PairTree → ℕ → AtomSet → AtomSet → Type 0
AreNeededBy pair steps s needed = (i : ℕ) (t : AtomSet) → HasAtom needed i → LeavesOut s i t → Provable pair t steps → ⊥

-- a set of the pair's atoms, and what is known of it
pub record IsTask (pair : PairTree) (steps : ℕ) (task : Task) : Type 0 where
  pub within : Within task.ticket.set (all_atoms pair)
  pub needed : AreNeededBy pair steps task.ticket.set task.needed

abbrev pub Hands : PairTree → ℕ → Option Task → Type 0
Hands pair steps None = Unit {0}
Hands pair steps (Some task) = IsTask pair steps task

abbrev pub TurnSays : PairTree → ℕ → Turn → Type 0
TurnSays pair steps (Prove task) = IsTask pair steps task
TurnSays pair steps Settled = Unit {0}
TurnSays pair steps Busy = Unit {0}
TurnSays pair steps Stop = Unit {0}
