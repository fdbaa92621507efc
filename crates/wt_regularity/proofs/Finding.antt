-- The kind of a column, found where it stands.
use Rattle.std.proofs.Common.{◌≡◌, ℕ, zero, suc, List, [], ◌∷◌, Result, refl, subst}
use Rattle.std.specs.Prelude.{slice_get}
use Rattle.wt_schema.specs.declared.schema.ColKind.{ColKind}
use Rattle.wt_schema.specs.declared.schema.Table.{Table}
use Rattle.wt_plan.specs.Regular.{table_kinds}
use Rattle.wt_regularity.specs.Kinds.{Finds, kinds_of}

pub kinds_of_table : (S : List Table) (n : ℕ) → kinds_of (slice_get S n) ≡ table_kinds S n
kinds_of_table [] n = refl
kinds_of_table (t ∷ S) zero = refl
kinds_of_table (t ∷ S) (suc n) = kinds_of_table S n

pub table_finds : (S : List Table) (n place : ℕ) (r : Result ColKind ℕ) → Finds (kinds_of (slice_get S n)) place r → Finds (table_kinds S n) place r
table_finds S n place r h = subst (λ kinds. Finds kinds place r) (kinds_of_table S n) h
