-- What the schema says of a column's NULLs, looked up by its place.
use Rattle.std.proofs.Common.{◌≡◌, ℕ, zero, suc, List, [], ◌∷◌, refl, ap}
use Rattle.std.specs.Prelude.{◌||◌}
use Rattle.wt_schema.specs.declared.schema.Column.{Column}
use Rattle.wt_schema.specs.declared.schema.Table.{Table}
use Rattle.wt_plan.specs.Tree.{table}
use Rattle.wt_known.specs.Facts.{is_declared, not_null}
use Rattle.wt_props.specs.Tables.{declared_at, in_primary, without_null}

declared_is : (columns : List Column) (c : ℕ) → declared_at columns c ≡ is_declared columns c
declared_is [] c = refl
declared_is (column ∷ columns) zero = refl
declared_is (column ∷ columns) (suc c) = declared_is columns c

pub without_is : (S : List Table) (t w c : ℕ) → without_null S t c ≡ not_null S (table t w) c
without_is [] t w c = refl
without_is (x ∷ S) zero w c = ap (λ b. b || in_primary x.keys c) (declared_is x.columns c)
without_is (x ∷ S) (suc t) w c = without_is S t w c
