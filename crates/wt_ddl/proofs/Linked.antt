-- Kinds of columns by number.
use Rattle.std.proofs.Common.{◌≡◌, ℕ, zero, suc, ◌<◌, ◌≤◌, List, [], ◌∷◌, length, get_or, refl, arith}
use Rattle.wt_schema.specs.declared.schema.ColKind.TheVariants as col
use Rattle.wt_schema.specs.declared.schema.Column.{Column}
use Rattle.wt_ddl.specs.Linking.{kind_at}

pub kind_at_within : (columns : List Column) (n : ℕ) (d : Column) → n < length columns → (get_or columns n d).kind ≡ kind_at columns n
kind_at_within [] n d h = absurd (omega arith)
kind_at_within (c ∷ cs) zero d h = refl
kind_at_within (c ∷ cs) (suc n) d h = kind_at_within cs n d (omega arith)

pub kind_at_past : (columns : List Column) (n : ℕ) → length columns ≤ n → col.Int ≡ kind_at columns n
kind_at_past [] n h = refl
kind_at_past (c ∷ cs) zero h = absurd (omega arith)
kind_at_past (c ∷ cs) (suc n) h = kind_at_past cs n (omega arith)
