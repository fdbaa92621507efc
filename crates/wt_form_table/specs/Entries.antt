-- Entries of a table of forms, and where an entry stands.
use Rattle.std.specs.Prelude.{ℕ, zero, suc, ◌≡◌, ◌≢◌, List, [], ◌∷◌, ◌++◌}
use Rattle.indexmap.specs.IndexSet.{keys}
use Rattle.wt_symbol.specs.declared.head.PartCols.{PartCols}
use Rattle.wt_symbol.specs.declared.head.PartCols.TheVariants as cols
use Rattle.wt_form.specs.declared.form.Expr.{Expr}
use Rattle.wt_form.specs.declared.form.Expr.TheVariants as exprs
use Rattle.wt_form_table.specs.declared.cell.Columns.{Columns}
use Rattle.wt_form_table.specs.declared.cell.Columns.TheVariants as columns
use Rattle.wt_form_table.specs.declared.cell.Value.{Value}
use Rattle.wt_form_table.specs.declared.cell.Value.TheVariants as values
use Rattle.wt_form_table.specs.declared.cell.Test.{Test}
use Rattle.wt_form_table.specs.declared.cell.Front.{Front}
use Rattle.wt_form_table.specs.declared.cell.Entry.{Entry}
use Rattle.wt_form_table.specs.declared.table.FormTable.{FormTable}

abbrev pub columns_of : PartCols → Columns
columns_of cols.Whole = columns.Whole
columns_of (cols.List a) = columns.List a

abbrev pub value_of : Expr → Value
value_of (exprs.Of v i cols) = values.Of v i (columns_of cols)
value_of (exprs.Null r cols) = values.Null r (columns_of cols)

-- place n is the first at which x stands
abbrev pub First : {X : Type 0} → List X → ℕ → X → Type 0
First [] n x = ⊥
First (y ∷ ys) zero x = y ≡ x
First (y ∷ ys) (suc n) x = (y ≢ x) × First ys n x

-- what a table holds: expressions, conditions, first elements of other lists, and entries, each in the
-- order of their numbers
pub record Tables : Type 0 where
  pub values : List Value
  pub tests : List Test
  pub fronts : List Front
  pub entries : List Entry

abbrev pub tables_of : FormTable → Tables
tables_of t = record { values = keys t.values; tests = keys t.tests; fronts = keys t.fronts; entries = keys t.entries }

-- the second list goes on from the first
abbrev pub GoesOn : {X : Type 0} → List X → List X → Type 0
GoesOn {X} old new = (rest : List X) × (new ≡ old ++ rest)

-- the second table goes on from the first
pub record Goes (old new : Tables) : Type 0 where
  pub values : GoesOn old.values new.values
  pub tests : GoesOn old.tests new.tests
  pub fronts : GoesOn old.fronts new.fronts
  pub entries : GoesOn old.entries new.entries
