-- What a table is: its elements in text order, whose column lists become numbers.
use Rattle.std.specs.Prelude.{ℕ, Bool, true, false, if◌then◌else◌, ◌==◌, List, [], ◌∷◌, ◌++◌, Option, Some, None, Ok, Err}
use Rattle.std.specs.List.{list_any}
use Rattle.wt_schema.specs.declared.schema.Column.{Column}
use Rattle.wt_schema.specs.Lookup.{column_number}
use Rattle.wt_ddl.specs.declared.fault.DdlFault.TheVariants as fault
use Rattle.wt_ddl.specs.declared.syntax.Named.{Named}
use Rattle.wt_ddl.specs.declared.syntax.Target.{Target}
use Rattle.wt_ddl.specs.declared.syntax.ColumnRule.{ColumnRule}
use Rattle.wt_ddl.specs.declared.syntax.ColumnRule.TheVariants as own
use Rattle.wt_ddl.specs.declared.syntax.ColumnPart.{ColumnPart}
use Rattle.wt_ddl.specs.declared.syntax.TableRule.{TableRule}
use Rattle.wt_ddl.specs.declared.syntax.TableRule.TheVariants as rules
use Rattle.wt_ddl.specs.declared.syntax.Element.{Element}
use Rattle.wt_ddl.specs.declared.syntax.Element.TheVariants as elements
use Rattle.wt_ddl.specs.declared.table.TableRead.{TableRead}
use Rattle.wt_ddl.specs.Refusals.{refused, Checked, chain}

-- ---- columns

abbrev pub is_not_null : ColumnRule → Bool
is_not_null own.NotNull = true
is_not_null _ = false

abbrev pub column_of : ColumnPart → Column
column_of c = record { name = c.name.name; kind = c.kind; not_null = list_any is_not_null c.rules }

abbrev pub columns_of : List Element → List Column
columns_of [] = []
columns_of (elements.Column c ∷ es) = column_of c ∷ columns_of es
columns_of (elements.Rule r ∷ es) = columns_of es

-- ---- column lists

abbrev pub is_among : ℕ → List ℕ → Bool
is_among n numbers = list_any (λ m. m == n) numbers

-- the number of a listed column, which is there and not yet listed
abbrev pub new_number : List ℕ → Option ℕ → ℕ → Checked (List ℕ)
new_number seen None at = Err (refused fault.UnknownColumn, at)
new_number seen (Some n) at = if is_among n seen then Err (refused fault.DuplicateColumn, at) else Ok (seen ++ n ∷ [])

abbrev pub list_one : List Column → List ℕ → Named → Checked (List ℕ)
list_one columns seen n = new_number seen (column_number columns n.name) n.at

-- a step for each element in turn, each from what the one before gave, up to the first that fails
abbrev pub in_turn : {A X : Type 0} → (A → X → Checked A) → A → List X → Checked A
in_turn step a [] = Ok a
in_turn step a (x ∷ xs) = chain (step a x) (λ b. in_turn step b xs)

-- the numbers of listed columns
abbrev pub numbers : List Column → List Named → Checked (List ℕ)
numbers columns ns = in_turn (list_one columns) [] ns

-- ---- keys and references

abbrev pub with_key : TableRead → Bool → List ℕ → Checked TableRead
with_key t primary cs = Ok (record { name = t.name; columns = t.columns; keys = t.keys ++ record { columns = cs; primary = primary } ∷ []; references = t.references })

abbrev pub with_reference : TableRead → Target → List ℕ → Checked TableRead
with_reference t target cs = Ok (record { name = t.name; columns = t.columns; keys = t.keys; references = t.references ++ record { columns = cs; target = target } ∷ [] })

-- a key and a reference over listed columns
abbrev pub add_key : TableRead → Bool → List Named → Checked TableRead
add_key t primary ns = chain (numbers t.columns ns) (with_key t primary)

abbrev pub add_reference : TableRead → List Named → Target → Checked TableRead
add_reference t ns target = chain (numbers t.columns ns) (with_reference t target)

-- the rule of a column is that of a table over this column alone
abbrev pub add_own : Named → TableRead → ColumnRule → Checked TableRead
add_own n t own.NotNull = Ok t
add_own n t own.Null = Ok t
add_own n t own.PrimaryKey = add_key t true (n ∷ [])
add_own n t own.Unique = add_key t false (n ∷ [])
add_own n t (own.References target) = add_reference t (n ∷ []) target

abbrev pub add_rule : TableRead → TableRule → Checked TableRead
add_rule t (rules.PrimaryKey ns) = add_key t true ns
add_rule t (rules.Unique ns) = add_key t false ns
add_rule t (rules.ForeignKey ns target) = add_reference t ns target

abbrev pub add_element : TableRead → Element → Checked TableRead
add_element t (elements.Column c) = in_turn (add_own c.name) t c.rules
add_element t (elements.Rule r) = add_rule t r

-- the table of these elements, or the first fault of its column lists
unfoldable pub settled : List ℕ → List Element → Checked TableRead
settled name es = in_turn add_element (record { name = name; columns = columns_of es; keys = []; references = [] }) es
