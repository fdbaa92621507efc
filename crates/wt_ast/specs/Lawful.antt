-- What every tree is that a statement is read to.
use Rattle.std.specs.Prelude.{◌≡◌, ℕ, ◌+◌, ◌<◌, ◌≤◌, Bool, true, false, List, [], length, Option, Some, None}
use Rattle.std.specs.List.{AllByRecursion}
use Rattle.std.specs.Str.{is_utf8}
use Rattle.wt_value.specs.declared.value.Value.{Value}
use Rattle.wt_value.specs.declared.value.Value.TheVariants as values
use Rattle.wt_ast.specs.declared.tree.ColumnName.{ColumnName}
use Rattle.wt_ast.specs.declared.tree.Item.{Item}
use Rattle.wt_ast.specs.declared.tree.Item.TheVariants as items
use Rattle.wt_ast.specs.declared.tree.Scalar.{Scalar}
use Rattle.wt_ast.specs.declared.tree.Scalar.TheVariants as scalars
use Rattle.wt_ast.specs.declared.marks.Marked.TheVariants.{FromItem, Conjunct, HiddenIn}
use Rattle.wt_ast.specs.Marks.{marks, places}
use Rattle.wt_ast.specs.Tree.{QueryTree, FilterTree, FromTree, CondTree, CondTrees, select, no_filter, filter_by, table, derived, inner_join, left_join, right_join, comma, compare, is_null, is_not_null, in_list, in_query, all_of, any_of, negated, no_conds, cond_then}

-- a name is UTF-8 and not empty
abbrev pub IsName : List ℕ → Type 0
IsName name = (is_utf8 name ≡ true) × (0 < length name)

-- what is written is so
abbrev pub IfWritten : {A : Type 0} → (A → Type 0) → Option A → Type 0
IfWritten Is None = Unit {0}
IfWritten Is (Some x) = Is x

-- at least one, and each of them is so
abbrev pub OneOrMore : {A : Type 0} → (A → Type 0) → List A → Type 0
OneOrMore Is xs = (0 < length xs) × AllByRecursion Is xs

abbrev pub IsColumn : ColumnName → Type 0
IsColumn c = IfWritten IsName c.table × IsName c.name

abbrev pub IsItem : Item → Type 0
IsItem (items.Star at) = Unit {0}
IsItem (items.AllOf alias at) = IsName alias
IsItem (items.Column column output) = IsColumn column × IfWritten IsName output

-- a number or a text, which is UTF-8
abbrev pub IsLiteral : Value → Type 0
IsLiteral values.Null = ⊥
IsLiteral (values.Int n) = Unit {0}
IsLiteral (values.Text text) = is_utf8 text ≡ true

abbrev pub IsScalar : Scalar → Type 0
IsScalar (scalars.Column column) = IsColumn column
IsScalar (scalars.Literal value at) = IsLiteral value

abbrev pub is_comma : FromTree → Bool
is_comma (comma left right comma_at) = true
is_comma _ = false

abbrev pub part_count : CondTrees → ℕ
part_count no_conds = 0
part_count (cond_then c rest) = 1 + part_count rest

-- Each list has an element, each run of AND or OR two or more parts, each name is a name, and each literal a number or a
-- text. A list with commas stands at the front of FROM alone: neither as the right operand of a comma nor in a join.
abbrev mutual
  pub IsFormed : QueryTree → Type 0
  IsFormed (select distinct items from filter) = OneOrMore IsItem items × IsFrom from × IsFilter filter

  pub IsFilter : FilterTree → Type 0
  IsFilter no_filter = Unit {0}
  IsFilter (filter_by c) = IsCond c

  pub IsFrom : FromTree → Type 0
  IsFrom (table name alias at alias_at) = IsName name × IfWritten IsName alias
  IsFrom (derived query alias columns at alias_at) = IsFormed query × IsName alias × IfWritten (OneOrMore IsName) columns
  IsFrom (inner_join left right on on_at) = IsFrom left × (is_comma left ≡ false) × IsFrom right × (is_comma right ≡ false) × IsCond on
  IsFrom (left_join left right on on_at) = IsFrom left × (is_comma left ≡ false) × IsFrom right × (is_comma right ≡ false) × IsCond on
  IsFrom (right_join left right on on_at) = IsFrom left × (is_comma left ≡ false) × IsFrom right × (is_comma right ≡ false) × IsCond on
  IsFrom (comma left right comma_at) = IsFrom left × IsFrom right × (is_comma right ≡ false)

  pub IsCond : CondTree → Type 0
  IsCond (compare at c a b word_at) = IsScalar a × IsScalar b
  IsCond (is_null at column) = IsColumn column
  IsCond (is_not_null at column) = IsColumn column
  IsCond (in_list at column values word_at) = IsColumn column × OneOrMore IsLiteral values
  IsCond (in_query at columns query word_at) = OneOrMore IsColumn columns × IsFormed query
  IsCond (all_of at parts) = (2 ≤ part_count parts) × AreConds parts
  IsCond (any_of at parts) = (2 ≤ part_count parts) × AreConds parts
  IsCond (negated at c) = IsCond c

  pub AreConds : CondTrees → Type 0
  AreConds no_conds = Unit {0}
  AreConds (cond_then c rest) = IsCond c × AreConds rest

-- A lawful tree. Its limits count all queries inside.
pub record IsLawful (query : QueryTree) : Type 0 where
  pub formed : IsFormed query
  -- each `x IN (query)` is a conjunct of an ON or of WHERE
  pub in_conjuncts : places HiddenIn (marks query) ≡ []
  pub items : length (places FromItem (marks query)) ≤ 256
  pub conjuncts : length (places Conjunct (marks query)) ≤ 256
