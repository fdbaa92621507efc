-- How a query is spelled: its one text.
use Rattle.std.specs.Prelude.{ℕ, Bool, true, false, not, List, [], ◌∷◌, ◌++◌, codes, if◌then◌else◌, Option, Some, None}
use Rattle.std.specs.Fmt.{signed_decimal}
use Rattle.wt_value.specs.declared.value.Value.{Value}
use Rattle.wt_value.specs.declared.value.Value.TheVariants as values
use Rattle.wt_lex.specs.Spelling.{quoted}
use Rattle.wt_lex.specs.Words.{is_bare}
use Rattle.wt_ast.specs.declared.tree.ColumnName.{ColumnName}
use Rattle.wt_ast.specs.declared.tree.CmpWord.{CmpWord}
use Rattle.wt_ast.specs.declared.tree.CmpWord.TheVariants as signs
use Rattle.wt_ast.specs.declared.tree.Item.{Item}
use Rattle.wt_ast.specs.declared.tree.Item.TheVariants as items
use Rattle.wt_ast.specs.declared.tree.Scalar.{Scalar}
use Rattle.wt_ast.specs.declared.tree.Scalar.TheVariants as scalars
use Rattle.wt_ast.specs.Tree.{QueryTree, FilterTree, FromTree, CondTree, CondTrees, select, no_filter, filter_by, table, derived, inner_join, left_join, right_join, comma, compare, is_null, is_not_null, in_list, in_query, all_of, any_of, negated, no_conds, cond_then}

-- ---- names, values, lists

-- a name without quotes where it may stand so, else in quotes, each quote inside twice
abbrev pub name_text : List ℕ → List ℕ
name_text name = if is_bare name then name else quoted 34 name

-- `alias.`, where an alias is written
abbrev pub before_dot : Option (List ℕ) → List ℕ
before_dot None = []
before_dot (Some alias) = name_text alias ++ codes "."

abbrev pub column_text : ColumnName → List ℕ
column_text c = before_dot c.table ++ name_text c.name

-- a number in decimal digits, a text in quotes, each quote inside twice
abbrev pub value_text : Value → List ℕ
value_text values.Null = codes "NULL"
value_text (values.Int n) = signed_decimal n
value_text (values.Text text) = quoted 39 text

abbrev pub scalar_text : Scalar → List ℕ
scalar_text (scalars.Column column) = column_text column
scalar_text (scalars.Literal value at) = value_text value

-- what stands behind the first part of a list: each part behind a comma and a blank
abbrev pub others_text : {A : Type 0} → (A → List ℕ) → List A → List ℕ
others_text text [] = []
others_text text (x ∷ xs) = codes ", " ++ (text x ++ others_text text xs)

-- the parts with a comma and a blank between
abbrev pub listed : {A : Type 0} → (A → List ℕ) → List A → List ℕ
listed text [] = []
listed text (x ∷ xs) = text x ++ others_text text xs

-- ` AS name`, where a name is written
abbrev pub as_text : Option (List ℕ) → List ℕ
as_text None = []
as_text (Some name) = codes " AS " ++ name_text name

-- `*`, `alias.*`, or a column and the name that it gets
abbrev pub item_text : Item → List ℕ
item_text (items.Star at) = codes "*"
item_text (items.AllOf alias at) = name_text alias ++ codes ".*"
item_text (items.Column column output) = column_text column ++ as_text output

abbrev pub distinct_text : Bool → List ℕ
distinct_text true = codes "DISTINCT "
distinct_text false = []

-- ` (names)`, where columns are named
abbrev pub columns_text : Option (List (List ℕ)) → List ℕ
columns_text None = []
columns_text (Some names) = codes " (" ++ (listed name_text names ++ codes ")")

-- ---- conditions

abbrev pub sign_text : CmpWord → List ℕ
sign_text signs.Eq = codes " = "
sign_text signs.Ne = codes " <> "
sign_text signs.Lt = codes " < "
sign_text signs.Le = codes " <= "
sign_text signs.Gt = codes " > "
sign_text signs.Ge = codes " >= "

-- in parentheses, if the test says so
abbrev pub bracketed : Bool → List ℕ → List ℕ
bracketed true text = codes "(" ++ (text ++ codes ")")
bracketed false text = text

-- more than one column is a tuple
abbrev pub is_tuple : List ColumnName → Bool
is_tuple (c ∷ d ∷ others) = true
is_tuple _ = false

abbrev pub tuple_text : List ColumnName → List ℕ
tuple_text columns = bracketed (is_tuple columns) (listed column_text columns)

-- A part of And, Or or Not is in parentheses where it is one of these itself. A conjunct of ON or of WHERE is so where it is
-- And or Or; the test says that it is one.
abbrev pub stands_in_brackets : Bool → CondTree → Bool
stands_in_brackets conjunct (all_of at parts) = true
stands_in_brackets conjunct (any_of at parts) = true
stands_in_brackets conjunct (negated at c) = not conjunct
stands_in_brackets conjunct _ = false

abbrev pub is_or : CondTree → Bool
is_or (any_of at parts) = true
is_or _ = false

abbrev pub is_join : FromTree → Bool
is_join (table name alias at alias_at) = false
is_join (derived query alias columns at alias_at) = false
is_join _ = true

-- ---- a query, its WHERE, its FROM, a condition. The test of a condition says that the parts of an And are conjuncts.

abbrev mutual
  pub query_text : QueryTree → List ℕ
  query_text (select distinct items from filter) =
      codes "SELECT " ++ (distinct_text distinct ++ (listed item_text items ++ (codes " FROM " ++ (from_text from ++ filter_text filter))))

  pub filter_text : FilterTree → List ℕ
  filter_text no_filter = []
  filter_text (filter_by c) = codes " WHERE " ++ bracketed (is_or c) (cond_text true c)

  -- the left operand of a join needs no parentheses, a right one that is a join has them
  pub from_text : FromTree → List ℕ
  from_text (table name alias at alias_at) = name_text name ++ as_text alias
  from_text (derived query alias columns at alias_at) =
      codes "(" ++ (query_text query ++ (codes ") AS " ++ (name_text alias ++ columns_text columns)))
  from_text (inner_join left right on on_at) =
      from_text left ++ (codes " INNER JOIN " ++ (bracketed (is_join right) (from_text right) ++ (codes " ON " ++ bracketed (is_or on) (cond_text true on))))
  from_text (left_join left right on on_at) =
      from_text left ++ (codes " LEFT JOIN " ++ (bracketed (is_join right) (from_text right) ++ (codes " ON " ++ bracketed (is_or on) (cond_text true on))))
  from_text (right_join left right on on_at) =
      from_text left ++ (codes " RIGHT JOIN " ++ (bracketed (is_join right) (from_text right) ++ (codes " ON " ++ bracketed (is_or on) (cond_text true on))))
  from_text (comma left right comma_at) = from_text left ++ (codes ", " ++ from_text right)

  pub cond_text : Bool → CondTree → List ℕ
  cond_text top (compare at sign a b word_at) = scalar_text a ++ (sign_text sign ++ scalar_text b)
  cond_text top (is_null at column) = column_text column ++ codes " IS NULL"
  cond_text top (is_not_null at column) = column_text column ++ codes " IS NOT NULL"
  cond_text top (in_list at column values word_at) = column_text column ++ (codes " IN (" ++ (listed value_text values ++ codes ")"))
  cond_text top (in_query at columns query word_at) = tuple_text columns ++ (codes " IN (" ++ (query_text query ++ codes ")"))
  cond_text top (all_of at parts) = parts_text top (codes " AND ") parts
  cond_text top (any_of at parts) = parts_text false (codes " OR ") parts
  cond_text top (negated at c) = codes "NOT " ++ bracketed (stands_in_brackets false c) (cond_text false c)

  pub parts_text : Bool → List ℕ → CondTrees → List ℕ
  parts_text conjuncts word no_conds = []
  parts_text conjuncts word (cond_then c rest) =
      bracketed (stands_in_brackets conjuncts c) (cond_text false c) ++ more_text conjuncts word rest

  -- the parts behind the first one, each behind the word
  pub more_text : Bool → List ℕ → CondTrees → List ℕ
  more_text conjuncts word no_conds = []
  more_text conjuncts word (cond_then c rest) =
      word ++ (bracketed (stands_in_brackets conjuncts c) (cond_text false c) ++ more_text conjuncts word rest)

-- the condition of an ON or of WHERE
abbrev pub whole_text : CondTree → List ℕ
whole_text c = bracketed (is_or c) (cond_text true c)

-- the text of a statement
abbrev pub statement_text : QueryTree → List ℕ
statement_text query = query_text query ++ codes ";"
