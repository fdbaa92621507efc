-- The text of a query in bits: blanks and tokens, each as it is written.
use Rattle.std.proofs.Common.{ℕ, suc, Bool, true, false, List, [], ◌∷◌, ◌++◌, codes, Option, Some, None, pos, negsuc}
use Rattle.std.specs.Prelude.{map, if◌then◌else◌, decimal}
use Rattle.std.specs.Char.{to_ascii_uppercase}
use Rattle.wt_value.specs.declared.value.Value.{Value}
use Rattle.wt_value.specs.declared.value.Value.TheVariants as values
use Rattle.wt_lex.specs.declared.token.Sym.{Sym}
use Rattle.wt_lex.specs.declared.token.Sym.TheVariants as sym
use Rattle.wt_lex.specs.declared.token.TokenKind.TheVariants as kinds
use Rattle.wt_lex.specs.declared.words.Word.{Word}
use Rattle.wt_lex.specs.declared.words.Word.TheVariants as word
use Rattle.wt_lex.specs.Spelling.{Piece, gap, item, quoted, symbol_written}
use Rattle.wt_lex.specs.Words.{spelling, is_bare}
use Rattle.wt_ast.specs.declared.tree.ColumnName.{ColumnName}
use Rattle.wt_ast.specs.declared.tree.CmpWord.{CmpWord}
use Rattle.wt_ast.specs.declared.tree.CmpWord.TheVariants as signs
use Rattle.wt_ast.specs.declared.tree.Item.{Item}
use Rattle.wt_ast.specs.declared.tree.Item.TheVariants as items
use Rattle.wt_ast.specs.declared.tree.Scalar.{Scalar}
use Rattle.wt_ast.specs.declared.tree.Scalar.TheVariants as scalars
use Rattle.wt_ast.specs.Tree.{QueryTree, FilterTree, FromTree, CondTree, CondTrees, select, no_filter, filter_by, table, derived, inner_join, left_join, right_join, comma, compare, is_null, is_not_null, in_list, in_query, all_of, any_of, negated, no_conds, cond_then}
use Rattle.wt_spelling.specs.Spelling.{name_text, is_tuple, stands_in_brackets, is_or, is_join}

-- a blank; a reserved word; a symbol; a name; a number without a sign; a text
pub data Bit : Type 0 where
  a_blank : Bit
  a_word : Word → Bit
  a_sign : Sym → Bit
  a_name : List ℕ → Bit
  a_number : ℕ → Bit
  a_text : List ℕ → Bit

abbrev pub capitals : Word → List ℕ
capitals w = map to_ascii_uppercase (spelling w)

abbrev pub bit_text : Bit → List ℕ
bit_text a_blank = codes " "
bit_text (a_word w) = capitals w
bit_text (a_sign s) = symbol_written s
bit_text (a_name n) = name_text n
bit_text (a_number n) = decimal n
bit_text (a_text t) = quoted 39 t

abbrev pub piece_of : Bit → Piece
piece_of a_blank = gap (codes " ")
piece_of (a_word w) = item kinds.Word (capitals w)
piece_of (a_sign s) = item (kinds.Symbol s) (symbol_written s)
piece_of (a_name n) = if is_bare n then item kinds.Word n else item kinds.Quoted (quoted 34 n)
piece_of (a_number n) = item (kinds.Number n) (decimal n)
piece_of (a_text t) = item kinds.Text (quoted 39 t)

-- ---- names, values, lists

abbrev pub before_dot_bits : Option (List ℕ) → List Bit
before_dot_bits None = []
before_dot_bits (Some alias) = a_name alias ∷ a_sign sym.Dot ∷ []

abbrev pub column_bits : ColumnName → List Bit
column_bits c = before_dot_bits c.table ++ a_name c.name ∷ []

abbrev pub value_bits : Value → List Bit
value_bits values.Null = []
value_bits (values.Int (pos n)) = a_number n ∷ []
value_bits (values.Int (negsuc n)) = a_sign sym.Minus ∷ a_number (suc n) ∷ []
value_bits (values.Text t) = a_text t ∷ []

abbrev pub scalar_bits : Scalar → List Bit
scalar_bits (scalars.Column column) = column_bits column
scalar_bits (scalars.Literal value at) = value_bits value

abbrev pub others_bits : {A : Type 0} → (A → List Bit) → List A → List Bit
others_bits bits [] = []
others_bits bits (x ∷ xs) = (a_sign sym.Comma ∷ a_blank ∷ []) ++ (bits x ++ others_bits bits xs)

abbrev pub listed_bits : {A : Type 0} → (A → List Bit) → List A → List Bit
listed_bits bits [] = []
listed_bits bits (x ∷ xs) = bits x ++ others_bits bits xs

abbrev pub name_bits : List ℕ → List Bit
name_bits n = a_name n ∷ []

-- a word between blanks
abbrev pub spaced : Word → List Bit
spaced w = a_blank ∷ a_word w ∷ a_blank ∷ []

abbrev pub spaced_two : Word → Word → List Bit
spaced_two w v = a_blank ∷ a_word w ∷ a_blank ∷ a_word v ∷ a_blank ∷ []

abbrev pub as_bits : Option (List ℕ) → List Bit
as_bits None = []
as_bits (Some n) = spaced word.As ++ a_name n ∷ []

abbrev pub item_bits : Item → List Bit
item_bits (items.Star at) = a_sign sym.Star ∷ []
item_bits (items.AllOf alias at) = (a_name alias ∷ []) ++ a_sign sym.Dot ∷ a_sign sym.Star ∷ []
item_bits (items.Column column output) = column_bits column ++ as_bits output

abbrev pub distinct_bits : Bool → List Bit
distinct_bits true = a_word word.Distinct ∷ a_blank ∷ []
distinct_bits false = []

abbrev pub opened : List Bit
opened = a_sign sym.Open ∷ []

abbrev pub closed : List Bit
closed = a_sign sym.Close ∷ []

abbrev pub columns_bits : Option (List (List ℕ)) → List Bit
columns_bits None = []
columns_bits (Some names) = (a_blank ∷ opened) ++ (listed_bits name_bits names ++ closed)

-- ---- conditions

abbrev pub sign_of : CmpWord → Sym
sign_of signs.Eq = sym.Eq
sign_of signs.Ne = sym.NotEq
sign_of signs.Lt = sym.Lt
sign_of signs.Le = sym.Le
sign_of signs.Gt = sym.Gt
sign_of signs.Ge = sym.Ge

abbrev pub spaced_sign : CmpWord → List Bit
spaced_sign w = a_blank ∷ a_sign (sign_of w) ∷ a_blank ∷ []

abbrev pub bracketed_bits : Bool → List Bit → List Bit
bracketed_bits true bits = opened ++ (bits ++ closed)
bracketed_bits false bits = bits

abbrev pub tuple_bits : List ColumnName → List Bit
tuple_bits columns = bracketed_bits (is_tuple columns) (listed_bits column_bits columns)

abbrev pub in_bits : List Bit
in_bits = a_blank ∷ a_word word.In ∷ a_blank ∷ a_sign sym.Open ∷ []

abbrev mutual
  pub query_bits : QueryTree → List Bit
  query_bits (select distinct items from filter) =
      (a_word word.Select ∷ a_blank ∷ []) ++ (distinct_bits distinct ++ (listed_bits item_bits items ++ (spaced word.From ++ (from_bits from ++ filter_bits filter))))

  pub filter_bits : FilterTree → List Bit
  filter_bits no_filter = []
  filter_bits (filter_by c) = spaced word.Where ++ bracketed_bits (is_or c) (cond_bits true c)

  pub from_bits : FromTree → List Bit
  from_bits (table name alias at alias_at) = (a_name name ∷ []) ++ as_bits alias
  from_bits (derived query alias columns at alias_at) =
      opened ++ (query_bits query ++ ((a_sign sym.Close ∷ spaced word.As) ++ ((a_name alias ∷ []) ++ columns_bits columns)))
  from_bits (inner_join left right on on_at) =
      from_bits left ++ (spaced_two word.Inner word.Join ++ (bracketed_bits (is_join right) (from_bits right) ++ (spaced word.On ++ bracketed_bits (is_or on) (cond_bits true on))))
  from_bits (left_join left right on on_at) =
      from_bits left ++ (spaced_two word.Left word.Join ++ (bracketed_bits (is_join right) (from_bits right) ++ (spaced word.On ++ bracketed_bits (is_or on) (cond_bits true on))))
  from_bits (right_join left right on on_at) =
      from_bits left ++ (spaced_two word.Right word.Join ++ (bracketed_bits (is_join right) (from_bits right) ++ (spaced word.On ++ bracketed_bits (is_or on) (cond_bits true on))))
  from_bits (comma left right comma_at) = from_bits left ++ ((a_sign sym.Comma ∷ a_blank ∷ []) ++ from_bits right)

  pub cond_bits : Bool → CondTree → List Bit
  cond_bits top (compare at w a b word_at) = scalar_bits a ++ (spaced_sign w ++ scalar_bits b)
  cond_bits top (is_null at column) = column_bits column ++ a_blank ∷ a_word word.Is ∷ a_blank ∷ a_word word.Null ∷ []
  cond_bits top (is_not_null at column) = column_bits column ++ a_blank ∷ a_word word.Is ∷ a_blank ∷ a_word word.Not ∷ a_blank ∷ a_word word.Null ∷ []
  cond_bits top (in_list at column values word_at) = column_bits column ++ (in_bits ++ (listed_bits value_bits values ++ closed))
  cond_bits top (in_query at columns query word_at) = tuple_bits columns ++ (in_bits ++ (query_bits query ++ closed))
  cond_bits top (all_of at parts) = parts_bits top word.And parts
  cond_bits top (any_of at parts) = parts_bits false word.Or parts
  cond_bits top (negated at c) = (a_word word.Not ∷ a_blank ∷ []) ++ bracketed_bits (stands_in_brackets false c) (cond_bits false c)

  pub parts_bits : Bool → Word → CondTrees → List Bit
  parts_bits conjuncts w no_conds = []
  parts_bits conjuncts w (cond_then c rest) =
      bracketed_bits (stands_in_brackets conjuncts c) (cond_bits false c) ++ more_bits conjuncts w rest

  pub more_bits : Bool → Word → CondTrees → List Bit
  more_bits conjuncts w no_conds = []
  more_bits conjuncts w (cond_then c rest) =
      spaced w ++ (bracketed_bits (stands_in_brackets conjuncts c) (cond_bits false c) ++ more_bits conjuncts w rest)

abbrev pub whole_bits : CondTree → List Bit
whole_bits c = bracketed_bits (is_or c) (cond_bits true c)
