-- A statement read from left to right. A reading gives a value and how many tokens it took, or the first refusal and its
-- place. Its only recursion is on the levels of nesting that are left.
use Rattle.std.specs.Prelude.{ℕ, zero, suc, ◌^◌, Bool, true, false, ◌&&◌, ◌||◌, if◌then◌else◌, nat_lt, List, [], ◌∷◌, drop, Option, Some, None, Ok, Err, pos, neg_ℤ}
use Rattle.wt_value.specs.declared.value.Value.{Value}
use Rattle.wt_value.specs.declared.value.Value.TheVariants as value
use Rattle.wt_lex.specs.declared.token.LexFault.{LexFault}
use Rattle.wt_lex.specs.declared.token.LexFault.TheVariants.{NumberRange}
use Rattle.wt_lex.specs.declared.token.Sym.TheVariants as sym
use Rattle.wt_lex.specs.Names.{name_bytes, text_bytes}
use Rattle.wt_ast.specs.declared.tree.ColumnName.{ColumnName}
use Rattle.wt_ast.specs.declared.tree.Item.{Item}
use Rattle.wt_ast.specs.declared.tree.Item.TheVariants as items
use Rattle.wt_ast.specs.declared.tree.Scalar.{Scalar}
use Rattle.wt_ast.specs.declared.tree.Scalar.TheVariants as scalar
use Rattle.wt_ast.specs.declared.tree.CmpWord.{CmpWord}
use Rattle.wt_ast.specs.declared.tree.CmpWord.TheVariants as cmp
use Rattle.wt_ast.specs.Tree.{QueryTree, FilterTree, FromTree, CondTree, CondTrees, select, no_filter, filter_by, table, derived, inner_join, left_join, right_join, comma, compare, is_null, is_not_null, in_list, in_query, all_of, any_of, negated, no_conds, cond_then, trees_of, cond_at}
use Rattle.wt_reading.specs.declared.lexeme.Kind.{Kind}
use Rattle.wt_reading.specs.declared.lexeme.Kind.TheVariants.{Number, Text, Mark}
use Rattle.wt_grammar.specs.declared.join.JoinKind.{JoinKind}
use Rattle.wt_grammar.specs.declared.join.JoinKind.TheVariants as joining
use Rattle.wt_grammar.specs.declared.fault.QueryFault.{QueryFault}
use Rattle.wt_grammar.specs.declared.fault.QueryFault.TheVariants as fault
use Rattle.wt_reading.specs.Lexemes.{Tokens, kind, place, at, is_open, is_close, is_comma, is_name, is_end}
use Rattle.wt_reading.specs.Readings.{Reading, plus, followed, expect, within, list, more, repeat}
use Rattle.wt_grammar.specs.Kinds.{is_and, is_or, is_not, is_select, is_distinct, is_all, is_from, is_where, is_between, is_is, is_null_word, is_in, is_as, is_inner, is_left, is_outer, is_join, is_on, is_dot, is_star, begins_join}
use Rattle.wt_grammar.specs.Refusals.{no_statement, no_operand, no_item, no_literal, beyond, no_negated, no_end, no_join, no_join_or_end, syntax}

-- why a statement is refused: by its grammar, or for a token
pub data Refusal : Type 0 where
  refused : QueryFault → Refusal
  odd : LexFault → Refusal

abbrev pub Read : Type 0 → Type 0
Read A = Reading (Refusal × ℕ) A

-- ---- parts of trees

-- a run of one part is that part; a longer one begins where its first part does
abbrev pub one_or : (ℕ → CondTrees → CondTree) → CondTree → List CondTree → CondTree
one_or whole x [] = x
one_or whole x (y ∷ ys) = whole (cond_at x) (trees_of (x ∷ y ∷ ys))

-- `x BETWEEN low AND high` is the And of `x >= low` and `x <= high`
abbrev pub between_of : ℕ → Scalar → Scalar → Scalar → ℕ → CondTree
between_of at a low high word = all_of at (cond_then (compare at cmp.Ge a low word) (cond_then (compare at cmp.Le a high word) no_conds))

abbrev pub join_of : JoinKind → FromTree → FromTree → CondTree → ℕ → FromTree
join_of joining.Inner = inner_join
join_of joining.Left = left_join
join_of joining.Right = right_join

-- the comparison that a symbol stands for
abbrev pub cmp_of : Kind → Option CmpWord
cmp_of (Mark sym.Eq) = Some cmp.Eq
cmp_of (Mark sym.NotEq) = Some cmp.Ne
cmp_of (Mark sym.BangEq) = Some cmp.Ne
cmp_of (Mark sym.Lt) = Some cmp.Lt
cmp_of (Mark sym.Le) = Some cmp.Le
cmp_of (Mark sym.Gt) = Some cmp.Gt
cmp_of (Mark sym.Ge) = Some cmp.Ge
cmp_of _ = None

-- a name that may be written, without its place
abbrev pub name_only : Option (List ℕ × ℕ) → Option (List ℕ)
name_only None = None
name_only (Some n) = Some n.0

-- its place, or another one where none is written
abbrev pub place_or : Option (List ℕ × ℕ) → ℕ → ℕ
place_or None at = at
place_or (Some n) at = n.1

-- what stands behind a query: where it has no WHERE, its FROM may go on
abbrev pub no_query_end : QueryTree → Kind → QueryFault
no_query_end (select distinct items from no_filter) = no_join_or_end
no_query_end (select distinct items from (filter_by c)) = no_end

-- ---- runs and chains

-- parts of one kind with a word between them
unfoldable pub run : (Kind → Bool) → (ℕ → CondTrees → CondTree) → (Tokens → Read CondTree) → Tokens → Read CondTree
run sep whole part ts = followed ts (part ts) (λ x rest. followed rest (more sep part 0 rest) (λ xs r. Ok (one_or whole x xs, 0)))

-- behind SELECT, whether DISTINCT is written
unfoldable pub quantifier : Tokens → Read Bool
quantifier ts = if is_distinct (kind ts) then Ok (true, 1) else (if is_all (kind ts) then Ok (false, 1) else Ok (false, 0))

-- ---- the lookahead for tuples: columns with commas, `)`, and IN or NOT IN

-- a column, which is a name or two names with a dot between, whatever stands behind it
abbrev pub column_front : Tokens → Reading (Unit {0}) (Unit {0})
column_front ts =
    if is_name (kind ts) then (if is_dot (kind (drop 1 ts)) then (if is_name (kind (drop 2 ts)) then Ok (tt, 3) else Err tt) else Ok (tt, 1))
    else Err tt

abbrev pub in_follows : Tokens → Bool
in_follows ts = is_in (kind ts) || (is_not (kind ts) && is_in (kind (drop 1 ts)))

-- behind so many tokens `)` stands, and IN or NOT IN behind it
abbrev pub closes_tuple : {A : Type 0} → Tokens → Reading (Unit {0}) A → Bool
closes_tuple ts (Ok x) = is_close (kind (drop x.1 ts)) && in_follows (drop 1 (drop x.1 ts))
closes_tuple ts (Err e) = false

-- columns with commas, `)`, and IN or NOT IN
unfoldable pub is_tuple : Tokens → Bool
is_tuple ts = closes_tuple ts (list column_front ts)

-- the parenthesis at the front opens a tuple
unfoldable pub opens_tuple : Tokens → Bool
opens_tuple ts = is_tuple (drop 1 ts)

-- the name and the text of the token at the front
unfoldable pub name_at : List ℕ → Tokens → List ℕ
name_at bytes [] = []
name_at bytes (t ∷ ts) = name_bytes bytes t.token

unfoldable pub text_at : List ℕ → Tokens → List ℕ
text_at bytes [] = []
text_at bytes (t ∷ ts) = text_bytes bytes t.token

-- What stands one level deeper. Each reading begins at the token that opens the level.
pub record Nest : Type 0 where
  pub room : Bool
  pub negs : Tokens → Read CondTree
  pub conds : Tokens → Read CondTree
  pub queries : Tokens → Read QueryTree
  pub froms : Tokens → Read FromTree

module _ (end : ℕ) where
  -- refused at the token at the front
  abbrev pub no : {A : Type 0} → QueryFault → Tokens → Read A
  no f ts = Err (refused f, place end ts)

  -- why the token at the front is refused, which has no place there
  abbrev pub refusal : (Kind → QueryFault) → Tokens → Refusal × ℕ
  refusal other ts = (refused (other (kind ts)), place end ts)

  -- a value, unless the token behind it is one that its place never has
  abbrev pub ended_by : {A : Type 0} → Option QueryFault → A → Tokens → Read A
  ended_by None x rest = Ok (x, 0)
  ended_by (Some f) x rest = no f rest

  abbrev pub ended : {A : Type 0} → Tokens → Read A → Read A
  ended ts r = followed ts r (λ x rest. ended_by (beyond (kind rest)) x rest)

  -- a number without a sign; the greatest one needs a minus
  abbrev pub unsigned : ℕ → Tokens → Read Value
  unsigned n ts = if nat_lt n (2 ^ 63) then Ok (value.Int (pos n), 1) else Err (odd NumberRange, place end ts)

  -- a minus and a number; the lexer has no number past 2 ^ 63
  abbrev pub negative : ℕ → Tokens → Read Value
  negative n ts = if nat_lt (2 ^ 63) n then Err (odd NumberRange, place end (drop 1 ts)) else Ok (value.Int (neg_ℤ (pos n)), 2)

  abbrev pub negative_by : Kind → Tokens → Read Value
  negative_by (Number n) ts = negative n ts
  negative_by _ ts = no fault.Arithmetic ts

  -- the same in an IN list
  abbrev pub listed_negative : Kind → Tokens → Read Value
  listed_negative (Number n) ts = negative n ts
  listed_negative _ ts = no fault.Syntax (drop 1 ts)

  -- behind `column IS`
  unfoldable pub is_part : ℕ → ColumnName → Tokens → Read CondTree
  is_part begin c ts =
      if is_not (kind ts) then plus 1 (followed (drop 1 ts) (expect (at is_null_word) (refusal syntax) (drop 1 ts)) (λ _ rest. Ok (is_not_null begin c, 0)))
      else followed ts (expect (at is_null_word) (refusal syntax) ts) (λ _ rest. Ok (is_null begin c, 0))

  -- what follows a column; a literal is refused there
  abbrev pub of_column : {A : Type 0} → Scalar → (ColumnName → Read A) → Tokens → Read A
  of_column (scalar.Column c) f ts = f c
  of_column (scalar.Literal v at) f ts = no fault.Syntax ts

  -- the words of a join
  unfoldable pub outer_join : JoinKind → Tokens → Read JoinKind
  outer_join k ts =
      if is_outer (kind ts) then plus 1 (followed (drop 1 ts) (expect (at is_join) (refusal syntax) (drop 1 ts)) (λ _ rest. Ok (k, 0)))
      else followed ts (expect (at is_join) (refusal syntax) ts) (λ _ rest. Ok (k, 0))

  unfoldable pub join_words : Tokens → Read JoinKind
  join_words ts =
      if is_join (kind ts) then Ok (joining.Inner, 1)
      else (if is_inner (kind ts) then plus 1 (followed (drop 1 ts) (expect (at is_join) (refusal syntax) (drop 1 ts)) (λ _ rest. Ok (joining.Inner, 0)))
      else (if is_left (kind ts) then plus 1 (outer_join joining.Left (drop 1 ts))
      else plus 1 (outer_join joining.Right (drop 1 ts))))

  module _ (bytes : List ℕ) where
    -- ---- names, columns, literals, operands, items

    -- a name; a `(` behind it would be a call
    unfoldable pub name : Tokens → Read (List ℕ)
    name ts =
        if is_name (kind ts) then (if is_open (kind (drop 1 ts)) then no fault.Function (drop 1 ts) else Ok (name_at bytes ts, 1))
        else no fault.Syntax ts

    unfoldable pub column : Tokens → Read ColumnName
    column ts =
        if is_name (kind ts)
        then (if is_dot (kind (drop 1 ts))
        then plus 2 (followed (drop 2 ts) (name (drop 2 ts)) (λ n rest. Ok (record { table = Some (name_at bytes ts); name = n; at = place end ts }, 0)))
        else followed ts (name ts) (λ n rest. Ok (record { table = None; name = n; at = place end ts }, 0)))
        else no (no_operand (kind ts) (kind (drop 1 ts))) ts

    abbrev pub operand_by : Kind → Tokens → Read Scalar
    operand_by (Number n) ts = followed ts (unsigned n ts) (λ v rest. Ok (scalar.Literal v (place end ts), 0))
    operand_by Text ts = Ok (scalar.Literal (value.Text (text_at bytes ts)) (place end ts), 1)
    operand_by (Mark sym.Minus) ts = followed ts (negative_by (kind (drop 1 ts)) ts) (λ v rest. Ok (scalar.Literal v (place end ts), 0))
    operand_by _ ts = followed ts (column ts) (λ c rest. Ok (scalar.Column c, 0))

    unfoldable pub operand : Tokens → Read Scalar
    operand ts = ended ts (operand_by (kind ts) ts)

    -- a literal of an IN list
    abbrev pub literal_by : Kind → Tokens → Read Value
    literal_by (Number n) ts = unsigned n ts
    literal_by Text ts = Ok (value.Text (text_at bytes ts), 1)
    literal_by (Mark sym.Minus) ts = listed_negative (kind (drop 1 ts)) ts
    literal_by k ts = no (no_literal k) ts

    unfoldable pub literal : Tokens → Read Value
    literal ts = literal_by (kind ts) ts

    -- `[AS] name`, or nothing; with the place of the name
    unfoldable pub alias : Tokens → Read (Option (List ℕ × ℕ))
    alias ts =
        if is_as (kind ts) then plus 1 (followed (drop 1 ts) (name (drop 1 ts)) (λ n rest. Ok (Some (n, place end (drop 1 ts)), 0)))
        else (if is_name (kind ts) then followed ts (name ts) (λ n rest. Ok (Some (n, place end ts), 0)) else Ok (None, 0))

    unfoldable pub item_front : Tokens → Read Item
    item_front ts =
        if is_star (kind ts) then Ok (items.Star (place end ts), 1)
        else (if is_name (kind ts) && is_dot (kind (drop 1 ts)) && is_star (kind (drop 2 ts)) then Ok (items.AllOf (name_at bytes ts) (place end ts), 3)
        else (if is_name (kind ts) then followed ts (column ts) (λ c rest. followed rest (alias rest) (λ a r. Ok (items.Column c (name_only a), 0)))
        else no (no_item (kind ts) (kind (drop 1 ts))) ts))

    unfoldable pub item : Tokens → Read Item
    item ts = ended ts (item_front ts)

    -- ---- what follows a first operand, and holds no query; `at` is where the condition begins

    -- behind BETWEEN
    unfoldable pub between : ℕ → Scalar → ℕ → Tokens → Read CondTree
    between begin a word ts =
        followed ts (operand ts) (λ low rest. followed rest (expect (at is_and) (refusal syntax) rest) (λ _ r.
        followed r (operand r) (λ high q. Ok (between_of begin a low high word, 0))))

    -- behind the operand, at a comparison
    abbrev pub compared_by : Option CmpWord → ℕ → Scalar → Tokens → Read CondTree
    compared_by None at a ts = no fault.Syntax ts
    compared_by (Some w) at a ts = plus 1 (followed (drop 1 ts) (operand (drop 1 ts)) (λ b rest. Ok (compare at w a b (place end ts), 0)))

    -- ---- parts of FROM and of SELECT that hold no query

    -- the alias of a query in parentheses, which has to be there; columns may follow it
    unfoldable pub bare_name : Tokens → Read (List ℕ × ℕ)
    bare_name ts = if is_name (kind ts) then Ok ((name_at bytes ts, place end ts), 1) else no fault.Syntax ts

    unfoldable pub derived_name : Tokens → Read (List ℕ × ℕ)
    derived_name ts = if is_as (kind ts) then plus 1 (bare_name (drop 1 ts)) else bare_name ts

    unfoldable pub table_part : Tokens → Read FromTree
    table_part ts = followed ts (name ts) (λ n rest. followed rest (alias rest) (λ a r. Ok (table n (name_only a) (place end ts) (place_or a (place end ts)), 0)))

    module _ (nest : Nest) where
      -- a list in parentheses, which are a level too
      unfoldable pub listed : {A : Type 0} → (Tokens → Read A) → Tokens → Read (List A)
      listed part ts = if nest.room then within (list part) (λ _. refusal syntax) ts else no fault.TooDeep ts

      -- ---- conditions; `at` is where the condition begins

      -- behind IN, where a query has to follow
      unfoldable pub subquery : ℕ → List ColumnName → ℕ → Tokens → Read CondTree
      subquery at cs word ts = followed ts (nest.queries ts) (λ q rest. Ok (in_query at cs q word, 0))

      unfoldable pub values : ℕ → ColumnName → ℕ → Tokens → Read CondTree
      values at c word ts = followed ts (listed literal ts) (λ vs rest. Ok (in_list at c vs word, 0))

      -- behind `column IN`
      unfoldable pub in_part : ℕ → ColumnName → ℕ → Tokens → Read CondTree
      in_part at c word ts =
          if is_open (kind ts) then (if is_select (kind (drop 1 ts)) then subquery at (c ∷ []) word ts else values at c word ts)
          else no fault.Syntax ts

      -- behind `column NOT IN`, where NOT stands at `not_at`
      unfoldable pub not_in_part : ℕ → ColumnName → ℕ → ℕ → Tokens → Read CondTree
      not_in_part at c not_at word ts =
          if is_open (kind ts) then (if is_select (kind (drop 1 ts)) then Err (refused fault.NotInSubquery, not_at)
          else followed ts (values at c word ts) (λ x rest. Ok (negated at x, 0)))
          else no fault.Syntax ts

      -- behind `operand NOT`, where NOT stands at `not_at`
      unfoldable pub after_not : ℕ → Scalar → ℕ → Tokens → Read CondTree
      after_not at a not_at ts =
          if is_between (kind ts) then plus 1 (followed (drop 1 ts) (between at a (place end ts) (drop 1 ts)) (λ x rest. Ok (negated at x, 0)))
          else (if is_in (kind ts) then of_column a (λ c. plus 1 (not_in_part at c not_at (place end ts) (drop 1 ts))) ts
          else no (no_negated (kind ts)) ts)

      -- behind the first operand
      unfoldable pub after_operand : ℕ → Scalar → Tokens → Read CondTree
      after_operand at a ts =
          if is_between (kind ts) then plus 1 (between at a (place end ts) (drop 1 ts))
          else (if is_not (kind ts) then plus 1 (after_not at a (place end ts) (drop 1 ts))
          else (if is_is (kind ts) then of_column a (λ c. plus 1 (is_part at c (drop 1 ts))) ts
          else (if is_in (kind ts) then of_column a (λ c. plus 1 (in_part at c (place end ts) (drop 1 ts))) ts
          else compared_by (cmp_of (kind ts)) at a ts)))

      -- behind a tuple, where IN or NOT IN stands
      unfoldable pub after_tuple : ℕ → List ColumnName → Tokens → Read CondTree
      after_tuple at cs ts =
          if is_in (kind ts)
          then (if is_open (kind (drop 1 ts))
          then (if is_select (kind (drop 2 ts)) then plus 1 (subquery at cs (place end ts) (drop 1 ts)) else no fault.Syntax (drop 2 ts))
          else no fault.Syntax (drop 1 ts))
          else (if is_open (kind (drop 2 ts)) && is_select (kind (drop 3 ts)) then no fault.NotInSubquery ts else no fault.Syntax ts)

      unfoldable pub tuple_in : Tokens → Read CondTree
      tuple_in ts = followed ts (listed column ts) (λ cs rest. after_tuple (place end ts) cs rest)

      unfoldable pub basic : Tokens → Read CondTree
      basic ts =
          if is_open (kind ts) then (if is_select (kind (drop 1 ts)) then no fault.Subquery ts
          else (if opens_tuple ts then tuple_in ts else nest.conds ts))
          else followed ts (operand ts) (λ a rest. after_operand (place end ts) a rest)

      unfoldable pub neg : Tokens → Read CondTree
      neg ts = if is_not (kind ts) then nest.negs ts else basic ts

      unfoldable pub conj : Tokens → Read CondTree
      conj = run is_and all_of neg

      unfoldable pub cond : Tokens → Read CondTree
      cond = run is_or any_of conj

      -- ---- FROM

      unfoldable pub columns : Tokens → Read (Option (List (List ℕ)))
      columns ts = if is_open (kind ts) then followed ts (listed name ts) (λ ns rest. Ok (Some ns, 0)) else Ok (None, 0)

      unfoldable pub derived_part : Tokens → Read FromTree
      derived_part ts = followed ts (nest.queries ts) (λ q rest. followed rest (derived_name rest) (λ n r.
          followed r (columns r) (λ cs p. Ok (derived q n.0 cs (place end ts) n.1, 0))))

      unfoldable pub primary : Tokens → Read FromTree
      primary ts =
          if is_name (kind ts) then table_part ts
          else (if is_open (kind ts) then (if is_select (kind (drop 1 ts)) then derived_part ts else nest.froms ts)
          else no fault.Syntax ts)

      -- A join to the right of what was read so far. The test says that parentheses round a join are open.
      unfoldable pub join : Bool → FromTree → Tokens → Read FromTree
      join inside a ts = followed ts (join_words ts) (λ k rest. followed rest (primary rest) (λ b r.
          followed r (expect (at is_on) (refusal (no_join inside)) r) (λ _ q. followed q (cond q) (λ c p. Ok (join_of k a b c (place end r), 0)))))

      unfoldable pub joined : Bool → Tokens → Read FromTree
      joined inside ts = followed ts (primary ts) (λ a rest. repeat (at begins_join) (join inside) 0 a rest)

      -- a comma behind what was read so far, and the part behind it
      unfoldable pub listed_part : FromTree → Tokens → Read FromTree
      listed_part a ts = plus 1 (followed (drop 1 ts) (joined false (drop 1 ts)) (λ b rest. Ok (comma a b (place end ts), 0)))

      unfoldable pub from_list : Tokens → Read FromTree
      from_list ts = followed ts (joined false ts) (λ a rest. repeat (at is_comma) listed_part 0 a rest)

      -- ---- queries

      unfoldable pub filter : Tokens → Read FilterTree
      filter ts = if is_where (kind ts) then plus 1 (followed (drop 1 ts) (cond (drop 1 ts)) (λ c rest. Ok (filter_by c, 0))) else Ok (no_filter, 0)

      -- behind SELECT
      unfoldable pub body : Tokens → Read QueryTree
      body ts = followed ts (quantifier ts) (λ d rest. followed rest (list item rest) (λ is r. followed r (expect (at is_from) (refusal syntax) r) (λ _ q.
          followed q (from_list q) (λ p s. followed s (filter s) (λ f o. Ok (select d is p f, 0))))))

    -- what stands under so many more levels
    unfoldable pub nest : ℕ → Nest
    nest zero = record { room = false; negs = no fault.TooDeep; conds = no fault.TooDeep; queries = no fault.TooDeep; froms = no fault.TooDeep }
    nest (suc levels) = record {
      room = true;
      negs = λ ts. plus 1 (followed (drop 1 ts) (neg (nest levels) (drop 1 ts)) (λ c rest. Ok (negated (place end ts) c, 0)));
      conds = within (cond (nest levels)) (λ _. refusal syntax);
      queries = within (λ ts. plus 1 (body (nest levels) (drop 1 ts))) (λ q. refusal (no_query_end q));
      froms = within (joined (nest levels) true) (λ _. refusal (no_join true));
    }

    -- a whole statement, with 32 levels
    unfoldable pub statement : Tokens → Read QueryTree
    statement ts =
        if is_select (kind ts)
        then plus 1 (followed (drop 1 ts) (body (nest 32) (drop 1 ts)) (λ q rest. if is_end (kind rest) then Ok (q, 0) else no (no_query_end q (kind rest)) rest))
        else no (no_statement (kind ts)) ts
