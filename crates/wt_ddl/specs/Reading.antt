-- The statements of a schema, read from left to right, with the first fault that is met.
use Rattle.std.specs.Prelude.{ℕ, Bool, true, false, not, ◌||◌, ◌&&◌, if◌then◌else◌, ◌==◌, nat_le, List, [], ◌∷◌, length, drop, codes, Option, Some, None, Ok, Err}
use Rattle.std.specs.List.{list_any}
use Rattle.std.specs.Str.{bytes_eq}
use Rattle.wt_lex.specs.declared.token.LexFault.TheVariants as lex
use Rattle.wt_reading.specs.declared.lexeme.Kind.{Kind}
use Rattle.wt_reading.specs.declared.lexeme.Kind.TheVariants.{Number}
use Rattle.wt_reading.specs.Lexemes.{Tokens, kind, place, at, is_open, is_close, is_comma, is_semi, is_name}
use Rattle.wt_reading.specs.Readings.{Reading, plus, followed, expect, within, list, repeat, one_more}
use Rattle.wt_schema.specs.declared.schema.ColKind.{ColKind}
use Rattle.wt_schema.specs.declared.schema.ColKind.TheVariants as col
use Rattle.wt_ddl.specs.declared.fault.DdlFault.{DdlFault}
use Rattle.wt_ddl.specs.declared.fault.DdlFault.TheVariants as fault
use Rattle.wt_ddl.specs.declared.syntax.Named.{Named}
use Rattle.wt_ddl.specs.declared.syntax.Target.{Target}
use Rattle.wt_ddl.specs.declared.syntax.ColumnRule.{ColumnRule}
use Rattle.wt_ddl.specs.declared.syntax.ColumnRule.TheVariants as own
use Rattle.wt_ddl.specs.declared.syntax.ColumnPart.{ColumnPart}
use Rattle.wt_ddl.specs.declared.syntax.TableRule.{TableRule}
use Rattle.wt_ddl.specs.declared.syntax.TableRule.TheVariants as rules
use Rattle.wt_ddl.specs.declared.syntax.Element.{Element}
use Rattle.wt_ddl.specs.declared.syntax.Element.TheVariants as elements
use Rattle.wt_ddl.specs.declared.table.TableRead.{TableRead}
use Rattle.wt_ddl.specs.Fronts.{first, at_end, at_word, at_some_word, named}
use Rattle.wt_ddl.specs.Refusals.{refused, odd, Fault, Checked}
use Rattle.wt_ddl.specs.Settling.{columns_of, settled}

abbrev pub Read : Type 0 → Type 0
Read A = Reading Fault A

-- a value that takes no token
abbrev pub kept : {A : Type 0} → Checked A → Read A
kept (Ok x) = Ok (x, 0)
kept (Err e) = Err e

-- ---- what was read so far

abbrev pub is_own_primary : ColumnRule → Bool
is_own_primary own.PrimaryKey = true
is_own_primary _ = false

abbrev pub is_primary : Element → Bool
is_primary (elements.Column c) = list_any is_own_primary c.rules
is_primary (elements.Rule (rules.PrimaryKey ns)) = true
is_primary (elements.Rule _) = false

abbrev pub has_primary : List Element → Bool
has_primary es = list_any is_primary es

abbrev pub is_column : List ℕ → Element → Bool
is_column name (elements.Column c) = bytes_eq c.name.name name
is_column name (elements.Rule r) = false

abbrev pub has_column : List Element → List ℕ → Bool
has_column es name = list_any (is_column name) es

abbrev pub has_table : List TableRead → List ℕ → Bool
has_table tables name = list_any (λ t. bytes_eq t.name name) tables

abbrev pub some_left : Tokens → Bool
some_left ts = not (at_end ts)

module _ (bytes : List ℕ) where
  abbrev pub refuse : {A : Type 0} → DdlFault → ℕ → Read A
  refuse f at = Err (refused f, at)

  -- at the token at the front, or the text's end
  abbrev pub no : {A : Type 0} → DdlFault → Tokens → Read A
  no f ts = refuse f (place (length bytes) ts)

  abbrev pub syntax : Tokens → Fault
  syntax ts = (refused fault.Syntax, place (length bytes) ts)

  -- a word and a symbol that must stand here
  abbrev pub word : List ℕ → Tokens → Read (Unit {0})
  word w = expect (at_word bytes w) syntax

  abbrev pub symbol : (Kind → Bool) → Tokens → Read (Unit {0})
  symbol test = expect (at test) syntax

  -- another word than those that may stand here has no support
  abbrev pub other : {A : Type 0} → DdlFault → Tokens → Read A
  other f ts = no (if at_some_word ts then f else fault.Syntax) ts

  unfoldable pub name : Tokens → Read Named
  name ts = if at is_name ts then Ok (named bytes (first ts), 1) else no fault.Syntax ts

  -- "(" name { "," name } ")"
  unfoldable pub names : Tokens → Read (List Named)
  names ts = if at is_open ts then within (list name) (λ _. syntax) ts else no fault.Syntax ts

  -- ---- types

  -- a number; the greatest token of this kind has no meaning without `-`
  abbrev pub number_by : Kind → Tokens → Read (Unit {0})
  number_by (Number n) ts = if n == 9223372036854775808 then Err (odd lex.NumberRange, place (length bytes) ts) else Ok (tt, 1)
  number_by _ ts = no fault.Syntax ts

  unfoldable pub number : Tokens → Read (Unit {0})
  number ts = number_by (kind ts) ts

  -- [ "(" number ")" ]
  unfoldable pub width : Tokens → Read ColKind
  width ts =
      if at is_open ts then followed ts (within number (λ _. syntax) ts) (λ _ a. Ok (col.Text, 0)) else Ok (col.Text, 0)

  abbrev pub at_whole : Tokens → Bool
  at_whole ts = at_word bytes (codes "integer") ts || at_word bytes (codes "int") ts || at_word bytes (codes "bigint") ts || at_word bytes (codes "smallint") ts

  unfoldable pub kind_of : Tokens → Read ColKind
  kind_of ts =
      if at_whole ts then Ok (col.Int, 1)
      else (if at_word bytes (codes "text") ts then Ok (col.Text, 1)
      else (if at_word bytes (codes "varchar") ts then plus 1 (width (drop 1 ts))
      else (if at_word bytes (codes "character") ts then plus 1 (followed (drop 1 ts) (word (codes "varying") (drop 1 ts)) (λ _ a. width a))
      else other fault.UnsupportedType ts)))

  -- ---- targets of references

  unfoldable pub null_action : Tokens → Read (Unit {0})
  null_action ts =
      if at_word bytes (codes "null") ts then Ok (tt, 1)
      else (if at_word bytes (codes "default") ts then no fault.UnsupportedClause ts
      else no fault.Syntax ts)

  -- CASCADE | RESTRICT | SET NULL | NO ACTION
  unfoldable pub action : Tokens → Read (Unit {0})
  action ts =
      if at_word bytes (codes "cascade") ts || at_word bytes (codes "restrict") ts then Ok (tt, 1)
      else (if at_word bytes (codes "set") ts then plus 1 (null_action (drop 1 ts))
      else (if at_word bytes (codes "no") ts then plus 1 (word (codes "action") (drop 1 ts))
      else no fault.Syntax ts))

  -- (DELETE|UPDATE) action
  unfoldable pub event : Tokens → Read (Unit {0})
  event ts =
      if at_word bytes (codes "delete") ts || at_word bytes (codes "update") ts then plus 1 (action (drop 1 ts))
      else no fault.Syntax ts

  unfoldable pub simple : Tokens → Read (Unit {0})
  simple ts = if at_word bytes (codes "simple") ts then Ok (tt, 1) else other fault.UnsupportedClause ts

  abbrev pub at_option : Tokens → Bool
  at_option ts = at_word bytes (codes "match") ts || at_word bytes (codes "on") ts

  -- MATCH SIMPLE | ON event
  unfoldable pub option : Unit {0} → Tokens → Read (Unit {0})
  option u ts = plus 1 (if at_word bytes (codes "match") ts then simple (drop 1 ts) else event (drop 1 ts))

  abbrev pub options : Tokens → Read (Unit {0})
  options = repeat at_option option 0 tt

  unfoldable pub target_names : Tokens → Read (Option (List Named))
  target_names ts = if at is_open ts then followed ts (names ts) (λ all a. Ok (Some all, 0)) else Ok (None, 0)

  -- name [ cols ] { option }
  unfoldable pub target : Tokens → Read Target
  target ts =
      followed ts (name ts) (λ n a.
      followed a (target_names a) (λ all b.
      followed b (options b) (λ _ c. Ok (record { table = n; columns = all }, 0))))

  -- ---- rules of a column, of which some were read, in a table of which some elements were

  unfoldable pub own_primary : List Element → List ColumnRule → Tokens → Read ColumnRule
  own_primary es rs ts =
      plus 1 (followed (drop 1 ts) (word (codes "key") (drop 1 ts)) (λ _ a.
      if has_primary es || list_any is_own_primary rs then no fault.SecondPrimaryKey ts else Ok (own.PrimaryKey, 0)))

  unfoldable pub bare_rule : List Element → List ColumnRule → Tokens → Read ColumnRule
  bare_rule es rs ts =
      if at_word bytes (codes "not") ts then plus 1 (followed (drop 1 ts) (word (codes "null") (drop 1 ts)) (λ _ a. Ok (own.NotNull, 0)))
      else (if at_word bytes (codes "null") ts then Ok (own.Null, 1)
      else (if at_word bytes (codes "primary") ts then own_primary es rs ts
      else (if at_word bytes (codes "unique") ts then Ok (own.Unique, 1)
      else (if at_word bytes (codes "references") ts then plus 1 (followed (drop 1 ts) (target (drop 1 ts)) (λ t a. Ok (own.References t, 0)))
      else other fault.UnsupportedClause ts))))

  -- [CONSTRAINT name] rule
  unfoldable pub rule : List Element → List ColumnRule → Tokens → Read ColumnRule
  rule es rs ts =
      if at_word bytes (codes "constraint") ts then
      plus 1 (followed (drop 1 ts) (name (drop 1 ts)) (λ _ a. bare_rule es rs a))
      else bare_rule es rs ts

  abbrev pub column_rules : List Element → Tokens → Read (List ColumnRule)
  column_rules es = repeat at_some_word (one_more (rule es)) 0 []

  -- the name of a column, which is new in a table that may have one more
  unfoldable pub column_name : List Element → Tokens → Read Named
  column_name es ts =
      followed ts (name ts) (λ n a.
      if has_column es n.name then refuse fault.DuplicateColumn n.at
      else (if nat_le 64 (length (columns_of es)) then refuse fault.TooManyColumns n.at else Ok (n, 0)))

  -- name type { rule }
  unfoldable pub column : List Element → Tokens → Read ColumnPart
  column es ts =
      followed ts (column_name es ts) (λ n a.
      followed a (kind_of a) (λ k b.
      followed b (column_rules es b) (λ rs c. Ok (record { name = n; kind = k; rules = rs }, 0))))

  -- ---- rules of a table

  -- PRIMARY KEY cols
  unfoldable pub primary_rule : List Element → Tokens → Read TableRule
  primary_rule es ts =
      plus 1 (followed (drop 1 ts) (word (codes "key") (drop 1 ts)) (λ _ a.
      if has_primary es then no fault.SecondPrimaryKey ts
      else followed a (names a) (λ all b. Ok (rules.PrimaryKey all, 0))))

  -- UNIQUE cols
  unfoldable pub unique_rule : Tokens → Read TableRule
  unique_rule ts = plus 1 (followed (drop 1 ts) (names (drop 1 ts)) (λ all a. Ok (rules.Unique all, 0)))

  -- behind a target, no other word may stand
  unfoldable pub behind_target : Tokens → Read (Unit {0})
  behind_target ts = if at_some_word ts then no fault.UnsupportedClause ts else Ok (tt, 0)

  -- REFERENCES target
  unfoldable pub foreign_target : Tokens → Read Target
  foreign_target ts =
      followed ts (word (codes "references") ts) (λ _ a.
      followed a (target a) (λ t b.
      followed b (behind_target b) (λ _ c. Ok (t, 0))))

  -- FOREIGN KEY cols REFERENCES target
  unfoldable pub foreign_rule : Tokens → Read TableRule
  foreign_rule ts =
      plus 1 (followed (drop 1 ts) (word (codes "key") (drop 1 ts)) (λ _ a.
      followed a (names a) (λ all b.
      followed b (foreign_target b) (λ t c. Ok (rules.ForeignKey all t, 0)))))

  abbrev pub at_table_rule : Tokens → Bool
  at_table_rule ts = at_word bytes (codes "primary") ts || at_word bytes (codes "unique") ts || at_word bytes (codes "foreign") ts

  unfoldable pub table_rule : List Element → Tokens → Read TableRule
  table_rule es ts =
      if at_word bytes (codes "primary") ts then primary_rule es ts
      else (if at_word bytes (codes "unique") ts then unique_rule ts
      else foreign_rule ts)

  unfoldable pub named_rule : List Element → Tokens → Read TableRule
  named_rule es ts =
      if at_word bytes (codes "check") ts then no fault.UnsupportedClause ts
      else (if at_table_rule ts then table_rule es ts
      else no fault.Syntax ts)

  -- a column, or [CONSTRAINT name] and a rule of the table
  unfoldable pub element : List Element → Tokens → Read Element
  element es ts =
      if at_word bytes (codes "constraint") ts then
      plus 1 (followed (drop 1 ts) (name (drop 1 ts)) (λ _ a. followed a (named_rule es a) (λ r b. Ok (elements.Rule r, 0))))
      else (if at_word bytes (codes "check") ts then no fault.UnsupportedClause ts
      else (if at_table_rule ts then followed ts (table_rule es ts) (λ r a. Ok (elements.Rule r, 0))
      else followed ts (column es ts) (λ c a. Ok (elements.Column c, 0))))

  -- "," element
  unfoldable pub next_element : List Element → Tokens → Read Element
  next_element es ts = plus 1 (element es (drop 1 ts))

  abbrev pub more_elements : List Element → Tokens → Read (List Element)
  more_elements = repeat (at is_comma) (one_more next_element) 0

  -- ---- statements

  -- "(" element { "," element } ")"
  unfoldable pub elements_of : Tokens → Read (List Element)
  elements_of ts =
      followed ts (symbol is_open ts) (λ _ a.
      followed a (element [] a) (λ e b.
      followed b (more_elements (e ∷ []) b) (λ es c.
      followed c (symbol is_close c) (λ _ d. Ok (es, 0)))))

  -- the table of these elements, whose column lists are looked at
  unfoldable pub body : List ℕ → Tokens → Read TableRead
  body table ts = followed ts (elements_of ts) (λ es a. kept (settled table es))

  -- ";" or the end
  unfoldable pub ending : Tokens → Read (Unit {0})
  ending ts = if at_end ts then Ok (tt, 0) else symbol is_semi ts

  unfoldable pub if_not_exists : Tokens → Read (Unit {0})
  if_not_exists ts =
      if at_word bytes (codes "if") ts && at_word bytes (codes "not") (drop 1 ts) then plus 2 (word (codes "exists") (drop 2 ts))
      else Ok (tt, 0)

  -- the name of a table, which is new where there may be one more
  unfoldable pub table_name : List TableRead → Tokens → Read (List ℕ)
  table_name tables ts =
      followed ts (name ts) (λ n a.
      if has_table tables n.name then refuse fault.DuplicateTable n.at
      else (if nat_le 256 (length tables) then refuse fault.TooManyTables n.at else Ok (n.name, 0)))

  -- what stands behind CREATE TABLE
  unfoldable pub create : List TableRead → Tokens → Read TableRead
  create tables ts =
      followed ts (if_not_exists ts) (λ _ a.
      followed a (table_name tables a) (λ n b.
      followed b (body n b) (λ t c.
      followed c (ending c) (λ _ d. Ok (t, 0)))))

  -- an empty statement, or CREATE TABLE
  unfoldable pub statement : List TableRead → Tokens → Read (List TableRead)
  statement tables ts =
      if at is_semi ts then Ok (tables, 1)
      else (if at_word bytes (codes "create") ts && at_word bytes (codes "table") (drop 1 ts) then plus 2 (one_more create tables (drop 2 ts))
      else no fault.UnsupportedStatement ts)

  abbrev pub statements : Tokens → Read (List TableRead)
  statements = repeat some_left statement 0 []
