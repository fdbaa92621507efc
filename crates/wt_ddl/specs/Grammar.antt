-- The grammar of schemas: which tokens are which tables. Each definition is a line of it, and says of a value and of tokens
-- that the tokens are a sentence of the line with this value.
use Rattle.std.specs.Prelude.{◌≡◌, ◌≢◌, ℕ, true, List, [], ◌∷◌, ◌++◌, codes, map, ◌⊎◌, Option, Some, None, Ok}
use Rattle.wt_lex.specs.declared.token.Token.{Token}
use Rattle.wt_lex.specs.Names.{is_word}
use Rattle.wt_lex.specs.Tokens.{lexed}
use Rattle.wt_reading.specs.declared.lexeme.Kind.TheVariants.{Number}
use Rattle.wt_reading.specs.Lexemes.{Tokens, is_open, is_close, is_semi, is_name, lexeme}
use Rattle.wt_reading.specs.Sentences.{Seq, Either, Maybe, One, Is, Each, Listed, Parens}
use Rattle.wt_schema.specs.declared.schema.ColKind.{ColKind}
use Rattle.wt_schema.specs.declared.schema.ColKind.TheVariants as col
use Rattle.wt_schema.specs.declared.schema.Table.{Table}
use Rattle.wt_ddl.specs.declared.syntax.Named.{Named}
use Rattle.wt_ddl.specs.declared.syntax.Target.{Target}
use Rattle.wt_ddl.specs.declared.syntax.ColumnRule.{ColumnRule}
use Rattle.wt_ddl.specs.declared.syntax.ColumnRule.TheVariants as own
use Rattle.wt_ddl.specs.declared.syntax.ColumnPart.{ColumnPart}
use Rattle.wt_ddl.specs.declared.syntax.TableRule.{TableRule}
use Rattle.wt_ddl.specs.declared.syntax.TableRule.TheVariants as rules
use Rattle.wt_ddl.specs.declared.syntax.Element.{Element}
use Rattle.wt_ddl.specs.declared.syntax.Element.TheVariants as elements
use Rattle.wt_ddl.specs.declared.table.TableRead.{TableRead}
use Rattle.wt_ddl.specs.Fronts.{named}
use Rattle.wt_ddl.specs.Linking.{linked_tables}
use Rattle.wt_ddl.specs.Refusals.{Checked, chain}
use Rattle.wt_ddl.specs.Settling.{settled}

-- a table's name and its elements
abbrev pub Part : Type 0
Part = Named × List Element

-- the values that are there
abbrev pub present : {A : Type 0} → List (Option A) → List A
present [] = []
present (Some x ∷ os) = x ∷ present os
present (None ∷ os) = present os

module _ (bytes : List ℕ) where
  -- one word, given in lower case
  abbrev pub Word : List ℕ → Tokens → Type 0
  Word w = One (λ t. is_word bytes t.token w ≡ true)

  abbrev pub Name : Named → Tokens → Type 0
  Name n = One (λ t. (is_name t.kind ≡ true) × (n ≡ named bytes (Some t.token)))

  abbrev pub AnyName : Tokens → Type 0
  AnyName ts = (n : Named) × Name n ts

  -- names = "(" name { "," name } ")"
  abbrev pub Names : List Named → Tokens → Type 0
  Names = Parens (Listed Name)

  -- ---- types

  -- one number, not the greatest, which has no meaning without `-`
  abbrev pub Width : Tokens → Type 0
  Width = Maybe (Seq (Is is_open) (Seq (One (λ t. (n : ℕ) × (t.kind ≡ Number n) × (n ≢ 9223372036854775808))) (Is is_close)))

  abbrev pub Whole : Tokens → Type 0
  Whole = Either (Word (codes "integer")) (Either (Word (codes "int")) (Either (Word (codes "bigint")) (Word (codes "smallint"))))

  -- TEXT | VARCHAR [ "(" number ")" ] | CHARACTER VARYING [ "(" number ")" ]
  abbrev pub Characters : Tokens → Type 0
  Characters = Either (Word (codes "text")) (Either (Seq (Word (codes "varchar")) Width) (Seq (Word (codes "character")) (Seq (Word (codes "varying")) Width)))

  abbrev pub KindOf : ColKind → Tokens → Type 0
  KindOf k ts = (Whole ts × (k ≡ col.Int)) ⊎ (Characters ts × (k ≡ col.Text))

  -- ---- targets of references

  -- CASCADE | RESTRICT | SET NULL | NO ACTION
  abbrev pub Action : Tokens → Type 0
  Action =
      Either (Word (codes "cascade")) (Either (Word (codes "restrict"))
      (Either (Seq (Word (codes "set")) (Word (codes "null"))) (Seq (Word (codes "no")) (Word (codes "action")))))

  -- MATCH SIMPLE | ON (DELETE|UPDATE) action
  abbrev pub AnOption : Unit {0} → Tokens → Type 0
  AnOption u =
      Either (Seq (Word (codes "match")) (Word (codes "simple")))
      (Seq (Word (codes "on")) (Seq (Either (Word (codes "delete")) (Word (codes "update"))) Action))

  abbrev pub Options : Tokens → Type 0
  Options ts = (us : List (Unit {0})) × Each AnOption us ts

  abbrev pub TargetNames : Option (List Named) → Tokens → Type 0
  TargetNames o ts = ((ts ≡ []) × (o ≡ None)) ⊎ ((ns : List Named) × Names ns ts × (o ≡ Some ns))

  -- target = name [ names ] { option }
  abbrev pub IsTarget : Target → Tokens → Type 0
  IsTarget t ts = (n : Named) × (o : Option (List Named)) × Seq (Name n) (Seq (TargetNames o) Options) ts × (t ≡ record { table = n; columns = o })

  -- ---- elements

  -- [ CONSTRAINT name ] part
  abbrev pub Constrained : (Tokens → Type 0) → Tokens → Type 0
  Constrained P = Either (Seq (Word (codes "constraint")) (Seq AnyName P)) P

  -- NOT NULL | NULL | PRIMARY KEY | UNIQUE | REFERENCES target
  abbrev pub BareRule : ColumnRule → Tokens → Type 0
  BareRule own.NotNull ts = Seq (Word (codes "not")) (Word (codes "null")) ts
  BareRule own.Null ts = Word (codes "null") ts
  BareRule own.PrimaryKey ts = Seq (Word (codes "primary")) (Word (codes "key")) ts
  BareRule own.Unique ts = Word (codes "unique") ts
  BareRule (own.References t) ts = Seq (Word (codes "references")) (IsTarget t) ts

  abbrev pub OwnRule : ColumnRule → Tokens → Type 0
  OwnRule r = Constrained (BareRule r)

  -- column = name type { [ CONSTRAINT name ] rule }
  abbrev pub Column : ColumnPart → Tokens → Type 0
  Column c = Seq (Name c.name) (Seq (KindOf c.kind) (Each OwnRule c.rules))

  -- PRIMARY KEY names | UNIQUE names | FOREIGN KEY names REFERENCES target
  abbrev pub RuleOf : TableRule → Tokens → Type 0
  RuleOf (rules.PrimaryKey ns) ts = Seq (Word (codes "primary")) (Seq (Word (codes "key")) (Names ns)) ts
  RuleOf (rules.Unique ns) ts = Seq (Word (codes "unique")) (Names ns) ts
  RuleOf (rules.ForeignKey ns t) ts =
      Seq (Word (codes "foreign")) (Seq (Word (codes "key")) (Seq (Names ns) (Seq (Word (codes "references")) (IsTarget t)))) ts

  -- element = column | [ CONSTRAINT name ] rule
  abbrev pub IsElement : Element → Tokens → Type 0
  IsElement (elements.Column c) ts = Column c ts
  IsElement (elements.Rule r) ts = Constrained (RuleOf r) ts

  -- ---- statements

  -- CREATE TABLE [ IF NOT EXISTS ]
  abbrev pub Begin : Tokens → Type 0
  Begin = Seq (Word (codes "create")) (Seq (Word (codes "table")) (Maybe (Seq (Word (codes "if")) (Seq (Word (codes "not")) (Word (codes "exists"))))))

  -- create = begin name "(" element { "," element } ")"
  abbrev pub Create : Part → Tokens → Type 0
  Create p = Seq Begin (Seq (Name p.0) (Parens (Listed IsElement) p.1))

  -- [ create ]
  abbrev pub Created : Option Part → Tokens → Type 0
  Created None ts = ts ≡ []
  Created (Some p) ts = Create p ts

  -- { [ create ] ";" } [ create ], and the tables that are created
  abbrev pub Sentence : List Part → Tokens → Type 0
  Sentence parts ts =
      (os : List (Option Part)) × (o : Option Part) × Seq (Each (λ o. Seq (Created o) (Is is_semi)) os) (Created o) ts × (parts ≡ present (os ++ o ∷ []))

-- the tables of such parts, or the first fault of their column lists
abbrev pub tables_of : List Part → Checked (List TableRead)
tables_of [] = Ok []
tables_of (p ∷ ps) = chain (settled p.0.name p.1) (λ t. chain (tables_of ps) (λ ts. Ok (t ∷ ts)))

-- A text whose tokens are a sentence, whatever it names.
abbrev pub IsSentence : List ℕ → Type 0
IsSentence bytes = (ts : List Token) × (parts : List Part) × (lexed bytes ≡ Ok ts) × Sentence bytes parts (map (lexeme bytes) ts)

-- A text whose tokens are a sentence of these tables, with the targets of their references.
abbrev pub IsText : List ℕ → List Table → Type 0
IsText bytes tables =
    (ts : List Token) × (parts : List Part) × (lexed bytes ≡ Ok ts) × Sentence bytes parts (map (lexeme bytes) ts) × (chain (tables_of parts) linked_tables ≡ Ok tables)
