-- The grammar of statements: which tokens are which tree. Each definition is a line of it, and says of a value and of
-- tokens that the tokens are a sentence of the line with this value.
use Rattle.std.specs.Prelude.{◌≡◌, ℕ, zero, suc, ◌^◌, ◌<◌, ◌≤◌, Bool, true, false, ◌⊎◌, List, [], ◌∷◌, Option, Some, None, pos, neg_ℤ}
use Rattle.wt_value.specs.declared.value.Value.{Value}
use Rattle.wt_value.specs.declared.value.Value.TheVariants as value
use Rattle.wt_lex.specs.declared.token.Sym.TheVariants as sym
use Rattle.wt_ast.specs.declared.tree.ColumnName.{ColumnName}
use Rattle.wt_ast.specs.declared.tree.Item.{Item}
use Rattle.wt_ast.specs.declared.tree.Item.TheVariants as items
use Rattle.wt_ast.specs.declared.tree.Scalar.{Scalar}
use Rattle.wt_ast.specs.declared.tree.Scalar.TheVariants as scalar
use Rattle.wt_ast.specs.declared.tree.CmpWord.{CmpWord}
use Rattle.wt_ast.specs.Tree.{QueryTree, FilterTree, FromTree, CondTree, CondTrees, select, no_filter, filter_by, table, derived, comma, compare, is_null, is_not_null, in_list, in_query, all_of, any_of, negated}
use Rattle.wt_reading.specs.declared.lexeme.Kind.{Kind}
use Rattle.wt_reading.specs.declared.lexeme.Kind.TheVariants.{Number, Text, Mark}
use Rattle.wt_grammar.specs.declared.join.JoinKind.{JoinKind}
use Rattle.wt_grammar.specs.declared.join.JoinKind.TheVariants as joining
use Rattle.wt_reading.specs.Lexemes.{Tokens, place, is_comma, is_name}
use Rattle.wt_grammar.specs.Kinds.{is_and, is_or, is_not, is_select, is_distinct, is_all, is_from, is_where, is_between, is_is, is_null_word, is_in, is_as, is_inner, is_left, is_right, is_outer, is_join, is_on, is_dot, is_star}
use Rattle.wt_reading.specs.Sentences.{Seq, One, Is, IsAt, Behind, Listed, Parens}
use Rattle.wt_grammar.specs.Reading.{name_at, text_at, cmp_of, between_of, one_or, join_of, name_only, place_or}

-- part { sep part }, as one condition
abbrev pub Run : (Kind → Bool) → (ℕ → CondTrees → CondTree) → (CondTree → Tokens → Type 0) → CondTree → Tokens → Type 0
Run sep whole Part c ts = (x : CondTree) × (xs : List CondTree) × Seq (Part x) (Behind sep Part xs) ts × (c ≡ one_or whole x xs)

-- so many steps, each from what was made before
abbrev pub Chain : (FromTree → FromTree → Tokens → Type 0) → ℕ → FromTree → FromTree → Tokens → Type 0
Chain Step zero a f ts = (ts ≡ []) × (f ≡ a)
Chain Step (suc n) a f ts = (g : FromTree) × Seq (Step a g) (Chain Step n g f) ts

-- What stands one level deeper: whether there is a level left, NOT and a condition, a condition, a query and a join in
-- parentheses.
pub record Deeper : Type 1 where
  pub room : Type 0
  pub negs : CondTree → Tokens → Type 0
  pub conds : CondTree → Tokens → Type 0
  pub queries : QueryTree → Tokens → Type 0
  pub froms : FromTree → Tokens → Type 0

module _ (end : ℕ) (bytes : List ℕ) where
  -- name
  abbrev pub NameAt : List ℕ → ℕ → Tokens → Type 0
  NameAt n at = One (λ t. (is_name t.kind ≡ true) × (n ≡ name_at bytes (t ∷ [])) × (at ≡ t.token.start))

  abbrev pub Name : List ℕ → Tokens → Type 0
  Name n ts = (at : ℕ) × NameAt n at ts

  -- column = name | name "." name
  abbrev pub Column : ColumnName → Tokens → Type 0
  Column c ts =
      ((n : List ℕ) × (at : ℕ) × NameAt n at ts × (c ≡ record { table = None; name = n; at = at }))
      ⊎ ((q : List ℕ) × (n : List ℕ) × (at : ℕ) × Seq (NameAt q at) (Seq (Is is_dot) (Name n)) ts × (c ≡ record { table = Some q; name = n; at = at }))

  -- literal = [-] number | text
  abbrev pub Literal : Value → ℕ → Tokens → Type 0
  Literal v at ts =
      ((n : ℕ) × One (λ t. (t.kind ≡ Number n) × (at ≡ t.token.start)) ts × (n < 2 ^ 63) × (v ≡ value.Int (pos n)))
      ⊎ One (λ t. (t.kind ≡ Text) × (at ≡ t.token.start) × (v ≡ value.Text (text_at bytes (t ∷ [])))) ts
      ⊎ ((n : ℕ) × Seq (One (λ t. (t.kind ≡ Mark sym.Minus) × (at ≡ t.token.start))) (One (λ t. t.kind ≡ Number n)) ts × (n ≤ 2 ^ 63) × (v ≡ value.Int (neg_ℤ (pos n))))

  abbrev pub AnyLiteral : Value → Tokens → Type 0
  AnyLiteral v ts = (at : ℕ) × Literal v at ts

  -- operand = column | literal
  abbrev pub Operand : Scalar → Tokens → Type 0
  Operand x ts = ((c : ColumnName) × Column c ts × (x ≡ scalar.Column c)) ⊎ ((v : Value) × (at : ℕ) × Literal v at ts × (x ≡ scalar.Literal v at))

  -- [ [AS] name ]
  abbrev pub Named : List ℕ → ℕ → Tokens → Type 0
  Named n at ts = NameAt n at ts ⊎ Seq (Is is_as) (NameAt n at) ts

  abbrev pub Alias : Option (List ℕ × ℕ) → Tokens → Type 0
  Alias o ts = ((ts ≡ []) × (o ≡ None)) ⊎ ((n : List ℕ) × (at : ℕ) × Named n at ts × (o ≡ Some (n, at)))

  -- item = "*" | name "." "*" | column [ [AS] name ]
  abbrev pub IsItem : Item → Tokens → Type 0
  IsItem i ts =
      ((at : ℕ) × IsAt is_star at ts × (i ≡ items.Star at))
      ⊎ ((n : List ℕ) × (at : ℕ) × Seq (NameAt n at) (Seq (Is is_dot) (Is is_star)) ts × (i ≡ items.AllOf n at))
      ⊎ ((c : ColumnName) × (o : Option (List ℕ × ℕ)) × Seq (Column c) (Alias o) ts × (i ≡ items.Column c (name_only o)))

  module _ (deeper : Deeper) where
    -- "(" literal { "," literal } ")"
    abbrev pub Values : List Value → Tokens → Type 0
    Values vs ts = deeper.room × Parens (Listed AnyLiteral) vs ts

    -- BETWEEN operand AND operand
    abbrev pub Between : ℕ → Scalar → CondTree → Tokens → Type 0
    Between at x c ts =
        (word : ℕ) × (low : Scalar) × (high : Scalar) × Seq (IsAt is_between word) (Seq (Operand low) (Seq (Is is_and) (Operand high))) ts
        × (c ≡ between_of at x low high word)

    -- what follows a column: IS [NOT] NULL | [NOT] IN "(" literal { "," literal } ")" | IN "(" query ")"
    abbrev pub OfColumn : ℕ → ColumnName → CondTree → Tokens → Type 0
    OfColumn at k c ts =
        (Seq (Is is_is) (Is is_null_word) ts × (c ≡ is_null at k))
        ⊎ (Seq (Is is_is) (Seq (Is is_not) (Is is_null_word)) ts × (c ≡ is_not_null at k))
        ⊎ ((vs : List Value) × (word : ℕ) × Seq (IsAt is_in word) (Values vs) ts × (c ≡ in_list at k vs word))
        ⊎ ((vs : List Value) × (word : ℕ) × Seq (Is is_not) (Seq (IsAt is_in word) (Values vs)) ts × (c ≡ negated at (in_list at k vs word)))
        ⊎ ((q : QueryTree) × (word : ℕ) × Seq (IsAt is_in word) (deeper.queries q) ts × (c ≡ in_query at (k ∷ []) q word))

    -- what follows an operand: cmp operand | [NOT] BETWEEN operand AND operand, or what follows a column
    abbrev pub Tail : ℕ → Scalar → CondTree → Tokens → Type 0
    Tail at x c ts =
        ((w : CmpWord) × (y : Scalar) × (word : ℕ) × Seq (One (λ t. (cmp_of t.kind ≡ Some w) × (word ≡ t.token.start))) (Operand y) ts × (c ≡ compare at w x y word))
        ⊎ Between at x c ts
        ⊎ ((d : CondTree) × Seq (Is is_not) (Between at x d) ts × (c ≡ negated at d))
        ⊎ ((k : ColumnName) × (x ≡ scalar.Column k) × OfColumn at k c ts)

    -- "(" column { "," column } ")" IN "(" query ")"
    abbrev pub TupleIn : CondTree → Tokens → Type 0
    TupleIn c ts =
        (ks : List ColumnName) × (q : QueryTree) × (word : ℕ) × deeper.room × Seq (Parens (Listed Column) ks) (Seq (IsAt is_in word) (deeper.queries q)) ts
        × (c ≡ in_query (place end ts) ks q word)

    -- basic = operand tail | tuple IN "(" query ")" | "(" cond ")"
    abbrev pub Basic : CondTree → Tokens → Type 0
    Basic c ts = ((x : Scalar) × Seq (Operand x) (Tail (place end ts) x c) ts) ⊎ TupleIn c ts ⊎ deeper.conds c ts

    -- neg = NOT neg | basic    conj = neg { AND neg }    cond = conj { OR conj }
    abbrev pub Neg : CondTree → Tokens → Type 0
    Neg c ts = deeper.negs c ts ⊎ Basic c ts

    abbrev pub Conj : CondTree → Tokens → Type 0
    Conj = Run is_and all_of Neg

    abbrev pub Cond : CondTree → Tokens → Type 0
    Cond = Run is_or any_of Conj

    -- [ "(" name { "," name } ")" ]
    abbrev pub Columns : Option (List (List ℕ)) → Tokens → Type 0
    Columns o ts = ((ts ≡ []) × (o ≡ None)) ⊎ ((ns : List (List ℕ)) × deeper.room × Parens (Listed Name) ns ts × (o ≡ Some ns))

    -- primary = name [ [AS] name ] | "(" query ")" [AS] name [ cols ] | "(" joined ")"
    abbrev pub Table : FromTree → Tokens → Type 0
    Table f ts = (n : List ℕ) × (at : ℕ) × (o : Option (List ℕ × ℕ)) × Seq (NameAt n at) (Alias o) ts × (f ≡ table n (name_only o) at (place_or o at))

    abbrev pub Derived : FromTree → Tokens → Type 0
    Derived f ts =
        (q : QueryTree) × (n : List ℕ) × (at : ℕ) × (o : Option (List (List ℕ))) × Seq (deeper.queries q) (Seq (Named n at) (Columns o)) ts
        × (f ≡ derived q n o (place end ts) at)

    abbrev pub Primary : FromTree → Tokens → Type 0
    Primary f ts = Table f ts ⊎ Derived f ts ⊎ deeper.froms f ts

    -- [INNER] JOIN | ( LEFT | RIGHT ) [OUTER] JOIN
    abbrev pub Outer : (Kind → Bool) → Tokens → Type 0
    Outer side ts = Seq (Is side) (Is is_join) ts ⊎ Seq (Is side) (Seq (Is is_outer) (Is is_join)) ts

    abbrev pub JoinWords : JoinKind → Tokens → Type 0
    JoinWords k ts =
        (Is is_join ts × (k ≡ joining.Inner))
        ⊎ (Seq (Is is_inner) (Is is_join) ts × (k ≡ joining.Inner))
        ⊎ (Outer is_left ts × (k ≡ joining.Left))
        ⊎ (Outer is_right ts × (k ≡ joining.Right))

    -- joined = primary { join primary ON cond }, each join to the right of what stands before it
    abbrev pub Join : FromTree → FromTree → Tokens → Type 0
    Join a f ts =
        (k : JoinKind) × (b : FromTree) × (on : ℕ) × (c : CondTree) × Seq (JoinWords k) (Seq (Primary b) (Seq (IsAt is_on on) (Cond c))) ts
        × (f ≡ join_of k a b c on)

    abbrev pub Joined : FromTree → Tokens → Type 0
    Joined f ts = (a : FromTree) × (n : ℕ) × Seq (Primary a) (Chain Join n a f) ts

    -- list = joined { "," joined }, each to the right of what stands before it
    abbrev pub ListedPart : FromTree → FromTree → Tokens → Type 0
    ListedPart a f ts = (b : FromTree) × (at : ℕ) × Seq (IsAt is_comma at) (Joined b) ts × (f ≡ comma a b at)

    abbrev pub FromList : FromTree → Tokens → Type 0
    FromList f ts = (a : FromTree) × (n : ℕ) × Seq (Joined a) (Chain ListedPart n a f) ts

    -- [ WHERE cond ]
    abbrev pub Filter : FilterTree → Tokens → Type 0
    Filter w ts = ((ts ≡ []) × (w ≡ no_filter)) ⊎ ((c : CondTree) × Seq (Is is_where) (Cond c) ts × (w ≡ filter_by c))

    -- [ ALL | DISTINCT ]
    abbrev pub Quantifier : Bool → Tokens → Type 0
    Quantifier d ts = ((ts ≡ []) × (d ≡ false)) ⊎ (Is is_all ts × (d ≡ false)) ⊎ (Is is_distinct ts × (d ≡ true))

    -- what stands behind SELECT: [ALL | DISTINCT] items FROM list [ WHERE cond ]
    abbrev pub Body : QueryTree → Tokens → Type 0
    Body q ts =
        (d : Bool) × (is : List Item) × (f : FromTree) × (w : FilterTree)
        × Seq (Quantifier d) (Seq (Listed IsItem is) (Seq (Is is_from) (Seq (FromList f) (Filter w)))) ts × (q ≡ select d is f w)

  -- what stands under so many more levels
  unfoldable pub deeper : ℕ → Deeper
  deeper zero = record { room = ⊥; negs = λ c ts. ⊥; conds = λ c ts. ⊥; queries = λ q ts. ⊥; froms = λ f ts. ⊥ }
  deeper (suc levels) = record {
    room = Unit {0};
    negs = λ c ts. (at : ℕ) × (d : CondTree) × Seq (IsAt is_not at) (Neg (deeper levels) d) ts × (c ≡ negated at d);
    conds = Parens (Cond (deeper levels));
    queries = Parens (λ q. Seq (Is is_select) (Body (deeper levels) q));
    froms = Parens (Joined (deeper levels));
  }

  -- a whole statement, with 32 levels
  abbrev pub IsStatement : QueryTree → Tokens → Type 0
  IsStatement q = Seq (Is is_select) (Body (deeper 32) q)
