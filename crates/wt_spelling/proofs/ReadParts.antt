-- Bits are read as what they were made from, offsets apart: parts that hold no condition and no query.
use Rattle.std.proofs.Common.{◌≡◌, ℕ, suc, Bool, true, inl, inr, List, [], ◌∷◌, ◌++◌, refl, ap, ◌∙◌, arith, Option, Some, None, pos, negsuc}
use Rattle.std.specs.Prelude.{map}
use Rattle.std.specs.List.{AllByRecursion}
use Rattle.wt_value.specs.declared.value.Value.{Value}
use Rattle.wt_value.specs.declared.value.Value.TheVariants as values
use Rattle.wt_lex.specs.declared.token.Sym.{Sym}
use Rattle.wt_lex.specs.declared.token.Sym.TheVariants as sym
use Rattle.wt_lex.specs.declared.words.Word.{Word}
use Rattle.wt_lex.specs.declared.words.Word.TheVariants as word
use Rattle.wt_ast.specs.declared.tree.ColumnName.{ColumnName}
use Rattle.wt_ast.specs.declared.tree.Item.{Item}
use Rattle.wt_ast.specs.declared.tree.Item.TheVariants as items
use Rattle.wt_ast.specs.declared.tree.Scalar.{Scalar}
use Rattle.wt_ast.specs.declared.tree.Scalar.TheVariants as scalars
use Rattle.wt_ast.specs.Tree.{column_without_place, item_without_place, scalar_without_place}
use Rattle.wt_ast.specs.Lawful.{OneOrMore, IsLiteral, IsScalar}
use Rattle.wt_reading.specs.declared.lexeme.Kind.{Kind}
use Rattle.wt_reading.specs.declared.lexeme.Kind.TheVariants.{Key, Mark}
use Rattle.wt_reading.specs.Lexemes.{Tokens, is_name, is_open, is_close, is_comma}
use Rattle.wt_reading.specs.Sentences.{Seq, Is, IsAt, Behind, Listed, Parens}
use Rattle.wt_grammar.specs.Kinds.{is_dot, is_star, is_as}
use Rattle.wt_grammar.specs.Reading.{name_only}
use Rattle.wt_sentence.specs.Grammar.{NameAt, Column, AnyLiteral, Operand, Named, Alias, IsItem}
use Rattle.wt_spelling.specs.Numbers.{FitsValue, FitsScalar}
use Rattle.wt_spelling.proofs.Bits.{Bit, a_word, a_sign, a_name, before_dot_bits, column_bits, value_bits, scalar_bits, others_bits, listed_bits, spaced, as_bits, item_bits, opened, closed}
use Rattle.wt_spelling.proofs.Shown.{Shows, split}

module _ (end : ℕ) (bytes : List ℕ) where
  -- tokens that are the bits are such a part, with a value that is x apart from offsets
  abbrev pub Reads : {A : Type 0} → (A → Tokens → Type 0) → (A → A) → A → List Bit → Type 0
  Reads {A} Part strip x bits = (ts : Tokens) → Shows bytes bits ts → (y : A) × Part y ts × (strip y ≡ strip x)

  -- ---- one token

  pub one_word : (w : Word) (test : Kind → Bool) → test (Key w) ≡ true → (ts : Tokens) → Shows bytes (a_word w ∷ []) ts → Is test ts
  one_word w test h ts (t, r, e, k, n) = (t, e ∙ ap (λ l. t ∷ l) n, ap test k ∙ h)

  pub one_word_at : (w : Word) (test : Kind → Bool) → test (Key w) ≡ true → (ts : Tokens) → Shows bytes (a_word w ∷ []) ts → (at : ℕ) × IsAt test at ts
  one_word_at w test h ts (t, r, e, k, n) = (t.token.start, (t, e ∙ ap (λ l. t ∷ l) n, (ap test k ∙ h, refl)))

  pub one_sign : (s : Sym) (test : Kind → Bool) → test (Mark s) ≡ true → (ts : Tokens) → Shows bytes (a_sign s ∷ []) ts → Is test ts
  one_sign s test h ts (t, r, e, k, n) = (t, e ∙ ap (λ l. t ∷ l) n, ap test k ∙ h)

  pub one_sign_at : (s : Sym) (test : Kind → Bool) → test (Mark s) ≡ true → (ts : Tokens) → Shows bytes (a_sign s ∷ []) ts → (at : ℕ) × IsAt test at ts
  one_sign_at s test h ts (t, r, e, k, n) = (t.token.start, (t, e ∙ ap (λ l. t ∷ l) n, (ap test k ∙ h, refl)))

  pub one_name : (n : List ℕ) (ts : Tokens) → Shows bytes (a_name n ∷ []) ts → (at : ℕ) × NameAt end bytes n at ts
  one_name n ts (t, r, e, (k, m), z) = (t.token.start, (t, e ∙ ap (λ l. t ∷ l) z, (ap is_name k, m, refl)))

  pub two_words : (w v : Word) (first second : Kind → Bool) → first (Key w) ≡ true → second (Key v) ≡ true → (ts : Tokens) → Shows bytes (a_word w ∷ a_word v ∷ []) ts → Seq (Is first) (Is second) ts
  two_words w v first second h g ts shown =
      let (a, b, e, p, q) = split bytes (a_word w ∷ []) (a_word v ∷ []) ts shown in
      (a, b, e, one_word w first h a p, one_word v second g b q)

  -- ---- columns, values, operands

  pub column_read : (c : ColumnName) → Reads (Column end bytes) column_without_place c (column_bits c)
  column_read c = by c.table
    where
      by : (table : Option (List ℕ)) (ts : Tokens) → Shows bytes (before_dot_bits table ++ a_name c.name ∷ []) ts
          → (d : ColumnName) × Column end bytes d ts × (column_without_place d ≡ record { table = table; name = c.name; at = 0 })
      by None ts h =
          let (at, p) = one_name c.name ts h in
          (record { table = None; name = c.name; at = at }, inl (c.name, at, p, refl), refl)
      by (Some alias) ts h =
          let (a, b, e, p, q) = split bytes (a_name alias ∷ []) (a_sign sym.Dot ∷ a_name c.name ∷ []) ts h in
          let (d, n, f, r, s) = split bytes (a_sign sym.Dot ∷ []) (a_name c.name ∷ []) b q in
          let (at, named) = one_name alias a p in (
            record { table = Some alias; name = c.name; at = at },
            inr (alias, c.name, at, (a, b, e, named, (d, n, f, one_sign sym.Dot is_dot refl d r, one_name c.name n s)), refl),
            refl,
          )

  pub value_read : (v : Value) → IsLiteral v → FitsValue v → (ts : Tokens) → Shows bytes (value_bits v) ts → AnyLiteral end bytes v ts
  value_read values.Null h f ts s = absurd h
  value_read (values.Int (pos n)) h f ts (t, r, e, k, z) = (t.token.start, inl (n, (t, e ∙ ap (λ l. t ∷ l) z, (k, refl)), omega arith, refl))
  value_read (values.Int (negsuc n)) h f ts (t, r, e, k, (u, q, g, m, z)) =
      (t.token.start, inr (inr (suc n, (t ∷ [], r, e, (t, refl, (k, refl)), (u, g ∙ ap (λ l. u ∷ l) z, m)), omega arith, refl)))
  value_read (values.Text x) h f ts (t, r, e, (k, m), z) = (t.token.start, inr (inl (t, e ∙ ap (λ l. t ∷ l) z, (k, refl, ap values.Text m))))

  pub scalar_read : (x : Scalar) → IsScalar x → FitsScalar x → Reads (Operand end bytes) scalar_without_place x (scalar_bits x)
  scalar_read (scalars.Column c) h f ts s =
      let (d, p, e) = column_read c ts s in
      (scalars.Column d, inl (d, p, refl), ap scalars.Column e)
  scalar_read (scalars.Literal v at) h f ts s =
      let (place, p) = value_read v h f ts s in
      (scalars.Literal v place, inr (v, place, p, refl), refl)

  -- ---- lists

  module _ {A : Type 0} (Part : A → Tokens → Type 0) (strip : A → A) (bits : A → List Bit) (Is' : A → Type 0) (each : (x : A) → Is' x → Reads Part strip x (bits x)) where
    others_read : (xs : List A) → AllByRecursion Is' xs → (ts : Tokens) → Shows bytes (others_bits bits xs) ts → (ys : List A) × Behind is_comma Part ys ts × (map strip ys ≡ map strip xs)
    others_read [] h ts s = ([], s, refl)
    others_read (x ∷ xs) h ts s =
        let (c, r, e, p, q) = split bytes (a_sign sym.Comma ∷ []) (bits x ++ others_bits bits xs) ts s in
        let (a, b, f, m, n) = split bytes (bits x) (others_bits bits xs) r q in
        let (y, one, same) = each x h.0 a m in
        let (ys, others, sames) = others_read xs h.1 b n in
        (y ∷ ys, (c, r, e, one_sign sym.Comma is_comma refl c p, (a, b, f, one, others)), (λ i. same i ∷ sames i))

    pub listed_read : (xs : List A) → OneOrMore Is' xs → (ts : Tokens) → Shows bytes (listed_bits bits xs) ts → (ys : List A) × Listed Part ys ts × (map strip ys ≡ map strip xs)
    listed_read [] h ts s = absurd (omega (arith, h.0))
    listed_read (x ∷ xs) h ts s =
        let (a, b, f, m, n) = split bytes (bits x) (others_bits bits xs) ts s in
        let (y, one, same) = each x h.1.0 a m in
        let (ys, others, sames) = others_read xs h.1.1 b n in
        (y ∷ ys, (y, ys, (a, b, f, one, others), refl), (λ i. same i ∷ sames i))

  -- in parentheses
  pub parens_read : {A : Type 0} (Part : A → Tokens → Type 0) (Good : A → Type 0) (bits : List Bit) → ((ts : Tokens) → Shows bytes bits ts → (y : A) × Part y ts × Good y)
      → (ts : Tokens) → Shows bytes (opened ++ (bits ++ closed)) ts → (y : A) × Parens Part y ts × Good y
  parens_read Part Good bits inner ts s =
      let (o, r, e, p, q) = split bytes opened (bits ++ closed) ts s in
      let (a, b, f, m, n) = split bytes bits closed r q in
      let (y, part, good) = inner a m in
      (y, (o, r, e, one_sign sym.Open is_open refl o p, (a, b, f, part, one_sign sym.Close is_close refl b n)), good)

  -- ---- names behind AS, items

  pub named_read : (n : List ℕ) (ts : Tokens) → Shows bytes (spaced word.As ++ a_name n ∷ []) ts → (at : ℕ) × Named end bytes n at ts
  named_read n ts s =
      let (a, b, e, p, q) = split bytes (spaced word.As) (a_name n ∷ []) ts s in
      let (at, named) = one_name n b q in
      (at, inr (a, b, e, one_word word.As is_as refl a p, named))

  pub as_read : (o : Option (List ℕ)) (ts : Tokens) → Shows bytes (as_bits o) ts → (p : Option (List ℕ × ℕ)) × Alias end bytes p ts × (name_only p ≡ o)
  as_read None ts s = (None, inl (s, refl), refl)
  as_read (Some n) ts s =
      let (at, named) = named_read n ts s in
      (Some (n, at), inr (n, at, named, refl), refl)

  pub item_read : (i : Item) → Reads (IsItem end bytes) item_without_place i (item_bits i)
  item_read (items.Star at) ts s =
      let (place, p) = one_sign_at sym.Star is_star refl ts s in
      (items.Star place, inl (place, p, refl), refl)
  item_read (items.AllOf alias at) ts s =
      let (a, b, e, p, q) = split bytes (a_name alias ∷ []) (a_sign sym.Dot ∷ a_sign sym.Star ∷ []) ts s in
      let (c, d, f, m, n) = split bytes (a_sign sym.Dot ∷ []) (a_sign sym.Star ∷ []) b q in
      let (place, named) = one_name alias a p in
      (items.AllOf alias place, inr (inl (alias, place, (a, b, e, named, (c, d, f, one_sign sym.Dot is_dot refl c m, one_sign sym.Star is_star refl d n)), refl)), refl)
  item_read (items.Column column output) ts s =
      let (a, b, e, p, q) = split bytes (column_bits column) (as_bits output) ts s in
      let (c, read, same) = column_read column a p in
      let (o, alias, only) = as_read output b q in
      (items.Column c (name_only o), inr (inr (c, o, (a, b, e, read, alias), refl)), (λ i. items.Column (same i) (only i)))
