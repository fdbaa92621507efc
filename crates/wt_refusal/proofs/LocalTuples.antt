-- Columns in parentheses: where they open a tuple, and that they are no condition.
use Rattle.std.proofs.Common.{◌≡◌, ℕ, ◌⊎◌, inl, inr, Bool, true, false, List, [], ◌∷◌, ◌++◌, length, drop, refl, ap, sym, ◌∙◌, append-nil, Ok, Err, Some, None, subst, drop-drop}
use Rattle.std.specs.Prelude.{◌&&◌}
use Rattle.wt_lex.specs.declared.token.Sym.TheVariants as sym
use Rattle.wt_ast.specs.declared.tree.ColumnName.{ColumnName}
use Rattle.wt_ast.specs.declared.tree.Scalar.{Scalar}
use Rattle.wt_ast.specs.declared.tree.Scalar.TheVariants as scalar
use Rattle.wt_ast.specs.Tree.{is_null}
use Rattle.wt_reading.specs.declared.lexeme.Kind.{Kind}
use Rattle.wt_reading.specs.declared.lexeme.Kind.TheVariants.{Name, Mark}
use Rattle.wt_reading.specs.declared.lexeme.Lexeme.{Lexeme}
use Rattle.wt_grammar.specs.declared.fault.QueryFault.TheVariants as fault
use Rattle.wt_reading.specs.Lexemes.{Tokens, kind, place, is_name, is_open, is_close, is_comma}
use Rattle.wt_grammar.specs.Kinds.{is_is, is_dot, is_null_word}
use Rattle.wt_grammar.specs.Reading as read
use Rattle.wt_grammar.specs.Reading.{Read, refused, Nest, run, in_follows, is_tuple, name_at, cmp_of}
use Rattle.wt_sentence.proofs.Stages.{Stage, before_column, behind_name, behind_dot, behind_column, next_stage, ends_column, passes, passes_is}
use Rattle.wt_sentence.specs.Grammar.{Column, Deeper}
use Rattle.wt_sentence.specs.Grammar as spec
use Rattle.wt_reading.proofs.Inversions.{held}
use Rattle.wt_reading.proofs.Took.{drop_front}
use Rattle.wt_sentence.proofs.Follows.{Plain, name_is, comma_is, close_is, comma_plain, close_plain}
use Rattle.wt_sentence.proofs.CompleteParts.{operand_reads}

-- a column may go on to the next or the parenthesis close
abbrev pub Closes : Kind → Type 0
Closes k = (is_comma k ≡ true) ⊎ (is_close k ≡ true)

pub closes_plain : (k : Kind) → Closes k → Plain k
closes_plain k (inl h) = comma_plain k h
closes_plain k (inr h) = close_plain k h

-- a tuple is told by the kind of its first token
stage_by : Stage → Kind → Tokens → Bool
stage_by at k ts = elim (next_stage at k) [ Some s ↦ passes s ts | None ↦ ends_column at && is_close k && in_follows ts ]

first_name : (ts : Tokens) → passes before_column ts ≡ true → (is_name (kind ts) ≡ true) × (passes behind_name (drop 1 ts) ≡ true)
unfolding stage_by
first_name [] h = absurd cc
first_name (t ∷ ts) h = by t.kind h
  where
    by : (k : Kind) → stage_by before_column k ts ≡ true → (is_name k ≡ true) × (passes behind_name ts ≡ true)
    by Name h = (refl, h)
    by _ h = absurd cc

dot_name : (ts : Tokens) → passes behind_dot ts ≡ true → (is_name (kind ts) ≡ true) × (passes behind_column (drop 1 ts) ≡ true)
unfolding stage_by
dot_name [] h = absurd cc
dot_name (t ∷ ts) h = by t.kind h
  where
    by : (k : Kind) → stage_by behind_dot k ts ≡ true → (is_name k ≡ true) × (passes behind_column ts ≡ true)
    by Name h = (refl, h)
    by _ h = absurd cc

name_goes : (ts : Tokens) → passes behind_name ts ≡ true → ((is_dot (kind ts) ≡ true) × (passes behind_dot (drop 1 ts) ≡ true)) ⊎ Closes (kind ts)
unfolding stage_by
name_goes [] h = absurd cc
name_goes (t ∷ ts) h = by t.kind h
  where
    by : (k : Kind) → stage_by behind_name k ts ≡ true → ((is_dot k ≡ true) × (passes behind_dot ts ≡ true)) ⊎ Closes k
    by (Mark sym.Dot) h = inl (refl, h)
    by (Mark sym.Comma) h = inr (inl refl)
    by (Mark sym.Close) h = inr (inr refl)
    by _ h = absurd cc

column_goes : (ts : Tokens) → passes behind_column ts ≡ true → Closes (kind ts)
unfolding stage_by
column_goes [] h = absurd cc
column_goes (t ∷ ts) h = by t.kind h
  where
    by : (k : Kind) → stage_by behind_column k ts ≡ true → Closes k
    by (Mark sym.Comma) h = inl refl
    by (Mark sym.Close) h = inr refl
    by _ h = absurd cc

module _ (end : ℕ) (bytes : List ℕ) where
  -- a column is read, and a comma or the closing parenthesis stands behind it
  abbrev pub ColumnCloses : Tokens → Type 0
  ColumnCloses ts = (c : ColumnName) × (m : ℕ) × (read.column end bytes ts ≡ Ok (c, m)) × Closes (kind (drop m ts))

  -- a tuple begins with a column
  pub tuple_column : (ts : Tokens) → is_tuple ts ≡ true → ColumnCloses ts
  unfolding read.column read.name
  tuple_column ts h = let (is, h1) = first_name ts (passes_is ts ∙ h) in by is (name_goes (drop 1 ts) h1)
    where
      by : is_name (kind ts) ≡ true → ((is_dot (kind (drop 1 ts)) ≡ true) × (passes behind_dot (drop 1 (drop 1 ts)) ≡ true)) ⊎ Closes (kind (drop 1 ts)) → ColumnCloses ts
      by is (inr closes) =
          let plain = closes_plain (kind (drop 1 ts)) closes in
          (record { table = None; name = name_at bytes ts; at = place end ts }, 1, rw (is, plain.not_dot, plain.not_open) refl, closes)
      by is (inl (dot, h2)) =
          let (named, h3) = dot_name (drop 1 (drop 1 ts)) h2 in
          let closes = column_goes (drop 1 (drop 1 (drop 1 ts))) h3 in
          let plain = closes_plain (kind (drop 1 (drop 1 (drop 1 ts)))) closes in
          let two : drop 1 (drop 1 ts) ≡ drop 2 ts = drop-drop 1 1 ts in
          let three : drop 1 (drop 2 ts) ≡ drop 3 ts = drop-drop 1 2 ts in
          let named2 : is_name (kind (drop 2 ts)) ≡ true = ap (λ l. is_name (kind l)) (sym two) ∙ named in
          let bare : is_open (kind (drop 1 (drop 2 ts))) ≡ false = ap (λ l. is_open (kind (drop 1 l))) (sym two) ∙ plain.not_open in (
            record { table = Some (name_at bytes ts); name = name_at bytes (drop 2 ts); at = place end ts },
            3,
            rw (is, dot, named2, bare) refl,
            subst (λ l. Closes (kind l)) (ap (drop 1) two ∙ three) closes,
          )

  -- what begins with a column begins with a name
  pub column_first : (ts : Tokens) (c : ColumnName) (m : ℕ) → read.column end bytes ts ≡ Ok (c, m) → kind ts ≡ Name
  unfolding read.column
  column_first ts c m h = let (is, e) = held (is_name (kind ts)) _ _ c m h in name_is (kind ts) is

  module _ (ns : Nest) where
    refused_behind : (at : ℕ) (a : Scalar) (l : Tokens) → Closes (kind l) → read.after_operand end bytes ns at a l ≡ Err (refused fault.Syntax, place end l)
    unfolding read.after_operand
    refused_behind at a l (inl h) = let e = comma_is (kind l) h in rw e refl
    refused_behind at a l (inr h) = let e = close_is (kind l) h in rw e refl

    -- no condition goes on behind its column with a comma or the closing parenthesis
    pub no_condition : (ts b l : Tokens) (c : ColumnName) → kind ts ≡ Name → ts ≡ b ++ l → Column end bytes c b → Closes (kind l) → read.cond end bytes ns ts ≡ Err (refused fault.Syntax, place end l)
    unfolding read.cond read.conj run read.neg read.basic
    no_condition ts b l c first e p closes =
        let operand : read.operand end bytes ts ≡ Ok (scalar.Column c, length b) =
        ap (read.operand end bytes) e ∙ operand_reads end bytes b l (scalar.Column c) (inl (c, p, refl)) (closes_plain (kind l) closes) in
        let rest : drop (length b) ts ≡ l = ap (drop (length b)) e ∙ drop_front b l in
        let tail : read.after_operand end bytes ns (place end ts) (scalar.Column c) (drop (length b) ts) ≡ Err (refused fault.Syntax, place end l) =
        ap (read.after_operand end bytes ns (place end ts) (scalar.Column c)) rest ∙ refused_behind (place end ts) (scalar.Column c) l closes in
        rw (first, operand, tail) refl

  -- a column and IS NULL are a condition
  pub null_condition : (d : Deeper) (c : ColumnName) (b : Tokens) (i n : Lexeme) → Column end bytes c b → is_is i.kind ≡ true → is_null_word n.kind ≡ true
      → spec.Cond end bytes d (is_null (place end (b ++ (i ∷ n ∷ []))) c) (b ++ (i ∷ n ∷ []))
  null_condition d c b i n p is null =
      let ts = b ++ (i ∷ n ∷ []) in
      let x = is_null (place end ts) c in
      let basic : spec.Basic end bytes d x ts = inl (scalar.Column c, (b, i ∷ n ∷ [], refl, inl (c, p, refl), inr (inr (inr (c, refl, inl ((i ∷ [], n ∷ [], refl, (i, refl, is), (n, refl, null)), refl)))))) in
      let conj : spec.Conj end bytes d x ts = (x, [], (ts, [], sym (append-nil ts), inr basic, refl), refl) in
      (x, [], (ts, [], sym (append-nil ts), conj, refl), refl)
