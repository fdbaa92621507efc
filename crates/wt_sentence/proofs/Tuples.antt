-- When a parenthesis opens a tuple.
use Rattle.std.proofs.Common.{◌≡◌, ℕ, inl, inr, true, false, List, [], ◌∷◌, ◌++◌, drop, refl, ap, sym, ◌∙◌, append_assoc, Some, None}
use Rattle.std.specs.Prelude.{◌&&◌}
use Rattle.wt_ast.specs.declared.tree.ColumnName.{ColumnName}
use Rattle.wt_ast.specs.declared.tree.Scalar.{Scalar}
use Rattle.wt_reading.specs.declared.lexeme.Kind.TheVariants.{Name}
use Rattle.wt_reading.specs.declared.lexeme.Lexeme.{Lexeme}
use Rattle.wt_reading.specs.Lexemes.{Tokens, kind, is_comma, is_close, is_open}
use Rattle.wt_grammar.specs.Kinds.{is_select, is_not}
use Rattle.wt_grammar.specs.Reading.{in_follows, opens_tuple}
use Rattle.wt_sentence.proofs.Stages.{Stage, before_column, behind_name, behind_dot, behind_column, next_stage, ends_column, passes, passes_is}
use Rattle.wt_reading.specs.Sentences.{Behind, Listed, Parens}
use Rattle.wt_sentence.specs.Grammar.{Column, Operand}
use Rattle.wt_sentence.proofs.Follows.{Front, name_is, dot_is, comma_is, close_is}

goes_on : (at s : Stage) (t : Lexeme) (ts : Tokens) → next_stage at t.kind ≡ Some s → passes at (t ∷ ts) ≡ passes s ts
goes_on at s t ts h = rw (h, passes) refl

stops : (at : Stage) (t : Lexeme) (ts : Tokens) → next_stage at t.kind ≡ None → passes at (t ∷ ts) ≡ (ends_column at && is_close t.kind && in_follows ts)
stops at t ts h = rw (h, passes) refl

-- tokens that begin with no column are no tuple
pub no_tuple : (ts : Tokens) → next_stage before_column (kind ts) ≡ None → passes before_column ts ≡ false
no_tuple [] h = refl
no_tuple (t ∷ ts) h = stops before_column t ts h

-- what follows the end of a column
pub record Ends (s : Stage) : Type 0 where
  pub comma : (t : Lexeme) (ts : Tokens) → is_comma t.kind ≡ true → passes s (t ∷ ts) ≡ passes before_column ts
  pub close : (t : Lexeme) (ts : Tokens) → is_close t.kind ≡ true → passes s (t ∷ ts) ≡ in_follows ts
  pub front : (ts : Tokens) → Front (kind ts) → passes s ts ≡ false

name_ends : Ends behind_name
name_ends = record {
  comma = λ t ts h. goes_on behind_name before_column t ts (ap (next_stage behind_name) (comma_is t.kind h));
  close = λ t ts h. stops behind_name t ts (ap (next_stage behind_name) (close_is t.kind h)) ∙ ap (λ b. true && b && in_follows ts) h;
  front = fronts;
}
  where
    fronts : (ts : Tokens) → Front (kind ts) → passes behind_name ts ≡ false
    fronts [] f = refl
    fronts (t ∷ ts) f = stops behind_name t ts f.no_name ∙ ap (λ b. true && b && in_follows ts) f.not_close

column_ends : Ends behind_column
column_ends = record {
  comma = λ t ts h. goes_on behind_column before_column t ts (ap (next_stage behind_column) (comma_is t.kind h));
  close = λ t ts h. stops behind_column t ts (ap (next_stage behind_column) (close_is t.kind h)) ∙ ap (λ b. true && b && in_follows ts) h;
  front = fronts;
}
  where
    fronts : (ts : Tokens) → Front (kind ts) → passes behind_column ts ≡ false
    fronts [] f = refl
    fronts (t ∷ ts) f = stops behind_column t ts f.no_column ∙ ap (λ b. true && b && in_follows ts) f.not_close

module _ (end : ℕ) (bytes : List ℕ) where
  -- a column is passed over
  pub column_passed : (c : ColumnName) (b l : Tokens) → Column end bytes c b → (s : Stage) × (passes before_column (b ++ l) ≡ passes s l) × Ends s
  column_passed c b l (inl (n, at, (t, e, (is, ne, ate)), ce)) =
      (behind_name, ap (λ z. passes before_column (z ++ l)) e ∙ goes_on before_column behind_name t l (ap (next_stage before_column) (name_is t.kind is)), name_ends)
  column_passed c b l (inr (q, n, at, (b1, b2, e, (t, e1, (is, qe, ate)), (b3, b4, e2, (u, e3, dot), (at2, (v, e4, (nv, ne, ate2))))), ce)) = (
    behind_column,
    ap (λ z. passes before_column (z ++ l)) (e ∙ (λ i. e1 i ++ (e2 ∙ (λ j. e3 j ++ e4 j)) i))
        ∙ goes_on before_column behind_name t (u ∷ v ∷ l) (ap (next_stage before_column) (name_is t.kind is))
        ∙ goes_on behind_name behind_dot u (v ∷ l) (ap (next_stage behind_name) (dot_is u.kind dot))
        ∙ goes_on behind_dot behind_column v l (ap (next_stage behind_dot) (name_is v.kind nv)),
    column_ends,
  )

  more_passed : (ks : List ColumnName) (b l : Tokens) (s : Stage) (t : Lexeme) → Ends s → Behind is_comma (Column end bytes) ks b → is_close t.kind ≡ true → passes s (b ++ (t ∷ l)) ≡ in_follows l
  more_passed [] b l s t ends h closes = ap (λ z. passes s (z ++ (t ∷ l))) h ∙ ends.close t l closes
  more_passed (k ∷ ks) b l s t ends (m, b1, e, (u, e1, comma), (c, b2, e2, col, more)) closes =
      let (s', passed, ends') = column_passed k c (b2 ++ (t ∷ l)) col in
      ap (λ z. passes s (z ++ (t ∷ l))) (e ∙ (λ i. e1 i ++ e2 i))
      ∙ ends.comma u ((c ++ b2) ++ (t ∷ l)) comma
      ∙ ap (passes before_column) (append_assoc c b2 (t ∷ l))
      ∙ passed
      ∙ more_passed ks b2 l s' t ends' more closes

  -- columns in parentheses before IN or NOT IN open a tuple, and begin with no SELECT
  pub tuple_opens : (ks : List ColumnName) (b l : Tokens) → Parens (Listed (Column end bytes)) ks b → in_follows l ≡ true
      → (is_open (kind (b ++ l)) ≡ true) × (is_select (kind (drop 1 (b ++ l))) ≡ false) × (opens_tuple (b ++ l) ≡ true)
  unfolding opens_tuple
  tuple_opens ks b l (m, b1, e, (t, e1, opens), (b2, b3, e2, (k, ks', (c, b4, e4, col, more), is), (u, e3, closes))) follows =
      let whole : b ≡ t ∷ (c ++ (b4 ++ u ∷ [])) = e ∙ (λ i. e1 i ++ (e2 ∙ (λ j. e4 j ++ e3 j) ∙ append_assoc c b4 (u ∷ [])) i) in
      let behind : (c ++ (b4 ++ u ∷ [])) ++ l ≡ c ++ (b4 ++ (u ∷ l)) = append_assoc c (b4 ++ u ∷ []) l ∙ ap (λ z. c ++ z) (append_assoc b4 (u ∷ []) l) in
      let (s, passed, ends) = column_passed k c (b4 ++ (u ∷ l)) col in (
        ap (λ z. is_open (kind (z ++ l))) whole ∙ opens,
        ap (λ z. is_select (kind (drop 1 (z ++ l)))) whole ∙ ap (λ z. is_select (kind z)) behind ∙ column_first k c (b4 ++ (u ∷ l)) col,
        sym (passes_is (drop 1 (b ++ l))) ∙ ap (λ z. passes before_column (drop 1 (z ++ l))) whole ∙ ap (passes before_column) behind ∙ passed ∙ more_passed ks' b4 l s u ends more closes ∙ follows,
      )
    where
      column_first : (k : ColumnName) (c l : Tokens) → Column end bytes k c → is_select (kind (c ++ l)) ≡ false
      column_first k c l (inl (n, at, (t, e, (is, w, w1)), ce)) = ap (λ z. is_select (kind (z ++ l))) e ∙ ap is_select (name_is t.kind is)
      column_first k c l (inr (q, n, at, (b1, b2, e, (t, e1, (is, w, w1)), r), ce)) = ap (λ z. is_select (kind (z ++ l))) (e ∙ ap (λ z. z ++ b2) e1) ∙ ap is_select (name_is t.kind is)

  -- an operand begins no parenthesis, no NOT and no query, and with what stands behind it no tuple
  pub operand_front : (x : Scalar) (b l : Tokens) → Operand end bytes x b → Front (kind l)
      → (is_open (kind (b ++ l)) ≡ false) × (is_not (kind (b ++ l)) ≡ false) × (is_select (kind (b ++ l)) ≡ false) × (passes before_column (b ++ l) ≡ false)
  operand_front x b l (inl (c, p, xe)) f =
      let (s, passed, ends) = column_passed c b l p in
      let first = column_kind p in
      (ap is_open first, ap is_not first, ap is_select first, passed ∙ ends.front l f)
    where
      column_kind : Column end bytes c b → kind (b ++ l) ≡ Name
      column_kind (inl (n, at, (t, e, (is, w, w1)), ce)) = ap (λ z. kind (z ++ l)) e ∙ name_is t.kind is
      column_kind (inr (q, n, at, (b1, b2, e, (t, e1, (is, w, w1)), r), ce)) = ap (λ z. kind (z ++ l)) (e ∙ ap (λ z. z ++ b2) e1) ∙ name_is t.kind is
  operand_front x b l (inr (v, at, inl (n, (t, e, (k, ate)), small, ve), xe)) f =
      let first = ap (λ z. kind (z ++ l)) e ∙ k in
      (ap is_open first, ap is_not first, ap is_select first, no_tuple (b ++ l) (ap (next_stage before_column) first))
  operand_front x b l (inr (v, at, inr (inl (t, e, (k, ate, ve))), xe)) f =
      let first = ap (λ z. kind (z ++ l)) e ∙ k in
      (ap is_open first, ap is_not first, ap is_select first, no_tuple (b ++ l) (ap (next_stage before_column) first))
  operand_front x b l (inr (v, at, inr (inr (n, (b1, b2, e, (t, e1, (k, ate)), q), small, ve)), xe)) f =
      let first = ap (λ z. kind (z ++ l)) (e ∙ ap (λ z. z ++ b2) e1) ∙ k in
      (ap is_open first, ap is_not first, ap is_select first, no_tuple (b ++ l) (ap (next_stage before_column) first))
