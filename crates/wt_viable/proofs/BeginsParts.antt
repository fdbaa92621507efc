-- The tokens before a refusal begin a sentence: names, columns, literals, operands, items. What ends them is short.
use Rattle.std.proofs.Common.{◌≡◌, ℕ, ◌^◌, ◌⊎◌, inl, inr, List, [], ◌∷◌, drop, refl, sym, arith, append-nil, Ok, Err, Option, Some, None, nat_lt, subst}
use Rattle.std.specs.Prelude.{◌&&◌, pos, neg_ℤ}
use Rattle.wt_value.specs.declared.value.Value.{Value}
use Rattle.wt_value.specs.declared.value.Value.TheVariants as value
use Rattle.wt_lex.specs.declared.token.Sym.TheVariants as sym
use Rattle.wt_lex.specs.declared.token.LexFault.TheVariants.{NumberRange}
use Rattle.wt_ast.specs.declared.tree.ColumnName.{ColumnName}
use Rattle.wt_ast.specs.declared.tree.Item.TheVariants as items
use Rattle.wt_ast.specs.declared.tree.Scalar.TheVariants as scalar
use Rattle.wt_reading.specs.declared.lexeme.Kind.{Kind}
use Rattle.wt_reading.specs.declared.lexeme.Kind.TheVariants.{Name, Number, Text, Mark}
use Rattle.wt_grammar.specs.declared.fault.QueryFault.{QueryFault}
use Rattle.wt_grammar.specs.declared.fault.QueryFault.TheVariants as fault
use Rattle.wt_reading.specs.Lexemes.{Tokens, kind, place, is_name, is_open}
use Rattle.wt_grammar.specs.Kinds.{is_dot, is_star, is_as}
use Rattle.wt_grammar.specs.Refusals.{beyond, no_operand, no_item, no_literal}
use Rattle.wt_reading.specs.Readings.{followed}
use Rattle.wt_grammar.specs.Reading.{Read, Refusal, refused, odd, name, column, operand, operand_by, literal, literal_by, alias, item, item_front, ended, ended_by, unsigned, negative, negative_by, listed_negative, name_at, text_at, name_only}
use Rattle.wt_reading.specs.Sentences.{Seq, One, Is}
use Rattle.wt_sentence.specs.Grammar.{Column, AnyLiteral, Operand, Alias, IsItem}
use Rattle.wt_sentence.specs.Grammar as spec
use Rattle.wt_reading.proofs.Inversions.{chosen}
use Rattle.wt_reading.proofs.Took.{Sound, took_as, took_is}
use Rattle.wt_sentence.proofs.SoundParts.{named, column_sound, operand_by_sound, front_sound}
use Rattle.wt_viable.proofs.Begins.{Any, Ending, Begins, Viable, token_of, as_ending, ok_no_err, plus_err, followed_err, last_err, err_parts, begins_here, begins_at_front, begins_behind, begins_then, begins_as, begins_followed}

module _ (end : ℕ) (bytes : List ℕ) where
  -- ---- short sentences

  pub a_name : Ending (Any (spec.Name end bytes))
  a_name = (token_of Name ∷ [], (name_at bytes (token_of Name ∷ []), (0, (token_of Name, refl, (refl, refl, refl)))))

  pub a_column : Ending (Any (Column end bytes))
  a_column = as_ending (Any (spec.Name end bytes)) (Any (Column end bytes)) (λ l (n, (at, p)). (record { table = None; name = n; at = at }, inl (n, at, p, refl))) a_name

  pub an_operand : Ending (Any (Operand end bytes))
  an_operand = as_ending (Any (Column end bytes)) (Any (Operand end bytes)) (λ l (c, p). (scalar.Column c, inl (c, p, refl))) a_column

  pub a_literal : Ending (Any (AnyLiteral end bytes))
  a_literal = (token_of Text ∷ [], (value.Text (text_at bytes (token_of Text ∷ [])), (0, inr (inl (token_of Text, refl, (refl, refl, refl))))))

  pub no_alias : Ending (Any (Alias end bytes))
  no_alias = ([], (None, inl (refl, refl)))

  pub an_item : Ending (Any (IsItem end bytes))
  an_item =
      as_ending (Any (Column end bytes)) (Any (IsItem end bytes)) (λ l (c, p). (items.Column c None, inr (inr (c, None, (l, [], sym (append-nil l), p, inl (refl, refl)), refl)))) a_column

  -- ---- names and columns

  pub name_begins : Viable end (Any (spec.Name end bytes)) (name end bytes)
  unfolding name
  name_begins ts why at h =
      elim (chosen (is_name (kind ts)) _ _ _ h) [
        | inl p ↦ elim (chosen (is_open (kind (drop 1 ts))) _ _ _ p.1) [
          | inl q ↦
              begins_behind end (Any (spec.Name end bytes)) ts 1 at (err_parts (refused fault.Function) why (place end (drop 1 ts)) at q.1)
              (took_as (spec.NameAt end bytes (name_at bytes ts) (place end ts)) (Any (spec.Name end bytes)) ts 1 1 (λ a z. (name_at bytes ts, (place end ts, z))) refl (named end bytes ts p.0))
          | inr q ↦ absurd (ok_no_err q.1)
        ]
        | inr p ↦ begins_at_front end (Any (spec.Name end bytes)) ts (refused fault.Syntax) why at a_name p.1
      ]

  pub column_begins : Viable end (Any (Column end bytes)) (column end bytes)
  unfolding column
  column_begins ts why at h =
      elim (chosen (is_name (kind ts)) _ _ _ h) [
        | inl p ↦ elim (chosen (is_dot (kind (drop 1 ts))) _ _ _ p.1) [
          | inl q ↦
              let refused_name : name end bytes (drop 2 ts) ≡ Err (why, at) =
              last_err (drop 2 ts) (name end bytes (drop 2 ts)) (λ n. record { table = Some (name_at bytes ts); name = n; at = place end ts }) (why, at) (plus_err 2 _ (why, at) q.1) in
              let behind : Begins end (Any (spec.Name end bytes)) (drop 1 (drop 1 ts)) at = subst (λ l. Begins end (Any (spec.Name end bytes)) l at) (two ts) (name_begins (drop 2 ts) why at refused_name) in
              begins_as end (Seq (spec.NameAt end bytes (name_at bytes ts) (place end ts)) (Seq (Is is_dot) (Any (spec.Name end bytes)))) (Any (Column end bytes)) ts at
              (λ l (a, b, e, z, (c, d, f, o, (n, y))). (record { table = Some (name_at bytes ts); name = n; at = place end ts }, inr (name_at bytes ts, n, place end ts, (a, b, e, z, (c, d, f, o, y)), refl)))
              (begins_then end (spec.NameAt end bytes (name_at bytes ts) (place end ts)) (Seq (Is is_dot) (Any (spec.Name end bytes))) ts 1 at (named end bytes ts p.0)
              (begins_then end (Is is_dot) (Any (spec.Name end bytes)) (drop 1 ts) 1 at (took_is is_dot (drop 1 ts) refl q.0) behind))
          | inr q ↦
              begins_as end (Any (spec.Name end bytes)) (Any (Column end bytes)) ts at (λ l (n, (k, z)). (record { table = None; name = n; at = k }, inl (n, k, z, refl)))
              (name_begins ts why at (last_err ts (name end bytes ts) (λ n. record { table = None; name = n; at = place end ts }) (why, at) q.1))
        ]
        | inr p ↦ begins_at_front end (Any (Column end bytes)) ts (refused (no_operand (kind ts) (kind (drop 1 ts)))) why at a_column p.1
      ]
    where
      two : (l : Tokens) → drop 2 l ≡ drop 1 (drop 1 l)
      two [] = refl
      two (t ∷ []) = refl
      two (t ∷ u ∷ l) = refl

  -- ---- literals and operands

  -- behind a minus, where a number has to follow
  behind_minus : (ts : Tokens) (at : ℕ) → kind ts ≡ Mark sym.Minus → at ≡ place end (drop 1 ts) → Begins end (Any (AnyLiteral end bytes)) ts at
  behind_minus [] at is e = absurd cc
  behind_minus (t ∷ ts) at is e =
      begins_as end (Seq (One (λ u. (u.kind ≡ Mark sym.Minus) × (t.token.start ≡ u.token.start))) (One (λ u. u.kind ≡ Number 0))) (Any (AnyLiteral end bytes)) (t ∷ ts) at
      (λ l z. (value.Int (neg_ℤ (pos 0)), (t.token.start, inr (inr (0, z, omega arith, refl)))))
      (begins_then end (One (λ u. (u.kind ≡ Mark sym.Minus) × (t.token.start ≡ u.token.start))) (One (λ u. u.kind ≡ Number 0)) (t ∷ ts) 1 at (t ∷ [], ts, refl, refl, (t, refl, (is, refl)))
      (begins_here end (One (λ u. u.kind ≡ Number 0)) ts at e (token_of (Number 0) ∷ [], (token_of (Number 0), refl, refl))))

  negative_begins : (n : ℕ) (ts : Tokens) (why : Refusal) (at : ℕ) → kind ts ≡ Mark sym.Minus → negative end n ts ≡ Err (why, at) → Begins end (Any (AnyLiteral end bytes)) ts at
  negative_begins n ts why at is h =
      elim (chosen (nat_lt (2 ^ 63) n) _ _ _ h) [
        | inl p ↦ behind_minus ts at is (err_parts (odd NumberRange) why (place end (drop 1 ts)) at p.1)
        | inr p ↦ absurd (ok_no_err p.1)
      ]

  unsigned_begins : (n : ℕ) (ts : Tokens) (why : Refusal) (at : ℕ) → unsigned end n ts ≡ Err (why, at) → Begins end (Any (AnyLiteral end bytes)) ts at
  unsigned_begins n ts why at h =
      elim (chosen (nat_lt n (2 ^ 63)) _ _ _ h) [
        | inl p ↦ absurd (ok_no_err p.1)
        | inr p ↦ begins_at_front end (Any (AnyLiteral end bytes)) ts (odd NumberRange) why at a_literal p.1
      ]

  literal_operand : (l : Tokens) → Any (AnyLiteral end bytes) l → Any (Operand end bytes) l
  literal_operand l (v, (k, p)) = (scalar.Literal v k, inr (v, k, p, refl))

  operand_by_begins : Viable end (Any (Operand end bytes)) (λ ts. operand_by end bytes (kind ts) ts)
  operand_by_begins ts why at h = by (kind ts) refl h
    where
      minus : (k : Kind) → kind ts ≡ Mark sym.Minus → negative_by end k ts ≡ Err (why, at) → Begins end (Any (Operand end bytes)) ts at
      minus (Number n) is h = begins_as end (Any (AnyLiteral end bytes)) (Any (Operand end bytes)) ts at literal_operand (negative_begins n ts why at is h)
      minus _ is h = begins_at_front end (Any (Operand end bytes)) ts (refused fault.Arithmetic) why at an_operand h

      by : (k : Kind) → kind ts ≡ k → operand_by end bytes k ts ≡ Err (why, at) → Begins end (Any (Operand end bytes)) ts at
      by (Number n) is h =
          begins_as end (Any (AnyLiteral end bytes)) (Any (Operand end bytes)) ts at literal_operand
          (unsigned_begins n ts why at (last_err ts (unsigned end n ts) (λ v. scalar.Literal v (place end ts)) (why, at) h))
      by Text is h = absurd cc
      by (Mark sym.Minus) is h = minus (kind (drop 1 ts)) is (last_err ts (negative_by end (kind (drop 1 ts)) ts) (λ v. scalar.Literal v (place end ts)) (why, at) h)
      by _ is h =
          begins_as end (Any (Column end bytes)) (Any (Operand end bytes)) ts at (λ l (c, p). (scalar.Column c, inl (c, p, refl)))
          (column_begins ts why at (last_err ts (column end bytes ts) (λ c. scalar.Column c) (why, at) h))

  -- a part that is read whole, before a token that its place never has
  ended_begins : {A : Type 0} (Part : A → Tokens → Type 0) (part : Tokens → Read A) → Sound Part part → Viable end (Any Part) part → Viable end (Any Part) (λ ts. ended end ts (part ts))
  ended_begins {A} Part part sound viable ts why at h = by (followed_err ts (part ts) (λ x rest. ended_by end (beyond (kind rest)) x rest) (why, at) h)
    where
      stands : (x : A) (l : Tokens) (o : Option QueryFault) → ended_by end o x l ≡ Err (why, at) → at ≡ place end l
      stands x l None h = absurd cc
      stands x l (Some f) h = err_parts {A = A} (refused f) why (place end l) at h

      by : (part ts ≡ Err (why, at)) ⊎ ((x : A) × (m : ℕ) × (part ts ≡ Ok (x, m)) × (ended_by end (beyond (kind (drop m ts))) x (drop m ts) ≡ Err (why, at))) → Begins end (Any Part) ts at
      by (inl e) = viable ts why at e
      by (inr (x, m, e, g)) = begins_behind end (Any Part) ts m at (stands x (drop m ts) (beyond (kind (drop m ts))) g) (took_as (Part x) (Any Part) ts m m (λ a z. (x, z)) refl (sound ts x m e))

  pub operand_begins : Viable end (Any (Operand end bytes)) (operand end bytes)
  unfolding operand
  operand_begins = ended_begins (Operand end bytes) (λ ts. operand_by end bytes (kind ts) ts) (operand_by_sound end bytes) operand_by_begins

  pub literal_begins : Viable end (Any (AnyLiteral end bytes)) (literal end bytes)
  unfolding literal
  literal_begins ts why at h = by (kind ts) refl h
    where
      minus : (k : Kind) → kind ts ≡ Mark sym.Minus → listed_negative end k ts ≡ Err (why, at) → Begins end (Any (AnyLiteral end bytes)) ts at
      minus (Number n) is h = negative_begins n ts why at is h
      minus _ is h = behind_minus ts at is (err_parts {A = Value} (refused fault.Syntax) why (place end (drop 1 ts)) at h)

      by : (k : Kind) → kind ts ≡ k → literal_by end bytes k ts ≡ Err (why, at) → Begins end (Any (AnyLiteral end bytes)) ts at
      by (Number n) is h = unsigned_begins n ts why at h
      by Text is h = absurd cc
      by (Mark sym.Minus) is h = minus (kind (drop 1 ts)) is h
      by k is h = begins_at_front end (Any (AnyLiteral end bytes)) ts (refused (no_literal k)) why at a_literal h

  -- ---- aliases and items

  pub alias_begins : Viable end (Any (Alias end bytes)) (alias end bytes)
  unfolding alias
  alias_begins ts why at h =
      elim (chosen (is_as (kind ts)) _ _ _ h) [
        | inl p ↦
            begins_as end (Seq (Is is_as) (Any (spec.Name end bytes))) (Any (Alias end bytes)) ts at (λ l (a, b, e, o, (n, (k, z))). (Some (n, k), inr (n, k, inr (a, b, e, o, z), refl)))
            (begins_then end (Is is_as) (Any (spec.Name end bytes)) ts 1 at (took_is is_as ts refl p.0)
            (name_begins (drop 1 ts) why at (last_err (drop 1 ts) (name end bytes (drop 1 ts)) (λ n. Some (n, place end (drop 1 ts))) (why, at) (plus_err 1 _ (why, at) p.1))))
        | inr p ↦ elim (chosen (is_name (kind ts)) _ _ _ p.1) [
          | inl q ↦
              begins_as end (Any (spec.Name end bytes)) (Any (Alias end bytes)) ts at (λ l (n, (k, z)). (Some (n, k), inr (n, k, inl z, refl)))
              (name_begins ts why at (last_err ts (name end bytes ts) (λ n. Some (n, place end ts)) (why, at) q.1))
          | inr q ↦ absurd (ok_no_err q.1)
        ]
      ]

  item_front_begins : Viable end (Any (IsItem end bytes)) (item_front end bytes)
  unfolding item_front
  item_front_begins ts why at h =
      elim (chosen (is_star (kind ts)) _ _ _ h) [
        | inl p ↦ absurd (ok_no_err p.1)
        | inr p ↦ elim (chosen (is_name (kind ts) && is_dot (kind (drop 1 ts)) && is_star (kind (drop 2 ts))) _ _ _ p.1) [
          | inl q ↦ absurd (ok_no_err q.1)
          | inr q ↦ elim (chosen (is_name (kind ts)) _ _ _ q.1) [
            | inl r ↦
                begins_as end (λ l. (c : ColumnName) × Seq (Column end bytes c) (Any (Alias end bytes)) l) (Any (IsItem end bytes)) ts at
                (λ l (c, (a, b, e, z, (o, y))). (items.Column c (name_only o), inr (inr (c, o, (a, b, e, z, y), refl))))
                (begins_followed end (Column end bytes) (λ _. Any (Alias end bytes)) ts (column end bytes ts) (λ c rest. followed rest (alias end bytes rest) (λ a r. Ok (items.Column c (name_only a), 0))) why at
                (column_begins ts why at) (column_sound end bytes ts) (λ _. no_alias)
                (λ c l e. alias_begins l why at (last_err l (alias end bytes l) (λ a. items.Column c (name_only a)) (why, at) e)) r.1)
            | inr r ↦ begins_at_front end (Any (IsItem end bytes)) ts (refused (no_item (kind ts) (kind (drop 1 ts)))) why at an_item r.1
          ]
        ]
      ]

  pub item_begins : Viable end (Any (IsItem end bytes)) (item end bytes)
  unfolding item
  item_begins = ended_begins (IsItem end bytes) (item_front end bytes) (front_sound end bytes) item_front_begins
