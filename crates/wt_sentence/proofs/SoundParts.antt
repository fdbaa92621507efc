-- What is read is a sentence: names, columns, literals, operands, items.
use Rattle.std.proofs.Common.{◌≡◌, ℕ, ◌+◌, ◌^◌, ◌⊎◌, inl, inr, Bool, true, false, List, [], ◌∷◌, drop, refl, ap, sym, ◌∙◌, arith, Ok, Err, Option, Some, None, nat_lt, subst}
use Rattle.std.proofs.lemmas.Bool.{ltb-true, ltb-false}
use Rattle.std.specs.Prelude.{◌&&◌, pos, neg_ℤ}
use Rattle.wt_value.specs.declared.value.Value.{Value}
use Rattle.wt_value.specs.declared.value.Value.TheVariants as value
use Rattle.wt_lex.specs.declared.token.Sym.TheVariants as sym
use Rattle.wt_lex.specs.declared.token.LexFault.TheVariants.{NumberRange}
use Rattle.wt_ast.specs.declared.tree.Item.TheVariants as items
use Rattle.wt_ast.specs.declared.tree.Scalar.{Scalar}
use Rattle.wt_ast.specs.declared.tree.Scalar.TheVariants as scalar
use Rattle.wt_reading.specs.declared.lexeme.Kind.{Kind}
use Rattle.wt_reading.specs.declared.lexeme.Kind.TheVariants.{End, Number, Text, Mark}
use Rattle.wt_reading.specs.declared.lexeme.Lexeme.{Lexeme}
use Rattle.wt_grammar.specs.declared.fault.QueryFault.{QueryFault}
use Rattle.wt_reading.specs.Lexemes.{Tokens, kind, place, is_name, is_open}
use Rattle.wt_grammar.specs.Kinds.{is_dot, is_star, is_as}
use Rattle.wt_grammar.specs.Refusals.{beyond}
use Rattle.wt_reading.specs.Readings.{followed}
use Rattle.wt_grammar.specs.Reading.{Read, Refusal, odd, name, column, operand, operand_by, literal, literal_by, alias, item, item_front, ended, ended_by, unsigned, negative, negative_by, listed_negative, name_at, text_at, name_only}
use Rattle.wt_reading.specs.Sentences.{Seq, Is, IsAt}
use Rattle.wt_sentence.specs.Grammar.{Column, Literal, AnyLiteral, Operand, Named, Alias, IsItem}
use Rattle.wt_sentence.specs.Grammar as spec
use Rattle.wt_reading.proofs.Inversions.{chosen, held, ok_parts, plus_ok, followed_ok, last_ok}
use Rattle.wt_reading.proofs.Took.{Took, Sound, took_none, took_then, took_as, took_one, took_is}

-- a value that nothing follows that its place never has
pub ended_ok : {A : Type 0} (end : ℕ) (ts : Tokens) (r : Read A) (x : A) (n : ℕ) → ended end ts r ≡ Ok (x, n) → r ≡ Ok (x, n)
ended_ok {A} end ts r x n h =
    let (y, m, k, e, q, s) = followed_ok ts r _ x n h in
    let (same, none) = by y (drop m ts) k (beyond (kind (drop m ts))) q in
    let size : m ≡ n = omega arith in
    e ∙ (λ i. Ok (same i, size i))
  where
    by : (y : A) (rest : Tokens) (k : ℕ) (o : Option QueryFault) → ended_by end o y rest ≡ Ok (x, k) → (y ≡ x) × (0 ≡ k)
    by y rest k None q = ok_parts y x 0 k q
    by y rest k (Some f) q = absurd cc

module _ (end : ℕ) (bytes : List ℕ) where
  -- a name stands at the front
  pub named : (ts : Tokens) → is_name (kind ts) ≡ true → Took (spec.NameAt end bytes (name_at bytes ts) (place end ts)) ts 1
  unfolding name_at
  named [] h = absurd cc
  named (t ∷ ts) h = (t ∷ [], ts, refl, refl, (t, refl, (h, refl, refl)))

  pub name_sound : (ts : Tokens) (n : List ℕ) (k : ℕ) → name end bytes ts ≡ Ok (n, k) → Took (spec.NameAt end bytes n (place end ts)) ts k
  unfolding name
  name_sound ts n k h =
      let (is, h') = held (is_name (kind ts)) _ _ n k h in
      elim (chosen (is_open (kind (drop 1 ts))) _ _ _ h') [
        | inl p ↦ absurd (no_value _ n k p.1)
        | inr p ↦
            let (e, s) = ok_parts (name_at bytes ts) n 1 k p.1 in
            took_as (spec.NameAt end bytes (name_at bytes ts) (place end ts)) (spec.NameAt end bytes n (place end ts)) ts 1 k
            (λ a (t, f, g). (t, f, (g.0, sym e ∙ g.1, g.2))) s (named ts is)
      ]
    where
      no_value : (e : Refusal × ℕ) (n : List ℕ) (k : ℕ) → ◌≡◌ {A = Read (List ℕ)} (Err e) (Ok (n, k)) → ⊥
      no_value e n k h = cc

  pub any_name_sound : Sound (spec.Name end bytes) (name end bytes)
  any_name_sound ts n k h = took_as (spec.NameAt end bytes n (place end ts)) (spec.Name end bytes n) ts k k (λ a p. (place end ts, p)) refl (name_sound ts n k h)

  pub column_sound : Sound (Column end bytes) (column end bytes)
  unfolding column
  column_sound ts c k h =
      let (is, h') = held (is_name (kind ts)) _ _ c k h in
      elim (chosen (is_dot (kind (drop 1 ts))) _ _ _ h') [
        | inl p ↦
            let (j, e, s) = plus_ok 2 _ c k p.1 in
            let (n, e', f) = last_ok (drop 2 ts) (name end bytes (drop 2 ts)) (λ n. record { table = Some (name_at bytes ts); name = n; at = place end ts }) c j e in
            let dotted = took_then (Is is_dot) (spec.Name end bytes n) (drop 1 ts) 1 j (1 + j) (took_is is_dot (drop 1 ts) refl p.0)
            (subst (λ l. Took (spec.Name end bytes n) l j) (two ts) (any_name_sound (drop 2 ts) n j e')) refl in
            took_as (Seq (spec.NameAt end bytes (name_at bytes ts) (place end ts)) (Seq (Is is_dot) (spec.Name end bytes n))) (Column end bytes c) ts k k
            (λ a q. inr (name_at bytes ts, n, place end ts, q, f)) refl
            (took_then (spec.NameAt end bytes (name_at bytes ts) (place end ts)) (Seq (Is is_dot) (spec.Name end bytes n)) ts 1 (1 + j) k (named ts is) dotted (omega arith))
        | inr p ↦
            let (n, e, f) = last_ok ts (name end bytes ts) (λ n. record { table = None; name = n; at = place end ts }) c k p.1 in
            took_as (spec.NameAt end bytes n (place end ts)) (Column end bytes c) ts k k (λ a q. inl (n, place end ts, q, f)) refl (name_sound ts n k e)
      ]
    where
      two : (l : Tokens) → drop 2 l ≡ drop 1 (drop 1 l)
      two [] = refl
      two (t ∷ []) = refl
      two (t ∷ u ∷ l) = refl

  -- the kind of the token at the front
  front : (ts : Tokens) (k : Kind) → kind ts ≡ k → (k ≡ End → ⊥) → (t : Lexeme) × (r : Tokens) × (ts ≡ t ∷ r) × (t.kind ≡ k) × (place end ts ≡ t.token.start)
  front [] k e some = absurd (some (sym e))
  front (t ∷ ts) k e some = (t, ts, refl, e, refl)

  number_sound : (ts : Tokens) (n : ℕ) (v : Value) (k : ℕ) → kind ts ≡ Number n → unsigned end n ts ≡ Ok (v, k) → Took (Literal end bytes v (place end ts)) ts k
  number_sound ts n v k is h =
      let (small, h') = held (nat_lt n (2 ^ 63)) _ _ v k h in
      let (e, s) = ok_parts (value.Int (pos n)) v 1 k h' in
      let (t, r, f, g, at) = front ts (Number n) is (λ z. cc) in
      (t ∷ [], r, f, s, inl (n, (t, refl, (g, at)), ltb-true n (2 ^ 63) small, sym e))

  text_sound : (ts : Tokens) (v : Value) (k : ℕ) → kind ts ≡ Text → ◌≡◌ {A = Read Value} (Ok (value.Text (text_at bytes ts), 1)) (Ok (v, k)) → Took (Literal end bytes v (place end ts)) ts k
  unfolding text_at
  text_sound [] v k is h = absurd cc
  text_sound (t ∷ ts) v k is h =
      let (e, s) = ok_parts (value.Text (text_at bytes (t ∷ ts))) v 1 k h in
      (t ∷ [], ts, refl, s, inr (inl (t, refl, (is, refl, sym e))))

  minus_sound : (ts : Tokens) (n : ℕ) (v : Value) (k : ℕ) → kind ts ≡ Mark sym.Minus → kind (drop 1 ts) ≡ Number n → negative end n ts ≡ Ok (v, k) → Took (Literal end bytes v (place end ts)) ts k
  minus_sound ts n v k is number h = by (chosen (nat_lt (2 ^ 63) n) _ _ _ h)
    where
      by : ((nat_lt (2 ^ 63) n ≡ true) × (◌≡◌ {A = Read Value} (Err (odd NumberRange, place end (drop 1 ts))) (Ok (v, k)))) ⊎ ((nat_lt (2 ^ 63) n ≡ false) × (◌≡◌ {A = Read Value} (Ok (value.Int (neg_ℤ (pos n)), 2)) (Ok (v, k)))) → Took (Literal end bytes v (place end ts)) ts k
      by (inl (big, q)) = absurd cc
      by (inr (small, q)) =
          let (e, s) = ok_parts (value.Int (neg_ℤ (pos n))) v 2 k q in
          let (t, r, f, g, at) = front ts (Mark sym.Minus) is (λ z. cc) in
          let (u, r', f', g', at') = front (drop 1 ts) (Number n) number (λ z. cc) in
          let two : r ≡ u ∷ r' = sym (ap (drop 1) f) ∙ f' in
          (t ∷ u ∷ [], r', f ∙ ap (λ l. t ∷ l) two, s, inr (inr (n, (t ∷ [], u ∷ [], refl, (t, refl, (g, at)), (u, refl, g')), ltb-false (2 ^ 63) n small, sym e)))

  unsigned_at : (ts : Tokens) (n : ℕ) (x : Scalar) (k : ℕ) → kind ts ≡ Number n → followed ts (unsigned end n ts) (λ v rest. Ok (scalar.Literal v (place end ts), 0)) ≡ Ok (x, k)
      → Took (Operand end bytes x) ts k
  unsigned_at ts n x k is h =
      let (v, e, f) = last_ok ts (unsigned end n ts) (λ v. scalar.Literal v (place end ts)) x k h in
      took_as (Literal end bytes v (place end ts)) (Operand end bytes x) ts k k (λ a p. inr (v, place end ts, p, f)) refl (number_sound ts n v k is e)

  text_operand : (ts : Tokens) (x : Scalar) (k : ℕ) → kind ts ≡ Text → ◌≡◌ {A = Read Scalar} (Ok (scalar.Literal (value.Text (text_at bytes ts)) (place end ts), 1)) (Ok (x, k))
      → Took (Operand end bytes x) ts k
  text_operand ts x k is h =
      let (e, s) = ok_parts (scalar.Literal (value.Text (text_at bytes ts)) (place end ts)) x 1 k h in
      took_as (Literal end bytes (value.Text (text_at bytes ts)) (place end ts)) (Operand end bytes x) ts 1 k
      (λ a p. inr (value.Text (text_at bytes ts), place end ts, p, sym e)) s (text_sound ts (value.Text (text_at bytes ts)) 1 is refl)

  minus_at : (ts : Tokens) (x : Scalar) (k : ℕ) → kind ts ≡ Mark sym.Minus → (v : Value) → negative_by end (kind (drop 1 ts)) ts ≡ Ok (v, k) → x ≡ scalar.Literal v (place end ts)
      → Took (Operand end bytes x) ts k
  minus_at ts x k is v h f = by (kind (drop 1 ts)) refl h
    where
      by : (n : Kind) → kind (drop 1 ts) ≡ n → negative_by end n ts ≡ Ok (v, k) → Took (Operand end bytes x) ts k
      by (Number n) e h = took_as (Literal end bytes v (place end ts)) (Operand end bytes x) ts k k (λ a p. inr (v, place end ts, p, f)) refl (minus_sound ts n v k is e h)
      by _ e h = absurd cc

  column_operand : (ts : Tokens) (x : Scalar) (k : ℕ) → followed ts (column end bytes ts) (λ c rest. Ok (scalar.Column c, 0)) ≡ Ok (x, k) → Took (Operand end bytes x) ts k
  column_operand ts x k h =
      let (c, e, f) = last_ok ts (column end bytes ts) (λ c. scalar.Column c) x k h in
      took_as (Column end bytes c) (Operand end bytes x) ts k k (λ a p. inl (c, p, f)) refl (column_sound ts c k e)

  pub operand_by_sound : Sound (Operand end bytes) (λ ts. operand_by end bytes (kind ts) ts)
  operand_by_sound ts x k h = by (kind ts) refl h
    where
      by : (t : Kind) → kind ts ≡ t → operand_by end bytes t ts ≡ Ok (x, k) → Took (Operand end bytes x) ts k
      by (Number n) e h = unsigned_at ts n x k e h
      by Text e h = text_operand ts x k e h
      by (Mark sym.Minus) e h =
          let (v, q, f) = last_ok ts (negative_by end (kind (drop 1 ts)) ts) (λ v. scalar.Literal v (place end ts)) x k h in
          minus_at ts x k e v q f
      by _ e h = column_operand ts x k h

  pub operand_sound : Sound (Operand end bytes) (operand end bytes)
  unfolding operand
  operand_sound ts x k h = operand_by_sound ts x k (ended_ok end ts (operand_by end bytes (kind ts) ts) x k h)

  pub literal_sound : Sound (AnyLiteral end bytes) (literal end bytes)
  unfolding literal
  literal_sound ts v k h = took_as (Literal end bytes v (place end ts)) (AnyLiteral end bytes v) ts k k (λ a p. (place end ts, p)) refl (by (kind ts) refl h)
    where
      minus : (n : Kind) → kind ts ≡ Mark sym.Minus → kind (drop 1 ts) ≡ n → listed_negative end n ts ≡ Ok (v, k) → Took (Literal end bytes v (place end ts)) ts k
      minus (Number n) is e h = minus_sound ts n v k is e h
      minus _ is e h = absurd cc

      by : (t : Kind) → kind ts ≡ t → literal_by end bytes t ts ≡ Ok (v, k) → Took (Literal end bytes v (place end ts)) ts k
      by (Number n) e h = number_sound ts n v k e h
      by Text e h = text_sound ts v k e h
      by (Mark sym.Minus) e h = minus (kind (drop 1 ts)) e refl h
      by _ e h = absurd cc

  named_as_sound : (ts : Tokens) (n : List ℕ) (m k : ℕ) → is_as (kind ts) ≡ true → name end bytes (drop 1 ts) ≡ Ok (n, m) → k ≡ 1 + m
      → Took (Named end bytes n (place end (drop 1 ts))) ts k
  named_as_sound ts n m k is e s =
      took_as (Seq (Is is_as) (spec.NameAt end bytes n (place end (drop 1 ts)))) (Named end bytes n (place end (drop 1 ts))) ts k k (λ a p. inr p) refl
      (took_then (Is is_as) (spec.NameAt end bytes n (place end (drop 1 ts))) ts 1 m k (took_is is_as ts refl is) (name_sound (drop 1 ts) n m e) s)

  pub alias_sound : Sound (Alias end bytes) (alias end bytes)
  unfolding alias
  alias_sound ts o k h =
      elim (chosen (is_as (kind ts)) _ _ _ h) [
        | inl p ↦
            let (m, e, s) = plus_ok 1 _ o k p.1 in
            let (n, e', f) = last_ok (drop 1 ts) (name end bytes (drop 1 ts)) (λ n. Some (n, place end (drop 1 ts))) o m e in
            took_as (Named end bytes n (place end (drop 1 ts))) (Alias end bytes o) ts k k (λ a q. inr (n, place end (drop 1 ts), q, f)) refl (named_as_sound ts n m k p.0 e' s)
        | inr p ↦ elim (chosen (is_name (kind ts)) _ _ _ p.1) [
          | inl q ↦
              let (n, e, f) = last_ok ts (name end bytes ts) (λ n. Some (n, place end ts)) o k q.1 in
              took_as (spec.NameAt end bytes n (place end ts)) (Alias end bytes o) ts k k (λ a z. inr (n, place end ts, inl z, f)) refl (name_sound ts n k e)
          | inr q ↦
              let (e, s) = ok_parts None o 0 k q.1 in
              took_as (λ l. l ≡ []) (Alias end bytes o) ts 0 k (λ a z. inl (z, sym e)) s (took_none ts)
        ]
      ]

  and_parts : (a b : Bool) → (a && b) ≡ true → (a ≡ true) × (b ≡ true)
  and_parts true true h = (refl, refl)
  and_parts true false h = absurd cc
  and_parts false b h = absurd cc

  pub front_sound : Sound (IsItem end bytes) (item_front end bytes)
  unfolding item_front
  front_sound ts i k h =
      elim (chosen (is_star (kind ts)) _ _ _ h) [
        | inl p ↦
            let (e, s) = ok_parts (items.Star (place end ts)) i 1 k p.1 in
            took_as (IsAt is_star (place end ts)) (IsItem end bytes i) ts 1 k (λ a q. inl (place end ts, q, sym e)) s (took_one is_star end ts refl p.0)
        | inr p ↦ elim (chosen (is_name (kind ts) && is_dot (kind (drop 1 ts)) && is_star (kind (drop 2 ts))) _ _ _ p.1) [
          | inl q ↦
              let (e, s) = ok_parts (items.AllOf (name_at bytes ts) (place end ts)) i 3 k q.1 in
              let (nd, st) = and_parts (is_name (kind ts) && is_dot (kind (drop 1 ts))) (is_star (kind (drop 2 ts))) q.0 in
              let (nm, dt) = and_parts (is_name (kind ts)) (is_dot (kind (drop 1 ts))) nd in
              took_as (Seq (spec.NameAt end bytes (name_at bytes ts) (place end ts)) (Seq (Is is_dot) (Is is_star))) (IsItem end bytes i) ts 3 k
              (λ a z. inr (inl (name_at bytes ts, place end ts, z, sym e))) s
              (took_then (spec.NameAt end bytes (name_at bytes ts) (place end ts)) (Seq (Is is_dot) (Is is_star)) ts 1 2 3 (named ts nm)
              (took_then (Is is_dot) (Is is_star) (drop 1 ts) 1 1 2 (took_is is_dot (drop 1 ts) refl dt)
              (took_is is_star (drop 1 (drop 1 ts)) refl (ap (λ l. is_star (kind l)) (sym (two ts)) ∙ st)) refl) refl)
          | inr q ↦
              let (nm, h') = held (is_name (kind ts)) _ _ i k q.1 in
              let (c, m, j, e, r, s) = followed_ok ts (column end bytes ts) _ i k h' in
              let (o, e', f) = last_ok (drop m ts) (alias end bytes (drop m ts)) (λ o. items.Column c (name_only o)) i j r in
              took_as (Seq (Column end bytes c) (Alias end bytes o)) (IsItem end bytes i) ts k k (λ a z. inr (inr (c, o, z, f))) refl
              (took_then (Column end bytes c) (Alias end bytes o) ts m j k (column_sound ts c m e) (alias_sound (drop m ts) o j e') s)
        ]
      ]
    where
      two : (l : Tokens) → drop 2 l ≡ drop 1 (drop 1 l)
      two [] = refl
      two (t ∷ []) = refl
      two (t ∷ u ∷ l) = refl

  pub item_sound : Sound (IsItem end bytes) (item end bytes)
  unfolding item
  item_sound ts i k h = front_sound ts i k (ended_ok end ts (item_front end bytes ts) i k h)
