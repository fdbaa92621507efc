-- What is read is a sentence: conditions, FROM and queries.
use Rattle.std.proofs.Common.{◌≡◌, ℕ, ◌+◌, ◌≤◌, inl, inr, Bool, true, false, List, [], ◌∷◌, length, drop, refl, ap, sym, ◌∙◌, arith, Ok, Err, Option, Some, None, subst}
use Rattle.std.specs.Prelude.{if◌then◌else◌}
use Rattle.wt_value.specs.declared.value.Value.{Value}
use Rattle.wt_ast.specs.declared.tree.ColumnName.{ColumnName}
use Rattle.wt_ast.specs.declared.tree.CmpWord.{CmpWord}
use Rattle.wt_ast.specs.declared.tree.Scalar.{Scalar}
use Rattle.wt_ast.specs.declared.tree.Scalar.TheVariants as scalar
use Rattle.wt_ast.specs.Tree.{QueryTree, FromTree, CondTree, select, no_filter, filter_by, table, derived, comma, compare, is_null, is_not_null, in_list, in_query, all_of, any_of, negated}
use Rattle.wt_grammar.specs.declared.join.JoinKind.{JoinKind}
use Rattle.wt_grammar.specs.declared.join.JoinKind.TheVariants as joining
use Rattle.wt_reading.specs.declared.lexeme.Kind.{Kind}
use Rattle.wt_reading.specs.declared.lexeme.Kind.TheVariants.{End}
use Rattle.wt_reading.specs.Lexemes.{Tokens, kind, place, at, is_open, is_name, is_comma}
use Rattle.wt_grammar.specs.Kinds.{is_and, is_or, is_not, is_select, is_distinct, is_all, is_from, is_where, is_between, is_is, is_null_word, is_in, is_as, is_inner, is_left, is_right, is_outer, is_join, is_on, begins_join}
use Rattle.wt_grammar.specs.Refusals.{syntax, no_join}
use Rattle.wt_grammar.specs.Reading as read
use Rattle.wt_reading.specs.Readings.{plus, followed, expect, list}
use Rattle.wt_grammar.specs.Reading.{Read, Refusal, refusal, Nest, cmp_of, between_of, join_of, name_only, place_or, opens_tuple, no_query_end}
use Rattle.wt_reading.specs.Sentences.{Seq, One, Is, IsAt, Listed, Parens}
use Rattle.wt_sentence.specs.Grammar.{Run, Column, AnyLiteral, Operand, Named, Alias, IsItem, Chain, Deeper}
use Rattle.wt_sentence.specs.Grammar as spec
use Rattle.wt_sentence.proofs.Follows.{right_begins}
use Rattle.wt_sentence.proofs.Chains.{chain_sound}
use Rattle.wt_reading.proofs.Inversions.{chosen, held, ok_parts, plus_ok, followed_ok, last_ok}
use Rattle.wt_reading.proofs.Took.{Took, Sound, There, took_none, took_then, took_as, took_one, took_is, took_begin, some_seq, some_one, expected, list_sound, within_at}
use Rattle.wt_sentence.proofs.Took.{run_sound}
use Rattle.wt_sentence.proofs.SoundParts.{column_sound, operand_sound, literal_sound, any_name_sound, name_sound, alias_sound, item_sound, named}

-- what is read one level deeper is a sentence one level deeper
pub record SoundBelow (end : ℕ) (bytes : List ℕ) (ns : Nest) (d : Deeper) : Type 0 where
  pub room : ns.room ≡ true → d.room
  pub negs : (ts : Tokens) (c : CondTree) (n : ℕ) → is_not (kind ts) ≡ true → ns.negs ts ≡ Ok (c, n) → Took (d.negs c) ts n
  pub conds : (ts : Tokens) (c : CondTree) (n : ℕ) → is_open (kind ts) ≡ true → ns.conds ts ≡ Ok (c, n) → Took (d.conds c) ts n
  pub queries : (ts : Tokens) (q : QueryTree) (n : ℕ) → is_open (kind ts) ≡ true → is_select (kind (drop 1 ts)) ≡ true → ns.queries ts ≡ Ok (q, n) → Took (d.queries q) ts n
  pub froms : (ts : Tokens) (f : FromTree) (n : ℕ) → is_open (kind ts) ≡ true → ns.froms ts ≡ Ok (f, n) → Took (d.froms f) ts n
  pub there : (q : QueryTree) (a : Tokens) → d.queries q a → There a

module _ (end : ℕ) (bytes : List ℕ) where
  pub operand_there : (x : Scalar) (a : Tokens) → Operand end bytes x a → There a
  operand_there x a (inl (c, inl (n, at, p, e), f)) = some_one _ a p
  operand_there x a (inl (c, inr (q, n, at, p, e), f)) = some_seq _ _ (λ b z. some_one _ b z) a p
  operand_there x a (inr (v, at, inl (n, p, b, e), f)) = some_one _ a p
  operand_there x a (inr (v, at, inr (inl p), f)) = some_one _ a p
  operand_there x a (inr (v, at, inr (inr (n, p, b, e)), f)) = some_seq _ _ (λ b z. some_one _ b z) a p

  between_sound : (begin : ℕ) (x : Scalar) (ts : Tokens) (c : CondTree) (n k : ℕ) → is_between (kind ts) ≡ true
      → read.between end bytes begin x (place end ts) (drop 1 ts) ≡ Ok (c, n) → k ≡ 1 + n → (d : Deeper) → Took (spec.Between end bytes d begin x c) ts k
  unfolding read.between
  between_sound begin x ts c n k is h s d =
      let (low, m, j, r, q, e) = followed_ok (drop 1 ts) (read.operand end bytes (drop 1 ts)) _ c n h in
      let l1 = drop m (drop 1 ts) in
      let (u, m', j', r', q', e') = followed_ok l1 (expect (at is_and) (refusal end syntax) l1) _ c j q in
      let (word, one) = expected (at is_and) (refusal end syntax) l1 u m' r' in
      let (high, r'', f) = last_ok (drop m' l1) (read.operand end bytes (drop m' l1)) (λ high. between_of begin x low high (place end ts)) c j' q' in
      let parts = took_then (Is is_and) (Operand end bytes high) l1 1 j' (1 + j') (took_is is_and l1 refl word)
      (subst (λ z. Took (Operand end bytes high) (drop z l1) j') one (operand_sound end bytes (drop m' l1) high j' r'')) refl in
      took_as (Seq (IsAt is_between (place end ts)) (Seq (Operand end bytes low) (Seq (Is is_and) (Operand end bytes high)))) (spec.Between end bytes d begin x c) ts k k
      (λ a p. (place end ts, low, high, p, f)) refl
      (took_then (IsAt is_between (place end ts)) (Seq (Operand end bytes low) (Seq (Is is_and) (Operand end bytes high))) ts 1 n k (took_one is_between end ts refl is)
      (took_then (Operand end bytes low) (Seq (Is is_and) (Operand end bytes high)) (drop 1 ts) m (1 + j') n (operand_sound end bytes (drop 1 ts) low m r) parts (omega arith)) s)

  module _ (ns : Nest) (d : Deeper) (below : SoundBelow end bytes ns d) where
    pub listed_sound : {A : Type 0} (Part : A → Tokens → Type 0) (part : Tokens → Read A) → Sound Part part → (ts : Tokens) (xs : List A) (n : ℕ) → is_open (kind ts) ≡ true
        → read.listed end bytes ns part ts ≡ Ok (xs, n) → d.room × Took (Parens (Listed Part) xs) ts n
    unfolding read.listed
    listed_sound Part part part_sound ts xs n opens h =
        let (room, h') = held ns.room _ _ xs n h in
        (below.room room, within_at (Listed Part) (list part) (λ _. refusal end syntax) ts xs n opens (λ ys m e. list_sound Part part part_sound (drop 1 ts) ys m e) h')

    values_sound : (at : ℕ) (k : ColumnName) (word : ℕ) (ts : Tokens) (c : CondTree) (n : ℕ) → is_open (kind ts) ≡ true → read.values end bytes ns at k word ts ≡ Ok (c, n)
        → (vs : List Value) × Took (spec.Values end bytes d vs) ts n × (c ≡ in_list at k vs word)
    unfolding read.values
    values_sound at k word ts c n opens h =
        let (vs, e, f) = last_ok ts (read.listed end bytes ns (read.literal end bytes) ts) (λ vs. in_list at k vs word) c n h in
        let (room, took) = listed_sound (AnyLiteral end bytes) (read.literal end bytes) (literal_sound end bytes) ts vs n opens e in
        (vs, took_as (Parens (Listed (AnyLiteral end bytes)) vs) (spec.Values end bytes d vs) ts n n (λ a p. (room, p)) refl took, f)

    -- behind `column IN`, from IN on
    in_sound : (at : ℕ) (k : ColumnName) (ts : Tokens) (c : CondTree) (m n : ℕ) → is_in (kind ts) ≡ true
        → read.in_part end bytes ns at k (place end ts) (drop 1 ts) ≡ Ok (c, m) → n ≡ 1 + m → Took (spec.OfColumn end bytes d at k c) ts n
    unfolding read.in_part read.subquery
    in_sound at k ts c m n is h s =
        let (opens, h') = held (is_open (kind (drop 1 ts))) _ _ c m h in
        elim (chosen (is_select (kind (drop 1 (drop 1 ts)))) _ _ _ h') [
          | inl p ↦
              let (q, e, f) = last_ok (drop 1 ts) (ns.queries (drop 1 ts)) (λ q. in_query at (k ∷ []) q (place end ts)) c m p.1 in
              took_as (Seq (IsAt is_in (place end ts)) (d.queries q)) (spec.OfColumn end bytes d at k c) ts n n (λ a z. inr (inr (inr (inr (q, place end ts, z, f))))) refl
              (took_then (IsAt is_in (place end ts)) (d.queries q) ts 1 m n (took_one is_in end ts refl is) (below.queries (drop 1 ts) q m opens p.0 e) s)
          | inr p ↦
              let (vs, took, f) = values_sound at k (place end ts) (drop 1 ts) c m opens p.1 in
              took_as (Seq (IsAt is_in (place end ts)) (spec.Values end bytes d vs)) (spec.OfColumn end bytes d at k c) ts n n (λ a z. inr (inr (inl (vs, place end ts, z, f)))) refl
              (took_then (IsAt is_in (place end ts)) (spec.Values end bytes d vs) ts 1 m n (took_one is_in end ts refl is) took s)
        ]

    is_sound : (begin : ℕ) (k : ColumnName) (ts : Tokens) (c : CondTree) (m n : ℕ) → is_is (kind ts) ≡ true → read.is_part end begin k (drop 1 ts) ≡ Ok (c, m) → n ≡ 1 + m
        → Took (spec.OfColumn end bytes d begin k c) ts n
    unfolding read.is_part
    is_sound begin k ts c m n is h s =
        elim (chosen (is_not (kind (drop 1 ts))) _ _ _ h) [
          | inl p ↦
              let (j, e, s') = plus_ok 1 _ c m p.1 in
              let l = drop 1 (drop 1 ts) in
              let (u, e', f) = last_ok l (expect (at is_null_word) (refusal end syntax) l) (λ _. is_not_null begin k) c j e in
              let (null, one) = expected (at is_null_word) (refusal end syntax) l u j e' in
              took_as (Seq (Is is_is) (Seq (Is is_not) (Is is_null_word))) (spec.OfColumn end bytes d begin k c) ts n n (λ a z. inr (inl (z, f))) refl
              (took_then (Is is_is) (Seq (Is is_not) (Is is_null_word)) ts 1 2 n (took_is is_is ts refl is)
              (took_then (Is is_not) (Is is_null_word) (drop 1 ts) 1 1 2 (took_is is_not (drop 1 ts) refl p.0) (took_is is_null_word l refl null) refl) (omega arith))
          | inr p ↦
              let (u, e', f) = last_ok (drop 1 ts) (expect (at is_null_word) (refusal end syntax) (drop 1 ts)) (λ _. is_null begin k) c m p.1 in
              let (null, one) = expected (at is_null_word) (refusal end syntax) (drop 1 ts) u m e' in
              took_as (Seq (Is is_is) (Is is_null_word)) (spec.OfColumn end bytes d begin k c) ts n n (λ a z. inl (z, f)) refl
              (took_then (Is is_is) (Is is_null_word) ts 1 1 n (took_is is_is ts refl is) (took_is is_null_word (drop 1 ts) refl null) (omega arith))
        ]

    not_in_sound : (at : ℕ) (k : ColumnName) (ts : Tokens) (c : CondTree) (not_at m n : ℕ) → is_not (kind ts) ≡ true → is_in (kind (drop 1 ts)) ≡ true
        → read.not_in_part end bytes ns at k not_at (place end (drop 1 ts)) (drop 1 (drop 1 ts)) ≡ Ok (c, m) → n ≡ 2 + m → Took (spec.OfColumn end bytes d at k c) ts n
    unfolding read.not_in_part
    not_in_sound at k ts c not_at m n is_n is_i h s =
        let l = drop 1 (drop 1 ts) in
        let (opens, h') = held (is_open (kind l)) _ _ c m h in
        elim (chosen (is_select (kind (drop 1 l))) _ _ _ h') [
          | inl p ↦ absurd (no_value p.1)
          | inr p ↦
              let (x, e, f) = last_ok l (read.values end bytes ns at k (place end (drop 1 ts)) l) (λ x. negated at x) c m p.1 in
              let (vs, took, g) = values_sound at k (place end (drop 1 ts)) l x m opens e in
              took_as (Seq (Is is_not) (Seq (IsAt is_in (place end (drop 1 ts))) (spec.Values end bytes d vs))) (spec.OfColumn end bytes d at k c) ts n n
              (λ a z. inr (inr (inr (inl (vs, place end (drop 1 ts), z, f ∙ ap (negated at) g))))) refl
              (took_then (Is is_not) (Seq (IsAt is_in (place end (drop 1 ts))) (spec.Values end bytes d vs)) ts 1 (1 + m) n (took_is is_not ts refl is_n)
              (took_then (IsAt is_in (place end (drop 1 ts))) (spec.Values end bytes d vs) (drop 1 ts) 1 m (1 + m) (took_one is_in end (drop 1 ts) refl is_i) took refl) (omega arith))
        ]
      where
        no_value : {e : Refusal × ℕ} → ◌≡◌ {A = Read CondTree} (Err e) (Ok (c, m)) → ⊥
        no_value h = cc

    -- what of a column is read
    of_column_sound : {A : Type 0} (x : Scalar) (f : ColumnName → Read A) (ts : Tokens) (y : A) (n : ℕ) → read.of_column end x f ts ≡ Ok (y, n)
        → (k : ColumnName) × (x ≡ scalar.Column k) × (f k ≡ Ok (y, n))
    of_column_sound (scalar.Column k) f ts y n h = (k, refl, h)
    of_column_sound (scalar.Literal v at) f ts y n h = absurd cc

    not_sound : (at : ℕ) (x : Scalar) (ts : Tokens) (c : CondTree) (m n : ℕ) → is_not (kind ts) ≡ true → read.after_not end bytes ns at x (place end ts) (drop 1 ts) ≡ Ok (c, m) → n ≡ 1 + m
        → Took (spec.Tail end bytes d at x c) ts n
    unfolding read.after_not
    not_sound at x ts c m n is h s =
        elim (chosen (is_between (kind (drop 1 ts))) _ _ _ h) [
          | inl p ↦
              let (j, e, s') = plus_ok 1 _ c m p.1 in
              let l = drop 1 (drop 1 ts) in
              let (y, e', f) = last_ok l (read.between end bytes at x (place end (drop 1 ts)) l) (λ y. negated at y) c j e in
              took_as (Seq (Is is_not) (spec.Between end bytes d at x y)) (spec.Tail end bytes d at x c) ts n n (λ a z. inr (inr (inl (y, z, f)))) refl
              (took_then (Is is_not) (spec.Between end bytes d at x y) ts 1 m n (took_is is_not ts refl is)
              (between_sound at x (drop 1 ts) y j m p.0 e' s' d) s)
          | inr p ↦
              let (is_i, h') = held (is_in (kind (drop 1 ts))) _ _ c m p.1 in
              let (k, e, r) = of_column_sound x (λ k. plus 1 (read.not_in_part end bytes ns at k (place end ts) (place end (drop 1 ts)) (drop 1 (drop 1 ts)))) (drop 1 ts) c m h' in
              let (j, q, s') = plus_ok 1 _ c m r in
              took_as (spec.OfColumn end bytes d at k c) (spec.Tail end bytes d at x c) ts n n (λ a z. inr (inr (inr (k, e, z)))) refl
              (not_in_sound at k ts c (place end ts) j n is is_i q (omega arith))
        ]

    compared_sound : (at : ℕ) (x : Scalar) (ts : Tokens) (c : CondTree) (n : ℕ) (o : Option CmpWord) → cmp_of (kind ts) ≡ o → read.compared_by end bytes o at x ts ≡ Ok (c, n)
        → Took (spec.Tail end bytes d at x c) ts n
    compared_sound at x ts c n None is h = absurd cc
    compared_sound at x [] c n (Some w) is h = absurd cc
    compared_sound at x (t ∷ ts) c n (Some w) is h =
        let (j, e, s) = plus_ok 1 _ c n h in
        let (y, e', f) = last_ok ts (read.operand end bytes ts) (λ y. compare at w x y t.token.start) c j e in
        took_as (Seq (One (λ u. (cmp_of u.kind ≡ Some w) × (t.token.start ≡ u.token.start))) (Operand end bytes y)) (spec.Tail end bytes d at x c) (t ∷ ts) n n
        (λ a z. inl (w, y, t.token.start, z, f)) refl
        (took_then (One (λ u. (cmp_of u.kind ≡ Some w) × (t.token.start ≡ u.token.start))) (Operand end bytes y) (t ∷ ts) 1 j n
        (t ∷ [], ts, refl, refl, (t, refl, (is, refl))) (operand_sound end bytes ts y j e') s)

    tail_sound : (at : ℕ) (x : Scalar) (ts : Tokens) (c : CondTree) (n : ℕ) → read.after_operand end bytes ns at x ts ≡ Ok (c, n) → Took (spec.Tail end bytes d at x c) ts n
    unfolding read.after_operand
    tail_sound at x ts c n h =
        elim (chosen (is_between (kind ts)) _ _ _ h) [
          | inl p ↦
              let (j, e, s) = plus_ok 1 _ c n p.1 in
              took_as (spec.Between end bytes d at x c) (spec.Tail end bytes d at x c) ts n n (λ a z. inr (inl z)) refl (between_sound at x ts c j n p.0 e s d)
          | inr p ↦ elim (chosen (is_not (kind ts)) _ _ _ p.1) [
            | inl q ↦ let (j, e, s) = plus_ok 1 _ c n q.1 in not_sound at x ts c j n q.0 e s
            | inr q ↦ elim (chosen (is_is (kind ts)) _ _ _ q.1) [
              | inl r ↦
                  let (k, e, g) = of_column_sound x (λ k. plus 1 (read.is_part end at k (drop 1 ts))) ts c n r.1 in
                  let (j, g', s) = plus_ok 1 _ c n g in
                  took_as (spec.OfColumn end bytes d at k c) (spec.Tail end bytes d at x c) ts n n (λ a z. inr (inr (inr (k, e, z)))) refl (is_sound at k ts c j n r.0 g' s)
              | inr r ↦ elim (chosen (is_in (kind ts)) _ _ _ r.1) [
                | inl w ↦
                    let (k, e, g) = of_column_sound x (λ k. plus 1 (read.in_part end bytes ns at k (place end ts) (drop 1 ts))) ts c n w.1 in
                    let (j, g', s) = plus_ok 1 _ c n g in
                    took_as (spec.OfColumn end bytes d at k c) (spec.Tail end bytes d at x c) ts n n (λ a z. inr (inr (inr (k, e, z)))) refl (in_sound at k ts c j n w.0 g' s)
                | inr w ↦ compared_sound at x ts c n (cmp_of (kind ts)) refl w.1
              ]
            ]
          ]
        ]

    -- a tuple is followed by IN, where it is read on
    tuple_sound : (ts : Tokens) (c : CondTree) (n : ℕ) → is_open (kind ts) ≡ true → read.tuple_in end bytes ns ts ≡ Ok (c, n) → Took (spec.TupleIn end bytes d c) ts n
    unfolding read.tuple_in read.after_tuple read.subquery
    tuple_sound ts c n opens h =
        let (ks, m, j, r, q, s) = followed_ok ts (read.listed end bytes ns (read.column end bytes) ts) _ c n h in
        let l = drop m ts in
        let (room, took) = listed_sound (Column end bytes) (read.column end bytes) (column_sound end bytes) ts ks m opens r in
        elim (chosen (is_in (kind l)) _ _ _ q) [
          | inl p ↦
              let (opened, q1) = held (is_open (kind (drop 1 l))) _ _ c j p.1 in
              let (selected, q2) = held (is_select (kind (drop 2 l))) _ _ c j q1 in
              let (i, e, s') = plus_ok 1 _ c j q2 in
              let (t, e', f) = last_ok (drop 1 l) (ns.queries (drop 1 l)) (λ t. in_query (place end ts) ks t (place end l)) c i e in
              let query = below.queries (drop 1 l) t i opened (ap (λ z. is_select (kind z)) (two l) ∙ selected) e' in
              let Q : Tokens → Type 0 = Seq (Parens (Listed (Column end bytes)) ks) (Seq (IsAt is_in (place end l)) (d.queries t)) in
              let P : ℕ → Tokens → Type 0 = λ at a. Q a × (c ≡ in_query at ks t (place end l)) in
              let whole : Took Q ts n = took_then (Parens (Listed (Column end bytes)) ks) (Seq (IsAt is_in (place end l)) (d.queries t)) ts m j n took
              (took_then (IsAt is_in (place end l)) (d.queries t) l 1 i j (took_one is_in end l refl p.0) query s') s in
              took_as (λ a. P (place end a) a) (spec.TupleIn end bytes d c) ts n n (λ a z. (ks, t, place end l, room, z.0, z.1)) refl
              (took_begin P end ts n (λ a z. some_seq _ _ (parens_there ks) a z.0) (took_as Q (P (place end ts)) ts n n (λ a z. (z, f)) refl whole))
          | inr p ↦ absurd (refused _ _ _ p.1)
        ]
      where
        parens_there : (ks : List ColumnName) (a : Tokens) → Parens (Listed (Column end bytes)) ks a → There a
        parens_there ks a z = some_seq _ _ (λ b y. some_one _ b y) a z

        refused : {x : CondTree} {k : ℕ} (b : Bool) (e f : Refusal × ℕ) → ◌≡◌ {A = Read CondTree} (if b then Err e else Err f) (Ok (x, k)) → ⊥
        refused true e f h = cc
        refused false e f h = cc

        two : (l : Tokens) → drop 1 (drop 1 l) ≡ drop 2 l
        two [] = refl
        two (t ∷ []) = refl
        two (t ∷ u ∷ l) = refl

    basic_sound : Sound (spec.Basic end bytes d) (read.basic end bytes ns)
    unfolding read.basic
    basic_sound ts c n h =
        elim (chosen (is_open (kind ts)) _ _ _ h) [
          | inl p ↦ elim (chosen (is_select (kind (drop 1 ts))) _ _ _ p.1) [
            | inl q ↦ absurd (no_value q.1)
            | inr q ↦ elim (chosen (opens_tuple ts) _ _ _ q.1) [
              | inl r ↦ took_as (spec.TupleIn end bytes d c) (spec.Basic end bytes d c) ts n n (λ a z. inr (inl z)) refl (tuple_sound ts c n p.0 r.1)
              | inr r ↦ took_as (d.conds c) (spec.Basic end bytes d c) ts n n (λ a z. inr (inr z)) refl (below.conds ts c n p.0 r.1)
            ]
          ]
          | inr p ↦
              let (x, m, j, e, q, s) = followed_ok ts (read.operand end bytes ts) _ c n p.1 in
              let P : ℕ → Tokens → Type 0 = λ at a. Seq (Operand end bytes x) (spec.Tail end bytes d at x c) a in
              took_as (λ a. P (place end a) a) (spec.Basic end bytes d c) ts n n (λ a z. inl (x, z)) refl
              (took_begin P end ts n (λ a z. some_seq _ _ (operand_there x) a z)
              (took_then (Operand end bytes x) (spec.Tail end bytes d (place end ts) x c) ts m j n (operand_sound end bytes ts x m e) (tail_sound (place end ts) x (drop m ts) c j q) s))
        ]
      where
        no_value : {e : Refusal × ℕ} → ◌≡◌ {A = Read CondTree} (Err e) (Ok (c, n)) → ⊥
        no_value h = cc

    pub neg_sound : Sound (spec.Neg end bytes d) (read.neg end bytes ns)
    unfolding read.neg
    neg_sound ts c n h =
        elim (chosen (is_not (kind ts)) _ _ _ h) [
          | inl p ↦ took_as (d.negs c) (spec.Neg end bytes d c) ts n n (λ a z. inl z) refl (below.negs ts c n p.0 p.1)
          | inr p ↦ took_as (spec.Basic end bytes d c) (spec.Neg end bytes d c) ts n n (λ a z. inr z) refl (basic_sound ts c n p.1)
        ]

    pub conj_sound : Sound (spec.Conj end bytes d) (read.conj end bytes ns)
    unfolding read.conj
    conj_sound = run_sound is_and all_of (spec.Neg end bytes d) (read.neg end bytes ns) refl neg_sound

    pub cond_sound : Sound (spec.Cond end bytes d) (read.cond end bytes ns)
    unfolding read.cond
    cond_sound = run_sound is_or any_of (spec.Conj end bytes d) (read.conj end bytes ns) refl conj_sound

    -- ---- FROM

    columns_sound : Sound (spec.Columns end bytes d) (read.columns end bytes ns)
    unfolding read.columns
    columns_sound ts o n h =
        elim (chosen (is_open (kind ts)) _ _ _ h) [
          | inl p ↦
              let (xs, e, f) = last_ok ts (read.listed end bytes ns (read.name end bytes) ts) (λ xs. Some xs) o n p.1 in
              let (room, took) = listed_sound (spec.Name end bytes) (read.name end bytes) (any_name_sound end bytes) ts xs n p.0 e in
              took_as (Parens (Listed (spec.Name end bytes)) xs) (spec.Columns end bytes d o) ts n n (λ a z. inr (xs, room, z, f)) refl took
          | inr p ↦
              let (e, s) = ok_parts None o 0 n p.1 in
              took_as (λ l. l ≡ []) (spec.Columns end bytes d o) ts 0 n (λ a z. inl (z, sym e)) s (took_none ts)
        ]

    bare_sound : (ts : Tokens) (n : List ℕ) (at k : ℕ) → read.bare_name end bytes ts ≡ Ok ((n, at), k) → Took (spec.NameAt end bytes n at) ts k
    unfolding read.bare_name
    bare_sound ts n at k h =
        let (is, h') = held (is_name (kind ts)) _ _ (n, at) k h in
        let (e, s) = ok_parts (read.name_at bytes ts, place end ts) (n, at) 1 k h' in
        took_as (spec.NameAt end bytes (read.name_at bytes ts) (place end ts)) (spec.NameAt end bytes n at) ts 1 k
        (λ a (t, f, g). (t, f, (g.0, sym (ap (λ p. p.0) e) ∙ g.1, sym (ap (λ p. p.1) e) ∙ g.2))) s (named end bytes ts is)

    pub derived_name_sound : (ts : Tokens) (n : List ℕ) (at k : ℕ) → read.derived_name end bytes ts ≡ Ok ((n, at), k) → Took (Named end bytes n at) ts k
    unfolding read.derived_name
    derived_name_sound ts n at k h =
        elim (chosen (is_as (kind ts)) _ _ _ h) [
          | inl p ↦
              let (j, e, s) = plus_ok 1 _ (n, at) k p.1 in
              took_as (Seq (Is is_as) (spec.NameAt end bytes n at)) (Named end bytes n at) ts k k (λ a z. inr z) refl
              (took_then (Is is_as) (spec.NameAt end bytes n at) ts 1 j k (took_is is_as ts refl p.0) (bare_sound (drop 1 ts) n at j e) s)
          | inr p ↦ took_as (spec.NameAt end bytes n at) (Named end bytes n at) ts k k (λ a z. inl z) refl (bare_sound ts n at k p.1)
        ]

    derived_sound : (ts : Tokens) (f : FromTree) (n : ℕ) → is_open (kind ts) ≡ true → is_select (kind (drop 1 ts)) ≡ true → read.derived_part end bytes ns ts ≡ Ok (f, n)
        → Took (spec.Derived end bytes d f) ts n
    unfolding read.derived_part
    derived_sound ts f n opens selects h =
        let (q, m, j, e, r, s) = followed_ok ts (ns.queries ts) _ f n h in
        let (na, m', j', e', r', s') = followed_ok (drop m ts) (read.derived_name end bytes (drop m ts)) _ f j r in
        let l = drop m' (drop m ts) in
        let (o, e'', is) = last_ok l (read.columns end bytes ns l) (λ o. derived q na.0 o (place end ts) na.1) f j' r' in
        let Q : Tokens → Type 0 = Seq (d.queries q) (Seq (Named end bytes na.0 na.1) (spec.Columns end bytes d o)) in
        let P : ℕ → Tokens → Type 0 = λ at a. Q a × (f ≡ derived q na.0 o at na.1) in
        let whole : Took Q ts n = took_then (d.queries q) (Seq (Named end bytes na.0 na.1) (spec.Columns end bytes d o)) ts m j n (below.queries ts q m opens selects e)
        (took_then (Named end bytes na.0 na.1) (spec.Columns end bytes d o) (drop m ts) m' j' j (derived_name_sound (drop m ts) na.0 na.1 m' e') (columns_sound l o j' e'') s') s in
        took_as (λ a. P (place end a) a) (spec.Derived end bytes d f) ts n n (λ a z. (q, na.0, na.1, o, z.0, z.1)) refl
        (took_begin P end ts n (λ a z. some_seq _ _ (below.there q) a z.0) (took_as Q (P (place end ts)) ts n n (λ a z. (z, is)) refl whole))

    table_sound : Sound (spec.Table end bytes d) (read.table_part end bytes)
    unfolding read.table_part
    table_sound ts f n h =
        let (x, m, j, e, r, s) = followed_ok ts (read.name end bytes ts) _ f n h in
        let (o, e', is) = last_ok (drop m ts) (read.alias end bytes (drop m ts)) (λ o. table x (name_only o) (place end ts) (place_or o (place end ts))) f j r in
        took_as (Seq (spec.NameAt end bytes x (place end ts)) (Alias end bytes o)) (spec.Table end bytes d f) ts n n (λ a z. (x, place end ts, o, z, is)) refl
        (took_then (spec.NameAt end bytes x (place end ts)) (Alias end bytes o) ts m j n (name_sound end bytes ts x m e) (alias_sound end bytes (drop m ts) o j e') s)

    pub primary_sound : Sound (spec.Primary end bytes d) (read.primary end bytes ns)
    unfolding read.primary
    primary_sound ts f n h =
        elim (chosen (is_name (kind ts)) _ _ _ h) [
          | inl p ↦ took_as (spec.Table end bytes d f) (spec.Primary end bytes d f) ts n n (λ a z. inl z) refl (table_sound ts f n p.1)
          | inr p ↦
              let (opens, h') = held (is_open (kind ts)) _ _ f n p.1 in
              elim (chosen (is_select (kind (drop 1 ts))) _ _ _ h') [
                | inl q ↦ took_as (spec.Derived end bytes d f) (spec.Primary end bytes d f) ts n n (λ a z. inr (inl z)) refl (derived_sound ts f n opens q.0 q.1)
                | inr q ↦ took_as (d.froms f) (spec.Primary end bytes d f) ts n n (λ a z. inr (inr z)) refl (below.froms ts f n opens q.1)
              ]
        ]

    join_next : (l : Tokens) (k' k : JoinKind) (j : ℕ) → followed l (expect (at is_join) (refusal end syntax) l) (λ _ rest. Ok (k', 0)) ≡ Ok (k, j) → Took (Is is_join) l j × (k ≡ k')
    join_next l k' k j e =
        let (u, e', f) = last_ok l (expect (at is_join) (refusal end syntax) l) (λ _. k') k j e in
        let (is, one) = expected (at is_join) (refusal end syntax) l u j e' in
        (took_as (Is is_join) (Is is_join) l 1 j (λ a z. z) (sym one) (took_is is_join l refl is), f)

    -- LEFT or RIGHT, OUTER if it is written, and JOIN
    outer_sound : (side : Kind → Bool) (made : JoinKind) (ts : Tokens) (k : JoinKind) (j n : ℕ) → side End ≡ false → side (kind ts) ≡ true → read.outer_join end made (drop 1 ts) ≡ Ok (k, j) → n ≡ 1 + j
        → Took (spec.Outer end bytes d side) ts n × (k ≡ made)
    unfolding read.outer_join
    outer_sound side made ts k j n none is e s =
        elim (chosen (is_outer (kind (drop 1 ts))) _ _ _ e) [
          | inl r ↦
              let (i, e', s') = plus_ok 1 _ k j r.1 in
              let (m, f) = join_next (drop 1 (drop 1 ts)) made k i e' in (
                took_as (Seq (Is side) (Seq (Is is_outer) (Is is_join))) (spec.Outer end bytes d side) ts n n (λ a z. inr z) refl
                    (took_then (Is side) (Seq (Is is_outer) (Is is_join)) ts 1 j n (took_is side ts none is)
                    (took_then (Is is_outer) (Is is_join) (drop 1 ts) 1 i j (took_is is_outer (drop 1 ts) refl r.0) m s') s),
                f,
              )
          | inr r ↦
              let (m, f) = join_next (drop 1 ts) made k j r.1 in (
                took_as (Seq (Is side) (Is is_join)) (spec.Outer end bytes d side) ts n n (λ a z. inl z) refl
                    (took_then (Is side) (Is is_join) ts 1 j n (took_is side ts none is) m s),
                f,
              )
        ]

    pub words_sound : (ts : Tokens) (k : JoinKind) (n : ℕ) → begins_join (kind ts) ≡ true → read.join_words end ts ≡ Ok (k, n) → Took (spec.JoinWords end bytes d k) ts n
    unfolding read.join_words
    words_sound ts k n begins h =
        elim (chosen (is_join (kind ts)) _ _ _ h) [
          | inl p ↦
              let (e, s) = ok_parts joining.Inner k 1 n p.1 in
              took_as (Is is_join) (spec.JoinWords end bytes d k) ts 1 n (λ a z. inl (z, sym e)) s (took_is is_join ts refl p.0)
          | inr p ↦ elim (chosen (is_inner (kind ts)) _ _ _ p.1) [
            | inl q ↦
                let (j, e, s) = plus_ok 1 _ k n q.1 in
                let (m, f) = join_next (drop 1 ts) joining.Inner k j e in
                took_as (Seq (Is is_inner) (Is is_join)) (spec.JoinWords end bytes d k) ts n n (λ a z. inr (inl (z, f))) refl
                (took_then (Is is_inner) (Is is_join) ts 1 j n (took_is is_inner ts refl q.0) m s)
            | inr q ↦ elim (chosen (is_left (kind ts)) _ _ _ q.1) [
              | inl r ↦
                  let (j, e, s) = plus_ok 1 _ k n r.1 in
                  let (m, f) = outer_sound is_left joining.Left ts k j n refl r.0 e s in
                  took_as (spec.Outer end bytes d is_left) (spec.JoinWords end bytes d k) ts n n (λ a z. inr (inr (inl (z, f)))) refl m
              | inr r ↦
                  let (j, e, s) = plus_ok 1 _ k n r.1 in
                  let (m, f) = outer_sound is_right joining.Right ts k j n refl (right_begins (kind ts) begins p.0 q.0 r.0) e s in
                  took_as (spec.Outer end bytes d is_right) (spec.JoinWords end bytes d k) ts n n (λ a z. inr (inr (inr (z, f)))) refl m
            ]
          ]
        ]

    pub join_sound : (inside : Bool) (a : FromTree) (ts : Tokens) (f : FromTree) (n : ℕ) → begins_join (kind ts) ≡ true → read.join end bytes ns inside a ts ≡ Ok (f, n) → Took (spec.Join end bytes d a f) ts n
    unfolding read.join
    join_sound inside a ts f n begins h =
        let (k, m, j, e, r, s) = followed_ok ts (read.join_words end ts) _ f n h in
        let l1 = drop m ts in
        let (b, m1, j1, e1, r1, s1) = followed_ok l1 (read.primary end bytes ns l1) _ f j r in
        let l2 = drop m1 l1 in
        let (u, m2, j2, e2, r2, s2) = followed_ok l2 (expect (at is_on) (refusal end (no_join inside)) l2) _ f j1 r1 in
        let (on, one) = expected (at is_on) (refusal end (no_join inside)) l2 u m2 e2 in
        let l3 = drop m2 l2 in
        let (c, e3, is) = last_ok l3 (read.cond end bytes ns l3) (λ c. join_of k a b c (place end l2)) f j2 r2 in
        took_as (Seq (spec.JoinWords end bytes d k) (Seq (spec.Primary end bytes d b) (Seq (IsAt is_on (place end l2)) (spec.Cond end bytes d c)))) (spec.Join end bytes d a f) ts n n
        (λ z y. (k, b, place end l2, c, y, is)) refl
        (took_then (spec.JoinWords end bytes d k) (Seq (spec.Primary end bytes d b) (Seq (IsAt is_on (place end l2)) (spec.Cond end bytes d c))) ts m j n (words_sound ts k m begins e)
        (took_then (spec.Primary end bytes d b) (Seq (IsAt is_on (place end l2)) (spec.Cond end bytes d c)) l1 m1 j1 j (primary_sound l1 b m1 e1)
        (took_then (IsAt is_on (place end l2)) (spec.Cond end bytes d c) l2 1 j2 j1 (took_one is_on end l2 refl on)
        (subst (λ z. Took (spec.Cond end bytes d c) (drop z l2) j2) one (cond_sound l3 c j2 e3)) (s2 ∙ ap (λ z. z + j2) one)) s1) s)

    -- a join has a token or more
    pub join_some : (a g : FromTree) (l : Tokens) (k : ℕ) → Took (spec.Join end bytes d a g) l k → 1 ≤ k
    join_some a g l k (b, c, e, s, (w, b', on, cc', p, is)) =
        let (u, r, e') = some_seq _ _ (words_there w) b p in
        omega (arith, ap length e', s)
      where
        outer_there : (side : Kind → Bool) (l : Tokens) → spec.Outer end bytes d side l → There l
        outer_there side l (inl p) = some_seq _ _ (λ b y. some_one _ b y) l p
        outer_there side l (inr p) = some_seq _ _ (λ b y. some_one _ b y) l p

        words_there : (k : JoinKind) (l : Tokens) → spec.JoinWords end bytes d k l → There l
        words_there k l (inl (p, e)) = some_one _ l p
        words_there k l (inr (inl (p, e))) = some_seq _ _ (λ b y. some_one _ b y) l p
        words_there k l (inr (inr (inl (p, e)))) = outer_there is_left l p
        words_there k l (inr (inr (inr (p, e)))) = outer_there is_right l p

    pub joined_sound : (inside : Bool) → Sound (spec.Joined end bytes d) (read.joined end bytes ns inside)
    unfolding read.joined
    joined_sound inside ts f n h =
        let (a, m, j, e, r, s) = followed_ok ts (read.primary end bytes ns ts) _ f n h in
        let (count, q) = chain_sound begins_join refl (spec.Join end bytes d) (read.join end bytes ns inside) (join_sound inside) (λ a f ts n. join_some a f ts n)
        (length (drop m ts)) a (drop m ts) f j (omega arith) r in
        took_as (Seq (spec.Primary end bytes d a) (Chain (spec.Join end bytes d) count a f)) (spec.Joined end bytes d f) ts n n (λ l z. (a, count, z)) refl
        (took_then (spec.Primary end bytes d a) (Chain (spec.Join end bytes d) count a f) ts m j n (primary_sound ts a m e) q s)

    -- a comma and a chain of joins
    pub listed_part_sound : (a : FromTree) (ts : Tokens) (f : FromTree) (n : ℕ) → is_comma (kind ts) ≡ true → read.listed_part end bytes ns a ts ≡ Ok (f, n) → Took (spec.ListedPart end bytes d a f) ts n
    unfolding read.listed_part
    listed_part_sound a ts f n is h =
        let (j, e, s) = plus_ok 1 _ f n h in
        let (b, e', fe) = last_ok (drop 1 ts) (read.joined end bytes ns false (drop 1 ts)) (λ b. comma a b (place end ts)) f j e in
        took_as (Seq (IsAt is_comma (place end ts)) (spec.Joined end bytes d b)) (spec.ListedPart end bytes d a f) ts n n (λ l z. (b, place end ts, z, fe)) refl
        (took_then (IsAt is_comma (place end ts)) (spec.Joined end bytes d b) ts 1 j n (took_one is_comma end ts refl is) (joined_sound false (drop 1 ts) b j e') s)

    pub listed_part_some : (a f : FromTree) (l : Tokens) (k : ℕ) → Took (spec.ListedPart end bytes d a f) l k → 1 ≤ k
    listed_part_some a f l k (b, c, e, s, (g, at, p, is)) =
        let (u, r, e') = some_seq _ _ (λ m y. some_one _ m y) b p in
        omega (arith, ap length e', s)

    pub from_list_sound : Sound (spec.FromList end bytes d) (read.from_list end bytes ns)
    unfolding read.from_list
    from_list_sound ts f n h =
        let (a, m, j, e, r, s) = followed_ok ts (read.joined end bytes ns false ts) _ f n h in
        let (count, q) = chain_sound is_comma refl (spec.ListedPart end bytes d) (read.listed_part end bytes ns) listed_part_sound (λ a f ts n. listed_part_some a f ts n)
        (length (drop m ts)) a (drop m ts) f j (omega arith) r in
        took_as (Seq (spec.Joined end bytes d a) (Chain (spec.ListedPart end bytes d) count a f)) (spec.FromList end bytes d f) ts n n (λ l z. (a, count, z)) refl
        (took_then (spec.Joined end bytes d a) (Chain (spec.ListedPart end bytes d) count a f) ts m j n (joined_sound false ts a m e) q s)

    filter_sound : Sound (spec.Filter end bytes d) (read.filter end bytes ns)
    unfolding read.filter
    filter_sound ts w n h =
        elim (chosen (is_where (kind ts)) _ _ _ h) [
          | inl p ↦
              let (j, e, s) = plus_ok 1 _ w n p.1 in
              let (c, e', f) = last_ok (drop 1 ts) (read.cond end bytes ns (drop 1 ts)) (λ c. filter_by c) w j e in
              took_as (Seq (Is is_where) (spec.Cond end bytes d c)) (spec.Filter end bytes d w) ts n n (λ a z. inr (c, z, f)) refl
              (took_then (Is is_where) (spec.Cond end bytes d c) ts 1 j n (took_is is_where ts refl p.0) (cond_sound (drop 1 ts) c j e') s)
          | inr p ↦
              let (e, s) = ok_parts no_filter w 0 n p.1 in
              took_as (λ l. l ≡ []) (spec.Filter end bytes d w) ts 0 n (λ a z. inl (z, sym e)) s (took_none ts)
        ]

    pub quantifier_sound : Sound (spec.Quantifier end bytes d) read.quantifier
    unfolding read.quantifier
    quantifier_sound ts b n h =
        elim (chosen (is_distinct (kind ts)) _ _ _ h) [
          | inl p ↦
              let (e, s) = ok_parts true b 1 n p.1 in
              took_as (Is is_distinct) (spec.Quantifier end bytes d b) ts 1 n (λ a z. inr (inr (z, sym e))) s (took_is is_distinct ts refl p.0)
          | inr p ↦ elim (chosen (is_all (kind ts)) _ _ _ p.1) [
            | inl q ↦
                let (e, s) = ok_parts false b 1 n q.1 in
                took_as (Is is_all) (spec.Quantifier end bytes d b) ts 1 n (λ a z. inr (inl (z, sym e))) s (took_is is_all ts refl q.0)
            | inr q ↦
                let (e, s) = ok_parts false b 0 n q.1 in
                took_as (λ l. l ≡ []) (spec.Quantifier end bytes d b) ts 0 n (λ a z. inl (z, sym e)) s (took_none ts)
          ]
        ]

    pub body_sound : Sound (spec.Body end bytes d) (read.body end bytes ns)
    unfolding read.body
    body_sound ts q n h =
        let (b, m, j, e, r, s) = followed_ok ts (read.quantifier ts) _ q n h in
        let l1 = drop m ts in
        let (xs, m1, j1, e1, r1, s1) = followed_ok l1 (list (read.item end bytes) l1) _ q j r in
        let l2 = drop m1 l1 in
        let (u, m2, j2, e2, r2, s2) = followed_ok l2 (expect (at is_from) (refusal end syntax) l2) _ q j1 r1 in
        let (from, one) = expected (at is_from) (refusal end syntax) l2 u m2 e2 in
        let l3 = drop m2 l2 in
        let (f, m3, j3, e3, r3, s3) = followed_ok l3 (read.from_list end bytes ns l3) _ q j2 r2 in
        let l4 = drop m3 l3 in
        let (w, e4, is) = last_ok l4 (read.filter end bytes ns l4) (λ w. select b xs f w) q j3 r3 in
        took_as (Seq (spec.Quantifier end bytes d b) (Seq (Listed (IsItem end bytes) xs) (Seq (Is is_from) (Seq (spec.FromList end bytes d f) (spec.Filter end bytes d w))))) (spec.Body end bytes d q) ts n n
        (λ a z. (b, xs, f, w, z, is)) refl
        (took_then (spec.Quantifier end bytes d b) (Seq (Listed (IsItem end bytes) xs) (Seq (Is is_from) (Seq (spec.FromList end bytes d f) (spec.Filter end bytes d w)))) ts m j n (quantifier_sound ts b m e)
        (took_then (Listed (IsItem end bytes) xs) (Seq (Is is_from) (Seq (spec.FromList end bytes d f) (spec.Filter end bytes d w))) l1 m1 j1 j (list_sound (IsItem end bytes) (read.item end bytes) (item_sound end bytes) l1 xs m1 e1)
        (took_then (Is is_from) (Seq (spec.FromList end bytes d f) (spec.Filter end bytes d w)) l2 1 j2 j1 (took_is is_from l2 refl from)
        (subst (λ z. Took (Seq (spec.FromList end bytes d f) (spec.Filter end bytes d w)) (drop z l2) j2) one
        (took_then (spec.FromList end bytes d f) (spec.Filter end bytes d w) l3 m3 j3 j2 (from_list_sound l3 f m3 e3) (filter_sound l4 w j3 e4) s3)) (s2 ∙ ap (λ z. z + j2) one)) s1) s)
