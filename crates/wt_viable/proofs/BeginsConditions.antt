-- The tokens before a refusal begin a sentence: conditions.
use Rattle.std.proofs.Common.{◌≡◌, ℕ, ◌⊎◌, inl, inr, true, List, [], ◌∷◌, ◌++◌, drop, refl, ap, sym, ◌∙◌, Ok, Err, Option, Some, None}
use Rattle.std.specs.Prelude.{◌&&◌}
use Rattle.wt_lex.specs.declared.token.Sym.TheVariants as sym
use Rattle.wt_ast.specs.declared.tree.ColumnName.{ColumnName}
use Rattle.wt_ast.specs.declared.tree.CmpWord.{CmpWord}
use Rattle.wt_ast.specs.declared.tree.CmpWord.TheVariants as cmp
use Rattle.wt_ast.specs.declared.tree.Scalar.{Scalar}
use Rattle.wt_ast.specs.declared.tree.Scalar.TheVariants as scalar
use Rattle.wt_ast.specs.Tree.{CondTree, compare, is_null, is_not_null, in_list, in_query, all_of, any_of, negated}
use Rattle.wt_reading.specs.declared.lexeme.Kind.TheVariants.{Key, Mark}
use Rattle.wt_lex.specs.declared.words.Word.TheVariants as words
use Rattle.wt_reading.specs.declared.lexeme.Lexeme.{Lexeme}
use Rattle.wt_grammar.specs.declared.fault.QueryFault.TheVariants as fault
use Rattle.wt_reading.specs.Lexemes.{Tokens, kind, place, is_open}
use Rattle.wt_grammar.specs.Kinds.{is_and, is_or, is_not, is_select, is_between, is_is, is_null_word, is_in}
use Rattle.wt_grammar.specs.Refusals.{syntax, no_negated}
use Rattle.wt_grammar.specs.Reading as read
use Rattle.wt_reading.specs.Readings.{plus, followed, expect, list}
use Rattle.wt_grammar.specs.Reading.{Read, Refusal, refused, refusal, Nest, cmp_of, between_of, opens_tuple}
use Rattle.wt_reading.specs.Sentences.{Seq, One, Is, Listed, Parens}
use Rattle.wt_sentence.specs.Grammar.{Column, AnyLiteral, Operand, Deeper}
use Rattle.wt_sentence.specs.Grammar as spec
use Rattle.wt_reading.proofs.Inversions.{chosen}
use Rattle.wt_reading.proofs.Took.{Took, Sound, took_is, list_sound}
use Rattle.wt_sentence.proofs.SoundParts.{column_sound, operand_sound, literal_sound}
use Rattle.wt_sentence.proofs.SoundQueries.{SoundBelow, listed_sound, neg_sound, conj_sound}
use Rattle.wt_viable.proofs.Begins.{Any, Ending, Begins, Viable, token_of, a_token, then_ending, as_ending, listed_one, run_one, plus_err, last_err, err_parts, begins_at_front, begins_then, begins_as, begins_followed, begins_expect, begins_expected, begins_within, begins_list, begins_run}
use Rattle.wt_viable.proofs.BeginsParts.{a_column, an_operand, a_literal, column_begins, operand_begins, literal_begins}

-- Wherever what stands one level deeper refuses, the tokens before it begin a sentence one level deeper.
pub record BeginsBelow (end : ℕ) (ns : Nest) (d : Deeper) : Type 0 where
  pub room : d.room
  pub negs : (ts : Tokens) (why : Refusal) (at : ℕ) → is_not (kind ts) ≡ true → ns.negs ts ≡ Err (why, at) → Begins end (Any d.negs) ts at
  pub conds : (ts : Tokens) (why : Refusal) (at : ℕ) → is_open (kind ts) ≡ true → ns.conds ts ≡ Err (why, at) → Begins end (Any d.conds) ts at
  pub queries : (ts : Tokens) (why : Refusal) (at : ℕ) → is_open (kind ts) ≡ true → is_select (kind (drop 1 ts)) ≡ true → ns.queries ts ≡ Err (why, at) → Begins end (Any d.queries) ts at
  pub froms : (ts : Tokens) (why : Refusal) (at : ℕ) → is_open (kind ts) ≡ true → ns.froms ts ≡ Err (why, at) → Begins end (Any d.froms) ts at
  pub query_behind : (t : Lexeme) → is_open t.kind ≡ true → Ending (λ l. Any d.queries (t ∷ l))

-- a part in parentheses, the first of which is given
pub parens_behind : {A : Type 0} (Part : A → Tokens → Type 0) (t : Lexeme) → is_open t.kind ≡ true → Ending (Any Part) → Ending (λ l. Any (Parens Part) (t ∷ l))
parens_behind Part t opens (l, (x, p)) =
    let close = token_of (Mark sym.Close) in
    (l ++ close ∷ [], (x, (t ∷ [], l ++ close ∷ [], refl, (t, refl, opens), (l, close ∷ [], refl, p, (close, refl, refl)))))

pub in_parens : {A : Type 0} (Part : A → Tokens → Type 0) → Ending (Any Part) → Ending (Any (Parens Part))
in_parens Part p = let (l, q) = parens_behind Part (token_of (Mark sym.Open)) refl p in (token_of (Mark sym.Open) ∷ l, q)

pub drop_two : (l : Tokens) → drop 1 (drop 1 l) ≡ drop 2 l
drop_two [] = refl
drop_two (t ∷ []) = refl
drop_two (t ∷ u ∷ l) = refl

module _ (end : ℕ) (bytes : List ℕ) where
  -- ---- what stands behind BETWEEN, and behind IS

  abbrev pub Bounds : Tokens → Type 0
  Bounds l = (low : Scalar) × Seq (Operand end bytes low) (Seq (Is is_and) (Any (Operand end bytes))) l

  upper : Ending (Seq (Is is_and) (Any (Operand end bytes)))
  upper = then_ending (Is is_and) (Any (Operand end bytes)) (a_token is_and (Key words.And) refl) (an_operand end bytes)

  bounds : Ending (Seq (Is is_between) Bounds)
  bounds =
      then_ending (Is is_between) Bounds (a_token is_between (Key words.Between) refl)
      (let (l, (x, p)) = an_operand end bytes in let (m, q) = upper in (l ++ m, (x, (l, m, refl, p, q))))

  between_begins : (a : ℕ) (x : Scalar) (word : ℕ) → Viable end Bounds (read.between end bytes a x word)
  unfolding read.between
  between_begins a x word ts why at h =
      begins_followed end (Operand end bytes) (λ _. Seq (Is is_and) (Any (Operand end bytes))) ts (read.operand end bytes ts)
      (λ low rest. followed rest (expect (λ l. is_and (kind l)) (refusal end syntax) rest) (λ _ r. followed r (read.operand end bytes r) (λ high q. Ok (between_of a x low high word, 0)))) why at
      (operand_begins end bytes ts why at) (operand_sound end bytes ts) (λ _. upper)
      (λ low l e. begins_expected end is_and (Key words.And) syntax (Any (Operand end bytes)) l (λ r. followed r (read.operand end bytes r) (λ high q. Ok (between_of a x low high word, 0))) why at refl refl
      (an_operand end bytes) (λ r e. operand_begins end bytes r why at (last_err r (read.operand end bytes r) (λ high. between_of a x low high word) (why, at) e)) e) h

  abbrev pub Nullness : Tokens → Type 0
  Nullness l = Is is_null_word l ⊎ Seq (Is is_not) (Is is_null_word) l

  is_begins : (a : ℕ) (k : ColumnName) → Viable end Nullness (read.is_part end a k)
  unfolding read.is_part
  is_begins a k ts why at h =
      elim (chosen (is_not (kind ts)) _ _ _ h) [
        | inl p ↦
            begins_as end (Seq (Is is_not) (Is is_null_word)) Nullness ts at (λ l z. inr z)
            (begins_then end (Is is_not) (Is is_null_word) ts 1 at (took_is is_not ts refl p.0)
            (begins_expect end is_null_word (Key words.Null) syntax (drop 1 ts) why at refl
            (last_err (drop 1 ts) (expect (λ l. is_null_word (kind l)) (refusal end syntax) (drop 1 ts)) (λ _. is_not_null a k) (why, at) (plus_err 1 _ (why, at) p.1))))
        | inr p ↦
            begins_as end (Is is_null_word) Nullness ts at (λ l z. inl z)
            (begins_expect end is_null_word (Key words.Null) syntax ts why at refl (last_err ts (expect (λ l. is_null_word (kind l)) (refusal end syntax) ts) (λ _. is_null a k) (why, at) p.1))
      ]

  module _ (d : Deeper) where
    -- ---- what follows an operand, whatever its place

    abbrev pub Tails : Scalar → Tokens → Type 0
    Tails x l = (at : ℕ) → Any (spec.Tail end bytes d at x) l

    between_tail : (x : Scalar) (l : Tokens) → Seq (Is is_between) Bounds l → Tails x l
    between_tail x l (a, b, e, (t, f, s), (low, (a1, b1, e1, p, (a2, b2, e2, o, (high, q))))) =
        λ at. (between_of at x low high t.token.start, inr (inl (t.token.start, low, high, (a, b, e, (t, f, (s, refl)), (a1, b1, e1, p, (a2, b2, e2, o, q))), refl)))

    not_between_tail : (x : Scalar) (l : Tokens) → Seq (Is is_not) (Seq (Is is_between) Bounds) l → Tails x l
    not_between_tail x l (a0, b0, e0, n, (a, b, e, (t, f, s), (low, (a1, b1, e1, p, (a2, b2, e2, o, (high, q)))))) =
        λ at.
        let whole = between_of at x low high t.token.start in
        (negated at whole, inr (inr (inl (whole, (a0, b0, e0, n, (t.token.start, low, high, (a, b, e, (t, f, (s, refl)), (a1, b1, e1, p, (a2, b2, e2, o, q))), refl)), refl))))

    compared_tail : (x : Scalar) (w : CmpWord) (l : Tokens) → Seq (One (λ t. cmp_of t.kind ≡ Some w)) (Any (Operand end bytes)) l → Tails x l
    compared_tail x w l (a, b, e, (t, f, s), (y, p)) = λ at. (compare at w x y t.token.start, inl (w, y, t.token.start, (a, b, e, (t, f, (s, refl)), p), refl))

    is_tail : (k : ColumnName) (l : Tokens) → Seq (Is is_is) Nullness l → Tails (scalar.Column k) l
    is_tail k l (a, b, e, i, inl z) = λ at. (is_null at k, inr (inr (inr (k, refl, inl ((a, b, e, i, z), refl)))))
    is_tail k l (a, b, e, i, inr z) = λ at. (is_not_null at k, inr (inr (inr (k, refl, inr (inl ((a, b, e, i, z), refl))))))

    abbrev pub Sought : Tokens → Type 0
    Sought l = Any (spec.Values end bytes d) l ⊎ Any d.queries l

    in_tail : (k : ColumnName) (l : Tokens) → Seq (Is is_in) Sought l → Tails (scalar.Column k) l
    in_tail k l (a, b, e, (t, f, s), inl (vs, z)) =
        λ at. (in_list at k vs t.token.start, inr (inr (inr (k, refl, inr (inr (inl (vs, t.token.start, (a, b, e, (t, f, (s, refl)), z), refl)))))))
    in_tail k l (a, b, e, (t, f, s), inr (q, z)) =
        λ at. (in_query at (k ∷ []) q t.token.start, inr (inr (inr (k, refl, inr (inr (inr (inr (q, t.token.start, (a, b, e, (t, f, (s, refl)), z), refl))))))))

    not_in_tail : (k : ColumnName) (l : Tokens) → Seq (Is is_not) (Seq (Is is_in) (Any (spec.Values end bytes d))) l → Tails (scalar.Column k) l
    not_in_tail k l (a0, b0, e0, n, (a, b, e, (t, f, s), (vs, z))) =
        λ at. (negated at (in_list at k vs t.token.start), inr (inr (inr (k, refl, inr (inr (inr (inl (vs, t.token.start, (a0, b0, e0, n, (a, b, e, (t, f, (s, refl)), z)), refl))))))))

    -- ---- short sentences

    a_tail : (x : Scalar) → Ending (Tails x)
    a_tail x =
        as_ending (Seq (One (λ t. cmp_of t.kind ≡ Some cmp.Eq)) (Any (Operand end bytes))) (Tails x) (compared_tail x cmp.Eq)
        (then_ending (One (λ t. cmp_of t.kind ≡ Some cmp.Eq)) (Any (Operand end bytes)) (token_of (Mark sym.Eq) ∷ [], (token_of (Mark sym.Eq), refl, refl)) (an_operand end bytes))

    basic_of : (l : Tokens) → (x : Scalar) × Seq (Operand end bytes x) (Tails x) l → Any (spec.Basic end bytes d) l
    basic_of l (x, (a, b, e, p, tail)) = let (c, t) = tail (place end l) in (c, inl (x, (a, b, e, p, t)))

    a_basic : Ending (Any (spec.Basic end bytes d))
    a_basic = let (l, (x, p)) = an_operand end bytes in let (m, t) = a_tail x in (l ++ m, basic_of (l ++ m) (x, (l, m, refl, p, t)))

    pub a_neg : Ending (Any (spec.Neg end bytes d))
    a_neg = as_ending (Any (spec.Basic end bytes d)) (Any (spec.Neg end bytes d)) (λ l (c, p). (c, inr p)) a_basic

    pub a_cond : Ending (Any (spec.Cond end bytes d))
    a_cond =
        as_ending (Any (spec.Conj end bytes d)) (Any (spec.Cond end bytes d)) (run_one is_or any_of (spec.Conj end bytes d))
        (as_ending (Any (spec.Neg end bytes d)) (Any (spec.Conj end bytes d)) (run_one is_and all_of (spec.Neg end bytes d)) a_neg)

    module _ (ns : Nest) (sound : SoundBelow end bytes ns d) (below : BeginsBelow end ns d) where
      some_values : Ending (Any (spec.Values end bytes d))
      some_values =
          as_ending (Any (Parens (Listed (AnyLiteral end bytes)))) (Any (spec.Values end bytes d)) (λ l (vs, z). (vs, (below.room, z)))
          (in_parens (Listed (AnyLiteral end bytes)) (as_ending (Any (AnyLiteral end bytes)) (Any (Listed (AnyLiteral end bytes))) (listed_one (AnyLiteral end bytes)) (a_literal end bytes)))

      some_query : Ending (Any d.queries)
      some_query = let (l, q) = below.query_behind (token_of (Mark sym.Open)) refl in (token_of (Mark sym.Open) ∷ l, q)

      -- ---- lists and queries in parentheses

      pub listed_begins : {A : Type 0} (Part : A → Tokens → Type 0) (part : Tokens → Read A) → Sound Part part → Viable end (Any Part) part → Ending (Any Part)
          → (ts : Tokens) (why : Refusal) (at : ℕ) → is_open (kind ts) ≡ true → read.listed end bytes ns part ts ≡ Err (why, at) → Begins end (Any (Parens (Listed Part))) ts at
      unfolding read.listed
      listed_begins Part part part_sound part_begins one ts why at opens h =
          elim (chosen ns.room _ _ _ h) [
            | inl p ↦
                begins_within end (Listed Part) (list part) (λ _. syntax) ts why at opens (begins_list end Part part part_sound part_begins (drop 1 ts) why at)
                (list_sound Part part part_sound (drop 1 ts)) p.1
            | inr p ↦
                begins_at_front end (Any (Parens (Listed Part))) ts (refused fault.TooDeep) why at
                (in_parens (Listed Part) (as_ending (Any Part) (Any (Listed Part)) (listed_one Part) one)) p.1
          ]

      values_begins : (a : ℕ) (k : ColumnName) (word : ℕ) (ts : Tokens) (why : Refusal) (at : ℕ) → is_open (kind ts) ≡ true → read.values end bytes ns a k word ts ≡ Err (why, at)
          → Begins end (Any (spec.Values end bytes d)) ts at
      unfolding read.values
      values_begins a k word ts why at opens h =
          begins_as end (Any (Parens (Listed (AnyLiteral end bytes)))) (Any (spec.Values end bytes d)) ts at (λ l (vs, z). (vs, (below.room, z)))
          (listed_begins (AnyLiteral end bytes) (read.literal end bytes) (literal_sound end bytes) (literal_begins end bytes) (a_literal end bytes) ts why at opens
          (last_err ts (read.listed end bytes ns (read.literal end bytes) ts) (λ vs. in_list a k vs word) (why, at) h))

      subquery_begins : (a : ℕ) (ks : List ColumnName) (word : ℕ) (ts : Tokens) (why : Refusal) (at : ℕ) → is_open (kind ts) ≡ true → is_select (kind (drop 1 ts)) ≡ true
          → read.subquery end bytes ns a ks word ts ≡ Err (why, at) → Begins end (Any d.queries) ts at
      unfolding read.subquery
      subquery_begins a ks word ts why at opens selects h = below.queries ts why at opens selects (last_err ts (ns.queries ts) (λ q. in_query a ks q word) (why, at) h)

      in_begins : (a : ℕ) (k : ColumnName) (word : ℕ) → Viable end Sought (read.in_part end bytes ns a k word)
      unfolding read.in_part
      in_begins a k word ts why at h =
          elim (chosen (is_open (kind ts)) _ _ _ h) [
            | inl p ↦ elim (chosen (is_select (kind (drop 1 ts))) _ _ _ p.1) [
              | inl q ↦ begins_as end (Any d.queries) Sought ts at (λ l z. inr z) (subquery_begins a (k ∷ []) word ts why at p.0 q.0 q.1)
              | inr q ↦ begins_as end (Any (spec.Values end bytes d)) Sought ts at (λ l z. inl z) (values_begins a k word ts why at p.0 q.1)
            ]
            | inr p ↦ begins_at_front end Sought ts (refused fault.Syntax) why at (as_ending (Any (spec.Values end bytes d)) Sought (λ l z. inl z) some_values) p.1
          ]

      -- ---- behind NOT, from NOT on

      not_in_begins : (a : ℕ) (k : ColumnName) (word : ℕ) (ts : Tokens) (why : Refusal) (at : ℕ) → is_not (kind ts) ≡ true → is_in (kind (drop 1 ts)) ≡ true
          → read.not_in_part end bytes ns a k (place end ts) word (drop 1 (drop 1 ts)) ≡ Err (why, at) → Begins end (Tails (scalar.Column k)) ts at
      unfolding read.not_in_part
      not_in_begins a k word ts why at nots ins h =
          elim (chosen (is_open (kind (drop 1 (drop 1 ts)))) _ _ _ h) [
            | inl p ↦ elim (chosen (is_select (kind (drop 1 (drop 1 (drop 1 ts))))) _ _ _ p.1) [
              | inl q ↦ begins_at_front end (Tails (scalar.Column k)) ts (refused fault.NotInSubquery) why at (a_tail (scalar.Column k)) q.1
              | inr q ↦
                  behind (values_begins a k word (drop 1 (drop 1 ts)) why at p.0
                  (last_err (drop 1 (drop 1 ts)) (read.values end bytes ns a k word (drop 1 (drop 1 ts))) (λ x. negated a x) (why, at) q.1))
            ]
            | inr p ↦ behind (begins_at_front end (Any (spec.Values end bytes d)) (drop 1 (drop 1 ts)) (refused fault.Syntax) why at some_values p.1)
          ]
        where
          behind : Begins end (Any (spec.Values end bytes d)) (drop 1 (drop 1 ts)) at → Begins end (Tails (scalar.Column k)) ts at
          behind z =
              begins_as end (Seq (Is is_not) (Seq (Is is_in) (Any (spec.Values end bytes d)))) (Tails (scalar.Column k)) ts at (not_in_tail k)
              (begins_then end (Is is_not) (Seq (Is is_in) (Any (spec.Values end bytes d))) ts 1 at (took_is is_not ts refl nots)
              (begins_then end (Is is_in) (Any (spec.Values end bytes d)) (drop 1 ts) 1 at (took_is is_in (drop 1 ts) refl ins) z))

      not_begins : (a : ℕ) (x : Scalar) (ts : Tokens) (why : Refusal) (at : ℕ) → is_not (kind ts) ≡ true → read.after_not end bytes ns a x (place end ts) (drop 1 ts) ≡ Err (why, at)
          → Begins end (Tails x) ts at
      unfolding read.after_not
      not_begins a x ts why at nots h =
          elim (chosen (is_between (kind (drop 1 ts))) _ _ _ h) [
            | inl p ↦
                behind (begins_then end (Is is_between) Bounds (drop 1 ts) 1 at (took_is is_between (drop 1 ts) refl p.0)
                (between_begins a x (place end (drop 1 ts)) (drop 1 (drop 1 ts)) why at
                (last_err (drop 1 (drop 1 ts)) (read.between end bytes a x (place end (drop 1 ts)) (drop 1 (drop 1 ts))) (λ y. negated a y) (why, at) (plus_err 1 _ (why, at) p.1))))
            | inr p ↦ elim (chosen (is_in (kind (drop 1 ts))) _ _ _ p.1) [
              | inl q ↦ of_column x q.0 q.1
              | inr q ↦ behind (begins_at_front end (Seq (Is is_between) Bounds) (drop 1 ts) (refused (no_negated (kind (drop 1 ts)))) why at bounds q.1)
            ]
          ]
        where
          behind : Begins end (Seq (Is is_between) Bounds) (drop 1 ts) at → Begins end (Tails x) ts at
          behind z =
              begins_as end (Seq (Is is_not) (Seq (Is is_between) Bounds)) (Tails x) ts at (not_between_tail x)
              (begins_then end (Is is_not) (Seq (Is is_between) Bounds) ts 1 at (took_is is_not ts refl nots) z)

          of_column : (y : Scalar) → is_in (kind (drop 1 ts)) ≡ true
              → read.of_column end y (λ k. plus 1 (read.not_in_part end bytes ns a k (place end ts) (place end (drop 1 ts)) (drop 1 (drop 1 ts)))) (drop 1 ts) ≡ Err (why, at) → Begins end (Tails y) ts at
          of_column (scalar.Column k) ins h = not_in_begins a k (place end (drop 1 ts)) ts why at nots ins (plus_err 1 _ (why, at) h)
          of_column (scalar.Literal v place_of) ins h =
              begins_as end (Seq (Is is_not) (Seq (Is is_between) Bounds)) (Tails (scalar.Literal v place_of)) ts at (not_between_tail (scalar.Literal v place_of))
              (begins_then end (Is is_not) (Seq (Is is_between) Bounds) ts 1 at (took_is is_not ts refl nots)
              (begins_at_front end (Seq (Is is_between) Bounds) (drop 1 ts) (refused fault.Syntax) why at bounds h))

      -- ---- behind an operand

      after_operand_begins : (a : ℕ) (x : Scalar) → Viable end (Tails x) (read.after_operand end bytes ns a x)
      unfolding read.after_operand
      after_operand_begins a x ts why at h =
          elim (chosen (is_between (kind ts)) _ _ _ h) [
            | inl p ↦
                begins_as end (Seq (Is is_between) Bounds) (Tails x) ts at (between_tail x)
                (begins_then end (Is is_between) Bounds ts 1 at (took_is is_between ts refl p.0) (between_begins a x (place end ts) (drop 1 ts) why at (plus_err 1 _ (why, at) p.1)))
            | inr p ↦ elim (chosen (is_not (kind ts)) _ _ _ p.1) [
              | inl q ↦ not_begins a x ts why at q.0 (plus_err 1 _ (why, at) q.1)
              | inr q ↦ elim (chosen (is_is (kind ts)) _ _ _ q.1) [
                | inl r ↦ is_of x r.0 r.1
                | inr r ↦ elim (chosen (is_in (kind ts)) _ _ _ r.1) [
                  | inl w ↦ in_of x w.0 w.1
                  | inr w ↦ compared (cmp_of (kind ts)) refl w.1
                ]
              ]
            ]
          ]
        where
          is_of : (y : Scalar) → is_is (kind ts) ≡ true → read.of_column end y (λ k. plus 1 (read.is_part end a k (drop 1 ts))) ts ≡ Err (why, at) → Begins end (Tails y) ts at
          is_of (scalar.Column k) is h =
              begins_as end (Seq (Is is_is) Nullness) (Tails (scalar.Column k)) ts at (is_tail k)
              (begins_then end (Is is_is) Nullness ts 1 at (took_is is_is ts refl is) (is_begins a k (drop 1 ts) why at (plus_err 1 _ (why, at) h)))
          is_of (scalar.Literal v k) is h = begins_at_front end (Tails (scalar.Literal v k)) ts (refused fault.Syntax) why at (a_tail (scalar.Literal v k)) h

          in_of : (y : Scalar) → is_in (kind ts) ≡ true → read.of_column end y (λ k. plus 1 (read.in_part end bytes ns a k (place end ts) (drop 1 ts))) ts ≡ Err (why, at) → Begins end (Tails y) ts at
          in_of (scalar.Column k) is h =
              begins_as end (Seq (Is is_in) Sought) (Tails (scalar.Column k)) ts at (in_tail k)
              (begins_then end (Is is_in) Sought ts 1 at (took_is is_in ts refl is) (in_begins a k (place end ts) (drop 1 ts) why at (plus_err 1 _ (why, at) h)))
          in_of (scalar.Literal v k) is h = begins_at_front end (Tails (scalar.Literal v k)) ts (refused fault.Syntax) why at (a_tail (scalar.Literal v k)) h

          one : (w : CmpWord) (l : Tokens) → cmp_of (kind l) ≡ Some w → Took (One (λ t. cmp_of t.kind ≡ Some w)) l 1
          one w [] is = absurd cc
          one w (t ∷ l) is = (t ∷ [], l, refl, refl, (t, refl, is))

          compared : (o : Option CmpWord) → cmp_of (kind ts) ≡ o → read.compared_by end bytes o a x ts ≡ Err (why, at) → Begins end (Tails x) ts at
          compared None is h = begins_at_front end (Tails x) ts (refused fault.Syntax) why at (a_tail x) h
          compared (Some w) is h =
              begins_as end (Seq (One (λ t. cmp_of t.kind ≡ Some w)) (Any (Operand end bytes))) (Tails x) ts at (compared_tail x w)
              (begins_then end (One (λ t. cmp_of t.kind ≡ Some w)) (Any (Operand end bytes)) ts 1 at (one w ts is)
              (operand_begins end bytes (drop 1 ts) why at (last_err (drop 1 ts) (read.operand end bytes (drop 1 ts)) (λ y. compare a w x y (place end ts)) (why, at) (plus_err 1 _ (why, at) h))))

      -- ---- tuples

      in_query_ending : Ending (Seq (Is is_in) (Any d.queries))
      in_query_ending = then_ending (Is is_in) (Any d.queries) (a_token is_in (Key words.In) refl) some_query

      -- behind an opening parenthesis, where a query has to follow
      behind_open : (l : Tokens) (at : ℕ) → is_open (kind l) ≡ true → at ≡ place end (drop 1 l) → Begins end (Any d.queries) l at
      behind_open [] at opens e = absurd cc
      behind_open (t ∷ l) at opens e = let (more, q) = below.query_behind t opens in (t ∷ [], l, refl, e, more, q)

      after_tuple_begins : (a : ℕ) (ks : List ColumnName) → Viable end (Seq (Is is_in) (Any d.queries)) (read.after_tuple end bytes ns a ks)
      unfolding read.after_tuple
      after_tuple_begins a ks ts why at h =
          elim (chosen (is_in (kind ts)) _ _ _ h) [
            | inl p ↦ elim (chosen (is_open (kind (drop 1 ts))) _ _ _ p.1) [
              | inl q ↦ elim (chosen (is_select (kind (drop 2 ts))) _ _ _ q.1) [
                | inl r ↦
                    behind p.0 (subquery_begins a ks (place end ts) (drop 1 ts) why at q.0 (ap (λ l. is_select (kind l)) (drop_two ts) ∙ r.0) (plus_err 1 _ (why, at) r.1))
                | inr r ↦
                    behind p.0 (behind_open (drop 1 ts) at q.0 (err_parts {A = CondTree} (refused fault.Syntax) why (place end (drop 2 ts)) at r.1 ∙ ap (place end) (sym (drop_two ts))))
              ]
              | inr q ↦ behind p.0 (begins_at_front end (Any d.queries) (drop 1 ts) (refused fault.Syntax) why at some_query q.1)
            ]
            | inr p ↦ elim (chosen (is_open (kind (drop 2 ts)) && is_select (kind (drop 3 ts))) _ _ _ p.1) [
              | inl q ↦ begins_at_front end (Seq (Is is_in) (Any d.queries)) ts (refused fault.NotInSubquery) why at in_query_ending q.1
              | inr q ↦ begins_at_front end (Seq (Is is_in) (Any d.queries)) ts (refused fault.Syntax) why at in_query_ending q.1
            ]
          ]
        where
          behind : is_in (kind ts) ≡ true → Begins end (Any d.queries) (drop 1 ts) at → Begins end (Seq (Is is_in) (Any d.queries)) ts at
          behind is z = begins_then end (Is is_in) (Any d.queries) ts 1 at (took_is is_in ts refl is) z

      tuple_begins : (ts : Tokens) (why : Refusal) (at : ℕ) → is_open (kind ts) ≡ true → read.tuple_in end bytes ns ts ≡ Err (why, at) → Begins end (Any (spec.TupleIn end bytes d)) ts at
      unfolding read.tuple_in
      tuple_begins ts why at opens h =
          begins_as end (λ l. (ks : List ColumnName) × Seq (Parens (Listed (Column end bytes)) ks) (Seq (Is is_in) (Any d.queries)) l) (Any (spec.TupleIn end bytes d)) ts at
          (λ l (ks, (a, b, e, p, (a1, b1, e1, (t, f, s), (q, z)))).
          (in_query (place end l) ks q t.token.start, (ks, q, t.token.start, below.room, (a, b, e, p, (a1, b1, e1, (t, f, (s, refl)), z)), refl)))
          (begins_followed end (Parens (Listed (Column end bytes))) (λ _. Seq (Is is_in) (Any d.queries)) ts (read.listed end bytes ns (read.column end bytes) ts)
          (λ cs rest. read.after_tuple end bytes ns (place end ts) cs rest) why at
          (listed_begins (Column end bytes) (read.column end bytes) (column_sound end bytes) (column_begins end bytes) (a_column end bytes) ts why at opens)
          (λ ks m e. (listed_sound end bytes ns d sound (Column end bytes) (read.column end bytes) (column_sound end bytes) ts ks m opens e).1)
          (λ _. in_query_ending) (λ ks l e. after_tuple_begins (place end ts) ks l why at e) h)

      -- ---- conditions

      basic_begins : Viable end (Any (spec.Basic end bytes d)) (read.basic end bytes ns)
      unfolding read.basic
      basic_begins ts why at h =
          elim (chosen (is_open (kind ts)) _ _ _ h) [
            | inl p ↦ elim (chosen (is_select (kind (drop 1 ts))) _ _ _ p.1) [
              | inl q ↦ begins_at_front end (Any (spec.Basic end bytes d)) ts (refused fault.Subquery) why at a_basic q.1
              | inr q ↦ elim (chosen (opens_tuple ts) _ _ _ q.1) [
                | inl r ↦ begins_as end (Any (spec.TupleIn end bytes d)) (Any (spec.Basic end bytes d)) ts at (λ l (c, z). (c, inr (inl z))) (tuple_begins ts why at p.0 r.1)
                | inr r ↦ begins_as end (Any d.conds) (Any (spec.Basic end bytes d)) ts at (λ l (c, z). (c, inr (inr z))) (below.conds ts why at p.0 r.1)
              ]
            ]
            | inr p ↦
                begins_as end (λ l. (x : Scalar) × Seq (Operand end bytes x) (Tails x) l) (Any (spec.Basic end bytes d)) ts at basic_of
                (begins_followed end (Operand end bytes) Tails ts (read.operand end bytes ts) (λ x rest. read.after_operand end bytes ns (place end ts) x rest) why at
                (operand_begins end bytes ts why at) (operand_sound end bytes ts) a_tail (λ x l e. after_operand_begins (place end ts) x l why at e) p.1)
          ]

      pub neg_begins : Viable end (Any (spec.Neg end bytes d)) (read.neg end bytes ns)
      unfolding read.neg
      neg_begins ts why at h =
          elim (chosen (is_not (kind ts)) _ _ _ h) [
            | inl p ↦ begins_as end (Any d.negs) (Any (spec.Neg end bytes d)) ts at (λ l (c, z). (c, inl z)) (below.negs ts why at p.0 p.1)
            | inr p ↦ begins_as end (Any (spec.Basic end bytes d)) (Any (spec.Neg end bytes d)) ts at (λ l (c, z). (c, inr z)) (basic_begins ts why at p.1)
          ]

      conj_begins : Viable end (Any (spec.Conj end bytes d)) (read.conj end bytes ns)
      unfolding read.conj
      conj_begins = begins_run end is_and all_of (spec.Neg end bytes d) (read.neg end bytes ns) (neg_sound end bytes ns d sound) neg_begins

      pub cond_begins : Viable end (Any (spec.Cond end bytes d)) (read.cond end bytes ns)
      unfolding read.cond
      cond_begins = begins_run end is_or any_of (spec.Conj end bytes d) (read.conj end bytes ns) (conj_sound end bytes ns d sound) conj_begins
