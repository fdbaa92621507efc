-- What the grammar derives is read: conditions, FROM and queries.
use Rattle.std.proofs.Common.{◌≡◌, ℕ, suc, ◌≤◌, inl, inr, Bool, true, false, List, [], ◌∷◌, ◌++◌, length, drop, refl, ap, sym, ◌∙◌, arith, append_assoc, Ok, Option, Some, subst}
use Rattle.std.specs.Prelude.{◌&&◌, ◌||◌}
use Rattle.wt_value.specs.declared.value.Value.{Value}
use Rattle.wt_ast.specs.declared.tree.ColumnName.{ColumnName}
use Rattle.wt_ast.specs.declared.tree.Item.{Item}
use Rattle.wt_ast.specs.declared.tree.Scalar.{Scalar}
use Rattle.wt_ast.specs.declared.tree.Scalar.TheVariants as scalar
use Rattle.wt_ast.specs.Tree.{QueryTree, FilterTree, FromTree, CondTree, select, filter_by, table, derived, comma, compare, is_null, is_not_null, in_list, in_query, all_of, any_of, negated}
use Rattle.wt_reading.specs.declared.lexeme.Kind.{Kind}
use Rattle.wt_reading.specs.declared.lexeme.Lexeme.{Lexeme}
use Rattle.wt_grammar.specs.declared.join.JoinKind.{JoinKind}
use Rattle.wt_grammar.specs.declared.join.JoinKind.TheVariants as joining
use Rattle.wt_reading.specs.Lexemes.{Tokens, kind, place, at, is_open, is_close, is_comma, is_name}
use Rattle.wt_grammar.specs.Kinds.{is_and, is_or, is_not, is_select, is_distinct, is_all, is_from, is_between, is_is, is_null_word, is_in, is_as, is_inner, is_left, is_right, is_outer, is_join, is_on, is_dot, begins_join}
use Rattle.wt_grammar.specs.Refusals.{syntax, no_join}
use Rattle.wt_grammar.specs.Reading as read
use Rattle.wt_reading.specs.Readings.{plus, followed, expect, within, list, repeat}
use Rattle.wt_grammar.specs.Reading.{Read, Refusal, Nest, cmp_of, between_of, join_of, name_only, place_or, opens_tuple, no_query_end, one_or, in_follows, refusal}
use Rattle.wt_sentence.proofs.Stages.{before_column, next_stage, passes}
use Rattle.wt_reading.specs.Sentences.{Seq, One, Is, Listed, Parens}
use Rattle.wt_sentence.specs.Grammar.{Run, Column, AnyLiteral, Operand, Named, Alias, IsItem, Chain, Deeper}
use Rattle.wt_sentence.specs.Grammar as spec
use Rattle.wt_reading.proofs.Took.{There, some_seq, some_one}
use Rattle.wt_sentence.proofs.SoundQueries.{operand_there}
use Rattle.wt_sentence.proofs.Follows.{Plain, EndsCond, EndsFrom, EndsList, EndsQuery, right_is, comma_from, not_is, all_is, from_is, null_word_is, in_is_word, in_is, as_is, inner_is, left_is, join_is, open_is, close_is, name_is, star_is, and_plain, or_plain, comma_plain, close_plain, from_plain, on_plain, joins_cond, where_list, or_not_and, cmp_tests, cmp_front, between_front, not_front, is_front, in_front, Front}
use Rattle.wt_sentence.proofs.Chains.{chain_front, chain_reads}
use Rattle.wt_sentence.proofs.Tuples.{tuple_opens, operand_front, no_tuple}
use Rattle.wt_reading.proofs.Complete.{then_reads, last_reads, plus_one}
use Rattle.wt_sentence.proofs.CompleteParts.{Completes, list_reads, run_reads, expect_reads, name_reads, any_name_reads, column_reads, literal_reads, operand_reads, alias_reads, item_reads}

-- a list in parentheses, or any part, is closed
pub within_reads : {A : Type 0} (Part : A → Tokens → Type 0) (part : Tokens → Read A) (fault : A → Tokens → Refusal × ℕ) (a rest : Tokens) (x : A) → Parens Part x a
    → ((b rest : Tokens) (y : A) → Part y b → is_close (kind rest) ≡ true → part (b ++ rest) ≡ Ok (y, length b)) → within part fault (a ++ rest) ≡ Ok (x, length a)
unfolding expect
within_reads Part part fault a rest x (o, c, e, (t, e', opens), (b, d, e'', p, (u, e3, closes))) complete =
    let whole : a ≡ t ∷ (b ++ u ∷ []) = e ∙ (λ i. e' i ++ (e'' ∙ ap (λ z. b ++ z) e3) i) in
    let read_part : part (b ++ (u ∷ rest)) ≡ Ok (x, length b) = complete b (u ∷ rest) x p closes in
    let inside : followed ((b ++ u ∷ []) ++ rest) (part ((b ++ u ∷ []) ++ rest)) (λ x rest. followed rest (expect (at is_close) (fault x) rest) (λ _ r. Ok (x, 0))) ≡ Ok (x, length (b ++ u ∷ [])) =
    then_reads part (λ x rest. followed rest (expect (at is_close) (fault x) rest) (λ _ r. Ok (x, 0))) (b ++ u ∷ []) b (u ∷ []) rest x x refl read_part
    (last_reads (expect (at is_close) (fault x)) (λ _. x) (u ∷ []) rest tt (rw closes refl)) in
    subst (λ l. within part fault (l ++ rest) ≡ Ok (x, length l)) (sym whole) (plus_one _ x (length (b ++ u ∷ [])) inside)

-- what the grammar derives one level deeper is read there
pub record CompleteBelow (end : ℕ) (bytes : List ℕ) (ns : Nest) (d : Deeper) : Type 0 where
  pub room : d.room → ns.room ≡ true
  pub negs : (a rest : Tokens) (c : CondTree) → d.negs c a → Plain (kind rest) → ns.negs (a ++ rest) ≡ Ok (c, length a)
  pub negs_not : (c : CondTree) (a : Tokens) → d.negs c a → (t : Lexeme) × (r : Tokens) × (a ≡ t ∷ r) × (is_not t.kind ≡ true)
  pub conds : (a rest : Tokens) (c : CondTree) → d.conds c a → ns.conds (a ++ rest) ≡ Ok (c, length a)
  pub conds_open : (c : CondTree) (a : Tokens) → d.conds c a → (rest : Tokens) → (is_open (kind (a ++ rest)) ≡ true) × (is_select (kind (drop 1 (a ++ rest))) ≡ false) × (opens_tuple (a ++ rest) ≡ false)
  pub queries : (a rest : Tokens) (q : QueryTree) → d.queries q a → ns.queries (a ++ rest) ≡ Ok (q, length a)
  pub queries_open : (q : QueryTree) (a : Tokens) → d.queries q a → (rest : Tokens) → (is_open (kind (a ++ rest)) ≡ true) × (is_select (kind (drop 1 (a ++ rest))) ≡ true)
  pub queries_there : (q : QueryTree) (a : Tokens) → d.queries q a → There a
  pub froms : (a rest : Tokens) (f : FromTree) → d.froms f a → ns.froms (a ++ rest) ≡ Ok (f, length a)
  pub froms_open : (f : FromTree) (a : Tokens) → d.froms f a → (rest : Tokens) → (is_open (kind (a ++ rest)) ≡ true) × (is_select (kind (drop 1 (a ++ rest))) ≡ false)

module _ (end : ℕ) (bytes : List ℕ) where
  -- behind BETWEEN
  between_reads : (d : Deeper) (begin : ℕ) (x : Scalar) (t : Lexeme) (b rest : Tokens) (low high : Scalar) → Seq (Operand end bytes low) (Seq (Is is_and) (Operand end bytes high)) b → Plain (kind rest)
      → read.between end bytes begin x t.token.start (b ++ rest) ≡ Ok (between_of begin x low high t.token.start, length b)
  unfolding read.between
  between_reads d begin x t ts rest low high (a, b, e, p, (m, c, e', w, q)) f =
      let joint : Plain (kind (b ++ rest)) = let (u, eu, is) = w in
      subst (λ l. Plain (kind (l ++ rest))) (sym (e' ∙ ap (λ z. z ++ c) eu)) (and_plain u.kind is) in
      then_reads (read.operand end bytes) (λ low rest. followed rest (expect (at is_and) (refusal end syntax) rest) (λ _ r. followed r (read.operand end bytes r) (λ high q. Ok (between_of begin x low high t.token.start, 0))))
      ts a b rest low (between_of begin x low high t.token.start) e (operand_reads end bytes a (b ++ rest) low p joint)
      (then_reads (expect (at is_and) (refusal end syntax)) (λ _ r. followed r (read.operand end bytes r) (λ high q. Ok (between_of begin x low high t.token.start, 0)))
      b m c rest tt (between_of begin x low high t.token.start) e' (expect_reads end is_and syntax m (c ++ rest) w)
      (last_reads (read.operand end bytes) (λ high. between_of begin x low high t.token.start) c rest high (operand_reads end bytes c rest high q f)))

  module _ (ns : Nest) (d : Deeper) (below : CompleteBelow end bytes ns d) where
    listed_reads : {A : Type 0} (Part : A → Tokens → Type 0) (Follow : Kind → Type 0) (part : Tokens → Read A) → Completes Part Follow part → ((k : Kind) → is_comma k ≡ true → Follow k)
        → ((k : Kind) → is_close k ≡ true → Follow k) → (a rest : Tokens) (xs : List A) → d.room → Parens (Listed Part) xs a → read.listed end bytes ns part (a ++ rest) ≡ Ok (xs, length a)
    unfolding read.listed
    listed_reads Part Follow part complete joint close a rest xs room p =
        let here = below.room room in
        rw here (within_reads (Listed Part) (list part) (λ _. refusal end syntax) a rest xs p
        (λ b l ys q c. list_reads Part Follow part complete joint b l ys q (close (kind l) c) (ap is_comma (close_is (kind l) c))))

    values_reads : (at : ℕ) (k : ColumnName) (word : ℕ) (a rest : Tokens) (vs : List Value) → spec.Values end bytes d vs a
        → read.values end bytes ns at k word (a ++ rest) ≡ Ok (in_list at k vs word, length a)
    unfolding read.values
    values_reads at k word a rest vs (room, p) =
        last_reads (read.listed end bytes ns (read.literal end bytes)) (λ vs. in_list at k vs word) a rest vs
        (listed_reads (AnyLiteral end bytes) (λ k. Unit {0}) (read.literal end bytes) (literal_reads end bytes) (λ k h. tt) (λ k h. tt) a rest vs room p)

    -- the parenthesis before a list of literals is no query
    values_open : (a rest : Tokens) (vs : List Value) → spec.Values end bytes d vs a → (is_open (kind (a ++ rest)) ≡ true) × (is_select (kind (drop 1 (a ++ rest))) ≡ false)
    values_open a rest vs (room, (o, c, e, (t, e', opens), (b, l, e'', (y, ys, (v, w, e3, lit, more), is), q))) =
        let whole : a ≡ t ∷ (v ++ (w ++ l)) = e ∙ (λ i. e' i ++ (e'' ∙ ap (λ z. z ++ l) e3 ∙ append_assoc v w l) i) in (
          ap (λ z. is_open (kind (z ++ rest))) whole ∙ opens,
          ap (λ z. is_select (kind (drop 1 (z ++ rest)))) whole ∙ ap (λ z. is_select (kind z)) (append_assoc v (w ++ l) rest) ∙ literal_first v ((w ++ l) ++ rest) lit,
        )
      where
        literal_first : {y : Value} (v l : Tokens) → AnyLiteral end bytes y v → is_select (kind (v ++ l)) ≡ false
        literal_first v l (at, inl (n, (t, e, (k, ate)), r, r2)) = ap (λ z. is_select (kind (z ++ l))) e ∙ ap is_select k
        literal_first v l (at, inr (inl (t, e, (k, r, r2)))) = ap (λ z. is_select (kind (z ++ l))) e ∙ ap is_select k
        literal_first v l (at, inr (inr (n, (b, c, e, (t, e', (k, ate)), q), r, r2))) = ap (λ z. is_select (kind (z ++ l))) (e ∙ ap (λ z. z ++ c) e') ∙ ap is_select k

    front_of : (P : Lexeme → Type 0) (c : Tokens) (a rest : Tokens) (Q : Tokens → Type 0) → ((t : Lexeme) → P t → Front t.kind) → Seq (One P) Q a → Front (kind (a ++ rest))
    front_of P c a rest Q f (m, b, e, (t, e', p), q) = subst (λ l. Front (kind (l ++ rest))) (sym (e ∙ ap (λ z. z ++ b) e')) (f t p)

    tail_front : (at : ℕ) (x : Scalar) (c : CondTree) (a rest : Tokens) → spec.Tail end bytes d at x c a → Front (kind (a ++ rest))
    tail_front at x c a rest (inl (w, y, word, p, ce)) = front_of _ [] a rest _ (λ t p. cmp_front t.kind w p.0) p
    tail_front at x c a rest (inr (inl (word, low, high, p, ce))) = front_of _ [] a rest _ (λ t p. between_front t.kind p.0) p
    tail_front at x c a rest (inr (inr (inl (e, p, ce)))) = front_of _ [] a rest _ (λ t p. not_front t.kind p) p
    tail_front at x c a rest (inr (inr (inr (k, xe, inl (p, ce))))) = front_of _ [] a rest _ (λ t p. is_front t.kind p) p
    tail_front at x c a rest (inr (inr (inr (k, xe, inr (inl (p, ce)))))) = front_of _ [] a rest _ (λ t p. is_front t.kind p) p
    tail_front at x c a rest (inr (inr (inr (k, xe, inr (inr (inl (vs, word, p, ce))))))) = front_of _ [] a rest _ (λ t p. in_front t.kind p.0) p
    tail_front at x c a rest (inr (inr (inr (k, xe, inr (inr (inr (inl (vs, word, p, ce)))))))) = front_of _ [] a rest _ (λ t p. not_front t.kind p) p
    tail_front at x c a rest (inr (inr (inr (k, xe, inr (inr (inr (inr (q, word, p, ce)))))))) = front_of _ [] a rest _ (λ t p. in_front t.kind p.0) p

    of_column_reads : (begin : ℕ) (k : ColumnName) (c : CondTree) (a rest : Tokens) → spec.OfColumn end bytes d begin k c a → read.after_operand end bytes ns begin (scalar.Column k) (a ++ rest) ≡ Ok (c, length a)
    unfolding read.after_operand read.is_part read.in_part read.not_in_part read.after_not read.subquery
    of_column_reads begin k c a rest (inl ((m, b, e, (t, e1, is), (u, e2, null)), ce)) =
        let nb = ap is_between (in_is_word t.kind is) in
        let nn = ap is_not (in_is_word t.kind is) in
        let un = ap is_not (null_word_is u.kind null) in
        subst (λ l. read.after_operand end bytes ns begin (scalar.Column k) (l ++ rest) ≡ Ok (c, length l)) (sym (e ∙ (λ i. e1 i ++ e2 i)))
        (rw (nb, nn, is, un) (plus_one _ (is_null begin k) 1
        (last_reads (expect (at is_null_word) (refusal end syntax)) (λ _. is_null begin k) (u ∷ []) rest tt (expect_reads end is_null_word syntax (u ∷ []) rest (u, refl, null))) ∙ ap (λ z. Ok (z, 2)) (sym ce)))
    of_column_reads begin k c a rest (inr (inl ((m, b, e, (t, e1, is), (n, b', e', (u, e2, no_w), (v, e3, null))), ce))) =
        let nb = ap is_between (in_is_word t.kind is) in
        let nn = ap is_not (in_is_word t.kind is) in
        subst (λ l. read.after_operand end bytes ns begin (scalar.Column k) (l ++ rest) ≡ Ok (c, length l)) (sym (e ∙ (λ i. e1 i ++ (e' ∙ (λ j. e2 j ++ e3 j)) i)))
        (rw (nb, nn, is, no_w) (plus_one _ (is_not_null begin k) 2 (plus_one _ (is_not_null begin k) 1
        (last_reads (expect (at is_null_word) (refusal end syntax)) (λ _. is_not_null begin k) (v ∷ []) rest tt (expect_reads end is_null_word syntax (v ∷ []) rest (v, refl, null)))) ∙ ap (λ z. Ok (z, 3)) (sym ce)))
    of_column_reads begin k c a rest (inr (inr (inl (vs, word, (m, b, e, (t, e1, (is, wd)), vals), ce)))) =
        let nb = ap is_between (in_is t.kind is) in
        let nn = ap is_not (in_is t.kind is) in
        let ni = ap is_is (in_is t.kind is) in
        let (opens, selects) = values_open b rest vs vals in
        subst (λ l. read.after_operand end bytes ns begin (scalar.Column k) (l ++ rest) ≡ Ok (c, length l)) (sym (e ∙ ap (λ z. z ++ b) e1))
        (rw (nb, nn, ni, is, opens, selects) (plus_one _ (in_list begin k vs t.token.start) (length b) (values_reads begin k t.token.start b rest vs vals)
        ∙ ap (λ z. Ok (z, suc (length b))) (ap (in_list begin k vs) (sym wd) ∙ sym ce)))
    of_column_reads begin k c a rest (inr (inr (inr (inl (vs, word, (m, b, e, (t, e1, is_n), (m2, b2, e2, (u, e3, (is_i, wd)), vals)), ce))))) =
        let nb = ap is_between (not_is t.kind is_n) in
        let ub = ap is_between (in_is u.kind is_i) in
        let (opens, selects) = values_open b2 rest vs vals in
        subst (λ l. read.after_operand end bytes ns begin (scalar.Column k) (l ++ rest) ≡ Ok (c, length l)) (sym (e ∙ (λ i. e1 i ++ (e2 ∙ ap (λ z. z ++ b2) e3) i)))
        (rw (nb, is_n, ub, is_i, opens, selects) (plus_one _ (negated begin (in_list begin k vs u.token.start)) (suc (length b2)) (plus_one _ (negated begin (in_list begin k vs u.token.start)) (length b2)
        (last_reads (read.values end bytes ns begin k u.token.start) (λ x. negated begin x) b2 rest (in_list begin k vs u.token.start) (values_reads begin k u.token.start b2 rest vs vals)))
        ∙ ap (λ z. Ok (z, suc (suc (length b2)))) (ap (λ z. negated begin (in_list begin k vs z)) (sym wd) ∙ sym ce)))
    of_column_reads begin k c a rest (inr (inr (inr (inr (q, word, (m, b, e, (t, e1, (is, wd)), qq), ce))))) =
        let nb = ap is_between (in_is t.kind is) in
        let nn = ap is_not (in_is t.kind is) in
        let ni = ap is_is (in_is t.kind is) in
        let (opens, selects) = below.queries_open q b qq rest in
        subst (λ l. read.after_operand end bytes ns begin (scalar.Column k) (l ++ rest) ≡ Ok (c, length l)) (sym (e ∙ ap (λ z. z ++ b) e1))
        (rw (nb, nn, ni, is, opens, selects) (plus_one _ (in_query begin (k ∷ []) q t.token.start) (length b)
        (last_reads ns.queries (λ q. in_query begin (k ∷ []) q t.token.start) b rest q (below.queries b rest q qq))
        ∙ ap (λ z. Ok (z, suc (length b))) (ap (in_query begin (k ∷ []) q) (sym wd) ∙ sym ce)))

    tail_reads : (at : ℕ) (x : Scalar) (c : CondTree) (a rest : Tokens) → spec.Tail end bytes d at x c a → Plain (kind rest) → read.after_operand end bytes ns at x (a ++ rest) ≡ Ok (c, length a)
    unfolding read.after_operand read.after_not
    tail_reads at x c a rest (inl (w, y, word, (m, b, e, (t, e1, (cmp, wd)), q), ce)) f =
        let (nb, nn, ni, nin, plain) = cmp_tests t.kind w cmp in
        subst (λ l. read.after_operand end bytes ns at x (l ++ rest) ≡ Ok (c, length l)) (sym (e ∙ ap (λ z. z ++ b) e1))
        (rw (nb, nn, ni, nin, cmp) (plus_one _ (compare at w x y t.token.start) (length b)
        (last_reads (read.operand end bytes) (λ y. compare at w x y t.token.start) b rest y (operand_reads end bytes b rest y q f))
        ∙ ap (λ z. Ok (z, suc (length b))) (ap (compare at w x y) (sym wd) ∙ sym ce)))
    tail_reads at x c a rest (inr (inl (word, low, high, (m, b, e, (t, e1, (is, wd)), q), ce))) f =
        subst (λ l. read.after_operand end bytes ns at x (l ++ rest) ≡ Ok (c, length l)) (sym (e ∙ ap (λ z. z ++ b) e1))
        (rw is (plus_one _ (between_of at x low high t.token.start) (length b) (between_reads d at x t b rest low high q f)
        ∙ ap (λ z. Ok (z, suc (length b))) (ap (between_of at x low high) (sym wd) ∙ sym ce)))
    tail_reads at x c a rest (inr (inr (inl (g, (m, b, e, (t, e1, is_n), (word, low, high, (m2, b2, e2, (u, e3, (is, wd)), q), ge)), ce)))) f =
        let nb = ap is_between (not_is t.kind is_n) in
        subst (λ l. read.after_operand end bytes ns at x (l ++ rest) ≡ Ok (c, length l)) (sym (e ∙ (λ i. e1 i ++ (e2 ∙ ap (λ z. z ++ b2) e3) i)))
        (rw (nb, is_n, is) (plus_one _ (negated at (between_of at x low high u.token.start)) (suc (length b2)) (plus_one _ (negated at (between_of at x low high u.token.start)) (length b2)
        (last_reads (read.between end bytes at x u.token.start) (λ y. negated at y) b2 rest (between_of at x low high u.token.start) (between_reads d at x u b2 rest low high q f)))
        ∙ ap (λ z. Ok (z, suc (suc (length b2)))) (ap (λ z. negated at (between_of at x low high z)) (sym wd) ∙ ap (negated at) (sym ge) ∙ sym ce)))
    tail_reads at x c a rest (inr (inr (inr (k, xe, p)))) f =
        subst (λ x. read.after_operand end bytes ns at x (a ++ rest) ≡ Ok (c, length a)) (sym xe) (of_column_reads at k c a rest p)

    subquery_reads : (at : ℕ) (ks : List ColumnName) (word : ℕ) (a rest : Tokens) (q : QueryTree) → d.queries q a → read.subquery end bytes ns at ks word (a ++ rest) ≡ Ok (in_query at ks q word, length a)
    unfolding read.subquery
    subquery_reads at ks word a rest q p = last_reads ns.queries (λ q. in_query at ks q word) a rest q (below.queries a rest q p)

    tuple_reads : (a rest : Tokens) (c : CondTree) → spec.TupleIn end bytes d c a → read.tuple_in end bytes ns (a ++ rest) ≡ Ok (c, length a)
    unfolding read.tuple_in read.after_tuple
    tuple_reads a rest c (ks, q, word, room, (b, l, e, p, (m, l2, e2, (t, e3, (is, wd)), qq)), ce) =
        let behind : l ≡ t ∷ l2 = e2 ∙ ap (λ z. z ++ l2) e3 in
        let (opens, selects) = below.queries_open q l2 qq rest in
        let selects2 : is_select (kind (drop 2 (t ∷ (l2 ++ rest)))) ≡ true = selects in
        let inside : read.after_tuple end bytes ns (place end (a ++ rest)) ks (l ++ rest) ≡ Ok (c, length l) =
        subst (λ l. read.after_tuple end bytes ns (place end (a ++ rest)) ks (l ++ rest) ≡ Ok (c, length l)) (sym behind)
        (rw (is, opens, selects2) (plus_one _ (in_query (place end (a ++ rest)) ks q t.token.start) (length l2) (subquery_reads (place end (a ++ rest)) ks t.token.start l2 rest q qq)
        ∙ ap (λ z. Ok (z, suc (length l2))) ((λ i. in_query (same i) ks q (sym wd i)) ∙ sym ce))) in
        then_reads (read.listed end bytes ns (read.column end bytes)) (λ cs r. read.after_tuple end bytes ns (place end (a ++ rest)) cs r) a b l rest ks c e
        (listed_reads (Column end bytes) (λ k. (is_dot k ≡ false) × (is_open k ≡ false)) (read.column end bytes) (column_reads end bytes)
        (λ k h. let f = comma_plain k h in (f.not_dot, f.not_open)) (λ k h. let f = close_plain k h in (f.not_dot, f.not_open)) b (l ++ rest) ks room p)
        inside
      where
        same : place end (a ++ rest) ≡ place end a
        same = let (o, b1, e1, (t, e4, w), r) = p in
            let whole : a ≡ t ∷ (b1 ++ l) = e ∙ ap (λ z. z ++ l) (e1 ∙ ap (λ z. z ++ b1) e4) in
            ap (λ z. place end (z ++ rest)) whole ∙ ap (place end) (sym whole)

    basic_reads : (a rest : Tokens) (c : CondTree) → spec.Basic end bytes d c a → Plain (kind rest) → read.basic end bytes ns (a ++ rest) ≡ Ok (c, length a)
    unfolding read.basic
    basic_reads a rest c (inl (x, (b, l, e, p, q))) f =
        let front = tail_front (place end a) x c l rest q in
        let (closed, others) = opened_not x b (l ++ rest) p front in
        let whole = ap (λ z. z ++ rest) e ∙ append_assoc b l rest in
        let no_open = ap (λ z. is_open (kind z)) whole ∙ closed in
        let same : place end a ≡ place end (a ++ rest) =
        let (t, r, g) = operand_there end bytes x b p in
        let first : a ≡ t ∷ (r ++ l) = e ∙ ap (λ z. z ++ l) g in
        ap (place end) first ∙ ap (λ z. place end (z ++ rest)) (sym first) in
        rw no_open (then_reads (read.operand end bytes) (λ x r. read.after_operand end bytes ns (place end (a ++ rest)) x r) a b l rest x c e
        (operand_reads end bytes b (l ++ rest) x p front.plain)
        (subst (λ n. read.after_operand end bytes ns n x (l ++ rest) ≡ Ok (c, length l)) same (tail_reads (place end a) x c l rest q f)))
      where
        opened_not : (x : Scalar) (b l : Tokens) → Operand end bytes x b → Front (kind l) → (is_open (kind (b ++ l)) ≡ false) × Unit {0}
        opened_not x b l p f = ((operand_front end bytes x b l p f).0, tt)
    basic_reads a rest c (inr (inl p)) f =
        let (opens, selects, tuple) = tuple_front p in
        rw (opens, selects, tuple) (tuple_reads a rest c p)
      where
        tuple_front : spec.TupleIn end bytes d c a → (is_open (kind (a ++ rest)) ≡ true) × (is_select (kind (drop 1 (a ++ rest))) ≡ false) × (opens_tuple (a ++ rest) ≡ true)
        tuple_front (ks, q, word, room, (b, l, e, p, (m, l2, e2, (t, e3, (is, wd)), qq)), ce) =
            let whole = ap (λ z. z ++ rest) e ∙ append_assoc b l rest in
            let here : in_follows (l ++ rest) ≡ true = ap (λ z. in_follows (z ++ rest)) (e2 ∙ ap (λ z. z ++ l2) e3) ∙ ap (λ b. b || (is_not t.kind && is_in (kind (l2 ++ rest)))) is in
            let (o, s, u) = tuple_opens end bytes ks b (l ++ rest) p here in
            (ap (λ z. is_open (kind z)) whole ∙ o, ap (λ z. is_select (kind (drop 1 z))) whole ∙ s, ap opens_tuple whole ∙ u)
    basic_reads a rest c (inr (inr p)) f =
        let (opens, selects, tuple) = below.conds_open c a p rest in
        rw (opens, selects, tuple) (below.conds a rest c p)

    -- how a condition begins
    basic_front : (a rest : Tokens) (c : CondTree) → spec.Basic end bytes d c a
        → (is_not (kind (a ++ rest)) ≡ false) × (is_select (kind (a ++ rest)) ≡ false) × (passes before_column (a ++ rest) ≡ false)
    basic_front a rest c (inl (x, (b, l, e, p, q))) =
        let (o, n, s, t) = operand_front end bytes x b (l ++ rest) p (tail_front (place end a) x c l rest q) in
        let whole = ap (λ z. z ++ rest) e ∙ append_assoc b l rest in
        (ap (λ z. is_not (kind z)) whole ∙ n, ap (λ z. is_select (kind z)) whole ∙ s, ap (passes before_column) whole ∙ t)
    basic_front a rest c (inr (inl (ks, q, word, room, (b, l, e, (m, b1, e1, (t, e2, opens), r), s), ce))) =
        let first = ap (λ z. kind (z ++ rest)) (e ∙ ap (λ z. z ++ l) (e1 ∙ ap (λ z. z ++ b1) e2)) ∙ open_is t.kind opens in
        (ap is_not first, ap is_select first, no_tuple (a ++ rest) (ap (next_stage before_column) first))
    basic_front a rest c (inr (inr p)) =
        let first = open_is (kind (a ++ rest)) (below.conds_open c a p rest).0 in
        (ap is_not first, ap is_select first, no_tuple (a ++ rest) (ap (next_stage before_column) first))

    pub neg_reads : Completes (spec.Neg end bytes d) Plain (read.neg end bytes ns)
    unfolding read.neg
    neg_reads a rest c (inl p) f =
        let (t, r, e, is) = below.negs_not c a p in
        let first = ap (λ z. is_not (kind (z ++ rest))) e ∙ is in
        rw first (below.negs a rest c p f)
    neg_reads a rest c (inr p) f =
        let first = basic_front a rest c p in
        rw first.0 (basic_reads a rest c p f)

    pub cond_reads : Completes (spec.Cond end bytes d) EndsCond (read.cond end bytes ns)
    unfolding read.cond read.conj
    cond_reads a rest c p f =
        run_reads is_or any_of (spec.Conj end bytes d) (λ k. Plain k × (is_and k ≡ false)) (read.conj end bytes ns)
        (λ b l x q g. run_reads is_and all_of (spec.Neg end bytes d) Plain (read.neg end bytes ns) neg_reads and_plain b l x q g.0 g.1)
        (λ k h. (or_plain k h, or_not_and k h)) a rest c p (f.plain, f.not_and) f.not_or

    -- how a condition begins
    pub cond_front : (a rest : Tokens) (c : CondTree) → spec.Cond end bytes d c a → (is_select (kind (a ++ rest)) ≡ false) × (passes before_column (a ++ rest) ≡ false)
    cond_front a rest c (x, xs, (b, l, e, (y, ys, (b2, l2, e2, p, more2), is2), more), is) =
        let whole : a ++ rest ≡ b2 ++ (l2 ++ (l ++ rest)) =
        ap (λ z. z ++ rest) e ∙ append_assoc b l rest ∙ ap (λ z. z ++ (l ++ rest)) e2 ∙ append_assoc b2 l2 (l ++ rest) in
        let (s, t) = neg_front b2 (l2 ++ (l ++ rest)) y p in
        (ap (λ z. is_select (kind z)) whole ∙ s, ap (passes before_column) whole ∙ t)
      where
        neg_front : (b l : Tokens) (y : CondTree) → spec.Neg end bytes d y b → (is_select (kind (b ++ l)) ≡ false) × (passes before_column (b ++ l) ≡ false)
        neg_front b l y (inl p) =
            let (t, r, e, is) = below.negs_not y b p in
            let first = ap (λ z. kind (z ++ l)) e ∙ not_is t.kind is in
            (ap is_select first, no_tuple (b ++ l) (ap (next_stage before_column) first))
        neg_front b l y (inr p) = let (n, s, t) = basic_front b l y p in (s, t)

    -- ---- FROM

    columns_reads : (a rest : Tokens) (o : Option (List (List ℕ))) → spec.Columns end bytes d o a → is_open (kind rest) ≡ false → read.columns end bytes ns (a ++ rest) ≡ Ok (o, length a)
    unfolding read.columns
    columns_reads a rest o (inl (e, oe)) f =
        subst (λ l. read.columns end bytes ns (l ++ rest) ≡ Ok (o, length l)) (sym e) (rw f (ap (λ z. Ok (z, 0)) (sym oe)))
    columns_reads a rest o (inr (xs, room, p, oe)) f =
        let first : is_open (kind (a ++ rest)) ≡ true = let (m, b, e, (t, e1, is), r) = p in ap (λ z. is_open (kind (z ++ rest))) (e ∙ ap (λ z. z ++ b) e1) ∙ is in
        rw first (last_reads (read.listed end bytes ns (read.name end bytes)) (λ xs. Some xs) a rest xs
        (listed_reads (spec.Name end bytes) (λ k. is_open k ≡ false) (read.name end bytes) (any_name_reads end bytes) (λ k h. (comma_plain k h).not_open) (λ k h. (close_plain k h).not_open) a rest xs room p)
        ∙ ap (λ z. Ok (z, length a)) (sym oe))

    bare_reads : (a rest : Tokens) (n : List ℕ) (at : ℕ) → spec.NameAt end bytes n at a → read.bare_name end bytes (a ++ rest) ≡ Ok ((n, at), length a)
    unfolding read.bare_name read.name_at
    bare_reads a rest n at (t, e, (is, ne, ate)) =
        subst (λ l. read.bare_name end bytes (l ++ rest) ≡ Ok ((n, at), length l)) (sym e) (rw is (λ i. Ok ((sym ne i, sym ate i), 1)))

    derived_name_reads : (a rest : Tokens) (n : List ℕ) (at : ℕ) → Named end bytes n at a → read.derived_name end bytes (a ++ rest) ≡ Ok ((n, at), length a)
    unfolding read.derived_name
    derived_name_reads a rest n at (inl p) =
        let (t, e, (is, w)) = name_token p in
        let first = ap (λ z. is_as (kind (z ++ rest))) e ∙ ap is_as (name_is t.kind is) in
        rw first (bare_reads a rest n at p)
      where
        name_token : spec.NameAt end bytes n at a → (t : Lexeme) × (a ≡ t ∷ []) × ((is_name t.kind ≡ true) × Unit {0})
        name_token (t, e, (is, w, w1)) = (t, e, (is, tt))
    derived_name_reads a rest n at (inr (m, b, e, (t, e1, is), p)) =
        subst (λ l. read.derived_name end bytes (l ++ rest) ≡ Ok ((n, at), length l)) (sym (e ∙ ap (λ z. z ++ b) e1)) (rw is (plus_one _ (n, at) (length b) (bare_reads b rest n at p)))

    derived_reads : (a rest : Tokens) (f : FromTree) → spec.Derived end bytes d f a → Plain (kind rest) → read.derived_part end bytes ns (a ++ rest) ≡ Ok (f, length a)
    unfolding read.derived_part
    derived_reads a rest f (q, n, at, o, (b, l, e, p, (b2, l2, e2, nm, cols)), fe) g =
        let same : place end (a ++ rest) ≡ place end a =
        let (t, r, e3) = below.queries_there q b p in
        let first : a ≡ t ∷ (r ++ l) = e ∙ ap (λ z. z ++ l) e3 in
        ap (λ z. place end (z ++ rest)) first ∙ ap (place end) (sym first) in
        then_reads ns.queries (λ q r. followed r (read.derived_name end bytes r) (λ n s. followed s (read.columns end bytes ns s) (λ cs u. Ok (derived q n.0 cs (place end (a ++ rest)) n.1, 0)))) a b l rest q f e
        (below.queries b (l ++ rest) q p)
        (then_reads (read.derived_name end bytes) (λ n s. followed s (read.columns end bytes ns s) (λ cs u. Ok (derived q n.0 cs (place end (a ++ rest)) n.1, 0))) l b2 l2 rest (n, at) f e2
        (derived_name_reads b2 (l2 ++ rest) n at nm)
        (last_reads (read.columns end bytes ns) (λ cs. derived q n cs (place end (a ++ rest)) at) l2 rest o (columns_reads l2 rest o cols g.not_open)
        ∙ ap (λ z. Ok (z, length l2)) (ap (λ z. derived q n o z at) same ∙ sym fe)))

    alias_closed : (b rest : Tokens) (o : Option (List ℕ × ℕ)) → Alias end bytes o b → Plain (kind rest) → is_open (kind (b ++ rest)) ≡ false
    alias_closed b rest o (inl (e, oe)) f = ap (λ l. is_open (kind (l ++ rest))) e ∙ f.not_open
    alias_closed b rest o (inr (n, at, inl (t, e, (is, w, w1)), oe)) f = ap (λ l. is_open (kind (l ++ rest))) e ∙ ap is_open (name_is t.kind is)
    alias_closed b rest o (inr (n, at, inr (c, l, e, (t, e', is), q), oe)) f = ap (λ l. is_open (kind (l ++ rest))) (e ∙ ap (λ z. z ++ l) e') ∙ ap is_open (as_is t.kind is)

    table_reads : (a rest : Tokens) (f : FromTree) → spec.Table end bytes d f a → Plain (kind rest) → (read.table_part end bytes (a ++ rest) ≡ Ok (f, length a)) × (is_name (kind (a ++ rest)) ≡ true)
    unfolding read.table_part
    table_reads a rest f (n, at, o, (b, l, e, (t, e1, (is, ne, ate)), q), fe) g =
        let same : place end (a ++ rest) ≡ at = ap (λ z. place end (z ++ rest)) (e ∙ ap (λ z. z ++ l) e1) ∙ sym ate in (
          then_reads (read.name end bytes) (λ n r. followed r (read.alias end bytes r) (λ o s. Ok (table n (name_only o) (place end (a ++ rest)) (place_or o (place end (a ++ rest))), 0))) a b l rest n f e
              (name_reads end bytes b (l ++ rest) n at (t, e1, (is, ne, ate)) (alias_closed l rest o q g))
              (last_reads (read.alias end bytes) (λ o. table n (name_only o) (place end (a ++ rest)) (place_or o (place end (a ++ rest)))) l rest o (alias_reads end bytes l rest o q g)
              ∙ ap (λ z. Ok (z, length l)) (ap (λ z. table n (name_only o) z (place_or o z)) same ∙ sym fe)),
          ap (λ z. is_name (kind (z ++ rest))) (e ∙ ap (λ z. z ++ l) e1) ∙ is,
        )

    primary_reads : Completes (spec.Primary end bytes d) Plain (read.primary end bytes ns)
    unfolding read.primary
    primary_reads a rest f (inl p) g = let (r, is) = table_reads a rest f p g in rw is r
    primary_reads a rest f (inr (inl p)) g =
        let (opens, selects) = derived_front p in
        let no_name = ap is_name (open_is (kind (a ++ rest)) opens) in
        rw (no_name, opens, selects) (derived_reads a rest f p g)
      where
        derived_front : spec.Derived end bytes d f a → (is_open (kind (a ++ rest)) ≡ true) × (is_select (kind (drop 1 (a ++ rest))) ≡ true)
        derived_front (q, n, at, o, (b, l, e, p, r), fe) =
            let whole = ap (λ z. z ++ rest) e ∙ append_assoc b l rest in
            let (o, s) = below.queries_open q b p (l ++ rest) in
            (ap (λ z. is_open (kind z)) whole ∙ o, ap (λ z. is_select (kind (drop 1 z))) whole ∙ s)
    primary_reads a rest f (inr (inr p)) g =
        let (opens, selects) = below.froms_open f a p rest in
        let no_name = ap is_name (open_is (kind (a ++ rest)) opens) in
        rw (no_name, opens, selects) (below.froms a rest f p)

    -- a FROM item does not begin with SELECT
    primary_front : (f : FromTree) (a rest : Tokens) → spec.Primary end bytes d f a → is_select (kind (a ++ rest)) ≡ false
    primary_front f a rest (inl (n, at, o, (b, l, e, (t, e1, (is, w, w1)), q), fe)) = ap (λ z. is_select (kind (z ++ rest))) (e ∙ ap (λ z. z ++ l) e1) ∙ ap is_select (name_is t.kind is)
    primary_front f a rest (inr (inl (q, n, at, o, (b, l, e, p, r), fe))) =
        ap (λ z. is_select (kind z)) (ap (λ z. z ++ rest) e ∙ append_assoc b l rest) ∙ ap is_select (open_is (kind (b ++ (l ++ rest))) (below.queries_open q b p (l ++ rest)).0)
    primary_front f a rest (inr (inr p)) = ap is_select (open_is (kind (a ++ rest)) (below.froms_open f a p rest).0)

    -- the word JOIN, and what it makes
    join_word : (k : JoinKind) (l rest : Tokens) → Is is_join l → followed (l ++ rest) (expect (at is_join) (refusal end syntax) (l ++ rest)) (λ _ r. Ok (k, 0)) ≡ Ok (k, length l)
    join_word k l rest p = last_reads (expect (at is_join) (refusal end syntax)) (λ _. k) l rest tt (expect_reads end is_join syntax l rest p)

    -- LEFT or RIGHT, OUTER if it is written, and JOIN
    outer_reads : (side : Kind → Bool) (k : JoinKind) (a rest : Tokens) → spec.Outer end bytes d side a
        → (side (kind (a ++ rest)) ≡ true) × (plus 1 (read.outer_join end k (drop 1 (a ++ rest))) ≡ Ok (k, length a))
    unfolding read.outer_join
    outer_reads side k a rest (inl (m, b, e, (t, e1, is), (u, e2, ju))) =
        let no_outer = ap is_outer (join_is u.kind ju) in
        let whole = e ∙ (λ i. e1 i ++ e2 i) in (
          ap (λ z. side (kind (z ++ rest))) whole ∙ is,
          subst (λ l. plus 1 (read.outer_join end k (drop 1 (l ++ rest))) ≡ Ok (k, length l)) (sym whole)
              (rw no_outer (plus_one _ k 1 (join_word k (u ∷ []) rest (u, refl, ju)))),
        )
    outer_reads side k a rest (inr (m, b, e, (t, e1, is), (m2, b2, e2, (u, e3, out), q))) =
        let whole = e ∙ (λ i. e1 i ++ (e2 ∙ ap (λ z. z ++ b2) e3) i) in (
          ap (λ z. side (kind (z ++ rest))) whole ∙ is,
          subst (λ l. plus 1 (read.outer_join end k (drop 1 (l ++ rest))) ≡ Ok (k, length l)) (sym whole)
              (rw out (plus_one _ k (suc (length b2)) (plus_one _ k (length b2) (join_word k b2 rest q)))),
        )

    words_reads : (a rest : Tokens) (k : JoinKind) → spec.JoinWords end bytes d k a → (read.join_words end (a ++ rest) ≡ Ok (k, length a)) × (begins_join (kind (a ++ rest)) ≡ true)
    unfolding read.join_words
    words_reads a rest k (inl ((t, e, is), ke)) = (
      subst (λ l. read.join_words end (l ++ rest) ≡ Ok (k, length l)) (sym e) (rw is (ap (λ z. Ok (z, 1)) (sym ke))),
      ap (λ z. begins_join (kind (z ++ rest))) e ∙ ap begins_join (join_is t.kind is),
    )
    words_reads a rest k (inr (inl ((m, b, e, (t, e1, is), q), ke))) =
        let nj = ap is_join (inner_is t.kind is) in (
          subst (λ l. read.join_words end (l ++ rest) ≡ Ok (k, length l)) (sym (e ∙ ap (λ z. z ++ b) e1))
              (rw (nj, is) (plus_one _ joining.Inner (length b) (join_word joining.Inner b rest q) ∙ ap (λ z. Ok (z, suc (length b))) (sym ke))),
          ap (λ z. begins_join (kind (z ++ rest))) (e ∙ ap (λ z. z ++ b) e1) ∙ ap begins_join (inner_is t.kind is),
        )
    words_reads a rest k (inr (inr (inl (p, ke)))) =
        let (is, read) = outer_reads is_left joining.Left a rest p in
        let first = left_is (kind (a ++ rest)) is in
        let nj = ap is_join first in
        let ni = ap is_inner first in
        (rw (nj, ni, is) (read ∙ ap (λ z. Ok (z, length a)) (sym ke)), ap begins_join first)
    words_reads a rest k (inr (inr (inr (p, ke)))) =
        let (is, read) = outer_reads is_right joining.Right a rest p in
        let first = right_is (kind (a ++ rest)) is in
        let nj = ap is_join first in
        let ni = ap is_inner first in
        let nl = ap is_left first in
        (rw (nj, ni, nl) (read ∙ ap (λ z. Ok (z, length a)) (sym ke)), ap begins_join first)

    join_reads : (inside : Bool) (g : FromTree) (a rest : Tokens) (f : FromTree) → spec.Join end bytes d g f a → EndsCond (kind rest)
        → (read.join end bytes ns inside g (a ++ rest) ≡ Ok (f, length a)) × (begins_join (kind (a ++ rest)) ≡ true)
    unfolding read.join
    join_reads inside g a rest f (k, h, on, c, (b, l, e, w, (b1, l1, e1, p, (b2, l2, e2, (t, e3, (is, ate)), q))), fe) z =
        let (words, begins) = words_reads b (l ++ rest) k w in
        let whole = ap (λ y. y ++ rest) e ∙ append_assoc b l rest in
        let on_next : Plain (kind (l1 ++ rest)) = subst (λ y. Plain (kind (y ++ rest))) (sym (e2 ∙ ap (λ y. y ++ l2) e3)) (on_plain t.kind is) in
        let same : place end (l1 ++ rest) ≡ on = ap (λ y. place end (y ++ rest)) (e2 ∙ ap (λ y. y ++ l2) e3) ∙ sym ate in (
          then_reads (read.join_words end) (λ k r. followed r (read.primary end bytes ns r) (λ b s. followed s (expect (at is_on) (refusal end (no_join inside)) s) (λ _ u. followed u (read.cond end bytes ns u) (λ c v. Ok (join_of k g b c (place end s), 0)))))
              a b l rest k f e words
              (then_reads (read.primary end bytes ns) (λ b s. followed s (expect (at is_on) (refusal end (no_join inside)) s) (λ _ u. followed u (read.cond end bytes ns u) (λ c v. Ok (join_of k g b c (place end s), 0))))
              l b1 l1 rest h f e1 (primary_reads b1 (l1 ++ rest) h p on_next)
              (then_reads (expect (at is_on) (refusal end (no_join inside))) (λ _ u. followed u (read.cond end bytes ns u) (λ c v. Ok (join_of k g h c (place end (l1 ++ rest)), 0)))
              l1 b2 l2 rest tt f e2 (expect_reads end is_on (no_join inside) b2 (l2 ++ rest) (t, e3, is))
              (last_reads (read.cond end bytes ns) (λ c. join_of k g h c (place end (l1 ++ rest))) l2 rest c (cond_reads l2 rest c q z)
              ∙ ap (λ y. Ok (y, length l2)) (ap (join_of k g h c) same ∙ sym fe)))),
          ap (λ y. begins_join (kind y)) whole ∙ begins,
        )

    join_some : (g f : FromTree) (b : Tokens) → spec.Join end bytes d g f b → 1 ≤ length b
    join_some g f b (k, x, on, c, p, he) = let (t, r, e) = some_seq _ _ (words_there k) b p in omega (arith, ap length e)
      where
        outer_there : (side : Kind → Bool) (l : Tokens) → spec.Outer end bytes d side l → There l
        outer_there side l (inl p) = some_seq _ _ (λ b y. some_one _ b y) l p
        outer_there side l (inr p) = some_seq _ _ (λ b y. some_one _ b y) l p

        words_there : (k : JoinKind) (l : Tokens) → spec.JoinWords end bytes d k l → There l
        words_there k l (inl (p, e)) = some_one _ l p
        words_there k l (inr (inl (p, e))) = some_seq _ _ (λ b y. some_one _ b y) l p
        words_there k l (inr (inr (inl (p, e)))) = outer_there is_left l p
        words_there k l (inr (inr (inr (p, e)))) = outer_there is_right l p

    join_begins : (g f : FromTree) (b rest : Tokens) → spec.Join end bytes d g f b → begins_join (kind (b ++ rest)) ≡ true
    join_begins g f b rest (k, x, on, c, (b1, l1, e, w, r), he) =
        ap (λ y. begins_join (kind y)) (ap (λ y. y ++ rest) e ∙ append_assoc b1 l1 rest) ∙ (words_reads b1 (l1 ++ rest) k w).1

    joined_front_from : (m : ℕ) (g f : FromTree) (a rest : Tokens) → Chain (spec.Join end bytes d) m g f a → EndsFrom (kind rest) → EndsCond (kind (a ++ rest))
    joined_front_from m g f a rest q z =
        chain_front begins_join refl (spec.Join end bytes d) (read.join end bytes ns false) EndsCond join_begins (λ a f b rest s z. (join_reads false a b rest f s z).0) join_some joins_cond m g f a rest q z.cond

    pub joined_reads : (inside : Bool) → Completes (spec.Joined end bytes d) EndsFrom (read.joined end bytes ns inside)
    unfolding read.joined
    joined_reads inside a rest f (g, m, (b, l, e, p, q)) z =
        then_reads (read.primary end bytes ns) (λ g r. repeat (at begins_join) (read.join end bytes ns inside) 0 g r) a b l rest g f e
        (primary_reads b (l ++ rest) g p (joined_front_from m g f l rest q z).plain)
        (chain_reads begins_join refl (spec.Join end bytes d) (read.join end bytes ns inside) EndsCond join_begins (λ a f b rest s z. (join_reads inside a b rest f s z).0) join_some joins_cond m g f l rest q z.cond z.not_join)

    pub joined_front : (f : FromTree) (a rest : Tokens) → spec.Joined end bytes d f a → is_select (kind (a ++ rest)) ≡ false
    joined_front f a rest (g, m, (b, l, e, p, q)) = ap (λ z. is_select (kind z)) (ap (λ z. z ++ rest) e ∙ append_assoc b l rest) ∙ primary_front g b (l ++ rest) p

    -- a comma and a chain of joins
    listed_part_reads : (g f : FromTree) (a rest : Tokens) → spec.ListedPart end bytes d g f a → EndsFrom (kind rest) → read.listed_part end bytes ns g (a ++ rest) ≡ Ok (f, length a)
    unfolding read.listed_part
    listed_part_reads g f a rest (h, at, (m, b, e, (t, e1, (is, ate)), p), fe) z =
        subst (λ l. read.listed_part end bytes ns g (l ++ rest) ≡ Ok (f, length l)) (sym (e ∙ ap (λ y. y ++ b) e1))
        (plus_one _ (comma g h t.token.start) (length b) (last_reads (read.joined end bytes ns false) (λ b. comma g b t.token.start) b rest h (joined_reads false b rest h p z))
        ∙ ap (λ y. Ok (y, suc (length b))) (ap (comma g h) (sym ate) ∙ sym fe))

    listed_part_begins : (g f : FromTree) (b rest : Tokens) → spec.ListedPart end bytes d g f b → is_comma (kind (b ++ rest)) ≡ true
    listed_part_begins g f b rest (h, at, (m, c, e, (t, e1, (is, ate)), p), fe) = ap (λ y. is_comma (kind (y ++ rest))) (e ∙ ap (λ y. y ++ c) e1) ∙ is

    listed_part_some : (g f : FromTree) (b : Tokens) → spec.ListedPart end bytes d g f b → 1 ≤ length b
    listed_part_some g f b (h, at, p, fe) = let (t, r, e) = some_seq _ _ (λ c y. some_one _ c y) b p in omega (arith, ap length e)

    pub from_list_reads : Completes (spec.FromList end bytes d) EndsList (read.from_list end bytes ns)
    unfolding read.from_list
    from_list_reads a rest f (g, m, (b, l, e, p, q)) z =
        let next = chain_front is_comma refl (spec.ListedPart end bytes d) (read.listed_part end bytes ns) EndsFrom listed_part_begins listed_part_reads listed_part_some comma_from m g f l rest q z.from in
        then_reads (read.joined end bytes ns false) (λ g r. repeat (at is_comma) (read.listed_part end bytes ns) 0 g r) a b l rest g f e
        (joined_reads false b (l ++ rest) g p next)
        (chain_reads is_comma refl (spec.ListedPart end bytes d) (read.listed_part end bytes ns) EndsFrom listed_part_begins listed_part_reads listed_part_some comma_from m g f l rest q z.from z.not_comma)

    -- ---- queries

    filter_reads : (a rest : Tokens) (w : FilterTree) → spec.Filter end bytes d w a → EndsQuery (kind rest) → read.filter end bytes ns (a ++ rest) ≡ Ok (w, length a)
    unfolding read.filter
    filter_reads a rest w (inl (e, we)) z =
        let none = z.not_where in
        subst (λ l. read.filter end bytes ns (l ++ rest) ≡ Ok (w, length l)) (sym e) (rw none (ap (λ y. Ok (y, 0)) (sym we)))
    filter_reads a rest w (inr (c, (m, b, e, (t, e1, is), q), we)) z =
        subst (λ l. read.filter end bytes ns (l ++ rest) ≡ Ok (w, length l)) (sym (e ∙ ap (λ y. y ++ b) e1))
        (rw is (plus_one _ (filter_by c) (length b) (last_reads (read.cond end bytes ns) (λ c. filter_by c) b rest c (cond_reads b rest c q z.list.from.cond))
        ∙ ap (λ y. Ok (y, suc (length b))) (sym we)))

    filter_front : (a rest : Tokens) (w : FilterTree) → spec.Filter end bytes d w a → EndsQuery (kind rest) → EndsList (kind (a ++ rest))
    filter_front a rest w (inl (e, we)) z = subst (λ l. EndsList (kind (l ++ rest))) (sym e) z.list
    filter_front a rest w (inr (c, (m, b, e, (t, e1, is), q), we)) z = subst (λ l. EndsList (kind (l ++ rest))) (sym (e ∙ ap (λ y. y ++ b) e1)) (where_list t.kind is)

    quantifier_reads : (a rest : Tokens) (b : Bool) → spec.Quantifier end bytes d b a → is_distinct (kind rest) ≡ false → is_all (kind rest) ≡ false → read.quantifier (a ++ rest) ≡ Ok (b, length a)
    unfolding read.quantifier
    quantifier_reads a rest b (inl (e, be)) nd na = subst (λ l. read.quantifier (l ++ rest) ≡ Ok (b, length l)) (sym e) (rw (nd, na) (ap (λ y. Ok (y, 0)) (sym be)))
    quantifier_reads a rest b (inr (inl ((t, e, is), be))) nd na =
        let nds = ap is_distinct (all_is t.kind is) in
        subst (λ l. read.quantifier (l ++ rest) ≡ Ok (b, length l)) (sym e) (rw (nds, is) (ap (λ y. Ok (y, 1)) (sym be)))
    quantifier_reads a rest b (inr (inr ((t, e, is), be))) nd na =
        subst (λ l. read.quantifier (l ++ rest) ≡ Ok (b, length l)) (sym e) (rw is (ap (λ y. Ok (y, 1)) (sym be)))

    items_front : (xs : List Item) (a rest : Tokens) → Listed (IsItem end bytes) xs a → (is_distinct (kind (a ++ rest)) ≡ false) × (is_all (kind (a ++ rest)) ≡ false)
    items_front xs a rest (y, ys, (b, l, e, p, more), is) =
        let whole = ap (λ z. z ++ rest) e ∙ append_assoc b l rest in
        let (dd, aa) = item_front y b (l ++ rest) p in
        (ap (λ z. is_distinct (kind z)) whole ∙ dd, ap (λ z. is_all (kind z)) whole ∙ aa)
      where
        name_front : (t : Lexeme) (b l b2 : Tokens) → b ≡ (t ∷ []) ++ b2 → is_name t.kind ≡ true → (is_distinct (kind (b ++ l)) ≡ false) × (is_all (kind (b ++ l)) ≡ false)
        name_front t b l b2 e is =
            let first = ap (λ z. kind (z ++ l)) e ∙ name_is t.kind is in
            (ap is_distinct first, ap is_all first)

        item_front : (y : Item) (b l : Tokens) → IsItem end bytes y b → (is_distinct (kind (b ++ l)) ≡ false) × (is_all (kind (b ++ l)) ≡ false)
        item_front y b l (inl (at, (t, e, (is, w)), ie)) =
            let first = ap (λ z. kind (z ++ l)) e ∙ star_is t.kind is in
            (ap is_distinct first, ap is_all first)
        item_front y b l (inr (inl (n, at, (b1, b2, e, (t, e1, (is, w, w1)), r), ie))) = name_front t b l b2 (e ∙ ap (λ z. z ++ b2) e1) is
        item_front y b l (inr (inr (c, o, (b1, b2, e, inl (n, at, (t, e1, (is, w, w1)), ce), r), ie))) = name_front t b l b2 (e ∙ ap (λ z. z ++ b2) e1) is
        item_front y b l (inr (inr (c, o, (b1, b2, e, inr (q, n, at, (b3, b4, e2, (t, e1, (is, w, w1)), s), ce), r), ie))) =
            name_front t b l (b4 ++ b2) (e ∙ ap (λ z. z ++ b2) (e2 ∙ ap (λ z. z ++ b4) e1)) is

    pub body_reads : Completes (spec.Body end bytes d) EndsQuery (read.body end bytes ns)
    unfolding read.body
    body_reads a rest q (b, xs, f, w, (a1, l1, e1, pq, (a2, l2, e2, pi, (a3, l3, e3, (t, et, is), (a4, l4, e4, pj, pf)))), qe) z =
        let (nd, na) = items_front xs a2 (l2 ++ rest) pi in
        let whole1 = ap (λ y. y ++ rest) e2 ∙ append_assoc a2 l2 rest in
        let whole2 = ap (λ y. y ++ rest) (e3 ∙ ap (λ y. y ++ l3) et) in
        let from_next : Plain (kind (l2 ++ rest)) = subst (λ y. Plain (kind y)) (sym whole2) (from_plain t.kind is) in
        let no_comma : is_comma (kind (l2 ++ rest)) ≡ false = ap (λ y. is_comma (kind y)) whole2 ∙ ap is_comma (from_is t.kind is) in
        then_reads read.quantifier (λ d r. followed r (list (read.item end bytes) r) (λ is s. followed s (expect (at is_from) (refusal end syntax) s) (λ _ u. followed u (read.from_list end bytes ns u) (λ p v. followed v (read.filter end bytes ns v) (λ f o. Ok (select d is p f, 0))))))
        a a1 l1 rest b q e1 (quantifier_reads a1 (l1 ++ rest) b pq (ap (λ y. is_distinct (kind y)) whole1 ∙ nd) (ap (λ y. is_all (kind y)) whole1 ∙ na))
        (then_reads (list (read.item end bytes)) (λ is s. followed s (expect (at is_from) (refusal end syntax) s) (λ _ u. followed u (read.from_list end bytes ns u) (λ p v. followed v (read.filter end bytes ns v) (λ f o. Ok (select b is p f, 0)))))
        l1 a2 l2 rest xs q e2 (list_reads (IsItem end bytes) Plain (read.item end bytes) (item_reads end bytes) comma_plain a2 (l2 ++ rest) xs pi from_next no_comma)
        (then_reads (expect (at is_from) (refusal end syntax)) (λ _ u. followed u (read.from_list end bytes ns u) (λ p v. followed v (read.filter end bytes ns v) (λ f o. Ok (select b xs p f, 0))))
        l2 a3 l3 rest tt q e3 (expect_reads end is_from syntax a3 (l3 ++ rest) (t, et, is))
        (then_reads (read.from_list end bytes ns) (λ p v. followed v (read.filter end bytes ns v) (λ f o. Ok (select b xs p f, 0)))
        l3 a4 l4 rest f q e4 (from_list_reads a4 (l4 ++ rest) f pj (filter_front l4 rest w pf z))
        (last_reads (read.filter end bytes ns) (λ w. select b xs f w) l4 rest w (filter_reads l4 rest w pf z) ∙ ap (λ y. Ok (y, length l4)) (sym qe)))))
