-- Conditions are read by the tokens that they take and the one behind them.
use Rattle.std.proofs.Common.{◌≡◌, ℕ, ◌+◌, ◌≤◌, Bool, true, false, List, [], ◌∷◌, ◌++◌, drop, refl, ap, sym, ◌∙◌, arith, Ok, Err, Option, Some, None, drop-drop}
use Rattle.std.specs.Prelude.{if◌then◌else◌, ◌&&◌}
use Rattle.wt_ast.specs.declared.tree.ColumnName.{ColumnName}
use Rattle.wt_ast.specs.declared.tree.CmpWord.{CmpWord}
use Rattle.wt_ast.specs.declared.tree.Scalar.{Scalar}
use Rattle.wt_ast.specs.declared.tree.Scalar.TheVariants as scalar
use Rattle.wt_ast.specs.Tree.{CondTree, compare, is_null, is_not_null, in_list, in_query, negated}
use Rattle.wt_reading.specs.declared.lexeme.Lexeme.{Lexeme}
use Rattle.wt_grammar.specs.declared.fault.QueryFault.TheVariants as fault
use Rattle.wt_reading.specs.Lexemes.{Tokens, kind, place, is_open}
use Rattle.wt_grammar.specs.Kinds.{is_and, is_not, is_select, is_between, is_is, is_in, is_null_word}
use Rattle.wt_grammar.specs.Refusals.{syntax, no_negated}
use Rattle.wt_grammar.specs.Reading as read
use Rattle.wt_reading.specs.Readings.{plus, followed, list, within, expect}
use Rattle.wt_grammar.specs.Reading.{Read, Refusal, Nest, refused, refusal, cmp_of, between_of, of_column, opens_tuple}
use Rattle.wt_sentence.specs.Grammar.{Column}
use Rattle.wt_sentence.proofs.Follows.{in_is}
use Rattle.wt_refusal.proofs.Local.{Agree, agree_front, kind_front, LocalAt, Local, refusal_at, barred_at, less_at, as_at, seen_at, test_at, behind_at, next_at, then_at, last_at, refuses}
use Rattle.wt_refusal.proofs.LocalParts.{list_at, by_kind, expect_local, closed_at, by_place, operand_local, literal_local}
use Rattle.wt_refusal.proofs.LocalTuples.{Closes}

pub both : (a b : Bool) → (a && b) ≡ true → (a ≡ true) × (b ≡ true)
both true b h = (refl, h)
both false b h = absurd cc

module _ (end : ℕ) (bytes : List ℕ) where
  -- what stands one level deeper is read so; or there is no level left, and it is refused at its first token
  pub record LocalBelow (ns : Nest) : Type 0 where
    pub negs : Local end bytes 0 ns.negs
    pub conds : ns.room ≡ true → Local end bytes 1 ns.conds
    pub queries : ns.room ≡ true → Local end bytes 1 ns.queries
    pub froms : ns.room ≡ true → Local end bytes 1 ns.froms
    pub no_conds : ns.room ≡ false → (ts : Tokens) → ns.conds ts ≡ Err (refused fault.TooDeep, place end ts)
    pub no_queries : ns.room ≡ false → (ts : Tokens) → ns.queries ts ≡ Err (refused fault.TooDeep, place end ts)
    pub no_froms : ns.room ≡ false → (ts : Tokens) → ns.froms ts ≡ Err (refused fault.TooDeep, place end ts)
    pub column_closed : ns.room ≡ true → (ts b l : Tokens) (c : ColumnName) (m : ℕ) → read.column end bytes (drop 1 ts) ≡ Ok (c, m) → drop 1 ts ≡ b ++ l → Column end bytes c b → Closes (kind l)
        → ns.conds ts ≡ Err (refused fault.Syntax, place end l)
    pub column_open : ns.room ≡ true → (t : Lexeme) (b : Tokens) (c : ColumnName) → is_open t.kind ≡ true → Column end bytes c b
        → (l : Tokens) × (x : CondTree) × (n : ℕ) × (ns.conds (t ∷ (b ++ l)) ≡ Ok (x, n))

  between_local : (at : ℕ) (a : Scalar) (word : ℕ) → Local end bytes 0 (read.between end bytes at a word)
  unfolding read.between
  between_local at a word ts =
      then_at end bytes 0 (read.operand end bytes) _ ts (operand_local end bytes ts) (λ low m e.
      then_at end bytes 0 (expect (λ l. is_and (kind l)) (refusal end syntax)) _ (drop m ts) (expect_local end bytes is_and syntax (drop m ts)) (λ u n f.
      last_at end bytes 0 (read.operand end bytes) (λ high. between_of at a low high word) (drop n (drop m ts)) (operand_local end bytes (drop n (drop m ts)))))

  -- behind BETWEEN, which stands at the front
  between_at : (at : ℕ) (a : Scalar) (ts : Tokens) → LocalAt end bytes 1 (λ us. plus 1 (read.between end bytes at a (place end us) (drop 1 us))) ts
  between_at at a ts =
      by_place end bytes 1 (λ p us. plus 1 (read.between end bytes at a p (drop 1 us))) ts
      (behind_at end bytes 1 0 (read.between end bytes at a (place end ts)) ts (between_local at a (place end ts) (drop 1 ts)))

  compared_local : (o : Option CmpWord) (at : ℕ) (a : Scalar) → Local end bytes 0 (read.compared_by end bytes o at a)
  compared_local None at a ts = refusal_at end bytes CondTree 0 0 (refused fault.Syntax) ts (omega arith)
  compared_local (Some w) at a ts =
      by_place end bytes 0 (λ p us. plus 1 (followed (drop 1 us) (read.operand end bytes (drop 1 us)) (λ b rest. Ok (compare at w a b p, 0)))) ts
      (next_at end bytes (λ l. followed l (read.operand end bytes l) (λ b rest. Ok (compare at w a b (place end ts), 0))) ts
      (last_at end bytes 0 (read.operand end bytes) (λ b. compare at w a b (place end ts)) (drop 1 ts) (operand_local end bytes (drop 1 ts))))

  null_word : CondTree → Tokens → Read CondTree
  null_word x us = followed us (expect (λ l. is_null_word (kind l)) (refusal end syntax) us) (λ _ rest. Ok (x, 0))

  null_word_local : (x : CondTree) → Local end bytes 0 (null_word x)
  unfolding null_word
  null_word_local x us = last_at end bytes 0 (expect (λ l. is_null_word (kind l)) (refusal end syntax)) (λ _. x) us (expect_local end bytes is_null_word syntax us)

  is_part_local : (at : ℕ) (c : ColumnName) → Local end bytes 0 (read.is_part end at c)
  unfolding read.is_part null_word
  is_part_local at c ts =
      test_at end bytes is_not 0 0 (λ us. plus 1 (null_word (is_not_null at c) (drop 1 us))) (null_word (is_null at c)) ts (omega arith)
      (λ s. next_at end bytes (null_word (is_not_null at c)) ts (null_word_local (is_not_null at c) (drop 1 ts)))
      (λ s. null_word_local (is_null at c) ts)

  of_column_at : {A : Type 0} (d : ℕ) (a : Scalar) (f : ColumnName → Tokens → Read A) (ts : Tokens) → d ≤ 0 → ((c : ColumnName) → a ≡ scalar.Column c → LocalAt end bytes d (f c) ts)
      → LocalAt end bytes d (λ us. of_column end a (λ c. f c us) us) ts
  of_column_at d (scalar.Column c) f ts h local = local c refl
  of_column_at {A} d (scalar.Literal v at) f ts h local = refusal_at end bytes A d 0 (refused fault.Syntax) ts (omega (arith, h))

  module _ (ns : Nest) (below : LocalBelow ns) where
    -- in parentheses, with a level left or not
    pub listed_at : {A : Type 0} (d : ℕ) (part : Tokens → Read A) (ts : Tokens) → ns.room ≡ true → Local end bytes 0 part → LocalAt end bytes d part (drop 1 ts)
        → LocalAt end bytes (1 + d) (read.listed end bytes ns part) ts
    unfolding read.listed
    listed_at d part ts room local first =
        as_at end bytes (1 + d) (read.listed end bytes ns part) (within (list part) (λ _. refusal end syntax)) ts (λ us a. rw room refl)
        (closed_at end bytes d (list part) (λ _. syntax) ts (list_at end bytes d part local (drop 1 ts) first))

    pub none_listed : {A : Type 0} (part : Tokens → Read A) (ts : Tokens) → ns.room ≡ false → read.listed end bytes ns part ts ≡ Err (refused fault.TooDeep, place end ts)
    unfolding read.listed
    none_listed part ts room = rw room refl

    pub subquery_at : (at : ℕ) (cs : List ColumnName) (word : ℕ) (ts : Tokens) → ns.room ≡ true → LocalAt end bytes 1 (read.subquery end bytes ns at cs word) ts
    unfolding read.subquery
    subquery_at at cs word ts room = last_at end bytes 1 ns.queries (λ q. in_query at cs q word) ts (below.queries room ts)

    values_at : (at : ℕ) (c : ColumnName) (word : ℕ) (ts : Tokens) → ns.room ≡ true → LocalAt end bytes 1 (read.values end bytes ns at c word) ts
    unfolding read.values
    values_at at c word ts room =
        last_at end bytes 1 (read.listed end bytes ns (read.literal end bytes)) (λ vs. in_list at c vs word) ts (listed_at 0 (read.literal end bytes) ts room (literal_local end bytes) (literal_local end bytes (drop 1 ts)))

    no_subquery : (at : ℕ) (cs : List ColumnName) (word : ℕ) (ts : Tokens) → ns.room ≡ false → read.subquery end bytes ns at cs word ts ≡ Err (refused fault.TooDeep, place end ts)
    unfolding read.subquery
    no_subquery at cs word ts room = ap (λ r. followed ts r (λ q rest. Ok (in_query at cs q word, 0))) (below.no_queries room ts)

    no_values : (at : ℕ) (c : ColumnName) (word : ℕ) (ts : Tokens) → ns.room ≡ false → read.values end bytes ns at c word ts ≡ Err (refused fault.TooDeep, place end ts)
    unfolding read.values
    no_values at c word ts room = ap (λ r. followed ts r (λ vs rest. Ok (in_list at c vs word, 0))) (none_listed (read.literal end bytes) ts room)

    -- the parenthesis behind IN
    query_or_values : ℕ → ColumnName → ℕ → Tokens → Read CondTree
    query_or_values at c word us = if is_select (kind (drop 1 us)) then read.subquery end bytes ns at (c ∷ []) word us else read.values end bytes ns at c word us

    query_or_values_at : (room : Bool) → ns.room ≡ room → (at : ℕ) (c : ColumnName) (word : ℕ) (ts : Tokens) → LocalAt end bytes 0 (query_or_values at c word) ts
    unfolding query_or_values
    query_or_values_at true room at c word ts =
        less_at end bytes 0 1 (query_or_values at c word) ts (omega arith) (test_at end bytes is_select 1 1 (read.subquery end bytes ns at (c ∷ []) word) (read.values end bytes ns at c word) ts (omega arith)
        (λ s. subquery_at at (c ∷ []) word ts room) (λ s. values_at at c word ts room))
    query_or_values_at false room at c word ts = barred_at end bytes (query_or_values at c word) (refused fault.TooDeep) ts (deep ts) (λ us a. ap (refuses true) (deep us))
      where
        deep : (us : Tokens) → query_or_values at c word us ≡ Err (refused fault.TooDeep, place end us)
        deep us = by (is_select (kind (drop 1 us)))
          where
            by : (b : Bool) → (if b then read.subquery end bytes ns at (c ∷ []) word us else read.values end bytes ns at c word us) ≡ Err (refused fault.TooDeep, place end us)
            by true = no_subquery at (c ∷ []) word us room
            by false = no_values at c word us room

    in_part_local : (at : ℕ) (c : ColumnName) (word : ℕ) → Local end bytes 0 (read.in_part end bytes ns at c word)
    unfolding read.in_part query_or_values
    in_part_local at c word ts =
        test_at end bytes is_open 0 0 (query_or_values at c word) (read.no end fault.Syntax) ts (omega arith)
        (λ s. query_or_values_at ns.room refl at c word ts) (λ s. refusal_at end bytes CondTree 0 0 (refused fault.Syntax) ts (omega arith))

    -- the parenthesis behind NOT IN
    not_values : ℕ → ColumnName → ℕ → Tokens → Read CondTree
    not_values at c word us = followed us (read.values end bytes ns at c word us) (λ x rest. Ok (negated at x, 0))

    no_query_but_values : ℕ → ColumnName → ℕ → ℕ → Tokens → Read CondTree
    no_query_but_values at c not_at word us = if is_select (kind (drop 1 us)) then Err (refused fault.NotInSubquery, not_at) else not_values at c word us

    not_values_at : (room : Bool) → ns.room ≡ room → (at : ℕ) (c : ColumnName) (not_at word : ℕ) (ts : Tokens) → is_select (kind (drop 1 ts)) ≡ false → LocalAt end bytes 0 (no_query_but_values at c not_at word) ts
    unfolding no_query_but_values not_values
    not_values_at true room at c not_at word ts s =
        less_at end bytes 0 1 (no_query_but_values at c not_at word) ts (omega arith) (test_at end bytes is_select 1 1 (λ us. Err (refused fault.NotInSubquery, not_at)) (not_values at c word) ts (omega arith)
        (λ h. absurd cc) (λ h. last_at end bytes 1 (read.values end bytes ns at c word) (λ x. negated at x) ts (values_at at c word ts room)))
    not_values_at false room at c not_at word ts s =
        barred_at end bytes (no_query_but_values at c not_at word) (refused fault.TooDeep) ts (rw s (deep ts)) (λ us a. either us (is_select (kind (drop 1 us))))
      where
        deep : (us : Tokens) → not_values at c word us ≡ Err (refused fault.TooDeep, place end us)
        deep us = ap (λ r. followed us r (λ x rest. Ok (negated at x, 0))) (no_values at c word us room)

        either : (us : Tokens) (b : Bool) → refuses true (if b then Err (refused fault.NotInSubquery, not_at) else not_values at c word us) ≡ true
        either us true = refl
        either us false = ap (refuses true) (deep us)

    -- Behind NOT IN, where no query follows. One would be refused at the NOT.
    not_in_local : (at : ℕ) (c : ColumnName) (not_at word : ℕ) (ts : Tokens) → (is_open (kind ts) && is_select (kind (drop 1 ts))) ≡ false → LocalAt end bytes 0 (read.not_in_part end bytes ns at c not_at word) ts
    unfolding read.not_in_part no_query_but_values not_values
    not_in_local at c not_at word ts none =
        test_at end bytes is_open 0 0 (no_query_but_values at c not_at word) (read.no end fault.Syntax) ts (omega arith)
        (λ s. not_values_at ns.room refl at c not_at word ts (ap (λ b. b && is_select (kind (drop 1 ts))) (sym s) ∙ none))
        (λ s. refusal_at end bytes CondTree 0 0 (refused fault.Syntax) ts (omega arith))

    -- behind NOT, unless it is IN and a query
    after_not_local : (at : ℕ) (a : Scalar) (not_at : ℕ) (ts : Tokens) → ((c : ColumnName) → a ≡ scalar.Column c → (is_in (kind ts) && (is_open (kind (drop 1 ts)) && is_select (kind (drop 2 ts)))) ≡ false)
        → LocalAt end bytes 0 (read.after_not end bytes ns at a not_at) ts
    unfolding read.after_not
    after_not_local at a not_at ts none =
        test_at end bytes is_between 0 0 (λ us. plus 1 (followed (drop 1 us) (read.between end bytes at a (place end us) (drop 1 us)) (λ x rest. Ok (negated at x, 0))))
        (λ us. if is_in (kind us) then of_column end a (λ c. plus 1 (read.not_in_part end bytes ns at c not_at (place end us) (drop 1 us))) us else read.no end (no_negated (kind us)) us) ts (omega arith)
        (λ s. by_place end bytes 0 (λ p us. plus 1 (followed (drop 1 us) (read.between end bytes at a p (drop 1 us)) (λ x rest. Ok (negated at x, 0)))) ts
        (next_at end bytes (λ l. followed l (read.between end bytes at a (place end ts) l) (λ x rest. Ok (negated at x, 0))) ts
        (last_at end bytes 0 (read.between end bytes at a (place end ts)) (λ x. negated at x) (drop 1 ts) (between_local at a (place end ts) (drop 1 ts)))))
        (λ s. test_at end bytes is_in 0 0 (λ us. of_column end a (λ c. plus 1 (read.not_in_part end bytes ns at c not_at (place end us) (drop 1 us))) us) (λ us. read.no end (no_negated (kind us)) us) ts (omega arith)
        (λ s. of_column_at 0 a (λ c us. plus 1 (read.not_in_part end bytes ns at c not_at (place end us) (drop 1 us))) ts (omega arith) (λ c e.
        by_place end bytes 0 (λ p us. plus 1 (read.not_in_part end bytes ns at c not_at p (drop 1 us))) ts
        (next_at end bytes (read.not_in_part end bytes ns at c not_at (place end ts)) ts
        (not_in_local at c not_at (place end ts) (drop 1 ts) (values_follow c e s)))))
        (λ s. by_kind end bytes CondTree no_negated ts))
      where
        values_follow : (c : ColumnName) → a ≡ scalar.Column c → is_in (kind ts) ≡ true → (is_open (kind (drop 1 ts)) && is_select (kind (drop 1 (drop 1 ts)))) ≡ false
        values_follow c e s =
            ap (λ l. is_open (kind (drop 1 ts)) && is_select (kind l)) (drop-drop 1 1 ts)
            ∙ ap (λ b. b && (is_open (kind (drop 1 ts)) && is_select (kind (drop 2 ts)))) (sym s) ∙ none c e

    -- NOT IN and a query
    not_query : Tokens → Bool
    not_query us = is_in (kind (drop 1 us)) && (is_open (kind (drop 2 us)) && is_select (kind (drop 3 us)))

    query_refused : (at : ℕ) (c : ColumnName) (us : Tokens) → not_query us ≡ true → plus 1 (read.after_not end bytes ns at (scalar.Column c) (place end us) (drop 1 us)) ≡ Err (refused fault.NotInSubquery, place end us)
    unfolding read.after_not read.not_in_part not_query
    query_refused at c us h =
        let (is, h2) = both (is_in (kind (drop 1 us))) _ h in
        let (opens, selects) = both (is_open (kind (drop 2 us))) _ h2 in
        let no_between : is_between (kind (drop 1 us)) ≡ false = ap is_between (in_is (kind (drop 1 us)) is) in
        let opens2 : is_open (kind (drop 1 (drop 1 us))) ≡ true = ap (λ l. is_open (kind l)) (drop-drop 1 1 us) ∙ opens in
        let selects2 : is_select (kind (drop 1 (drop 1 (drop 1 us)))) ≡ true = ap (λ l. is_select (kind (drop 1 l))) (drop-drop 1 1 us) ∙ ap (λ l. is_select (kind l)) (drop-drop 1 2 us) ∙ selects in
        rw (no_between, is, opens2, selects2) refl

    not_local : (at : ℕ) (a : Scalar) → Local end bytes 0 (λ us. plus 1 (read.after_not end bytes ns at a (place end us) (drop 1 us)))
    unfolding not_query
    not_local at a ts = by a (not_query ts) refl
      where
        plain : (a : Scalar) → ((c : ColumnName) → a ≡ scalar.Column c → not_query ts ≡ false) → LocalAt end bytes 0 (λ us. plus 1 (read.after_not end bytes ns at a (place end us) (drop 1 us))) ts
        plain a none =
            by_place end bytes 0 (λ p us. plus 1 (read.after_not end bytes ns at a p (drop 1 us))) ts
            (next_at end bytes (read.after_not end bytes ns at a (place end ts)) ts
            (after_not_local at a (place end ts) (drop 1 ts) (λ c e. (λ i. is_in (kind (drop 1 ts)) && (is_open (kind (drop-drop 1 1 ts i)) && is_select (kind (drop-drop 2 1 ts i)))) ∙ none c e)))

        same : (us : Tokens) → Agree 4 us ts → not_query us ≡ not_query ts
        same us h = λ i. is_in (agree_front kind kind_front 1 3 us ts (omega arith) h i) && (is_open (agree_front kind kind_front 2 3 us ts (omega arith) h i) && is_select (agree_front kind kind_front 3 3 us ts (omega arith) h i))

        by : (a : Scalar) (b : Bool) → not_query ts ≡ b → LocalAt end bytes 0 (λ us. plus 1 (read.after_not end bytes ns at a (place end us) (drop 1 us))) ts
        by (scalar.Literal v p) b e = plain (scalar.Literal v p) (λ c f. absurd cc)
        by (scalar.Column c) false e = plain (scalar.Column c) (λ d f. e)
        by (scalar.Column c) true e =
            less_at end bytes 0 3 _ ts (omega arith) (as_at end bytes 3 (λ us. plus 1 (read.after_not end bytes ns at (scalar.Column c) (place end us) (drop 1 us))) (λ us. Err (refused fault.NotInSubquery, place end us)) ts
            (λ us h. query_refused at c us (same us h ∙ e)) (refusal_at end bytes CondTree 3 0 (refused fault.NotInSubquery) ts (omega arith)))

    pub after_operand_local : (at : ℕ) (a : Scalar) → Local end bytes 0 (read.after_operand end bytes ns at a)
    unfolding read.after_operand
    after_operand_local at a ts =
        test_at end bytes is_between 0 0 (λ us. plus 1 (read.between end bytes at a (place end us) (drop 1 us))) _ ts (omega arith) (λ s. less_at end bytes 0 1 _ ts (omega arith) (between_at at a ts))
        (λ s. test_at end bytes is_not 0 0 (λ us. plus 1 (read.after_not end bytes ns at a (place end us) (drop 1 us))) _ ts (omega arith) (λ s. not_local at a ts)
        (λ s. test_at end bytes is_is 0 0 (λ us. of_column end a (λ c. plus 1 (read.is_part end at c (drop 1 us))) us) _ ts (omega arith)
        (λ s. of_column_at 0 a (λ c us. plus 1 (read.is_part end at c (drop 1 us))) ts (omega arith)
        (λ c e. next_at end bytes (read.is_part end at c) ts (is_part_local at c (drop 1 ts))))
        (λ s. test_at end bytes is_in 0 0 (λ us. of_column end a (λ c. plus 1 (read.in_part end bytes ns at c (place end us) (drop 1 us))) us) _ ts (omega arith)
        (λ s. of_column_at 0 a (λ c us. plus 1 (read.in_part end bytes ns at c (place end us) (drop 1 us))) ts (omega arith)
        (λ c e. by_place end bytes 0 (λ p us. plus 1 (read.in_part end bytes ns at c p (drop 1 us))) ts
        (next_at end bytes (read.in_part end bytes ns at c (place end ts)) ts (in_part_local at c (place end ts) (drop 1 ts)))))
        (λ s. seen_at end bytes kind kind_front 0 0 (λ k us. read.compared_by end bytes (cmp_of k) at a us) ts (omega arith) (compared_local (cmp_of (kind ts)) at a ts)))))
