-- FROM, queries and all levels are read by the tokens that they take and the one behind them.
use Rattle.std.proofs.Common.{◌≡◌, ℕ, suc, zero, ◌-◌, ◌≤◌, ◌<◌, Bool, true, false, List, [], ◌∷◌, ◌++◌, length, drop, refl, ap, sym, ◌∙◌, arith, append_assoc, append-nil, Ok, Err, Some, None, length-drop}
use Rattle.std.specs.Prelude.{if◌then◌else◌}
use Rattle.wt_ast.specs.declared.tree.ColumnName.{ColumnName}
use Rattle.wt_ast.specs.Tree.{FromTree, CondTree, select, no_filter, filter_by, table, derived, comma, negated, is_null}
use Rattle.wt_reading.specs.declared.lexeme.Kind.{Kind}
use Rattle.wt_reading.specs.declared.lexeme.Kind.TheVariants.{End, Key, Mark}
use Rattle.wt_reading.proofs.Loops.{repeat_skip}
use Rattle.wt_lex.specs.declared.words.Word.TheVariants as word
use Rattle.wt_lex.specs.declared.token.Sym.TheVariants as sym
use Rattle.wt_reading.specs.declared.lexeme.Lexeme.{Lexeme}
use Rattle.wt_grammar.specs.declared.join.JoinKind.{JoinKind}
use Rattle.wt_grammar.specs.declared.join.JoinKind.TheVariants as joining
use Rattle.wt_grammar.specs.declared.fault.QueryFault.TheVariants as fault
use Rattle.wt_reading.specs.Lexemes.{Tokens, kind, place, is_open, is_name, is_comma}
use Rattle.wt_grammar.specs.Kinds.{is_select, is_distinct, is_all, is_from, is_where, is_as, is_inner, is_left, is_outer, is_join, is_on, begins_join}
use Rattle.wt_grammar.specs.Refusals.{syntax, no_join}
use Rattle.wt_grammar.specs.Reading as read
use Rattle.wt_reading.specs.Readings.{plus, followed, list, expect, onward, repeat}
use Rattle.wt_grammar.specs.Reading.{Read, Nest, refused, refusal, join_of, name_at, name_only, place_or, no_query_end}
use Rattle.wt_sentence.specs.Grammar.{Column, deeper}
use Rattle.wt_sentence.proofs.Complete.{complete_below}
use Rattle.wt_refusal.proofs.Local.{LocalAt, Local, Gives, value_at, refusal_at, less_at, takes_at, as_at, test_at, behind_at, next_at, then_at, last_at}
use Rattle.wt_refusal.proofs.LocalParts.{some_there, list_at, expect_local, closed_at, by_place, by_name, name_local, alias_local, item_local}
use Rattle.wt_refusal.proofs.LocalTuples.{column_first, no_condition, null_condition}
use Rattle.wt_refusal.proofs.LocalConditions.{LocalBelow, listed_at, none_listed}
use Rattle.wt_refusal.proofs.LocalBasic.{neg_local, cond_local}

module _ (end : ℕ) (bytes : List ℕ) where
  -- ---- parts that hold no query

  table_local : Local end bytes 0 (read.table_part end bytes)
  unfolding read.table_part
  table_local ts =
      by_place end bytes 0 (λ p us. followed us (read.name end bytes us) (λ n rest. followed rest (read.alias end bytes rest) (λ a r. Ok (table n (name_only a) p (place_or a p), 0)))) ts
      (then_at end bytes 0 (read.name end bytes) (λ n rest. followed rest (read.alias end bytes rest) (λ a r. Ok (table n (name_only a) (place end ts) (place_or a (place end ts)), 0))) ts (name_local end bytes ts)
      (λ n m e. last_at end bytes 0 (read.alias end bytes) (λ a. table n (name_only a) (place end ts) (place_or a (place end ts))) (drop m ts) (alias_local end bytes (drop m ts))))

  bare_name_local : Local end bytes 0 (read.bare_name end bytes)
  unfolding read.bare_name
  bare_name_local ts =
      test_at end bytes is_name 0 0 (λ us. Ok ((name_at bytes us, place end us), 1)) (read.no end fault.Syntax) ts (omega arith)
      (λ s. by_name end bytes 0 (λ n p us. Ok ((n, p), 1)) ts (value_at end bytes 0 1 (name_at bytes ts, place end ts) ts (omega arith)))
      (λ s. refusal_at end bytes (List ℕ × ℕ) 0 0 (refused fault.Syntax) ts (omega arith))

  derived_name_local : Local end bytes 0 (read.derived_name end bytes)
  unfolding read.derived_name
  derived_name_local ts =
      test_at end bytes is_as 0 0 (λ us. plus 1 (read.bare_name end bytes (drop 1 us))) (read.bare_name end bytes) ts (omega arith)
      (λ s. next_at end bytes (read.bare_name end bytes) ts (bare_name_local (drop 1 ts))) (λ s. bare_name_local ts)

  join_word : JoinKind → Tokens → Read JoinKind
  join_word k us = followed us (expect (λ l. is_join (kind l)) (refusal end syntax) us) (λ _ rest. Ok (k, 0))

  join_word_local : (k : JoinKind) → Local end bytes 0 (join_word k)
  unfolding join_word
  join_word_local k ts = last_at end bytes 0 (expect (λ l. is_join (kind l)) (refusal end syntax)) (λ _. k) ts (expect_local end bytes is_join syntax ts)

  outer_join_local : (k : JoinKind) → Local end bytes 0 (read.outer_join end k)
  unfolding read.outer_join join_word
  outer_join_local k ts =
      test_at end bytes is_outer 0 0 (λ us. plus 1 (join_word k (drop 1 us))) (join_word k) ts (omega arith)
      (λ s. next_at end bytes (join_word k) ts (join_word_local k (drop 1 ts))) (λ s. join_word_local k ts)

  join_words_local : Local end bytes 1 (read.join_words end)
  unfolding read.join_words join_word
  join_words_local ts =
      test_at end bytes is_join 0 1 (λ us. Ok (joining.Inner, 1)) _ ts (omega arith) (λ s. value_at end bytes 1 1 joining.Inner ts (omega arith))
      (λ s. test_at end bytes is_inner 0 1 (λ us. plus 1 (join_word joining.Inner (drop 1 us))) _ ts (omega arith)
      (λ s. behind_at end bytes 1 0 (join_word joining.Inner) ts (join_word_local joining.Inner (drop 1 ts)))
      (λ s. test_at end bytes is_left 0 1 (λ us. plus 1 (read.outer_join end joining.Left (drop 1 us))) (λ us. plus 1 (read.outer_join end joining.Right (drop 1 us))) ts (omega arith)
      (λ s. behind_at end bytes 1 0 (read.outer_join end joining.Left) ts (outer_join_local joining.Left (drop 1 ts)))
      (λ s. behind_at end bytes 1 0 (read.outer_join end joining.Right) ts (outer_join_local joining.Right (drop 1 ts)))))

  quantifier_local : Local end bytes 0 read.quantifier
  unfolding read.quantifier
  quantifier_local ts =
      test_at end bytes is_distinct 0 0 (λ us. Ok (true, 1)) _ ts (omega arith) (λ s. value_at end bytes 0 1 true ts (omega arith))
      (λ s. test_at end bytes is_all 0 0 (λ us. Ok (false, 1)) (λ us. Ok (false, 0)) ts (omega arith) (λ s. value_at end bytes 0 1 false ts (omega arith)) (λ s. value_at end bytes 0 0 false ts (omega arith)))

  -- steps, each from what was made before
  module _ (test : Kind → Bool) (none : test End ≡ false) (step : FromTree → Tokens → Read FromTree) (step_local : (a : FromTree) → Local end bytes 1 (step a)) where
    steps_as : (a : FromTree) (ts : Tokens) → repeat (λ l. test (kind l)) step 0 a ts ≡ (if test (kind ts) then followed ts (step a ts) (λ f rest. repeat (λ l. test (kind l)) step 0 f rest) else Ok (a, 0))
    unfolding repeat LocalAt
    steps_as a [] = rw none refl
    steps_as a (t ∷ ts) = ap (λ z. if test t.kind then z else Ok (a, 0)) (by (step a (t ∷ ts)) (step_local a (t ∷ ts)))
      where
        behind : (k : ℕ) → 1 ≤ k → drop (k - 1) ts ≡ drop k (t ∷ ts)
        behind zero h = absurd (omega arith)
        behind (suc k) h = let e : suc k - 1 ≡ k = omega arith in ap (λ z. drop z ts) e

        there : (l : Tokens) → test (kind l) ≡ true → 1 ≤ length l
        there [] h = absurd cc
        there (u ∷ l) h = omega arith

        by : (r : Read FromTree) → Gives end bytes 1 (step a) (t ∷ ts) r
            → onward r (λ b m. repeat (λ l. test (kind l)) step (m - 1) b ts) ≡ followed (t ∷ ts) r (λ f rest. repeat (λ l. test (kind l)) step 0 f rest)
        by (Ok x) (l, s) = ap (plus x.1) (repeat_skip (λ l. test (kind l)) step there (x.1 - 1) x.0 ts ∙ ap (repeat (λ l. test (kind l)) step 0 x.0) (behind x.1 l))
        by (Err e) g = refl

    one_step : (a : FromTree) (ts : Tokens) → ((b : FromTree) (l : Tokens) → length l < length ts → LocalAt end bytes 0 (repeat (λ l. test (kind l)) step 0 b) l)
        → LocalAt end bytes 0 (repeat (λ l. test (kind l)) step 0 a) ts
    one_step a ts ih =
        as_at end bytes 0 (repeat (λ l. test (kind l)) step 0 a) (λ us. if test (kind us) then followed us (step a us) (λ f rest. repeat (λ l. test (kind l)) step 0 f rest) else Ok (a, 0)) ts (λ us h. steps_as a us)
        (test_at end bytes test 0 0 (λ us. followed us (step a us) (λ f rest. repeat (λ l. test (kind l)) step 0 f rest)) (λ us. Ok (a, 0)) ts (omega arith)
        (λ s. less_at end bytes 0 1 _ ts (omega arith) (then_at end bytes 1 (step a) (λ f rest. repeat (λ l. test (kind l)) step 0 f rest) ts (step_local a ts)
        (λ f m e. ih f (drop m ts) (omega (arith, some_there test none ts s, takes_at end bytes 1 m f (step a) ts e (step_local a ts), length-drop m ts)))))
        (λ s. value_at end bytes 0 0 a ts (omega arith)))

    steps_to : (bound : ℕ) (a : FromTree) (ts : Tokens) → length ts ≤ bound → LocalAt end bytes 0 (repeat (λ l. test (kind l)) step 0 a) ts
    steps_to zero a ts h = one_step a ts (λ b l g. absurd (omega (arith, h, g)))
    steps_to (suc bound) a ts h = one_step a ts (λ b l g. steps_to bound b l (omega (arith, h, g)))

    pub steps_local : (a : FromTree) (ts : Tokens) → LocalAt end bytes 0 (repeat (λ l. test (kind l)) step 0 a) ts
    steps_local a ts = steps_to (length ts) a ts (omega arith)

  module _ (ns : Nest) (below : LocalBelow end bytes ns) where
    listed_local : {A : Type 0} (part : Tokens → Read A) → Local end bytes 0 part → (room : Bool) → ns.room ≡ room → Local end bytes 0 (read.listed end bytes ns part)
    listed_local part local true room ts = less_at end bytes 0 1 _ ts (omega arith) (listed_at end bytes ns below 0 part ts room local (local (drop 1 ts)))
    listed_local {A} part local false room ts =
        as_at end bytes 0 (read.listed end bytes ns part) (read.no end fault.TooDeep) ts (λ us a. none_listed end bytes ns below part us room) (refusal_at end bytes (List A) 0 0 (refused fault.TooDeep) ts (omega arith))

    columns_local : Local end bytes 0 (read.columns end bytes ns)
    unfolding read.columns
    columns_local ts =
        test_at end bytes is_open 0 0 (λ us. followed us (read.listed end bytes ns (read.name end bytes) us) (λ ns rest. Ok (Some ns, 0))) (λ us. Ok (None, 0)) ts (omega arith)
        (λ s. last_at end bytes 0 (read.listed end bytes ns (read.name end bytes)) (λ ns. Some ns) ts (listed_local (read.name end bytes) (name_local end bytes) ns.room refl ts))
        (λ s. value_at end bytes 0 0 None ts (omega arith))

    derived_at : (ts : Tokens) → ns.room ≡ true → LocalAt end bytes 1 (read.derived_part end bytes ns) ts
    unfolding read.derived_part
    derived_at ts room =
        by_place end bytes 1 (λ p us. followed us (ns.queries us) (λ q rest. followed rest (read.derived_name end bytes rest) (λ n r. followed r (read.columns end bytes ns r) (λ cs l. Ok (derived q n.0 cs p n.1, 0))))) ts
        (then_at end bytes 1 ns.queries _ ts (below.queries room ts) (λ q m e.
        then_at end bytes 0 (read.derived_name end bytes) _ (drop m ts) (derived_name_local (drop m ts)) (λ n j f.
        last_at end bytes 0 (read.columns end bytes ns) (λ cs. derived q n.0 cs (place end ts) n.1) (drop j (drop m ts)) (columns_local (drop j (drop m ts))))))

    no_derived : (ts : Tokens) → ns.room ≡ false → read.derived_part end bytes ns ts ≡ Err (refused fault.TooDeep, place end ts)
    unfolding read.derived_part
    no_derived ts room = rw (below.no_queries room ts) refl

    -- what stands in parentheses in FROM
    query_or_joined : Tokens → Read FromTree
    query_or_joined us = if is_select (kind (drop 1 us)) then read.derived_part end bytes ns us else ns.froms us

    query_or_joined_at : (room : Bool) → ns.room ≡ room → (ts : Tokens) → LocalAt end bytes 0 query_or_joined ts
    unfolding query_or_joined
    query_or_joined_at true room ts =
        less_at end bytes 0 1 query_or_joined ts (omega arith) (test_at end bytes is_select 1 1 (read.derived_part end bytes ns) ns.froms ts (omega arith) (λ s. derived_at ts room) (λ s. below.froms room ts))
    query_or_joined_at false room ts = as_at end bytes 0 query_or_joined (read.no end fault.TooDeep) ts (λ us a. by us (is_select (kind (drop 1 us)))) (refusal_at end bytes FromTree 0 0 (refused fault.TooDeep) ts (omega arith))
      where
        by : (us : Tokens) (b : Bool) → (if b then read.derived_part end bytes ns us else ns.froms us) ≡ Err (refused fault.TooDeep, place end us)
        by us true = no_derived us room
        by us false = below.no_froms room us

    primary_local : Local end bytes 0 (read.primary end bytes ns)
    unfolding read.primary query_or_joined
    primary_local ts =
        test_at end bytes is_name 0 0 (read.table_part end bytes) _ ts (omega arith) (λ s. table_local ts)
        (λ s. test_at end bytes is_open 0 0 query_or_joined (read.no end fault.Syntax) ts (omega arith)
        (λ s. query_or_joined_at ns.room refl ts) (λ s. refusal_at end bytes FromTree 0 0 (refused fault.Syntax) ts (omega arith)))

    -- ---- joins

    join_local : (inside : Bool) (a : FromTree) → Local end bytes 1 (read.join end bytes ns inside a)
    unfolding read.join
    join_local inside a ts =
        then_at end bytes 1 (read.join_words end) _ ts (join_words_local ts) (λ k m e.
        then_at end bytes 0 (read.primary end bytes ns) _ (drop m ts) (primary_local (drop m ts)) (λ b n f.
        by_place end bytes 0 (λ p r. followed r (expect (λ l. is_on (kind l)) (refusal end (no_join inside)) r) (λ _ q. followed q (read.cond end bytes ns q) (λ c o. Ok (join_of k a b c p, 0)))) (drop n (drop m ts))
        (then_at end bytes 0 (expect (λ l. is_on (kind l)) (refusal end (no_join inside))) _ (drop n (drop m ts)) (expect_local end bytes is_on (no_join inside) (drop n (drop m ts))) (λ u j g.
        last_at end bytes 0 (read.cond end bytes ns) (λ c. join_of k a b c (place end (drop n (drop m ts)))) (drop j (drop n (drop m ts))) (cond_local end bytes ns below (drop j (drop n (drop m ts))))))))

    pub joined_local : (inside : Bool) → Local end bytes 0 (read.joined end bytes ns inside)
    unfolding read.joined
    joined_local inside ts =
        then_at end bytes 0 (read.primary end bytes ns) (λ a rest. repeat (λ l. begins_join (kind l)) (read.join end bytes ns inside) 0 a rest) ts (primary_local ts)
        (λ a m e. steps_local begins_join refl (read.join end bytes ns inside) (join_local inside) a (drop m ts))

    listed_part_local : (a : FromTree) → Local end bytes 1 (read.listed_part end bytes ns a)
    unfolding read.listed_part
    listed_part_local a ts =
        by_place end bytes 1 (λ p us. plus 1 (followed (drop 1 us) (read.joined end bytes ns false (drop 1 us)) (λ b rest. Ok (comma a b p, 0)))) ts
        (behind_at end bytes 1 0 (λ us. followed us (read.joined end bytes ns false us) (λ b rest. Ok (comma a b (place end ts), 0))) ts
        (last_at end bytes 0 (read.joined end bytes ns false) (λ b. comma a b (place end ts)) (drop 1 ts) (joined_local false (drop 1 ts))))

    from_list_local : Local end bytes 0 (read.from_list end bytes ns)
    unfolding read.from_list
    from_list_local ts =
        then_at end bytes 0 (read.joined end bytes ns false) (λ a rest. repeat (λ l. is_comma (kind l)) (read.listed_part end bytes ns) 0 a rest) ts (joined_local false ts)
        (λ a m e. steps_local is_comma refl (read.listed_part end bytes ns) listed_part_local a (drop m ts))

    -- ---- queries

    filter_local : Local end bytes 0 (read.filter end bytes ns)
    unfolding read.filter
    filter_local ts =
        test_at end bytes is_where 0 0 (λ us. plus 1 (followed (drop 1 us) (read.cond end bytes ns (drop 1 us)) (λ c rest. Ok (filter_by c, 0)))) (λ us. Ok (no_filter, 0)) ts (omega arith)
        (λ s. next_at end bytes (λ l. followed l (read.cond end bytes ns l) (λ c rest. Ok (filter_by c, 0))) ts
        (last_at end bytes 0 (read.cond end bytes ns) (λ c. filter_by c) (drop 1 ts) (cond_local end bytes ns below (drop 1 ts))))
        (λ s. value_at end bytes 0 0 no_filter ts (omega arith))

    pub body_local : Local end bytes 0 (read.body end bytes ns)
    unfolding read.body
    body_local ts =
        then_at end bytes 0 read.quantifier _ ts (quantifier_local ts) (λ d m e.
        let l = drop m ts in then_at end bytes 0 (list (read.item end bytes)) _ l (list_at end bytes 0 (read.item end bytes) (item_local end bytes) l (item_local end bytes l)) (λ is m1 e1.
        let l1 = drop m1 l in then_at end bytes 0 (expect (λ l. is_from (kind l)) (refusal end syntax)) _ l1 (expect_local end bytes is_from syntax l1) (λ u m2 e2.
        let l2 = drop m2 l1 in then_at end bytes 0 (read.from_list end bytes ns) _ l2 (from_list_local l2) (λ p m3 e3.
        let l3 = drop m3 l2 in last_at end bytes 0 (read.filter end bytes ns) (λ f. select d is p f) l3 (filter_local l3)))))

  -- ---- levels

  -- a column in a parenthesis goes on as a condition
  null_read : (l : ℕ) (t : Lexeme) (b : Tokens) (c : ColumnName) → is_open t.kind ≡ true → Column end bytes c b → (rest : Tokens) × (x : CondTree) × (n : ℕ) × ((read.nest end bytes (suc l)).conds (t ∷ (b ++ rest)) ≡ Ok (x, n))
  unfolding deeper
  null_read l t b c opens p =
      let i : Lexeme = record { kind = Key word.Is; token = t.token } in
      let n : Lexeme = record { kind = Key word.Null; token = t.token } in
      let u : Lexeme = record { kind = Mark sym.Close; token = t.token } in
      let inner = b ++ (i ∷ n ∷ []) in
      let whole = t ∷ (inner ++ (u ∷ [])) in
      let x = is_null (place end inner) c in
      let sentence : (deeper end bytes (suc l)).conds x whole = (t ∷ [], inner ++ (u ∷ []), refl, (t, refl, opens), (inner, u ∷ [], refl, null_condition end bytes (deeper end bytes l) c b i n p refl refl, (u, refl, refl))) in (
        i ∷ n ∷ u ∷ [],
        x,
        length whole,
        ap (λ z. (read.nest end bytes (suc l)).conds (t ∷ z)) (sym (append_assoc b (i ∷ n ∷ []) (u ∷ []))) ∙ ap (read.nest end bytes (suc l)).conds (sym (append-nil whole))
            ∙ (complete_below end bytes (suc l)).conds whole [] x sentence,
      )

  pub local_below : (l : ℕ) → LocalBelow end bytes (read.nest end bytes l)
  unfolding read.nest
  local_below zero = record {
    negs = λ ts. refusal_at end bytes CondTree 0 0 (refused fault.TooDeep) ts (omega arith);
    conds = λ room ts. absurd cc;
    queries = λ room ts. absurd cc;
    froms = λ room ts. absurd cc;
    no_conds = λ room ts. refl;
    no_queries = λ room ts. refl;
    no_froms = λ room ts. refl;
    column_closed = λ room ts b l c m e f p closes. absurd cc;
    column_open = λ room t b c opens p. absurd cc;
  }
  local_below (suc l) = by (local_below l)
    where
      by : LocalBelow end bytes (read.nest end bytes l) → LocalBelow end bytes (read.nest end bytes (suc l))
      by below = record {
        negs = λ ts. by_place end bytes 0 (λ p us. plus 1 (followed (drop 1 us) (read.neg end bytes (read.nest end bytes l) (drop 1 us)) (λ c rest. Ok (negated p c, 0)))) ts
            (next_at end bytes (λ us. followed us (read.neg end bytes (read.nest end bytes l) us) (λ c rest. Ok (negated (place end ts) c, 0))) ts
            (last_at end bytes 0 (read.neg end bytes (read.nest end bytes l)) (λ c. negated (place end ts) c) (drop 1 ts) (neg_local end bytes (read.nest end bytes l) below (drop 1 ts))));
        conds = λ room ts. closed_at end bytes 0 (read.cond end bytes (read.nest end bytes l)) (λ _. syntax) ts (cond_local end bytes (read.nest end bytes l) below (drop 1 ts));
        queries = λ room ts. closed_at end bytes 0 (λ us. plus 1 (read.body end bytes (read.nest end bytes l) (drop 1 us))) no_query_end ts
            (next_at end bytes (read.body end bytes (read.nest end bytes l)) (drop 1 ts) (body_local (read.nest end bytes l) below (drop 1 (drop 1 ts))));
        froms = λ room ts. closed_at end bytes 0 (read.joined end bytes (read.nest end bytes l) true) (λ _. no_join true) ts (joined_local (read.nest end bytes l) below true (drop 1 ts));
        no_conds = λ room ts. absurd cc;
        no_queries = λ room ts. absurd cc;
        no_froms = λ room ts. absurd cc;
        column_closed = λ room ts b rest c m e f p closes.
            rw (no_condition end bytes (read.nest end bytes l) (drop 1 ts) b rest c (column_first end bytes (drop 1 ts) c m e) f p closes) refl;
        column_open = λ room t b c opens p. null_read l t b c opens p;
      }
