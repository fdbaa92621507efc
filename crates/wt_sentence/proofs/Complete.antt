-- What the grammar derives is read: all levels, and whole statements.
use Rattle.std.proofs.Common.{◌≡◌, ℕ, suc, zero, true, List, [], ◌∷◌, ◌++◌, length, drop, refl, ap, sym, ◌∙◌, append_assoc, append-nil, Ok, subst}
use Rattle.std.specs.Prelude.{if◌then◌else◌}
use Rattle.wt_ast.specs.Tree.{QueryTree, CondTree, negated}
use Rattle.wt_reading.specs.declared.lexeme.Lexeme.{Lexeme}
use Rattle.wt_reading.specs.Lexemes.{Tokens, kind, is_open, is_end}
use Rattle.wt_grammar.specs.Kinds.{is_select}
use Rattle.wt_grammar.specs.Refusals.{syntax, no_join, no_statement}
use Rattle.wt_grammar.specs.Reading as read
use Rattle.wt_reading.specs.Readings.{plus, followed}
use Rattle.wt_grammar.specs.Reading.{Read, refusal, no_query_end, opens_tuple}
use Rattle.wt_reading.specs.Sentences.{Seq, Is, Parens}
use Rattle.wt_sentence.specs.Grammar.{deeper}
use Rattle.wt_sentence.specs.Grammar as spec
use Rattle.wt_reading.proofs.Took.{some_seq, some_one}
use Rattle.wt_sentence.proofs.Stages.{passes_is}
use Rattle.wt_sentence.proofs.Follows.{Plain, EndsQuery, close_query, end_query}
use Rattle.wt_reading.proofs.Complete.{then_reads, last_reads, plus_one}
use Rattle.wt_reading.proofs.Complete.{then_reads, last_reads, plus_one}
use Rattle.wt_sentence.proofs.CompleteQueries.{CompleteBelow, within_reads, neg_reads, cond_reads, cond_front, joined_reads, joined_front, body_reads}

module _ (end : ℕ) (bytes : List ℕ) where
  pub complete_below : (l : ℕ) → CompleteBelow end bytes (read.nest end bytes l) (deeper end bytes l)
  unfolding read.nest deeper opens_tuple
  complete_below zero = record {
    room = λ h. absurd h;
    negs = λ a rest c h f. absurd h;
    negs_not = λ c a h. absurd h;
    conds = λ a rest c h. absurd h;
    conds_open = λ c a h rest. absurd h;
    queries = λ a rest q h. absurd h;
    queries_open = λ q a h rest. absurd h;
    queries_there = λ q a h. absurd h;
    froms = λ a rest f h. absurd h;
    froms_open = λ f a h rest. absurd h;
  }
  complete_below (suc l) = by (complete_below l)
    where
      negs_at : CompleteBelow end bytes (read.nest end bytes l) (deeper end bytes l) → (a rest : Tokens) (c : CondTree) → (deeper end bytes (suc l)).negs c a → Plain (kind rest)
          → (read.nest end bytes (suc l)).negs (a ++ rest) ≡ Ok (c, length a)
      negs_at below a rest c (at, x, (m, b, e, (t, e1, (is, ate)), q), ce) f =
          subst (λ z. (read.nest end bytes (suc l)).negs (z ++ rest) ≡ Ok (c, length z)) (sym (e ∙ ap (λ z. z ++ b) e1))
          (plus_one _ (negated t.token.start x) (length b)
          (last_reads (read.neg end bytes (read.nest end bytes l)) (λ c. negated t.token.start c) b rest x
          (neg_reads end bytes (read.nest end bytes l) (deeper end bytes l) below b rest x q f))
          ∙ ap (λ z. Ok (z, suc (length b))) (ap (λ z. negated z x) (sym ate) ∙ sym ce))

      opened : {A : Type 0} (Part : A → Tokens → Type 0) (x : A) (a : Tokens) → Parens Part x a → (rest : Tokens) → (t : Lexeme) × (b : Tokens) × (u : Lexeme) × (a ++ rest ≡ t ∷ (b ++ (u ∷ rest))) × (is_open t.kind ≡ true) × Part x b
      opened Part x a (m, c, e, (t, e1, is), (b, r, e2, p, (u, e3, closes))) rest =
          (t, b, u, ap (λ z. z ++ rest) (e ∙ (λ i. e1 i ++ (e2 ∙ ap (λ z. b ++ z) e3) i)) ∙ ap (λ z. t ∷ z) (append_assoc b (u ∷ []) rest), is, p)

      query_at : CompleteBelow end bytes (read.nest end bytes l) (deeper end bytes l) → (b rest : Tokens) (y : QueryTree) → Seq (Is is_select) (spec.Body end bytes (deeper end bytes l) y) b → EndsQuery (kind rest)
          → plus 1 (read.body end bytes (read.nest end bytes l) (drop 1 (b ++ rest))) ≡ Ok (y, length b)
      query_at below b rest y (m, c, e, (t, e1, is), q) f =
          subst (λ z. plus 1 (read.body end bytes (read.nest end bytes l) (drop 1 (z ++ rest))) ≡ Ok (y, length z)) (sym (e ∙ ap (λ z. z ++ c) e1))
          (plus_one _ y (length c) (body_reads end bytes (read.nest end bytes l) (deeper end bytes l) below c rest y q f))

      by : CompleteBelow end bytes (read.nest end bytes l) (deeper end bytes l) → CompleteBelow end bytes (read.nest end bytes (suc l)) (deeper end bytes (suc l))
      by below = record {
        room = λ h. refl;
        negs = negs_at below;
        negs_not = λ c a (at, x, (m, b, e, (t, e1, (is, ate)), q), ce). (t, b, e ∙ ap (λ z. z ++ b) e1, is);
        conds = λ a rest c p. within_reads (spec.Cond end bytes (deeper end bytes l)) (read.cond end bytes (read.nest end bytes l)) (λ _. refusal end syntax) a rest c p
            (λ b r y q h. cond_reads end bytes (read.nest end bytes l) (deeper end bytes l) below b r y q (close_query (kind r) h).list.from.cond);
        conds_open = λ c a p rest.
            let (t, b, u, e, is, q) = opened (spec.Cond end bytes (deeper end bytes l)) c a p rest in
            let (s, n) = cond_front end bytes (read.nest end bytes l) (deeper end bytes l) below b (u ∷ rest) c q in
            (ap (λ z. is_open (kind z)) e ∙ is, ap (λ z. is_select (kind (drop 1 z))) e ∙ s, ap opens_tuple e ∙ sym (passes_is (b ++ (u ∷ rest))) ∙ n);
        queries = λ a rest q p. within_reads (λ q. Seq (Is is_select) (spec.Body end bytes (deeper end bytes l) q)) (λ ts. plus 1 (read.body end bytes (read.nest end bytes l) (drop 1 ts))) (λ q. refusal end (no_query_end q)) a rest q p
            (λ b r y z h. query_at below b r y z (close_query (kind r) h));
        queries_open = λ q a p rest.
            let (t, b, u, e, is, (m, c, e1, (v, e2, si), r)) = opened (λ q. Seq (Is is_select) (spec.Body end bytes (deeper end bytes l) q)) q a p rest in
            (ap (λ z. is_open (kind z)) e ∙ is, ap (λ z. is_select (kind (drop 1 z))) e ∙ ap (λ z. is_select (kind (z ++ (u ∷ rest)))) (e1 ∙ ap (λ z. z ++ c) e2) ∙ si);
        queries_there = λ q a p. some_seq _ _ (λ b y. some_one _ b y) a p;
        froms = λ a rest f p. within_reads (spec.Joined end bytes (deeper end bytes l)) (read.joined end bytes (read.nest end bytes l) true) (λ _. refusal end (no_join true)) a rest f p
            (λ b r y q h. joined_reads end bytes (read.nest end bytes l) (deeper end bytes l) below true b r y q (close_query (kind r) h).list.from);
        froms_open = λ f a p rest.
            let (t, b, u, e, is, q) = opened (spec.Joined end bytes (deeper end bytes l)) f a p rest in
            (ap (λ z. is_open (kind z)) e ∙ is, ap (λ z. is_select (kind (drop 1 z))) e ∙ joined_front end bytes (read.nest end bytes l) (deeper end bytes l) below f b (u ∷ rest) q);
      }

  -- a whole statement, with so many levels
  abbrev pub statement_with : ℕ → Tokens → Read QueryTree
  statement_with levels ts =
      if is_select (kind ts)
      then plus 1 (followed (drop 1 ts) (read.body end bytes (read.nest end bytes levels) (drop 1 ts)) (λ q rest. if is_end (kind rest) then Ok (q, 0) else read.no end (no_query_end q (kind rest)) rest))
      else read.no end (no_statement (kind ts)) ts

  -- Every sentence of the grammar is read, with its value, and whole, by a reading with as many levels.
  pub complete_with : (levels : ℕ) (q : QueryTree) (ts : Tokens) → Seq (Is is_select) (spec.Body end bytes (deeper end bytes levels) q) ts → statement_with levels ts ≡ Ok (q, length ts)
  complete_with levels q ts (m, b, e, (t, e1, is), p) =
      let body : read.body end bytes (read.nest end bytes levels) (b ++ []) ≡ Ok (q, length b) =
      body_reads end bytes (read.nest end bytes levels) (deeper end bytes levels) (complete_below levels) b [] q p end_query in
      let P : Tokens → Type 0 =
      λ z. followed z (read.body end bytes (read.nest end bytes levels) z) (λ q rest. if is_end (kind rest) then Ok (q, 0) else read.no end (no_query_end q (kind rest)) rest) ≡ Ok (q, length b) in
      let whole : P (b ++ []) =
      then_reads (read.body end bytes (read.nest end bytes levels)) (λ q rest. if is_end (kind rest) then Ok (q, 0) else read.no end (no_query_end q (kind rest)) rest) b b [] [] q q (sym (append-nil b)) body refl in
      subst (λ z. statement_with levels z ≡ Ok (q, length z)) (sym (e ∙ ap (λ z. z ++ b) e1)) (rw is (plus_one _ q (length b) (subst P (append-nil b) whole)))

  pub complete : (q : QueryTree) (ts : Tokens) → spec.IsStatement end bytes q ts → read.statement end bytes ts ≡ Ok (q, length ts)
  unfolding read.statement
  complete = complete_with 32
