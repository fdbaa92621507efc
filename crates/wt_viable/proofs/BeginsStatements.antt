-- The tokens before a refusal begin a sentence: all levels, and whole statements.
use Rattle.std.proofs.Common.{◌≡◌, ℕ, suc, zero, ◌⊎◌, inl, inr, true, List, drop, refl, sym, ◌∙◌, arith, Ok, Err}
use Rattle.std.specs.Prelude.{if◌then◌else◌}
use Rattle.wt_ast.specs.Tree.{QueryTree, CondTree, negated}
use Rattle.wt_grammar.specs.declared.fault.QueryFault.TheVariants as fault
use Rattle.wt_reading.specs.declared.lexeme.Kind.TheVariants.{Key}
use Rattle.wt_lex.specs.declared.words.Word.TheVariants as words
use Rattle.wt_reading.specs.Lexemes.{Tokens, kind, place, is_end}
use Rattle.wt_grammar.specs.Kinds.{is_not, is_select}
use Rattle.wt_grammar.specs.Refusals.{syntax, no_join, no_statement}
use Rattle.wt_grammar.specs.Reading as read
use Rattle.wt_reading.specs.Readings.{plus}
use Rattle.wt_grammar.specs.Reading.{Read, Refusal, refused, Nest, no_query_end}
use Rattle.wt_reading.specs.Sentences.{Seq, Is, IsAt, Parens}
use Rattle.wt_sentence.specs.Grammar.{Deeper, deeper}
use Rattle.wt_sentence.specs.Grammar as spec
use Rattle.wt_reading.proofs.Inversions.{chosen, plus_ok}
use Rattle.wt_reading.proofs.Took.{Took, took_is, took_then, took_as}
use Rattle.wt_sentence.proofs.SoundQueries.{SoundBelow, cond_sound, joined_sound, body_sound}
use Rattle.wt_sentence.proofs.Sound.{sound_below}
use Rattle.wt_viable.specs.Sentences.{BeginsSome, Parts, IsSentence}
use Rattle.wt_viable.proofs.Levels.{Steady, SteadyBelow, steady_below}
use Rattle.wt_viable.proofs.Begins.{Any, Ending, Begins, Viable, a_token, then_ending, as_ending, ok_no_err, err_parts, plus_err, followed_err, last_err, begins_at_front, begins_behind, begins_then, begins_as, begins_within}
use Rattle.wt_viable.proofs.BeginsConditions.{BeginsBelow, parens_behind, in_parens, a_neg, a_cond, neg_begins, cond_begins}
use Rattle.wt_viable.proofs.BeginsQueries.{a_joined, a_select, joined_begins, body_begins}

-- what is read is read the same with more levels
steady_ok : {A : Type 0} (r s : Read A) (x : A × ℕ) → Steady r s → r ≡ Ok x → s ≡ Ok x
steady_ok r s x (inl (at, e)) h = let none = sym e ∙ h in absurd cc
steady_ok r s x (inr e) h = e ∙ h

module _ (end : ℕ) (bytes : List ℕ) where
  -- What is read with so many levels is a sentence of one more. So a level too many stands before tokens that still go on.
  pub sound_next : (l : ℕ) → SoundBelow end bytes (read.nest end bytes l) (deeper end bytes (suc l))
  sound_next l = by (steady_below end bytes l (suc l) (omega arith)) (sound_below end bytes (suc l))
    where
      by : SteadyBelow (read.nest end bytes l) (read.nest end bytes (suc l)) → SoundBelow end bytes (read.nest end bytes (suc l)) (deeper end bytes (suc l))
          → SoundBelow end bytes (read.nest end bytes l) (deeper end bytes (suc l))
      by same below = record {
        room = λ h. below.room (same.room h);
        negs = λ ts c n is h. below.negs ts c n is (steady_ok _ _ (c, n) (same.negs ts) h);
        conds = λ ts c n is h. below.conds ts c n is (steady_ok _ _ (c, n) (same.conds ts) h);
        queries = λ ts q n is si h. below.queries ts q n is si (steady_ok _ _ (q, n) (same.queries ts) h);
        froms = λ ts f n is h. below.froms ts f n is (steady_ok _ _ (f, n) (same.froms ts) h);
        there = below.there;
      }

  abbrev pub Query : Deeper → QueryTree → Tokens → Type 0
  Query d q = Seq (Is is_select) (spec.Body end bytes d q)

  -- NOT and a condition behind it
  abbrev pub Negated : Deeper → CondTree → Tokens → Type 0
  Negated d c l = (at : ℕ) × (x : CondTree) × Seq (IsAt is_not at) (spec.Neg end bytes d x) l × (c ≡ negated at x)

  negated_of : (d : Deeper) (l : Tokens) → Seq (Is is_not) (Any (spec.Neg end bytes d)) l → Any (Negated d) l
  negated_of d l (a, b, e, (t, f, s), (x, p)) = (negated t.token.start x, (t.token.start, x, (a, b, e, (t, f, (s, refl)), p), refl))

  a_negated : (d : Deeper) → Ending (Any (Negated d))
  a_negated d =
      as_ending (Seq (Is is_not) (Any (spec.Neg end bytes d))) (Any (Negated d)) (negated_of d)
      (then_ending (Is is_not) (Any (spec.Neg end bytes d)) (a_token is_not (Key words.Not) refl) (a_neg end bytes d))

  select_begins : (ns : Nest) (d : Deeper) → SoundBelow end bytes ns d → BeginsBelow end ns d → (ts : Tokens) (why : Refusal) (at : ℕ) → is_select (kind ts) ≡ true
      → plus 1 (read.body end bytes ns (drop 1 ts)) ≡ Err (why, at) → Begins end (Any (Query d)) ts at
  select_begins ns d sound below ts why at selects h =
      begins_as end (Seq (Is is_select) (Any (spec.Body end bytes d))) (Any (Query d)) ts at (λ l (a, b, e, s, (q, p)). (q, (a, b, e, s, p)))
      (begins_then end (Is is_select) (Any (spec.Body end bytes d)) ts 1 at (took_is is_select ts refl selects) (body_begins end bytes d ns sound below (drop 1 ts) why at (plus_err 1 _ (why, at) h)))

  select_sound : (ns : Nest) (d : Deeper) → SoundBelow end bytes ns d → (ts : Tokens) (q : QueryTree) (n : ℕ) → is_select (kind ts) ≡ true
      → plus 1 (read.body end bytes ns (drop 1 ts)) ≡ Ok (q, n) → Took (Query d q) ts n
  select_sound ns d sound ts q n selects h =
      let (j, e, s) = plus_ok 1 _ q n h in
      took_then (Is is_select) (spec.Body end bytes d q) ts 1 j n (took_is is_select ts refl selects) (body_sound end bytes ns d sound (drop 1 ts) q j e) s

  pub begins_below : (l : ℕ) → BeginsBelow end (read.nest end bytes l) (deeper end bytes (suc l))
  unfolding read.nest deeper
  begins_below zero = record {
    room = tt;
    negs = λ ts why at is h. begins_at_front end (Any (Negated (deeper end bytes 0))) ts (refused fault.TooDeep) why at (a_negated (deeper end bytes 0)) h;
    conds = λ ts why at is h. begins_at_front end (Any (Parens (spec.Cond end bytes (deeper end bytes 0)))) ts (refused fault.TooDeep) why at
        (in_parens (spec.Cond end bytes (deeper end bytes 0)) (a_cond end bytes (deeper end bytes 0))) h;
    queries = λ ts why at is si h. begins_at_front end (Any (Parens (Query (deeper end bytes 0)))) ts (refused fault.TooDeep) why at
        (in_parens (Query (deeper end bytes 0)) (a_select end bytes (deeper end bytes 0))) h;
    froms = λ ts why at is h. begins_at_front end (Any (Parens (spec.Joined end bytes (deeper end bytes 0)))) ts (refused fault.TooDeep) why at
        (in_parens (spec.Joined end bytes (deeper end bytes 0)) (a_joined end bytes (deeper end bytes 0))) h;
    query_behind = λ t opens. parens_behind (Query (deeper end bytes 0)) t opens (a_select end bytes (deeper end bytes 0));
  }
  begins_below (suc l) = by (sound_next l) (begins_below l)
    where
      by : SoundBelow end bytes (read.nest end bytes l) (deeper end bytes (suc l)) → BeginsBelow end (read.nest end bytes l) (deeper end bytes (suc l))
          → BeginsBelow end (read.nest end bytes (suc l)) (deeper end bytes (suc (suc l)))
      by sound below = record {
        room = tt;
        negs = λ ts why at is h.
            begins_as end (Seq (Is is_not) (Any (spec.Neg end bytes (deeper end bytes (suc l))))) (Any (Negated (deeper end bytes (suc l)))) ts at (negated_of (deeper end bytes (suc l)))
            (begins_then end (Is is_not) (Any (spec.Neg end bytes (deeper end bytes (suc l)))) ts 1 at (took_is is_not ts refl is)
            (neg_begins end bytes (deeper end bytes (suc l)) (read.nest end bytes l) sound below (drop 1 ts) why at
            (last_err (drop 1 ts) (read.neg end bytes (read.nest end bytes l) (drop 1 ts)) (λ c. negated (place end ts) c) (why, at) (plus_err 1 _ (why, at) h))));
        conds = λ ts why at is h. begins_within end (spec.Cond end bytes (deeper end bytes (suc l))) (read.cond end bytes (read.nest end bytes l)) (λ _. syntax) ts why at is
            (cond_begins end bytes (deeper end bytes (suc l)) (read.nest end bytes l) sound below (drop 1 ts) why at)
            (cond_sound end bytes (read.nest end bytes l) (deeper end bytes (suc l)) sound (drop 1 ts)) h;
        queries = λ ts why at is si h. begins_within end (Query (deeper end bytes (suc l))) (λ ts. plus 1 (read.body end bytes (read.nest end bytes l) (drop 1 ts))) no_query_end ts why at is
            (select_begins (read.nest end bytes l) (deeper end bytes (suc l)) sound below (drop 1 ts) why at si)
            (λ q n e. select_sound (read.nest end bytes l) (deeper end bytes (suc l)) sound (drop 1 ts) q n si e) h;
        froms = λ ts why at is h. begins_within end (spec.Joined end bytes (deeper end bytes (suc l))) (read.joined end bytes (read.nest end bytes l) true) (λ _. no_join true) ts why at is
            (joined_begins end bytes (deeper end bytes (suc l)) (read.nest end bytes l) sound below true (drop 1 ts) why at)
            (joined_sound end bytes (read.nest end bytes l) (deeper end bytes (suc l)) sound true (drop 1 ts)) h;
        query_behind = λ t opens. parens_behind (Query (deeper end bytes (suc l))) t opens (a_select end bytes (deeper end bytes (suc l)));
      }

  -- The tokens before a refusal of a statement begin a statement with one level more.
  statement_begins : Viable end (Any (IsSentence end bytes 33)) (read.statement end bytes)
  unfolding read.statement
  statement_begins ts why at h =
      elim (chosen (is_select (kind ts)) _ _ _ h) [
        | inl p ↦ whole p.0 (followed_err (drop 1 ts) (read.body end bytes (read.nest end bytes 32) (drop 1 ts)) _ (why, at) (plus_err 1 _ (why, at) p.1))
        | inr p ↦ begins_at_front end (Any (IsSentence end bytes 33)) ts (refused (no_statement (kind ts))) why at (a_select end bytes (deeper end bytes 33)) p.1
      ]
    where
      stands : (q : QueryTree) (l : Tokens) → (if is_end (kind l) then Ok (q, 0) else read.no end (no_query_end q (kind l)) l) ≡ Err (why, at) → at ≡ place end l
      stands q l e =
          elim (chosen (is_end (kind l)) _ _ _ e) [
            | inl p ↦ absurd (ok_no_err p.1)
            | inr p ↦ err_parts {A = QueryTree} (refused (no_query_end q (kind l))) why (place end l) at p.1
          ]

      behind : is_select (kind ts) ≡ true → Begins end (Any (spec.Body end bytes (deeper end bytes 33))) (drop 1 ts) at → Begins end (Any (IsSentence end bytes 33)) ts at
      behind selects z =
          begins_as end (Seq (Is is_select) (Any (spec.Body end bytes (deeper end bytes 33)))) (Any (IsSentence end bytes 33)) ts at (λ l (a, b, e, s, (q, p)). (q, (a, b, e, s, p)))
          (begins_then end (Is is_select) (Any (spec.Body end bytes (deeper end bytes 33))) ts 1 at (took_is is_select ts refl selects) z)

      whole : is_select (kind ts) ≡ true
          → (read.body end bytes (read.nest end bytes 32) (drop 1 ts) ≡ Err (why, at))
          ⊎ ((q : QueryTree) × (m : ℕ) × (read.body end bytes (read.nest end bytes 32) (drop 1 ts) ≡ Ok (q, m))
          × ((if is_end (kind (drop m (drop 1 ts))) then Ok (q, 0) else read.no end (no_query_end q (kind (drop m (drop 1 ts)))) (drop m (drop 1 ts))) ≡ Err (why, at)))
          → Begins end (Any (IsSentence end bytes 33)) ts at
      whole selects (inl e) = behind selects (body_begins end bytes (deeper end bytes 33) (read.nest end bytes 32) (sound_next 32) (begins_below 32) (drop 1 ts) why at e)
      whole selects (inr (q, m, e, g)) =
          behind selects (begins_behind end (Any (spec.Body end bytes (deeper end bytes 33))) (drop 1 ts) m at (stands q (drop m (drop 1 ts)) g)
          (took_as (spec.Body end bytes (deeper end bytes 33) q) (Any (spec.Body end bytes (deeper end bytes 33))) (drop 1 ts) m m (λ a z. (q, z)) refl
          (body_sound end bytes (read.nest end bytes 32) (deeper end bytes 33) (sound_next 32) (drop 1 ts) q m e)))

  pub refusal_begins : (ts : Tokens) (why : Refusal) (at : ℕ) → read.statement end bytes ts ≡ Err (why, at) → Parts end bytes (λ before behind. BeginsSome end bytes before) ts at
  refusal_begins ts why at h =
      let (before, behind, e, f, more, (q, p)) = statement_begins ts why at h in
      (before, behind, e, f, (33, more, q, p))
