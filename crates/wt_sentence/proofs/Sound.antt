-- What is read is a sentence: all levels, and whole statements.
use Rattle.std.proofs.Common.{◌≡◌, ℕ, suc, zero, ◌+◌, true, false, List, [], ◌∷◌, ◌++◌, drop, refl, ap, sym, ◌∙◌, Ok, Option, Some, None, subst, append-nil}
use Rattle.std.specs.Prelude.{map}
use Rattle.std.proofs.lemmas.List.{drop-drop}
use Rattle.wt_lex.specs.declared.token.Token.{Token}
use Rattle.wt_lex.specs.declared.token.TokenKind.{TokenKind}
use Rattle.wt_lex.specs.declared.token.TokenKind.TheVariants as kinds
use Rattle.wt_ast.specs.Tree.{QueryTree, negated}
use Rattle.wt_lex.specs.declared.words.Word.{Word}
use Rattle.wt_reading.specs.Lexemes.{lexeme, kind_by}
use Rattle.wt_lex.specs.Names.{keyword}
use Rattle.wt_reading.specs.Lexemes.{Tokens, kind, place, is_end}
use Rattle.wt_grammar.specs.Kinds.{is_not, is_select}
use Rattle.wt_grammar.specs.Refusals.{syntax, no_join}
use Rattle.wt_grammar.specs.Reading as read
use Rattle.wt_reading.specs.Readings.{plus}
use Rattle.wt_grammar.specs.Reading.{Read, refusal, no_query_end}
use Rattle.wt_reading.specs.Sentences.{Seq, Is, IsAt}
use Rattle.wt_sentence.specs.Grammar.{deeper}
use Rattle.wt_sentence.specs.Grammar as spec
use Rattle.wt_reading.proofs.Inversions.{held, ok_parts, plus_ok, followed_ok, last_ok}
use Rattle.wt_reading.proofs.Took.{Took, took_then, took_as, took_one, took_is, some_seq, some_one, within_at, behind_front}
use Rattle.wt_sentence.proofs.SoundQueries.{SoundBelow, neg_sound, cond_sound, joined_sound, body_sound}

module _ (end : ℕ) (bytes : List ℕ) where
  pub sound_below : (l : ℕ) → SoundBelow end bytes (read.nest end bytes l) (deeper end bytes l)
  unfolding read.nest deeper
  sound_below zero = record {
    room = λ h. cc;
    negs = λ ts c n is h. absurd cc;
    conds = λ ts c n is h. absurd cc;
    queries = λ ts q n is si h. absurd cc;
    froms = λ ts f n is h. absurd cc;
    there = λ q a h. absurd h;
  }
  sound_below (suc l) = by (sound_below l)
    where
      by : SoundBelow end bytes (read.nest end bytes l) (deeper end bytes l) → SoundBelow end bytes (read.nest end bytes (suc l)) (deeper end bytes (suc l))
      by below = record {
        room = λ h. tt;
        negs = λ ts c n is h.
            let (j, e, s) = plus_ok 1 _ c n h in
            let (x, e', f) = last_ok (drop 1 ts) (read.neg end bytes (read.nest end bytes l) (drop 1 ts)) (λ x. negated (place end ts) x) c j e in
            took_as (Seq (IsAt is_not (place end ts)) (spec.Neg end bytes (deeper end bytes l) x)) ((deeper end bytes (suc l)).negs c) ts n n (λ a z. (place end ts, x, z, f)) refl
            (took_then (IsAt is_not (place end ts)) (spec.Neg end bytes (deeper end bytes l) x) ts 1 j n (took_one is_not end ts refl is)
            (neg_sound end bytes (read.nest end bytes l) (deeper end bytes l) below (drop 1 ts) x j e') s);
        conds = λ ts c n is h. within_at (spec.Cond end bytes (deeper end bytes l)) (read.cond end bytes (read.nest end bytes l)) (λ _. refusal end syntax) ts c n is
            (λ y m e. cond_sound end bytes (read.nest end bytes l) (deeper end bytes l) below (drop 1 ts) y m e) h;
        queries = λ ts q n is si h. within_at (λ q. Seq (Is is_select) (spec.Body end bytes (deeper end bytes l) q)) (λ ts. plus 1 (read.body end bytes (read.nest end bytes l) (drop 1 ts))) (λ q. refusal end (no_query_end q)) ts q n is
            (λ y m e.
            let (j, e', s) = plus_ok 1 _ y m e in
            took_then (Is is_select) (spec.Body end bytes (deeper end bytes l) y) (drop 1 ts) 1 j m (took_is is_select (drop 1 ts) refl si)
            (body_sound end bytes (read.nest end bytes l) (deeper end bytes l) below (drop 1 (drop 1 ts)) y j e') s) h;
        froms = λ ts f n is h. within_at (spec.Joined end bytes (deeper end bytes l)) (read.joined end bytes (read.nest end bytes l) true) (λ _. refusal end (no_join true)) ts f n is
            (λ y m e. joined_sound end bytes (read.nest end bytes l) (deeper end bytes l) below true (drop 1 ts) y m e) h;
        there = λ q a z. some_seq _ _ (λ b y. some_one _ b y) a z;
      }

  -- no token of a text is of the kind End
  kind_ends : (k : TokenKind) (w : Option Word) → is_end (kind_by k w) ≡ false
  kind_ends kinds.Word (Some w) = refl
  kind_ends kinds.Word None = refl
  kind_ends kinds.Quoted w = refl
  kind_ends (kinds.Number n) w = refl
  kind_ends kinds.Text w = refl
  kind_ends (kinds.Symbol s) w = refl
  kind_ends (kinds.Odd f) w = refl

  ended : (tokens : List Token) (n : ℕ) → is_end (kind (drop n (map (lexeme bytes) tokens))) ≡ true → drop n (map (lexeme bytes) tokens) ≡ []
  unfolding lexeme
  ended [] zero h = refl
  ended [] (suc n) h = refl
  ended (t ∷ tokens) zero h = let e = kind_ends t.kind (keyword bytes t) in absurd cc
  ended (t ∷ tokens) (suc n) h = ended tokens n h

  whole : (P : Tokens → Type 0) (ts : Tokens) (n : ℕ) → drop n ts ≡ [] → Took P ts n → P ts
  whole P ts n none (a, b, e, l, p) =
      let rest : b ≡ [] = sym (behind_front ts a b n e l) ∙ none in
      subst P (sym (e ∙ ap (λ z. a ++ z) rest ∙ append-nil a)) p

  -- What is read of a statement's tokens is a sentence of the grammar, with its value, and all of them.
  pub sound : (tokens : List Token) (q : QueryTree) (n : ℕ) → read.statement end bytes (map (lexeme bytes) tokens) ≡ Ok (q, n)
      → spec.IsStatement end bytes q (map (lexeme bytes) tokens)
  unfolding read.statement
  sound tokens q n h =
      let ts = map (lexeme bytes) tokens in
      let (is, h') = held (is_select (kind ts)) _ _ q n h in
      let (j, e, s) = plus_ok 1 _ q n h' in
      let (x, m, k, r, t, s') = followed_ok (drop 1 ts) (read.body end bytes (read.nest end bytes 32) (drop 1 ts)) _ q j e in
      let (over, t') = held (is_end (kind (drop m (drop 1 ts)))) _ _ q k t in
      let (same, none) = ok_parts x q 0 k t' in
      let took : Took (spec.IsStatement end bytes x) ts (1 + m) = took_then (Is is_select) (spec.Body end bytes (deeper end bytes 32) x) ts 1 m (1 + m) (took_is is_select ts refl is)
      (body_sound end bytes (read.nest end bytes 32) (deeper end bytes 32) (sound_below 32) (drop 1 ts) x m r) refl in
      let none = ended tokens (1 + m) (ap (λ l. is_end (kind l)) (sym (drop-drop m 1 ts)) ∙ over) in
      subst (λ z. spec.IsStatement end bytes z ts) same (whole (spec.IsStatement end bytes x) ts (1 + m) none took)
