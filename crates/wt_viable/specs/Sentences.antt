-- Sentences of any depth, and the tokens with which one begins: the viable prefixes.
use Rattle.std.specs.Prelude.{◌≡◌, ℕ, List, ◌++◌}
use Rattle.wt_ast.specs.Tree.{QueryTree}
use Rattle.wt_reading.specs.Lexemes.{Tokens, place}
use Rattle.wt_grammar.specs.Kinds.{is_select}
use Rattle.wt_reading.specs.Sentences.{Seq, Is}
use Rattle.wt_sentence.specs.Grammar.{Body, deeper}

module _ (end : ℕ) (bytes : List ℕ) where
  -- a statement with so many levels of nesting
  abbrev pub IsSentence : ℕ → QueryTree → Tokens → Type 0
  IsSentence levels q = Seq (Is is_select) (Body end bytes (deeper end bytes levels) q)

  -- some sentence, of any depth, begins with these tokens
  abbrev pub BeginsSome : Tokens → Type 0
  BeginsSome ts = (levels : ℕ) × (more : Tokens) × (q : QueryTree) × IsSentence levels q (ts ++ more)

  -- the tokens up to a place, and those behind it
  abbrev pub Parts : (Tokens → Tokens → Type 0) → Tokens → ℕ → Type 0
  Parts Holds ts at = (before : Tokens) × (behind : Tokens) × (ts ≡ before ++ behind) × (at ≡ place end behind) × Holds before behind
