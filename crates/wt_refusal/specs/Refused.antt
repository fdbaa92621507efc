-- Where a refusal stands: behind tokens with which a sentence begins, at the first token with which none goes on.
use Rattle.std.specs.Prelude.{◌≡◌, ℕ, ◌≤◌, Bool, true, false, ◌⊎◌, List, ◌∷◌, ◌++◌, take}
use Rattle.wt_ast.specs.declared.tree.ColumnName.{ColumnName}
use Rattle.wt_ast.specs.Tree.{QueryTree}
use Rattle.wt_lex.specs.declared.token.Sym.TheVariants as sym
use Rattle.wt_grammar.specs.declared.fault.QueryFault.{QueryFault}
use Rattle.wt_grammar.specs.declared.fault.QueryFault.TheVariants as fault
use Rattle.wt_reading.specs.declared.lexeme.Kind.{Kind}
use Rattle.wt_reading.specs.declared.lexeme.Kind.TheVariants.{Mark}
use Rattle.wt_reading.specs.declared.lexeme.Lexeme.{Lexeme}
use Rattle.wt_reading.specs.Lexemes.{Tokens, kind, is_open, is_close, is_comma}
use Rattle.wt_grammar.specs.Reading.{Refusal, refused, in_follows}
use Rattle.wt_reading.specs.Sentences.{Listed, Parens}
use Rattle.wt_sentence.specs.Grammar.{Column}
use Rattle.wt_viable.specs.Sentences.{BeginsSome, IsSentence, Parts}

-- How many tokens show a refusal at a token of this kind: one, but `-` and what is no number, `(` and SELECT, and NOT IN
-- `(` SELECT.
abbrev pub looked : Refusal → Kind → ℕ
looked (refused fault.Arithmetic) (Mark sym.Minus) = 2
looked (refused fault.Subquery) _ = 2
looked (refused fault.NotInSubquery) _ = 4
looked _ _ = 1

-- the kinds of refusals that come from the grammar, not from the length of a statement or from what its tree has
abbrev pub is_of_grammar : QueryFault → Bool
is_of_grammar fault.TooLong = false
is_of_grammar fault.InUnderOr = false
is_of_grammar fault.TooMany = false
is_of_grammar _ = true

-- The depths of sentences of which a refusal speaks: all of them, but for the refusal of a level too many.
abbrev pub Speaks : Refusal → ℕ → Type 0
Speaks (refused fault.TooDeep) levels = levels ≤ 32
Speaks _ levels = Unit {0}

module _ (end : ℕ) (bytes : List ℕ) where
  -- no sentence goes on, behind the tokens before, with the first n of those behind
  abbrev pub NoneGoesOn : (ℕ → Type 0) → ℕ → Tokens → Tokens → Type 0
  NoneGoesOn Depth n before behind =
      (levels : ℕ) (q : QueryTree) (next : Tokens) → Depth levels → take n next ≡ take n behind → IsSentence end bytes levels q (before ++ next) → ⊥

  -- no columns in parentheses stand at the front with IN or NOT IN behind them
  abbrev pub NoTuple : Tokens → Type 0
  NoTuple ts = (cs : List ColumnName) (a b : Tokens) → ts ≡ a ++ b → Parens (Listed (Column end bytes)) cs a → in_follows b ≡ true → ⊥

  -- A `(` and a column stand before, and a `,` or `)` behind: what might have become a tuple. But no tuple stands there: the
  -- tokens from that `(` on are no columns in parentheses with IN or NOT IN behind them.
  abbrev pub IsNoTuple : Tokens → Tokens → Type 0
  IsNoTuple before behind =
      (a : Tokens) × (t : Lexeme) × (b : Tokens) × (c : ColumnName) × (before ≡ a ++ t ∷ b) × (is_open t.kind ≡ true) × Column end bytes c b
      × ((is_comma (kind behind) ≡ true) ⊎ (is_close (kind behind) ≡ true)) × NoTuple (t ∷ (b ++ behind))

  abbrev pub Ends : Refusal → Tokens → Tokens → Type 0
  Ends why before behind = NoneGoesOn (Speaks why) (looked why (kind behind)) before behind ⊎ ((why ≡ refused fault.Syntax) × IsNoTuple before behind)

  -- a refusal is at the first tokens with which no sentence goes on
  abbrev pub StandsAt : Refusal → Tokens → ℕ → Type 0
  StandsAt why ts at = Parts end bytes (λ before behind. BeginsSome end bytes before × Ends why before behind) ts at
