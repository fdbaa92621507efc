-- Where the tokens of a text stand in it.
use Rattle.std.specs.Prelude.{ℕ, ◌<◌, ◌≤◌, List, [], ◌∷◌}
use Rattle.wt_lex.specs.declared.token.Token.{Token}

-- each token is not empty, begins at `from` or behind it and at or behind the end of the one before, and ends within `end`
abbrev pub InOrder : ℕ → ℕ → List Token → Type 0
InOrder from end [] = Unit {0}
InOrder from end (t ∷ ts) = (from ≤ t.start) × (t.start < t.end) × (t.end ≤ end) × InOrder t.end end ts
