-- Only private contracts cite this. How many pieces the terms of a form have.
use Rattle.std.specs.Prelude.{ℕ, ◌≡◌, ◌≢◌, length}
use Rattle.wt_form.specs.Trees.{Terms, no_terms, term_then, Form}

-- each term has so many
abbrev pub HavePieces : ℕ → Terms → Type 0
HavePieces n no_terms = Unit {0}
HavePieces n (term_then rs cs ps ts) = (length ps ≡ n) × HavePieces n ts

-- those of the first form have another number than those of the second
pub record Differ (f g : Form) : Type 0 where
  pub first : ℕ
  pub second : ℕ
  pub differ : first ≢ second
  pub have : HavePieces first f.terms
  pub others_have : HavePieces second g.terms

-- a form without terms
abbrev pub IsEmpty : Form → Type 0
IsEmpty f = f.terms ≡ no_terms
