-- When two forms are proved to have the same rows: chains of steps that end in congruent forms.
use Rattle.std.specs.Prelude.{ℕ, zero, suc, ◌≡◌, ◌⊎◌}
use Rattle.wt_form.specs.Trees.{Form}
use Rattle.wt_form.specs.Known.{Known}
use Rattle.wt_form.specs.Congruent.{Congruent}
use Rattle.wt_form.specs.Steps.{Step}

-- a chain of at most k steps leads from f to g
abbrev pub Chain : Known → ℕ → Form → Form → Type 0
Chain K zero f g = f ≡ g
Chain K (suc k) f g = (f ≡ g) ⊎ ((h : Form) × Step K f h × Chain K k h g)

-- some chain of at most k steps from f, and some chain of at most k steps from g, end in congruent forms
abbrev pub ProvableForms : Known → ℕ → Form → Form → Type 0
ProvableForms K k f g = (f' : Form) × (g' : Form) × Chain K k f f' × Chain K k g g' × Congruent K f' g'
