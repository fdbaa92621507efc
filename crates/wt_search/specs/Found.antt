-- Only private contracts cite this. Forms that are found, and how they grow.
use Rattle.std.specs.Prelude.{ℕ, ◌≡◌, ◌⊎◌, ◌↔◌, ◌<◌, ◌≤◌, ◌^◌, ◌-◌, min, List, [], ◌∷◌, ◌++◌, map, drop}
use Rattle.indexmap.specs.IndexSet.{keys}
use Rattle.wt_bag.specs.Choices.{Has, At}
use Rattle.wt_form.specs.Trees.{Form}
use Rattle.wt_form.specs.Known.{Known}
use Rattle.wt_form.specs.Steps.{Step}
use Rattle.wt_form.specs.Views.{form_seen, terms_seen}
use Rattle.wt_form.specs.Congruent.{Congruent}
use Rattle.wt_form.specs.Weights.{terms_size}
use Rattle.wt_form.specs.declared.form.Form.{Form as CodeForm}
use Rattle.wt_form.specs.FormOf.{form_of}
use Rattle.wt_symbol.specs.Sides.{PairTree}
use Rattle.wt_constraint.specs.Atoms.{atoms_of_pair}
use Rattle.wt_form_table.specs.Entries.{Tables, tables_of}
use Rattle.wt_form_table.specs.Spelled.{IsForm}
use Rattle.wt_search.specs.Room.{HasRoom}
use Rattle.wt_search.specs.declared.found.Found.{Found}
use Rattle.wt_search.specs.declared.search.Ready.{Ready}

abbrev pub AllRoom : List Form → Type 0
AllRoom fs = (f : Form) → Has f fs → HasRoom f

-- each form has the number beside it
abbrev pub Numbered : Tables → List Form → List ℕ → Type 0
Numbered T [] [] = Unit {0}
Numbered T (f ∷ fs) (n ∷ ns) = IsForm T n f × Numbered T fs ns
Numbered T [] (n ∷ ns) = ⊥
Numbered T (f ∷ fs) [] = ⊥

abbrev pub forms_of : Found → List Form
forms_of found = map form_seen found.forms.items

-- the forms behind the first few have their numbers
abbrev pub IsNumbered : Found → Type 0
IsNumbered found = Numbered (tables_of found.table) (drop 8 (forms_of found)) (keys found.numbers)

-- forms come behind the others: those with the property that were not there
pub record Grown (old new : List Form) (P : Form → Type 0) : Type 0 where
  pub rest : List Form
  pub behind : new ≡ old ++ rest
  pub has : (g : Form) → (Has g new ↔ (Has g old ⊎ P g))

-- a step leads to g from a form at a place from first to before last
abbrev pub GoesBetween : Known → List Form → ℕ → ℕ → Form → Type 0
GoesBetween K fs first last g = (i : ℕ) × (first ≤ i) × (i < last) × At (λ h. Step K h g) i fs

-- the size that congruent forms share
abbrev pub size_shown : CodeForm → ℕ
size_shown f = min (terms_size (terms_seen f.terms)) (2 ^ 64 - 1)

-- one of the others is congruent to the form
abbrev pub Meets : Known → List Form → Form → Type 0
Meets K others f = (j : ℕ) × At (Congruent K f) j others

-- the pair's atoms and the forms of its sides
pub record IsReady (p : PairTree) (ready : Ready) : Type 0 where
  pub atoms : ready.atoms ≡ atoms_of_pair p
  pub source : form_seen ready.source ≡ form_of p.source p.anchors
  pub dest : form_seen ready.dest ≡ form_of p.dest p.anchors
