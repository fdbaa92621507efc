-- What a call that adds to a list of sums has added.
use Rattle.std.specs.Prelude.{ℕ, suc, ◌<◌, ◌≡◌, ◌⊎◌, ◌↔◌, List, take, drop}
use Rattle.wt_bag.specs.Choices.{At, Has, drop_at}
use Rattle.wt_form.specs.Trees.{Terms, Cond}
use Rattle.wt_form.specs.Parts.{one_term}
use Rattle.wt_form.specs.Views.{OneTerm}
use Rattle.wt_places.specs.Lists.{conds_from}

-- the new list has what the old one had, and what P gives
abbrev pub Gained : List Terms → List Terms → (Terms → Type 0) → Type 0
Gained old new P = (us : Terms) → (Has us new ↔ (Has us old ⊎ P us))

-- what the places below j give
abbrev pub Upto : (ℕ → Terms → Type 0) → ℕ → Terms → Type 0
Upto P j us = (i : ℕ) × (i < j) × P i us

-- the term without its condition at place j, where that one has a property there
abbrev pub WithoutAt : (ℕ → Cond → Type 0) → OneTerm → List Cond → ℕ → Terms → Type 0
WithoutAt P t cs j us = At (P j) j cs × (us ≡ one_term t.ranges (conds_from (drop_at j cs)) t.pieces)

-- what the element at place j gives, beside those before it and those after it
abbrev pub AtPlace : {X : Type 0} → (List X → X → List X → Terms → Type 0) → List X → ℕ → Terms → Type 0
AtPlace P xs j us = At (λ x. P (take j xs) x (drop (suc j) xs) us) j xs

-- what the element at place i gives
abbrev pub EachOf : {X : Type 0} → (X → Terms → Type 0) → List X → ℕ → Terms → Type 0
EachOf P xs i us = At (λ x. P x us) i xs
