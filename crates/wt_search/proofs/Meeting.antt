-- Congruent forms among those that are reached from both sides.
use Rattle.std.proofs.Common.{ℕ, zero, suc, ◌+◌, ◌-◌, ◌<◌, ◌≡◌, ◌↔◌, ◌^◌, Bool, true, min, List, [], ◌∷◌, ◌++◌, map, length, get_or, take, slice_index_or, refl, sym, ap, ◌∙◌, subst, inl, inr}
use Rattle.wt_bag.specs.Choices.{Has, At}
use Rattle.wt_symbol.specs.Sides.{PairTree}
use Rattle.wt_constraint.specs.declared.set.AtomSet.{AtomSet}
use Rattle.wt_form.specs.Trees.{Form}
use Rattle.wt_form.specs.Known.{Known}
use Rattle.wt_form.specs.Congruent.{Congruent}
use Rattle.wt_form.specs.Provable.{Chain, ProvableForms}
use Rattle.wt_form.specs.FormOf.{form_of}
use Rattle.wt_form.specs.Under.{Under, Provable}
use Rattle.wt_form.specs.Views.{form_seen}
use Rattle.wt_form.specs.declared.form.Form.{Form as CodeForm}
use Rattle.wt_congruent.proofs.Sizes.{same_size}
use Rattle.wt_search.proofs.Growing.{map_join}
use Rattle.std.proofs.lemmas.List.{take_more}
use Rattle.wt_form.proofs.SetsGrow.{known_grows}
use Rattle.wt_form.proofs.StepsGrow.{provable_grows}
use Rattle.wt_symbol.specs.Lawful.{IsLawful}
use Rattle.wt_symbol.proofs.SymbolLemmas.{lawful_sizes}
use Rattle.wt_side_forms.proofs.ExistLaws.{sides_exist}
use Rattle.wt_side_forms.proofs.RoomLaws.{few_operators}
use Rattle.wt_search.specs.Room.{HasRoom}
use Rattle.wt_search.specs.Found.{Meets, size_shown}

-- a form of another size is not congruent
pub size_differs : (K : Known) (f : CodeForm) (others : List CodeForm) (sizes : List ℕ) (j size : ℕ) → sizes ≡ map size_shown others → size ≡ size_shown f → (slice_index_or sizes j 0 ≡ size → ⊥) → At (Congruent K (form_seen f)) j (map form_seen others) → ⊥
size_differs K f others sizes j size a b d h = go j others (subst (λ s. slice_index_or s j 0 ≡ size → ⊥) a d) h
  where
    go : (j : ℕ) (others : List CodeForm) → (slice_index_or (map size_shown others) j 0 ≡ size → ⊥) → At (Congruent K (form_seen f)) j (map form_seen others) → ⊥
    go j [] d h = absurd h
    go zero (g ∷ gs) d h = d (sym (b ∙ ap (λ s. min s (2 ^ 64 - 1)) (same_size K (form_seen f).terms (form_seen g).terms h)))
    go (suc j) (g ∷ gs) d h = go j gs d h

pub sizes_more : (forms : List CodeForm) (i : ℕ) (x : CodeForm) (sizes new : List ℕ) (s : ℕ) → i < length forms → x ≡ get_or forms i x → sizes ≡ map size_shown (take i forms) → new ≡ sizes ++ s ∷ [] → s ≡ size_shown x → new ≡ map size_shown (take (i + 1) forms)
sizes_more forms i x sizes new s l e a b q =
    b ∙ ap (λ z. sizes ++ z ∷ []) q ∙ ap (λ z. z ++ size_shown x ∷ []) a ∙ sym (ap (map size_shown) (take_more forms i x l ∙ ap (λ z. take i forms ++ z ∷ []) (sym e)) ∙ map_join size_shown (take i forms) (x ∷ []) (take i forms ++ x ∷ []) refl)

at_here : {X : Type 0} (P : X → Type 0) (xs : List X) (x : X) → Has x xs → P x → (i : ℕ) × At P i xs
at_here P [] x h p = absurd h
at_here P (y ∷ xs) x (inl e) p = (zero, subst P e p)
at_here P (y ∷ xs) x (inr h) p = let r = at_here P xs x h p in (suc r.0, r.1)

has_here : {X : Type 0} (P : X → Type 0) (i : ℕ) (xs : List X) → At P i xs → (x : X) × Has x xs × P x
has_here P i [] h = absurd h
has_here P zero (x ∷ xs) h = (x, inl refl, h)
has_here P (suc i) (x ∷ xs) h = let r = has_here P i xs h in (r.0, inr r.1, r.2)

-- the forms that are reached from both sides
pub proved_is : (K : Known) (k : ℕ) (f g : Form) (holds : Bool) (from to from' to' : List Form) → from' ≡ from → to' ≡ to → ((h : Form) → (Has h from ↔ Chain K k f h)) → ((h : Form) → (Has h to ↔ Chain K k g h)) →
    ((holds ≡ true) ↔ ((i : ℕ) × At (Meets K to') i from')) → ((holds ≡ true) ↔ ProvableForms K k f g)
proved_is K k f g holds from to from' to' a b p q h = (λ y. there (h.0 y), λ r. h.1 (back r))
  where
    there : (i : ℕ) × At (Meets K to') i from' → ProvableForms K k f g
    there m =
        let x = has_here (Meets K to') m.0 from' m.1 in
        let y = has_here (Congruent K x.0) x.2.0 to' x.2.1 in
        (x.0, y.0, (p x.0).0 (subst (Has x.0) a x.1), (q y.0).0 (subst (Has y.0) b y.1), y.2)

    back : ProvableForms K k f g → (i : ℕ) × At (Meets K to') i from'
    back r =
        at_here (Meets K to') from' r.0 (subst (Has r.0) (sym a) ((p r.0).1 r.2)) (at_here (Congruent K r.0) to' r.1 (subst (Has r.1) (sym b) ((q r.1).1 r.3)) r.4)

-- provable under what is known of a set
pub set_proved : (p : PairTree) (set : AtomSet) (k : ℕ) (L : Known) (f g : Form) (holds : Bool) → Under p set L → f ≡ form_of p.source p.anchors → g ≡ form_of p.dest p.anchors → ((holds ≡ true) ↔ ProvableForms L k f g) → ((holds ≡ true) ↔ Provable p set k)
set_proved p set k L f g holds l a b h = (
  λ y. record { known = L; under = l; forms = subst (λ z. ProvableForms L k z (form_of p.dest p.anchors)) a (subst (ProvableForms L k f) b (h.0 y)) },
  λ r. h.1
      (subst (λ z. ProvableForms L k z g) (sym a)
      (subst (ProvableForms L k (form_of p.source p.anchors)) (sym b) (provable_grows r.known L (known_grows p set set (λ i m. m) r.known L r.under l) k (form_of p.source p.anchors) (form_of p.dest p.anchors) r.forms))),
)

-- the forms of a lawful pair's sides have room
pub source_room : (p : PairTree) → IsLawful p → HasRoom (form_of p.source p.anchors)
source_room p lawful = (sides_exist p.source p.anchors, few_operators p.source p.anchors (lawful_sizes p lawful).0)

pub dest_room : (p : PairTree) → IsLawful p → HasRoom (form_of p.dest p.anchors)
dest_room p lawful = (sides_exist p.dest p.anchors, few_operators p.dest p.anchors (lawful_sizes p lawful).1)
