-- What the search tells of forms.
use Rattle.std.proofs.Common.{ℕ, ◌≡◌, ◌↔◌, IsTrue, Bool, true, false, List, min, sym, ap, ◌∙◌, subst}
use Rattle.std.specs.Prelude.{Result, Ok, Err, IfOk}
use Rattle.wt_symbol.specs.Sides.{PairTree}
use Rattle.wt_constraint.specs.declared.set.AtomSet.{AtomSet}
use Rattle.wt_form.specs.Trees.{Form, Terms}
use Rattle.wt_form.specs.Known.{Known}
use Rattle.wt_form.specs.Congruent.{Congruent, TermsSame}
use Rattle.wt_form.specs.Under.{Under}
use Rattle.wt_form.specs.Weights.{terms_size}
use Rattle.wt_form.specs.Views.{OneTerm, terms_from, terms_list}
use Rattle.wt_form.proofs.SameGrows.{terms_grow}
use Rattle.wt_form.proofs.SetsGrow.{known_grows}
use Rattle.wt_congruent.proofs.Pairing.{terms_there}
use Rattle.wt_congruent.proofs.Sizes.{same_size}

-- forms of other sizes are not congruent
pub unlike : (K : Known) (ts us : Terms) (m n most : ℕ) → m ≡ min (terms_size ts) most → n ≡ min (terms_size us) most → (m ≡ n → ⊥) → TermsSame K ts us → false ≡ true
unlike K ts us m n most a b differ same =
    absurd (differ (a ∙ ap (λ s. min s most) (same_size K ts us same) ∙ sym b))

-- the search is over a list of the terms
pub listed : {E : Type 0} (K : Known) (r : Result Bool E) (ts us : Terms) (zs refs : List OneTerm) → zs ≡ refs → refs ≡ terms_list us → IfOk r (λ yes. IsTrue yes ↔ TermsSame K ts (terms_from zs)) → IfOk r (λ yes. IsTrue yes ↔ TermsSame K ts us)
listed K r ts us zs refs a b h = subst (λ u. IfOk r (λ yes. IsTrue yes ↔ TermsSame K ts u)) (ap terms_from (a ∙ b) ∙ terms_there us) h

-- forms are congruent under what is known of a set where they are so under all that is known of it
pub known_tells : {E : Type 0} (p : PairTree) (set : AtomSet) (L : Known) (f g : Form) (r : Result Bool E) → Under p set L →
    IfOk r (λ yes. IsTrue yes ↔ Congruent L f g) → IfOk r (λ yes. (K : Known) → Under p set K → (IsTrue yes ↔ Congruent K f g))
known_tells {E = E} p set L f g r l h = go r h
  where
    grown : (J K : Known) → Under p set J → Under p set K → Congruent J f g → Congruent K f g
    grown J K j k same = let more = known_grows p set set (λ i a. a) J K j k in terms_grow J K more.rel more.attr more.pred f.terms g.terms same

    go : (r : Result Bool E) → IfOk r (λ yes. IsTrue yes ↔ Congruent L f g) → IfOk r (λ yes. (K : Known) → Under p set K → (IsTrue yes ↔ Congruent K f g))
    go (Ok b) h = λ K u. (λ y. grown L K l u (h.0 y), λ same. h.1 (grown K L u l same))
    go (Err x) h = tt
