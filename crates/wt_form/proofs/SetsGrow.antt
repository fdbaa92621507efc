-- What is known under a set is known under every set that contains it.
use Rattle.std.proofs.Common.{ℕ, ◌⊎◌, inl, inr}
use Rattle.wt_symbol.specs.Sides.{PairTree}
use Rattle.wt_constraint.specs.declared.atom.Atom.{Atom}
use Rattle.wt_constraint.specs.declared.atom.Atom.TheVariants.{Unique, NotNull, RefAttrs}
use Rattle.wt_constraint.specs.declared.atom.Kind.{Kind}
use Rattle.wt_constraint.specs.declared.atom.Kind.TheVariants.{Leaves, Lists, Preds}
use Rattle.wt_constraint.specs.declared.set.AtomSet.{AtomSet}
use Rattle.wt_constraint.specs.Atoms.{atoms_of_pair}
use Rattle.wt_constraint.specs.Sets.{HasAtom}
use Rattle.wt_constraint.specs.Sameness.{AreSame, reflexive, linked, symmetric, transitive}
use Rattle.wt_form.specs.Known.{Known}
use Rattle.wt_form.specs.Growing.{Grows}
use Rattle.wt_form.specs.FormOf.{form_of}
use Rattle.wt_form.specs.Under.{Under, Asks, Holds, Refers, KeptBelow, SameList, Provable}
use Rattle.wt_form.proofs.Asked.{computed, computed_under}
use Rattle.wt_form.proofs.StepsGrow.{provable_grows}

module _ (p : PairTree) (s t : AtomSet) (into : (i : ℕ) → HasAtom s i → HasAtom t i) where
  same_more : (kind : Kind) (x y : ℕ) → AreSame kind (atoms_of_pair p) s x y → AreSame kind (atoms_of_pair p) t x y
  same_more kind x y reflexive = reflexive
  same_more kind x y (linked {k = k} l) = linked {k = k} record { there = into k l.there; atom = l.atom }
  same_more kind x y (symmetric h) = symmetric (same_more kind y x h)
  same_more kind x y (transitive {y = z} h j) = transitive (same_more kind x z h) (same_more kind z y j)

  asks_more : (x : Atom) → Asks p s x → Asks p t x
  asks_more x a = record { number = a.number; there = into a.number a.there; atom = a.atom }

  holds_more : (kind : ℕ → Atom) (r a : ℕ) → Holds p s kind r a → Holds p t kind r a
  holds_more kind r a h = record { list = h.list; asked = asks_more (kind h.list) h.asked; leaf = same_more Leaves r _ h.leaf; same = same_more Lists a h.list h.same }

  refers_more : (r a q b : ℕ) → Refers p s r a q b → Refers p t r a q b
  refers_more r a q b h = record {
    from = h.from;
    to = h.to;
    asked = asks_more (RefAttrs h.from h.to) h.asked;
    leaf = same_more Leaves r _ h.leaf;
    list = same_more Lists a h.from h.list;
    other_leaf = same_more Leaves q _ h.other_leaf;
    other_list = same_more Lists b h.to h.other_list;
  }

  within_more : (a b : ℕ) → SameList p s a b ⊎ KeptBelow p s a b → SameList p t a b ⊎ KeptBelow p t a b
  within_more a b (inl h) = inl (same_more Lists a b h)
  within_more a b (inr h) = inr record { upper = h.upper; lower = h.lower; kept = h.kept; from = same_more Lists a h.upper h.from; to = same_more Lists b h.lower h.to }

  pub known_grows : (K L : Known) → Under p s K → Under p t L → Grows K L
  known_grows K L k l = record {
    rel = λ x y h. (l.rel x y).1 (same_more Leaves x y ((k.rel x y).0 h));
    attr = λ x y h. (l.attr x y).1 (same_more Lists x y ((k.attr x y).0 h));
    pred = λ x y h. (l.pred x y).1 (same_more Preds x y ((k.pred x y).0 h));
    unique = λ r a h. (l.unique r a).1 (holds_more Unique r a ((k.unique r a).0 h));
    not_null = λ r a h. (l.not_null r a).1 (holds_more NotNull r a ((k.not_null r a).0 h));
    refs = λ r a q b h. (l.refs r a q b).1 (refers_more r a q b ((k.refs r a q b).0 h));
    within = λ a b h. (l.within a b).1 (within_more a b ((k.within a b).0 h));
  }

  -- a pair that is provable under a set is so under each set that contains it
  pub provable_more : (k : ℕ) → Provable p s k → Provable p t k
  provable_more k h = record {
    known = computed p t;
    under = computed_under p t;
    forms = provable_grows h.known (computed p t) (known_grows h.known (computed p t) h.under (computed_under p t)) k (form_of p.source p.anchors) (form_of p.dest p.anchors) h.forms;
  }
