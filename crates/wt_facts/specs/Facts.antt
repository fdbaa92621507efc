-- Facts as lists, and what is known by them.
use Rattle.std.specs.Prelude.{ℕ, ◌<◌, ◌≡◌, Bool, ◌&&◌, ◌||◌, List, [], ◌∷◌, Some, slice_get}
use Rattle.std.specs.List.{list_any}
use Rattle.wt_symbol.specs.Heads.{anchor}
use Rattle.wt_constraint.specs.declared.atom.Atom.{Atom}
use Rattle.wt_constraint.specs.declared.atom.Atom.TheVariants.{RelEq, AttrsEq, PredEq, Unique, NotNull, RefAttrs}
use Rattle.wt_constraint.specs.declared.set.AtomSet.{AtomSet}
use Rattle.wt_constraint.specs.Sets.{HasAtom}
use Rattle.wt_form.specs.Known.{Known}
use Rattle.wt_facts.specs.declared.sames.Sames.{Sames}
use Rattle.wt_facts.specs.declared.kept.Kept.{Kept}
use Rattle.wt_facts.specs.declared.facts.LeafList.{LeafList}
use Rattle.wt_facts.specs.declared.facts.Reference.{Reference}
use Rattle.wt_facts.specs.declared.facts.Facts.{Facts}
use Rattle.wt_facts.specs.Sames.{same_class}

-- whether leaf r and list a are the same as these
abbrev pub is_at : Sames → ℕ → ℕ → LeafList → Bool
is_at sames r a at = same_class sames.leaves r at.leaf && same_class sames.lists a at.list

abbrev pub is_reference : Sames → ℕ → ℕ → ℕ → ℕ → Reference → Bool
is_reference sames r a s b f = is_at sames r a f.from && is_at sames s b f.to

abbrev pub is_kept : Sames → ℕ → ℕ → Kept → Bool
is_kept sames a b k = same_class sames.lists a k.upper && same_class sames.lists b k.lower

-- what is known: each fact, up to symbols that are the same
abbrev pub known_of : Facts → Known
known_of facts = record {
  rel = same_class facts.sames.leaves;
  attr = same_class facts.sames.lists;
  pred = same_class facts.sames.preds;
  unique = λ r a. list_any (is_at facts.sames r a) facts.unique;
  not_null = λ r a. list_any (is_at facts.sames r a) facts.not_null;
  refs = λ r a s b. list_any (is_reference facts.sames r a s b) facts.refs;
  within = λ a b. same_class facts.sames.lists a b || list_any (is_kept facts.sames a b) facts.kept;
}

-- the atom is one of the first k, and of the set
abbrev pub IsAskedBelow : List Atom → AtomSet → ℕ → Atom → Type 0
IsAskedBelow atoms set k x = (j : ℕ) × (j < k) × HasAtom set j × (slice_get atoms j ≡ Some x)

-- a list at its leaf, and the facts that an atom asks for
abbrev pub leaf_list : List ℕ → ℕ → LeafList
leaf_list A a = record { leaf = anchor A a; list = a }

abbrev pub unique_of : List ℕ → Atom → List LeafList
unique_of A (Unique a) = leaf_list A a ∷ []
unique_of A (NotNull a) = []
unique_of A (RefAttrs a b) = []
unique_of A (RelEq x y) = []
unique_of A (AttrsEq x y) = []
unique_of A (PredEq x y) = []

abbrev pub not_null_of : List ℕ → Atom → List LeafList
not_null_of A (NotNull a) = leaf_list A a ∷ []
not_null_of A (Unique a) = []
not_null_of A (RefAttrs a b) = []
not_null_of A (RelEq x y) = []
not_null_of A (AttrsEq x y) = []
not_null_of A (PredEq x y) = []

abbrev pub reference_of : List ℕ → Atom → List Reference
reference_of A (RefAttrs a b) = record { from = leaf_list A a; to = leaf_list A b } ∷ []
reference_of A (Unique a) = []
reference_of A (NotNull a) = []
reference_of A (RelEq x y) = []
reference_of A (AttrsEq x y) = []
reference_of A (PredEq x y) = []

abbrev pub kept_of : ℕ × ℕ → Kept
kept_of e = record { upper = e.0; lower = e.1 }
