-- The atoms of a pair: what its constraint sets may ask of the source's leaves, lists and predicates.
use Rattle.std.specs.Prelude.{ℕ, List, [], ◌∷◌, ◌++◌, map, Option, Some, None}
use Rattle.std.specs.Option.{option_map, option_to_list}
use Rattle.wt_symbol.specs.Sides.{SideTree, input, proj, filtered, inner_join, left_join, in_sub, dedup, PairTree, leaves_of, lists_of, preds_of}
use Rattle.wt_constraint.specs.declared.atom.Atom.{Atom}
use Rattle.wt_constraint.specs.declared.atom.Atom.TheVariants.{RelEq, AttrsEq, PredEq, Unique, NotNull, RefAttrs}
use Rattle.wt_constraint.specs.declared.atom.Kind.{Kind}
use Rattle.wt_constraint.specs.declared.atom.Kind.TheVariants.{Leaves, Lists, Preds}

-- the atom that makes two symbols of a kind equal
abbrev pub equal : Kind → ℕ → ℕ → Atom
equal Leaves x y = RelEq x y
equal Lists x y = AttrsEq x y
equal Preds x y = PredEq x y

-- the atoms that make each two of a list equal, in the order of the first and then of the second
abbrev pub each_two : Kind → List ℕ → List Atom
each_two kind [] = []
each_two kind (x ∷ xs) = map (equal kind x) xs ++ each_two kind xs

-- the lists of every Proj, InnerJoin, LeftJoin and InSub, in preorder
abbrev pub key_lists_of : SideTree → List ℕ
key_lists_of (input r) = []
key_lists_of (proj a s) = a ∷ key_lists_of s
key_lists_of (filtered p a s) = key_lists_of s
key_lists_of (inner_join a b s t) = a ∷ b ∷ (key_lists_of s ++ key_lists_of t)
key_lists_of (left_join a b s t) = a ∷ b ∷ (key_lists_of s ++ key_lists_of t)
key_lists_of (in_sub a s t) = a ∷ (key_lists_of s ++ key_lists_of t)
key_lists_of (dedup s) = key_lists_of s

-- the list of a Proj at the root
abbrev pub root_list : SideTree → Option ℕ
root_list (proj b s) = Some b
root_list (input r) = None
root_list (filtered p a s) = None
root_list (inner_join a b s t) = None
root_list (left_join a b s t) = None
root_list (in_sub a s t) = None
root_list (dedup s) = None

-- the references that joins may rest on, in preorder: an InnerJoin's both ways, a LeftJoin's from its left list to its right one, and an InSub's to the list of a Proj at its right root
abbrev pub references_of : SideTree → List Atom
references_of (input r) = []
references_of (proj a s) = references_of s
references_of (filtered p a s) = references_of s
references_of (inner_join a b s t) = RefAttrs a b ∷ RefAttrs b a ∷ (references_of s ++ references_of t)
references_of (left_join a b s t) = RefAttrs a b ∷ (references_of s ++ references_of t)
references_of (in_sub a s t) = option_to_list (option_map (RefAttrs a) (root_list t)) ++ (references_of s ++ references_of t)
references_of (dedup s) = references_of s

-- the atoms over a source, in order of kinds
abbrev pub atoms_over : SideTree → List Atom
atoms_over s =
    each_two Leaves (leaves_of s) ++ each_two Lists (lists_of s) ++ each_two Preds (preds_of s) ++ map Unique (key_lists_of s)
    ++ map NotNull (key_lists_of s) ++ references_of s

-- the atoms of a pair
abbrev pub atoms_of_pair : PairTree → List Atom
atoms_of_pair p = atoms_over p.source
