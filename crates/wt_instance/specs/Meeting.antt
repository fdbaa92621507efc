-- When an instance of a pair meets a set of its atoms.
use Rattle.std.specs.Prelude.{◌≡◌, ℕ, Bool, true, false, ◌&&◌, nat_lt, List, Some, slice_get, if◌then◌else◌}
use Rattle.std.specs.List.{list_all, list_any}
use Rattle.wt_bag.specs.Bags.{Each}
use Rattle.wt_bag.specs.Choices.{EachLater}
use Rattle.wt_value.specs.Values.{Tuple, HasNoNull, pick, row_matches}
use Rattle.wt_symbol.specs.Sides.{SideTree, input, proj, filtered, inner_join, left_join, in_sub, dedup, PairTree, leaves_of}
use Rattle.wt_symbol.specs.Lawful.{occurs, all_in}
use Rattle.wt_symbol.specs.Heads.{anchor}
use Rattle.wt_constraint.specs.declared.atom.Atom.{Atom}
use Rattle.wt_constraint.specs.declared.atom.Atom.TheVariants.{RelEq, AttrsEq, PredEq, Unique, NotNull, RefAttrs}
use Rattle.wt_constraint.specs.declared.set.AtomSet.{AtomSet}
use Rattle.wt_constraint.specs.Atoms.{atoms_of_pair}
use Rattle.wt_constraint.specs.Sets.{HasAtom}
use Rattle.wt_instance.specs.declared.instance.Instance.{Instance}
use Rattle.wt_instance.specs.Instances.{width, table, numbers, is_true}

-- some row matches the values at these numbers
abbrev pub IsMatched : Tuple → List ℕ → List Tuple → Type 0
IsMatched wanted ns rows = list_any (λ row. row_matches wanted (pick ns row)) rows ≡ true

-- no row matches one behind it at these numbers
abbrev pub IsUnique : List ℕ → List Tuple → Type 0
IsUnique ns rows = EachLater (λ x y. row_matches (pick ns x) (pick ns y) ≡ false) rows

-- no row has a NULL at these numbers
abbrev pub IsNotNull : List ℕ → List Tuple → Type 0
IsNotNull ns rows = Each (λ row. HasNoNull (pick ns row)) rows

-- each row without NULL at the first numbers has a row among the others that matches it at the second ones
abbrev pub Refers : List ℕ → List ℕ → List Tuple → List Tuple → Type 0
Refers ns ms rows others = Each (λ row. HasNoNull (pick ns row) → IsMatched (pick ns row) ms others) rows

-- an atom holds: leaves have one width and one list of rows, lists have the same numbers, predicates are True on the
-- same rows; a list is unique, or has no NULL, at its anchor; a list refers to another
abbrev pub Holds : List ℕ → Instance → Atom → Type 0
Holds A I (RelEq r s) = (width I r ≡ width I s) × (table I r ≡ table I s)
Holds A I (AttrsEq a b) = numbers I a ≡ numbers I b
Holds A I (PredEq p q) = (row : Tuple) → is_true I p row ≡ is_true I q row
Holds A I (Unique a) = IsUnique (numbers I a) (table I (anchor A a))
Holds A I (NotNull a) = IsNotNull (numbers I a) (table I (anchor A a))
Holds A I (RefAttrs a b) = Refers (numbers I a) (numbers I b) (table I (anchor A a)) (table I (anchor A b))

-- each atom of the set holds
abbrev pub AtomsHold : List Atom → AtomSet → List ℕ → Instance → Type 0
AtomsHold atoms set A I = (k : ℕ) (x : Atom) → HasAtom set k → slice_get atoms k ≡ Some x → Holds A I x

-- list a has its columns from leaf r: on the way from a side's top down to r each Proj keeps them, and r itself has them
abbrev pub comes_from : SideTree → Instance → ℕ → ℕ → Bool
comes_from (input x) I r a = list_all (λ n. nat_lt n (width I r)) (numbers I a)
comes_from (proj b s) I r a = all_in (numbers I b) (numbers I a) && comes_from s I r a
comes_from (filtered p b s) I r a = comes_from s I r a
comes_from (inner_join b c s t) I r a = if occurs r (leaves_of s) then comes_from s I r a else comes_from t I r a
comes_from (left_join b c s t) I r a = if occurs r (leaves_of s) then comes_from s I r a else comes_from t I r a
comes_from (in_sub b s t) I r a = comes_from s I r a
comes_from (dedup s) I r a = comes_from s I r a

-- each list of a side has its columns from its anchor, through the operand that it is used on
abbrev pub lists_come : SideTree → List ℕ → Instance → Bool
lists_come (input r) A I = true
lists_come (proj a s) A I = comes_from s I (anchor A a) a && lists_come s A I
lists_come (filtered p a s) A I = comes_from s I (anchor A a) a && lists_come s A I
lists_come (inner_join a b s t) A I = comes_from s I (anchor A a) a && comes_from t I (anchor A b) b && lists_come s A I && lists_come t A I
lists_come (left_join a b s t) A I = comes_from s I (anchor A a) a && comes_from t I (anchor A b) b && lists_come s A I && lists_come t A I
lists_come (in_sub a s t) A I = comes_from s I (anchor A a) a && lists_come s A I && lists_come t A I
lists_come (dedup s) A I = lists_come s A I

-- the instance meets the set: each of its atoms holds, and in both sides each list has its columns from its anchor
pub record Meets (p : PairTree) (set : AtomSet) (I : Instance) : Type 0 where
  pub atoms : AtomsHold (atoms_of_pair p) set p.anchors I
  pub source : lists_come p.source p.anchors I ≡ true
  pub dest : lists_come p.dest p.anchors I ≡ true
