-- The order in which a rule's atoms are asked for: those first whose test costs least.
use Rattle.std.specs.Prelude.{ℕ, ◌==◌, List, ◌++◌, filter}
use Rattle.wt_symbol.specs.Sides.{PairTree}
use Rattle.wt_constraint.specs.declared.atom.Atom.{Atom}
use Rattle.wt_constraint.specs.declared.atom.Atom.TheVariants.{RelEq, AttrsEq, PredEq, Unique, NotNull, RefAttrs}
use Rattle.wt_constraint.specs.declared.set.AtomSet.{AtomSet}
use Rattle.wt_constraint.specs.Atoms.{atoms_of_pair}
use Rattle.wt_rule.specs.Texts.{chosen}

abbrev pub rank : Atom → ℕ
rank (AttrsEq a b) = 0
rank (PredEq p q) = 1
rank (RelEq r s) = 2
rank (NotNull a) = 3
rank (Unique a) = 4
rank (RefAttrs a b) = 5

-- the atoms of a rank
abbrev pub of_rank : ℕ → List Atom → List Atom
of_rank r atoms = filter (λ atom. rank atom == r) atoms

-- the atoms by their ranks
abbrev pub ranked : List Atom → List Atom
ranked atoms = of_rank 0 atoms ++ of_rank 1 atoms ++ of_rank 2 atoms ++ of_rank 3 atoms ++ of_rank 4 atoms ++ of_rank 5 atoms

-- the atoms that a rule asks for, in this order
abbrev pub asked : PairTree → AtomSet → List Atom
asked p set = ranked (chosen set 0 (atoms_of_pair p))
