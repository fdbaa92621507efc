-- Nodes, each of which stands for the sets between two: together they cover what is not known. Private contracts alone cite this file.
use Rattle.std.specs.Prelude.{ℕ, ◌≡◌, ◌<◌, ◌+◌, ◌-◌, ◌^◌, ◌⊎◌, ◌||◌, Bool, true, false, List, [], ◌∷◌, Option, Some, None}
use Rattle.std.specs.List.{sum_by}
use Rattle.wt_bag.specs.Choices.{Has}
use Rattle.wt_constraint.specs.declared.set.AtomSet.{AtomSet}
use Rattle.wt_constraint.specs.Sets.{HasAtom}
use Rattle.wt_cores.specs.Cores.{Within, missing}
use Rattle.wt_board.specs.declared.words.Ticket.{Ticket}
use Rattle.wt_board.specs.declared.nodes.Node.{Node}
use Rattle.wt_board.specs.declared.nodes.Sight.{Sight}
use Rattle.wt_board.specs.declared.nodes.Sight.TheVariants.{Known, Splits, Unknown}
use Rattle.wt_board.specs.Knowledge.{lies_in, has_core, is_refused}
use Rattle.wt_board.specs.Machine.{is_out}

-- what is known of a pair: cores and refused sets
pub record Lore : Type 0 where
  pub cores : List AtomSet
  pub refused : List AtomSet

abbrev pub knows : Lore → AtomSet → Bool
knows k s = has_core k.cores s || is_refused k.refused s

-- the set has each atom that the node must have, and none that it may not have
pub record LiesIn (n : Node) (s : AtomSet) : Type 0 where
  pub lower : Within n.must s
  pub upper : Within s n.may

abbrev pub IsCovered : List Node → AtomSet → Type 0
IsCovered [] s = ⊥
IsCovered (n ∷ ns) s = LiesIn n s ⊎ IsCovered ns s

-- each set of the atoms that is not known lies in a node
abbrev pub Covers : Lore → AtomSet → List Node → Type 0
Covers k all nodes = (s : AtomSet) → Within s all → knows k s ≡ false → IsCovered nodes s

-- a node's sets are of these atoms
abbrev pub EachWithin : AtomSet → List Node → Type 0
EachWithin all [] = Unit {0}
EachWithin all (n ∷ ns) = Within n.must n.may × Within n.may all × EachWithin all ns

-- how many turns a node can take: it may be split once for each atom that its sets may have or not
abbrev pub turns : Node → ℕ
turns n = 2 ^ (missing 64 n.may n.must + 1) - 1

abbrev pub turns_left : List Node → ℕ
turns_left = sum_by turns

-- the sets of a node are known; or those with an atom and those without are two nodes; or the least of them is not known
abbrev pub Sees : Lore → Node → Sight → Type 0
Sees k n Known = (s : AtomSet) → LiesIn n s → knows k s ≡ true
Sees k n (Splits i) = (i < 64) × HasAtom n.may i × (HasAtom n.must i → ⊥)
Sees k n Unknown = knows k n.must ≡ false

-- the first atom of a set that another has not
abbrev pub Outside : AtomSet → AtomSet → Option ℕ → Type 0
Outside s r None = Within s r
Outside s r (Some i) = (i < 64) × HasAtom s i × (HasAtom r i → ⊥)

-- a refused set in which the set lies
abbrev pub Refuses : List AtomSet → AtomSet → Option AtomSet → Type 0
Refuses refused s None = is_refused refused s ≡ false
Refuses refused s (Some r) = (lies_in s r ≡ true) × Has r refused

-- neither known nor out
pub record IsOpen (k : Lore) (out : List Ticket) (p : ℕ) (s : AtomSet) : Type 0 where
  pub unknown : knows k s ≡ false
  pub not_out : is_out out p s ≡ false

-- an open set of a node, or none where there is none
abbrev pub OpenIn : Lore → List Ticket → ℕ → Node → Option AtomSet → Type 0
OpenIn k out p n None = (s : AtomSet) → LiesIn n s → IsOpen k out p s → ⊥
OpenIn k out p n (Some s) = LiesIn n s × IsOpen k out p s

-- an open set of the nodes, or none where there is none
abbrev pub OpenAmong : Lore → List Ticket → ℕ → List Node → Option AtomSet → Type 0
OpenAmong k out p nodes None = (s : AtomSet) → IsCovered nodes s → IsOpen k out p s → ⊥
OpenAmong k out p nodes (Some s) = IsCovered nodes s × IsOpen k out p s

-- an open set of the atoms, or none where there is none
abbrev pub NextOpen : Lore → List Ticket → ℕ → AtomSet → Option AtomSet → Type 0
NextOpen k out p all None = (s : AtomSet) → Within s all → IsOpen k out p s → ⊥
NextOpen k out p all (Some s) = Within s all × IsOpen k out p s

abbrev pub no_atoms : AtomSet
no_atoms = record { 0 = 0 }

abbrev pub no_node : Node
no_node = record { must = no_atoms; may = no_atoms; least = false }
