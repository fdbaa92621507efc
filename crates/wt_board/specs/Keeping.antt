-- What is kept of the pairs between claims. Private contracts alone cite this file.
use Rattle.std.specs.Prelude.{ℕ, ◌≡◌, ◌<◌, ◌≤◌, ◌+◌, true, List, [], ◌∷◌, length, take, get_or, Option, Some, None, slice_get}
use Rattle.wt_symbol.specs.Sides.{PairTree}
use Rattle.wt_constraint.specs.declared.set.AtomSet.{AtomSet}
use Rattle.wt_cores.specs.Cores.{Within, all_atoms}
use Rattle.wt_board.specs.declared.words.Ticket.{Ticket}
use Rattle.wt_board.specs.declared.words.Entry.{Entry}
use Rattle.wt_board.specs.declared.nodes.Node.{Node}
use Rattle.wt_board.specs.declared.page.Visit.{Visit}
use Rattle.wt_board.specs.declared.page.Visit.TheVariants.{Gone, Doubled, Stays, Found}
use Rattle.wt_board.specs.Lots.{LotTree}
use Rattle.wt_board.specs.Knowledge.{cores_of, refused_of}
use Rattle.wt_board.specs.Machine.{State, Pending}
use Rattle.wt_board.specs.Covering.{Lore, IsOpen, Covers, EachWithin, turns_left, no_atoms}

-- a pair's atoms; the cores and refused sets among the first `seen` entries of the log; and nodes that cover what these leave unknown
pub record PageTree : Type 0 where
  pub all : AtomSet
  pub lore : Lore
  pub seen : ℕ
  pub nodes : List Node

-- what a log tells of the pair of a number
abbrev pub lore_of : ℕ → List Entry → Lore
lore_of p log = record { cores = cores_of p log; refused = refused_of p log }

pub record PageFits (all : AtomSet) (p : ℕ) (log : List Entry) (page : PageTree) : Type 0 where
  pub atoms : page.all ≡ all
  pub seen : page.seen ≤ length log
  pub lore : page.lore ≡ lore_of p (take page.seen log)
  pub covers : Covers page.lore page.all page.nodes
  pub within : EachWithin page.all page.nodes

-- what a visit to a node came to
abbrev pub Moves : Lore → List Ticket → ℕ → AtomSet → List Node → List Node → Visit → Type 0
Moves k out p all old new Gone = (turns_left new < turns_left old) × (length new + 1 ≡ length old)
Moves k out p all old new Doubled = (turns_left new < turns_left old) × (length new ≡ length old + 1)
Moves k out p all old new Stays = new ≡ old
Moves k out p all old new (Found s) = Within s all × IsOpen k out p s

-- a page of which nothing was found: one node for all sets
abbrev pub page_at : AtomSet → PageTree
page_at all = record { all = all; lore = record { cores = []; refused = [] }; seen = 0; nodes = record { must = no_atoms; may = all; least = true } ∷ [] }

abbrev pub no_page : PageTree
no_page = page_at no_atoms

-- a page for each pair of the lot
pub record Keeps (lot : LotTree) (log : List Entry) (pages : List PageTree) : Type 0 where
  pub many : length pages ≡ length lot.pairs
  pub each : (p : ℕ) (pair : PairTree) → slice_get lot.pairs p ≡ Some pair → PageFits (all_atoms pair) p log (get_or pages p no_page)

-- the state of a board at work: the number of the next claim does not matter
abbrev pub at_work : List Ticket → List Entry → State
at_work out log = record { next = 0; out = out; log = log }

-- what is pending of a board
abbrev pub Chosen : LotTree → State → Option (ℕ × AtomSet) → Type 0
Chosen lot st None = (p : ℕ) (s : AtomSet) → Pending lot st p s → ⊥
Chosen lot st (Some c) = Pending lot st c.0 c.1

-- what is pending of a pair
abbrev pub PendingOf : LotTree → State → ℕ → Option AtomSet → Type 0
PendingOf lot st p None = (s : AtomSet) → Pending lot st p s → ⊥
PendingOf lot st p (Some s) = Pending lot st p s
