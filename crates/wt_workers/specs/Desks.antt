-- The value behind a pair's lock.
use Rattle.std.specs.Prelude.{◌≡◌, ◌≢◌, ℕ, ◌+◌, List, [], ◌∷◌, ◌++◌, length, Option, Some, None, slice_get}
use Rattle.wt_symbol.specs.Sides.{PairTree}
use Rattle.wt_constraint.specs.declared.set.AtomSet.{AtomSet}
use Rattle.wt_cores.specs.Cores.{Within, all_atoms}
use Rattle.wt_board.specs.declared.words.Ticket.{Ticket}
use Rattle.wt_board.specs.declared.words.Verdict.{Verdict}
use Rattle.wt_board.specs.declared.words.Event.{Event}
use Rattle.wt_board.specs.declared.words.Event.TheVariants.{Claimed, Posted, GivenBack}
use Rattle.wt_board.specs.Lots.{lot_tree}
use Rattle.wt_board.specs.Machine.{start, replay, IsTrueOf, find_ticket, MayBe}
use Rattle.wt_board.specs.Boards.{BoardTree, board_after, Claims}
use Rattle.wt_workers.specs.declared.desk.NotPosted.{NotPosted}
use Rattle.wt_workers.specs.declared.desk.NotPosted.TheVariants.{NotClaimed as NotClaimedPost, OtherLot}

-- a board, its events, and the amount of its share
pub record DeskTree : Type 0 where
  pub board : BoardTree
  pub events : List Event
  pub amount : ℕ

-- a board of one pair, whose state is what its events made of a new one, and whose share has as much as its log
pub record IsDesk (d : DeskTree) : Type 0 where
  pub one : length (lot_tree d.board.lot).pairs ≡ 1
  pub replays : d.board.state ≡ replay start d.events
  pub counted : d.amount ≡ length d.board.state.log

-- one event more, and so many verdicts more
pub record OneEvent (old new : DeskTree) (e : Event) (more : ℕ) : Type 0 where
  pub board : new.board ≡ board_after old.board e
  pub events : new.events ≡ old.events ++ e ∷ []
  pub amount : new.amount ≡ old.amount + more

-- a claim is one event, or the desk is as before and nothing is pending or no number is left
abbrev pub DeskClaims : DeskTree → DeskTree → ℕ → Option Ticket → Type 0
DeskClaims old new worker None = (new ≡ old) × Claims old.board old.board worker None
DeskClaims old new worker (Some t) = (t.worker ≡ worker) × MayBe (lot_tree old.board.lot) old.board.state (Claimed t) × OneEvent old new (Claimed t) 0

-- the set is of this pair's atoms, and the verdict is true of it
pub record VerdictFor (pair : PairTree) (steps : ℕ) (s : AtomSet) (v : Verdict) : Type 0 where
  pub within : Within s (all_atoms pair)
  pub true_of : IsTrueOf pair steps s v

-- a post is one event, of a claim that was out
pub record Posts (old new : DeskTree) (t : Ticket) (v : Verdict) : Type 0 where
  pub claimed : find_ticket t.number old.board.state.out ≢ None
  pub event : OneEvent old new (Posted t v) 1

-- a give-back is one event, of a claim that was out
pub record GivesBack (old new : DeskTree) (t : Ticket) : Type 0 where
  pub claimed : find_ticket t.number old.board.state.out ≢ None
  pub event : OneEvent old new (GivenBack t) 0

-- the lot has this pair at the number, and these steps
abbrev pub IsOf : BoardTree → ℕ → PairTree → ℕ → Type 0
IsOf b p pair steps = (slice_get (lot_tree b.lot).pairs p ≡ Some pair) × (b.lot.bounds.steps ≡ steps)

-- a post is refused where no claim of the number is out, or where the verdict was found for another pair or other steps
abbrev pub RefusesPost : DeskTree → Ticket → PairTree → ℕ → NotPosted → Type 0
RefusesPost old t pair steps (NotClaimedPost n) = (n.number ≡ t.number) × (find_ticket t.number old.board.state.out ≡ None)
RefusesPost old t pair steps OtherLot = (find_ticket t.number old.board.state.out ≢ None) × (IsOf old.board t.pair pair steps → ⊥)
