-- What is told of a lot.
use Rattle.std.specs.Prelude.{◌≡◌, ℕ, ◌+◌, ◌<◌, List, [], ◌∷◌, length, sum, take, Some, slice_get, map, true}
use Rattle.wt_symbol.specs.Sides.{PairTree}
use Rattle.wt_constraint.specs.declared.set.AtomSet.{AtomSet}
use Rattle.wt_cores.specs.Cores.{Within, all_atoms}
use Rattle.wt_board.specs.declared.words.Entry.{Entry}
use Rattle.wt_board.specs.Lots.{LotTree, lot_tree}
use Rattle.wt_board.specs.Knowledge.{is_known}
use Rattle.wt_board.specs.Machine.{LogStands, Settled, Settles}
use Rattle.wt_board.specs.Boards.{BoardTree}
use Rattle.wt_board.specs.Rules.{AreLotRules, AreRulesOf, rule_of}
use Rattle.wt_rule.specs.declared.Rule.{Rule}
use Rattle.wt_workers.specs.declared.report.LotReport.{LotReport}

-- a settled board of this pair, these steps and this depth
pub record IsSettledOf (p : PairTree) (k d : ℕ) (b : BoardTree) : Type 0 where
  pub pairs : (lot_tree b.lot).pairs ≡ p ∷ []
  pub steps : b.lot.bounds.steps ≡ k
  pub depth : b.lot.bounds.depth ≡ d
  pub settled : Settled (lot_tree b.lot) b.state

-- the rules and the log of the first pairs of a lot
pub record AreOfFirst (lot : LotTree) (n : ℕ) (told : List Rule) (log : List Entry) : Type 0 where
  pub rules : AreRulesOf lot.bounds.steps lot.bounds.depth (take n lot.pairs) (map rule_of told)
  pub stands : LogStands lot log
  pub settles : (p : ℕ) (pair : PairTree) → p < n → slice_get lot.pairs p ≡ Some pair → (s : AtomSet) → Within s (all_atoms pair) → is_known p log s ≡ true

-- what a report of a lot says: its rules are those of the lot's pairs; its log is true and settles the lot, so that it decides the
-- rules; each verdict of the log was posted by one of the workers or by the caller
pub record Reported (lot : LotTree) (workers : ℕ) (r : LotReport) : Type 0 where
  pub rules : AreLotRules lot r.rules
  pub stands : LogStands lot r.log
  pub settles : Settles lot r.log
  pub logged : r.logged ≡ length r.log
  pub posted : length r.posted ≡ workers
  pub adds_up : r.logged ≡ sum r.posted + r.drained
