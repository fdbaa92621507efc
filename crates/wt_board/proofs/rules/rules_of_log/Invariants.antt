use Rattle.std.proofs.Common.{take, map}
use Rattle.wt_board.specs.Lots.{lot_tree}
use Rattle.wt_board.specs.Rules.{AreRulesOf, rule_of}
use Rattle.wt_board.proofs.rules.rules_of_log.Given as goal

abbrev pub invariant-loop-p : goal.invariant-loop-p
invariant-loop-p l = AreRulesOf l.lot.bounds.steps l.lot.bounds.depth (take l.p (lot_tree l.lot).pairs) (map rule_of l.rules.items)
