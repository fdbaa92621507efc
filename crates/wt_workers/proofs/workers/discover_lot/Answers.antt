use Rattle.std.proofs.Common.{ℕ}
use Rattle.std.specs.Prelude.{All, Result, Ok, Err, IfOk}
use Rattle.std.specs.declared.alloc.AllocError.{AllocError}
use Rattle.wt_bag.specs.Bags.{Each}
use Rattle.wt_board.specs.Lots.{LotTree, lot_tree}
use Rattle.wt_rule.specs.declared.Rule.{Rule}
use Rattle.wt_symbol.specs.Lawful.{IsLawful}
use Rattle.wt_symbol.specs.Sides.{pair_of}
use Rattle.wt_workers.specs.Reports.{Reported}
use Rattle.wt_workers.specs.declared.report.LotReport.{LotReport}
use Rattle.wt_workers.proofs.RuleLines.{lawful_rules, lawful_all}
use Rattle.wt_workers.proofs.workers.discover_lot.Goals as goal

lawful_report : (lot : LotTree) (workers : ℕ) (r : Result LotReport AllocError) → Each IsLawful lot.pairs → IfOk r (Reported lot workers) → IfOk r (λ report. All (λ (x : Rule). IsLawful (pair_of x.pair)) report.rules)
lawful_report lot workers (Ok report) l h = lawful_rules lot.bounds.steps lot.bounds.depth lot.pairs report.rules l h.rules
lawful_report lot workers (Err e) l h = h

pub returns-clause-lawful : goal.returns-clause-lawful
returns-clause-lawful g c = lawful_report (lot_tree c.args.lot.now) c.args.workers c.run.result (lawful_all c.args.lot.now.pairs c.requires.lawful) c.run.ensures
