use Rattle.wt_draft.specs.Drafts.{draft_tree}
use Rattle.wt_regularity.proofs.RegularLaws.{regular_tells}
use Rattle.wt_regularity.proofs.deciding.regular.Goals as goal

pub returns : goal.returns
returns c = record { exact = regular_tells c.args.tables.now (draft_tree c.args.plan.now) c.is_regular.result c.is_regular.ensures }
