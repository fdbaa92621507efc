use Rattle.std.proofs.Common.{refl}
use Rattle.wt_rewrite.proofs.Listing.{get_at}
use Rattle.wt_rewrite.proofs.Running.{run_more}
use Rattle.wt_rewrite.proofs.runs.run_end.Goals as goal

pub rules-preserved : goal.rules-preserved
rules-preserved c =
    let end_get = get_at c.args.rules.now c.args.rules.now c.rules.end c.index-rules-end.result refl c.rules-test.true c.index-rules-end.is in
    let start_get = get_at c.args.rules.now c.args.rules.now c.args.start c.index-rules-start.result refl c.requires c.index-rules-start.is in
    run_more c.args.rules.now c.args.start c.rules.end c.index-rules-end.result c.index-rules-start.result end_get start_get (c.has_source.ensures.0 c.if-not-has_source.false) c.rules.invariant
