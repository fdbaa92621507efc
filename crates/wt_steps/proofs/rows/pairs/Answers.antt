use Rattle.std.proofs.Common.{map, ap}
use Rattle.wt_form.specs.Views.{terms_seen, ranges_seen, conds_seen}
use Rattle.wt_facts.specs.Facts.{known_of}
use Rattle.wt_two_terms.specs.Pairs.{TwoStep}
use Rattle.wt_places.proofs.GainedLaws.{gained_whole}
use Rattle.wt_steps.proofs.rows.pairs.Goals as goal

pub returns : goal.returns
returns c = gained_whole (TwoStep (known_of c.args.facts.now) c.args.nested (ranges_seen c.args.term.now.ranges) (conds_seen c.args.term.now.conds) c.args.term.now.pieces (terms_seen c.args.rest.now)) _ _ (ap (map terms_seen) c.new-out.ensures.items) c.in_ok-push_pairs.ensures
