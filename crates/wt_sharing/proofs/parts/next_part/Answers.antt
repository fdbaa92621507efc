use Rattle.wt_sharing.proofs.PartLaws.{gives}
use Rattle.wt_sharing.proofs.parts.next_part.Goals as goal

pub returns-clause-part : goal.returns-clause-part
returns-clause-part c =
    gives c.args.pairs.now c.next_pairs.new.self c.next_pairs.result c.next_pairs.ensures.bounds c.next_pairs.ensures.lot c.next_pairs.ensures.end c.next_pairs.ensures.none
