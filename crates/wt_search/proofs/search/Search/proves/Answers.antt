use Rattle.wt_symbol.specs.Sides.{pair_of}
use Rattle.wt_rows.proofs.Composed.{provable_one_bag}
use Rattle.wt_search.proofs.search.Search.proves.Goals as goal

pub returns-clause-one_bag : goal.returns-clause-one_bag
returns-clause-one_bag c y I is met = provable_one_bag (pair_of c.args.pair.now) c.requires.lawful c.args.set I is met c.args.steps (c.in_ok-proved.ensures.0 y)
