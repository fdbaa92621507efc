use Rattle.wt_symbol.specs.Sides.{pair_of}
use Rattle.wt_symbol.proofs.SymbolLemmas.{lawful_source_anchored, lawful_dest_anchored}
use Rattle.wt_search.proofs.search.Ready.of.Goals as goal

pub form_of-requires-clause-lists : goal.form_of-requires-clause-lists
form_of-requires-clause-lists c = lawful_source_anchored (pair_of c.args.pair.now) c.requires.lawful

pub form_of-requires-2-clause-lists : goal.form_of-requires-2-clause-lists
form_of-requires-2-clause-lists c = lawful_dest_anchored (pair_of c.args.pair.now) c.requires.lawful
