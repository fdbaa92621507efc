use Rattle.wt_symbol.specs.Sides.{pair_of}
use Rattle.wt_constraint.proofs.AtomLemmas.{few_result}
use Rattle.wt_constraint.proofs.atom.atoms_of.Goals as goal

pub returns-clause-few : goal.returns-clause-few
returns-clause-few c = few_result (pair_of c.args.pair.now) c.requires c.atoms_over_source.result c.atoms_over_source.ensures
