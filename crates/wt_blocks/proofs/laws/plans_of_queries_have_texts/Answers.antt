use Rattle.wt_blocks.proofs.Lawful.{lawful_parts, lawful_names}
use Rattle.wt_blocks.proofs.laws.plans_of_queries_have_texts.Goals as goal

pub returns : goal.returns
returns c = record {
  parts = lawful_parts;
  names = λ S schema q lawful. lawful_names S schema q lawful.formed;
}
