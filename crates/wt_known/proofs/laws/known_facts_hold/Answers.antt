use Rattle.wt_known.proofs.KnownFacts.{is_unique, is_not_null, does_refer}
use Rattle.wt_known.proofs.laws.known_facts_hold.Goals as goal

pub returns : goal.returns
returns c = record {
  unique = is_unique;
  not_null = is_not_null;
  refers = does_refer;
}
