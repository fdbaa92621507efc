use Rattle.wt_discover.proofs.OneFile.{first_pairs_begin}
use Rattle.wt_discover.proofs.laws.first_pairs_begin_the_rule_file.Goals as goal

pub returns : goal.returns
returns c = first_pairs_begin
