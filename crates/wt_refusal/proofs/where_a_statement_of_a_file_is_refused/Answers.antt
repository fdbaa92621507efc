use Rattle.wt_refusal.proofs.Files.{refused_stands}
use Rattle.wt_refusal.proofs.where_a_statement_of_a_file_is_refused.Goals as goal

pub returns : goal.returns
returns c = refused_stands
