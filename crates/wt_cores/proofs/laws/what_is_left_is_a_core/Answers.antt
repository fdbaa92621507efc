use Rattle.wt_cores.proofs.CoreLaws.{shrunk_core}
use Rattle.wt_cores.proofs.laws.what_is_left_is_a_core.Goals as goal

pub returns : goal.returns
returns c p k s left small h shrunk = shrunk_core p k s left small h shrunk
