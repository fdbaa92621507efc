use Rattle.std.proofs.Common.{◌≡◌, []}
use Rattle.crossbeam_deque.specs.Handles.{worker_view, worker_flavor}
use Rattle.wt_deal.specs.Dealing.{hand}
use Rattle.wt_deal.proofs.dealer.deal.Given as goal

abbrev pub invariant-loop-n : goal.invariant-loop-n
invariant-loop-n l = (worker_view l.owner ≡ hand 1 0 l.n 0 []) × (worker_flavor l.owner ≡ 0)
