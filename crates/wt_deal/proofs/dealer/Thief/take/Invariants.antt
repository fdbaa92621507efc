use Rattle.std.proofs.Common.{◌≡◌}
use Rattle.crossbeam_deque.specs.Handles.{view, stealer_deque, IsPassOf}
use Rattle.wt_deal.proofs.dealer.Thief.take.Given as goal

abbrev pub invariant-loop : goal.invariant-loop
invariant-loop g l = record {
  same : record { deque = stealer_deque l.self-inside.stealer; taken = (view l.self-inside.pass).taken } ≡ l.fn.self;
  table : IsPassOf (stealer_deque l.self-inside.stealer) l.self-inside.pass;
  away : (view l.self-inside.pass).away ≡ 1;
  boss : (view l.self-inside.pass).boss ≡ 0;
}
