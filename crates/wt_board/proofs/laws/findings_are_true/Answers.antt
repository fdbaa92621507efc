use Rattle.wt_board.proofs.Findings.{known_proved, known_refused}
use Rattle.wt_board.proofs.laws.findings_are_true.Goals as goal

pub returns : goal.returns
returns c = record {
  proved = λ lot log stands p pair at s e. let k = known_proved lot p pair at log stands s e in (k.0, k.1, k.2);
  refused = λ lot log stands p pair at s e. known_refused lot p pair at log stands s e;
}
