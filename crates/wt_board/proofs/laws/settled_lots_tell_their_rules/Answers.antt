use Rattle.wt_board.proofs.Settling.{rule_is_told}
use Rattle.wt_board.proofs.laws.settled_lots_tell_their_rules.Goals as goal

pub returns : goal.returns
returns c = λ lot log stands settles p pair at few m. rule_is_told lot log stands settles p pair at few m
