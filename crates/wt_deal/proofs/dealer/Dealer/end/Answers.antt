use Rattle.std.proofs.Common.{ap, sym, ◌∙◌, subst}
use Rattle.crossbeam_deque.specs.Handles.{IsPassOf}
use Rattle.wt_deal.specs.Dealing.{DealerTree, ThiefTree}
use Rattle.wt_deal.proofs.Deals.{merges}
use Rattle.wt_deal.proofs.dealer.Dealer.end.Goals as goal

pub absorb-requires-clause-table : goal.absorb-requires-clause-table
absorb-requires-clause-table c =
    subst (λ d. IsPassOf d c.thief.inside.pass) (ap (λ (t : ThiefTree). t.deque) c.thief.view_is ∙ c.requires ∙ sym (ap (λ (d : DealerTree). d.deque) c.self.view_is)) c.thief.invariant.0

pub absorb-requires-clause-rule : goal.absorb-requires-clause-rule
absorb-requires-clause-rule c = merges _ _ _ _ c.self.invariant.1 c.thief.invariant.1
