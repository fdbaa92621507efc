use Rattle.std.proofs.Common.{◌<◌, ◌^◌, sym, subst}
use Rattle.std.proofs.lemmas.List.{length-map}
use Rattle.wt_symbol.specs.Sides.{pair_of}
use Rattle.wt_workers.proofs.RuleLines.{lawful_all}
use Rattle.wt_workers_tests.proofs.tests.boards.a_claim_is_posted_once.Goals as goal

pub new-requires : goal.new-requires
new-requires g c = record {
  lot = record {
    lawful = lawful_all c.in_ok-joins.field-0.pairs c.in_ok-joins.ensures.lawful;
    few = subst (λ n. n < 2 ^ 32) (sym (length-map c.in_ok-joins.field-0.pairs pair_of)) c.in_ok-joins.ensures.few;
  };
}
