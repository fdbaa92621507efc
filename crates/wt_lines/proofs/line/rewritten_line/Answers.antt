use Rattle.std.proofs.Common.{◌∙◌, length, ap, sym, subst}
use Rattle.wt_chains.proofs.Chained.{chain_placed, chain_regular, chain_wide}
use Rattle.wt_plan.specs.Tree.{plan_tree}
use Rattle.wt_plan.specs.Regular.{Regular}
use Rattle.wt_lines.proofs.line.rewritten_line.Goals as goal

pub plan_line-requires-clause-placed : goal.plan_line-requires-clause-placed
plan_line-requires-clause-placed g c = chain_placed _ _ c.requires.placed c.in_ok-last.ensures.last.chain

pub plan_line-requires-clause-regular : goal.plan_line-requires-clause-regular
plan_line-requires-clause-regular g c =
    subst (λ S. Regular S (plan_tree c.in_ok-last.last.plan)) c.requires.same
    (chain_regular _ _ (subst (λ S. Regular S (plan_tree c.args.named.plan)) (sym c.requires.same) c.requires.regular) c.in_ok-last.ensures.last.chain)

pub plan_line-requires-clause-names : goal.plan_line-requires-clause-names
plan_line-requires-clause-names g c = ap length c.in_ok-last.ensures.names ∙ (c.requires.names ∙ sym (chain_wide _ _ c.in_ok-last.ensures.last.chain))
