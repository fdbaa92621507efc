use Rattle.std.proofs.Common.{List, [], append-nil, sym, subst}
use Rattle.wt_plan.specs.Tree.{plan_tree}
use Rattle.wt_chains.specs.declared.applied.Applied.{Applied}
use Rattle.wt_chains.specs.Chains.{IsChain, ends}
use Rattle.wt_rewrite.specs.declared.rewriting.Rewritten.{Rewritten}
use Rattle.wt_rewrite.proofs.Going.{gone_regular, gone_cheaper, chain_goes}
use Rattle.wt_rewrite.proofs.rewriting.rewrite.Goals as goal

pub steps-smaller : goal.steps-smaller
steps-smaller g c =
    gone_cheaper (g.F.Facts.tables c.args.facts.now) c.args.book.now.rules c.steps.so_far c.goes_on.new.so_far (c.in_ok-goes_on.ensures.goes c.if-branch.true)
    (g.F.Facts.lawful c.args.facts.now) c.requires.ready.lawful c.steps.invariant.regular

pub steps-preserved : goal.steps-preserved
steps-preserved g c =
    let S = g.F.Facts.tables c.args.facts.now in
    let rules = c.args.book.now.rules in
    let gone = c.in_ok-goes_on.ensures.goes c.if-branch.true in
    record {
      regular = gone_regular S rules c.steps.so_far c.goes_on.new.so_far gone;
      chain = chain_goes S rules c.steps.so_far c.goes_on.new.so_far gone (plan_tree c.args.plan) c.steps.invariant.chain;
    }

pub returns : goal.returns
returns g c =
    let S = g.F.Facts.tables c.args.facts.now in
    let rules = c.args.book.now.rules in
    let last = plan_tree c.steps.so_far.plan in
    let whole = c.steps.invariant.chain [] last (ends (c.in_ok-goes_on.ensures.ends c.if-branch.false)) in
    let here = subst (λ (l : List Applied). IsChain S rules (plan_tree c.args.plan) l last) (append-nil c.steps.so_far.trace.items) whole in
    record {
      chain = subst (λ (r : Rewritten). IsChain S rules (plan_tree c.args.plan) r.trace.items (plan_tree r.plan)) (sym (c.in_ok-goes_on.ensures.stays c.if-branch.false)) here;
    }
