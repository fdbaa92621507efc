use Rattle.std.proofs.Common.{◌≤◌, ◌∙◌, ap, sym, subst, arith}
use Rattle.std.specs.List.{All}
use Rattle.std.proofs.lemmas.List.Elements.{All-push}
use Rattle.wt_plan.specs.declared.plan.Plan.{size-Plan}
use Rattle.wt_plan.specs.Tree.{plan_tree}
use Rattle.wt_query_of.specs.Descents.{AreDown, bottom, first_of}
use Rattle.wt_query_of.proofs.Descents.{down_more, bottom_last}
use Rattle.wt_query_of.proofs.descent.descend.Goals as goal

pub operands-preserved : goal.operands-preserved
operands-preserved c =
    let p = plan_tree c.args.plan.now in
    let above = c.operands.operators.items in
    let pushed = c.in_ok-push.ensures.items in
    record {
      down = subst (AreDown p) (sym pushed) (down_more p above c.operands.item c.operands.invariant.down c.operands.invariant.bottom);
      bottom = c.in-Some.ensures.first ∙ ap first_of c.operands.invariant.bottom ∙ sym (bottom_last p above c.operands.item) ∙ ap (bottom p) (sym pushed);
      within = subst (All (λ s. size-Plan s.now ≤ size-Plan c.args.plan.now)) (sym pushed)
          (All-push (λ s. size-Plan s.now ≤ size-Plan c.args.plan.now) above c.operands.item c.operands.invariant.within c.operands.invariant.smaller);
      smaller = omega (arith, c.in-Some.ensures.smaller, c.operands.invariant.smaller);
    }
