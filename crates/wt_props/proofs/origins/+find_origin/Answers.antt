use Rattle.std.proofs.Common.{◌≡◌, inl, inr, sym, ap, ◌∙◌}
use Rattle.wt_plan.specs.Tree.{plan_tree}
use Rattle.wt_known.specs.Facts as facts
use Rattle.wt_props.proofs.Joining.{joined, joined_nowhere, joined_ok}
use Rattle.wt_props.proofs.origins.+find_origin.Goals as goal

pub returns-then-not-all_right : goal.returns-then-not-all_right
returns-then-not-all_right t c =
    let cols = c.args.cols.now in
    let left = c.deref-left.result.now in
    let right = c.deref-right.result.now in
    let is : facts.origin (plan_tree c.args.plan.now) cols ≡ joined (plan_tree c.in-InnerJoin.left.value) (plan_tree c.in-InnerJoin.right.value) cols =
    elim c.in-InnerJoin.is [ inl h ↦ ap (λ p. facts.origin (plan_tree p) cols) h.2 | inr h ↦ ap (λ p. facts.origin (plan_tree p) cols) h.2 ] in
    let here : joined (plan_tree left) (plan_tree right) cols ≡ joined (plan_tree c.in-InnerJoin.left.value) (plan_tree c.in-InnerJoin.right.value) cols =
    ap (λ z. joined (plan_tree z) (plan_tree right) cols) c.deref-left.ensures ∙ ap (λ z. joined (plan_tree c.in-InnerJoin.left.value) (plan_tree z) cols) c.deref-right.ensures in
    sym (is ∙ sym here ∙ joined_nowhere (plan_tree left) (plan_tree right) cols c.all_left.result c.all_right.result c.all_left.ensures c.if-all_left.false c.all_right.ensures c.if-not-all_right.true)

pub returns-in_ok-cols-in-InnerJoin : goal.returns-in_ok-cols-in-InnerJoin
returns-in_ok-cols-in-InnerJoin t c =
    let cols = c.args.cols.now in
    let left = c.deref-left.result.now in
    let right = c.deref-right.result.now in
    let is : facts.origin (plan_tree c.args.plan.now) cols ≡ joined (plan_tree c.in-InnerJoin.left.value) (plan_tree c.in-InnerJoin.right.value) cols =
    elim c.in-InnerJoin.is [ inl h ↦ ap (λ p. facts.origin (plan_tree p) cols) h.2 | inr h ↦ ap (λ p. facts.origin (plan_tree p) cols) h.2 ] in
    let here : joined (plan_tree left) (plan_tree right) cols ≡ joined (plan_tree c.in-InnerJoin.left.value) (plan_tree c.in-InnerJoin.right.value) cols =
    ap (λ z. joined (plan_tree z) (plan_tree right) cols) c.deref-left.ensures ∙ ap (λ z. joined (plan_tree c.in-InnerJoin.left.value) (plan_tree z) cols) c.deref-right.ensures in
    joined_ok c.find_origin-in-InnerJoin.result (plan_tree left) (plan_tree right) cols c.as_slice-in-InnerJoin.result.now (facts.origin (plan_tree c.args.plan.now) cols)
    c.all_left.result c.all_right.result c.all_left.ensures c.if-all_left.false c.all_right.ensures c.if-not-all_right.false (c.as_slice-in-InnerJoin.ensures ∙ c.in_ok-cols-in-InnerJoin.ensures)
    (is ∙ sym here) c.find_origin-in-InnerJoin.ensures
