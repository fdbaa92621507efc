use Rattle.std.proofs.Common.{◌≡◌, ℕ, List, map, length, sym, ap, subst, ◌∙◌}
use Rattle.std.specs.Prelude.{IfOk}
use Rattle.wt_plan.specs.Tree.{plan_tree, proj, inner_join, left_join, dedup}
use Rattle.wt_plan.specs.Measures.{width}
use Rattle.wt_known.specs.Sets.{all_below, listed_at, is_whole}
use Rattle.wt_unique.specs.Answering.{both_each, either_each}
use Rattle.wt_unique.proofs.Answering.{inner_join_ok, left_join_ok, proj_ok, dedup_ok}
use Rattle.wt_unique.proofs.walk.+uniques.Goals as goal

pub returns-in_ok-inner-in-Proj : goal.returns-in_ok-inner-in-Proj
returns-in_ok-inner-in-Proj t c =
    let p = c.deref.result.now in
    proj_ok c.args.tables.now c.of_proj.result (plan_tree c.args.plan.now) c.in-Proj.list (plan_tree p) c.args.sets.now c.in_ok-listed-in-Proj.field-0 c.as_slice-in-Proj-3.result.now
    (ap plan_tree c.in-Proj.is ∙ sym (ap (λ z. proj c.in-Proj.list (plan_tree z)) c.deref.ensures))
    (c.in_ok-listed-in-Proj.ensures ∙ ap (λ z. map (listed_at z) c.args.sets.now) c.as_slice.ensures)
    (c.as_slice-in-Proj-3.ensures ∙ c.in_ok-inner-in-Proj.ensures)
    (subst (λ (l : List ℕ). IfOk c.of_proj.result (λ r. r ≡ both_each (map (all_below (length l)) c.args.sets.now) c.as_slice-in-Proj-3.result.now)) c.as_slice-in-Proj.ensures
    (subst (λ (s : List (List ℕ)). IfOk c.of_proj.result (λ r. r ≡ both_each (map (all_below (length c.as_slice-in-Proj.result.now)) s) c.as_slice-in-Proj-3.result.now))
    c.as_slice-in-Proj-2.ensures c.of_proj.ensures))

pub returns-in_ok-rights-in-InnerJoin : goal.returns-in_ok-rights-in-InnerJoin
returns-in_ok-rights-in-InnerJoin t c =
    let a = c.in-InnerJoin.a in
    let b = c.in-InnerJoin.b in
    let p = c.deref-left.result.now in
    let q = c.deref-in-InnerJoin.result.now in
    inner_join_ok c.args.tables.now c.of_join.result (plan_tree c.args.plan.now) a b (plan_tree p) (plan_tree q) c.args.sets.now
    c.in_ok-inner_lefts-in-InnerJoin.field-0 c.in_ok-inner_rights-in-InnerJoin.field-0 c.as_slice-in-InnerJoin.result.now c.as_slice-in-InnerJoin-2.result.now
    (ap plan_tree c.in-InnerJoin.is
    ∙ sym (ap (λ z. inner_join a b (plan_tree z) (plan_tree q)) c.deref-left.ensures ∙ ap (λ z. inner_join a b (plan_tree c.in-InnerJoin.left.value) (plan_tree z)) c.deref-in-InnerJoin.ensures))
    c.in_ok-inner_lefts-in-InnerJoin.ensures c.in_ok-inner_rights-in-InnerJoin.ensures (c.as_slice-in-InnerJoin.ensures ∙ c.in_ok-lefts-in-InnerJoin.ensures)
    (c.as_slice-in-InnerJoin-2.ensures ∙ c.in_ok-rights-in-InnerJoin.ensures) c.of_join.ensures

pub returns-in_ok-rights-in-LeftJoin : goal.returns-in_ok-rights-in-LeftJoin
returns-in_ok-rights-in-LeftJoin t c =
    let a = c.in-LeftJoin.a in
    let b = c.in-LeftJoin.b in
    let p = c.deref-left-in-LeftJoin.result.now in
    let q = c.deref-in-LeftJoin.result.now in
    left_join_ok c.args.tables.now c.of_join-in-LeftJoin.result (plan_tree c.args.plan.now) a b (plan_tree p) (plan_tree q) c.args.sets.now
    c.in_ok-left_lefts-in-LeftJoin.field-0 c.in_ok-left_rights-in-LeftJoin.field-0 c.as_slice-in-LeftJoin.result.now c.as_slice-in-LeftJoin-2.result.now
    (ap plan_tree c.in-LeftJoin.is
    ∙ sym (ap (λ z. left_join a b (plan_tree z) (plan_tree q)) c.deref-left-in-LeftJoin.ensures ∙ ap (λ z. left_join a b (plan_tree c.in-LeftJoin.left.value) (plan_tree z)) c.deref-in-LeftJoin.ensures))
    c.in_ok-left_lefts-in-LeftJoin.ensures c.in_ok-left_rights-in-LeftJoin.ensures (c.as_slice-in-LeftJoin.ensures ∙ c.in_ok-lefts-in-LeftJoin.ensures)
    (c.as_slice-in-LeftJoin-2.ensures ∙ c.in_ok-rights-in-LeftJoin.ensures) c.of_join-in-LeftJoin.ensures

pub returns-in_ok-inner-in-Dedup : goal.returns-in_ok-inner-in-Dedup
returns-in_ok-inner-in-Dedup t c =
    let p = c.deref-plan.result.now in
    dedup_ok c.args.tables.now c.of_dedup.result (plan_tree c.args.plan.now) (plan_tree p) c.args.sets.now c.as_slice-in-Dedup-2.result.now
    (ap plan_tree c.in-Dedup.is ∙ sym (ap (λ z. dedup (plan_tree z)) c.deref-plan.ensures))
    (c.as_slice-in-Dedup-2.ensures ∙ c.in_ok-inner-in-Dedup.ensures)
    (subst (λ (s : List (List ℕ)). IfOk c.of_dedup.result (λ r. r ≡ either_each c.as_slice-in-Dedup-2.result.now (map (is_whole (width (plan_tree p))) s))) c.as_slice-in-Dedup.ensures c.of_dedup.ensures)
