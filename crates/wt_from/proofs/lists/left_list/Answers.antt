use Rattle.std.proofs.Common.{rules, ◌≡◌, ◌≤◌, length, not, nat_lt, None, ◌∙◌}
use Rattle.wt_ast.specs.Tree.{condition_tree}
use Rattle.wt_query_plan.specs.Faults.{conjunct_places, outer_fault}
use Rattle.wt_query_plan.proofs.Faultless.{neither, padded_alone, not_less}
use Rattle.wt_conjunct.specs.Views.{conjunct_trees}
use Rattle.wt_from.proofs.lists.left_list.Goals as goal

pub left_part-requires-clause-right : goal.left_part-requires-clause-right
left_part-requires-clause-right c =
    let n = length c.args.left.places.items in
    let js = conjunct_trees c.args.conjuncts.items in
    let ats = conjunct_places (condition_tree c.args.on.now) in
    let many : n ≡ c.len.result = search rules in
    let same : js ≡ conjunct_trees c.deref.result.now = search rules in
    let told : outer_fault (λ k. not (nat_lt k c.len.result)) c.len.result (conjunct_trees c.deref.result.now) ats ≡ None = (neither _ _ c.in_ok-told.ensures.0).0 in
    padded_alone (λ k. n ≤ k) (λ k. not (nat_lt k n)) (not_less n) n js ats c.requires.many ((λ i. outer_fault (λ k. not (nat_lt k (many i))) (many i) (same i) ats) ∙ told)
