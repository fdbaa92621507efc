use Rattle.std.proofs.Common.{◌≡◌, map, sym, ap, ◌∙◌, subst, arith}
use Rattle.std.specs.Prelude.{slice_index_or, IfOk}
use Rattle.wt_symbol.specs.Sides.{tree_of}
use Rattle.wt_instance.specs.Rows.{leaf_columns}
use Rattle.wt_plan.specs.Tree.{plan_tree, table}
use Rattle.wt_plan.specs.Measures.{width}
use Rattle.wt_plan.specs.WellFormed.{Narrow}
use Rattle.wt_plan.proofs.Narrowness.{narrow_width}
use Rattle.wt_matching.specs.Filling.{header}
use Rattle.wt_found.specs.Seen.{named, assigned_in}
use Rattle.wt_found.proofs.Reading.{small_min}
use Rattle.wt_fill.proofs.Knowing.{each_or}
use Rattle.wt_matching.proofs.FillLaws.{leaf_width}
use Rattle.wt_fill.proofs.filling.+side_columns.Goals as goal

pub returns-in-Input : goal.returns-in-Input
returns-in-Input t c =
    let A = c.args.given.now.anchors.now in
    let m = assigned_in c.args.given.now.found.now in
    let leaf = c.in-Input.leaf in
    let p = plan_tree c.leaf.result.now in
    let narrow : Narrow p = subst Narrow (sym c.leaf.ensures) (each_or Narrow m.leaves leaf (table 0 0) c.requires.narrow (omega arith)) in
    let wide : c.width.result ≡ slice_index_or (map width m.leaves) leaf 0 =
    c.width.ensures.exact ∙ (small_min (width p) (narrow_width p narrow) ∙ (ap width c.leaf.ensures ∙ sym (leaf_width m.leaves leaf))) in
    subst (λ z. IfOk c.leaf_columns.result (λ columns. named columns.items ≡ z)) (ap (leaf_columns leaf 0) wide ∙ ap (λ s. header s A m) (sym (ap tree_of c.in-Input.is))) c.leaf_columns.ensures
