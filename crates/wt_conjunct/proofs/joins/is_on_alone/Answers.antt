use Rattle.std.proofs.Common.{rules, ◌≡◌, ap, ◌∙◌}
use Rattle.std.specs.List.{list_all}
use Rattle.wt_conjunct.specs.Views.{conjunct_tree, columns_once, is_on}
use Rattle.wt_conjunct.proofs.OuterFaults.{all_once}
use Rattle.wt_conjunct.proofs.joins.is_on_alone.Goals as goal

pub returns : goal.returns
returns c =
    let j = conjunct_tree c.args.conjunct.now in
    let cols : c.as_slice.result.now ≡ columns_once j = c.as_slice.ensures ∙ c.in_ok-cols.ensures in
    c.are_on.ensures ∙ ap (list_all (is_on c.args.side c.args.n)) cols ∙ all_once (is_on c.args.side c.args.n) j
