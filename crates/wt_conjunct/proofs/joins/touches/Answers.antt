use Rattle.std.proofs.Common.{rules, ◌≡◌, ap, ◌∙◌}
use Rattle.std.specs.List.{list_any}
use Rattle.wt_conjunct.specs.Views.{conjunct_tree, columns_once, is_on}
use Rattle.wt_conjunct.proofs.OuterFaults.{some_once}
use Rattle.wt_conjunct.proofs.joins.touches.Goals as goal

pub returns : goal.returns
returns c =
    let j = conjunct_tree c.args.conjunct.now in
    let cols : c.as_slice.result.now ≡ columns_once j = c.as_slice.ensures ∙ c.in_ok-cols.ensures in
    c.some_on.ensures ∙ ap (list_any (is_on c.args.side c.args.n)) cols ∙ some_once (is_on c.args.side c.args.n) j
