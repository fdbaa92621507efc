use Rattle.std.proofs.Common.{rules, arith, ◌≡◌, length, sym}
use Rattle.wt_conjunct.specs.Views.{conjunct_trees}
use Rattle.wt_joins.proofs.Listing.{all_free}
use Rattle.wt_joins.proofs.commas.freed.Goals as goal

pub returns-then-is_empty : goal.returns-then-is_empty
returns-then-is_empty c =
    let none : length c.args.commas.now ≡ 0 = search (rules, arith) in
    sym (all_free c.args.commas.now (conjunct_trees c.args.conjuncts.items) none)
