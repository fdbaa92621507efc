use Rattle.std.proofs.Common.{rules, ◌≡◌, ◌+◌, map, subst}
use Rattle.std.specs.Prelude.{IfOk}
use Rattle.wt_place.proofs.Sorting.{raised_exact}
use Rattle.wt_place.proofs.condition.raised_columns.Goals as goal

pub returns : goal.returns
returns c = subst (λ l. IfOk c.raised_at_most.result (λ higher. higher ≡ l)) (raised_exact c.args.shift c.args.cols.now c.requires) c.raised_at_most.ensures
