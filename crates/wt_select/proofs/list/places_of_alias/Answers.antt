use Rattle.std.proofs.Common.{rules, ◌≡◌, true, false, not, cond, ap, sym, ◌∙◌}
use Rattle.std.specs.List.{list_any}
use Rattle.wt_query_rows.specs.Scopes.{is_of}
use Rattle.wt_query_plan.specs.Faults.{fault_if, is_empty}
use Rattle.wt_query_plan.specs.declared.fault.BuildFault.TheVariants as fault_kinds
use Rattle.wt_resolve.specs.Scoping.{inside, outside}
use Rattle.wt_select.proofs.Columns.{places_tell}
use Rattle.wt_select.proofs.list.places_of_alias.Goals as goal

pub returns-then-is_some_there : goal.returns-then-is_some_there
returns-then-is_some_there c =
    let t = is_of c.args.alias.now in
    let any : list_any t (inside c.args.scope.now) ≡ true = sym (places_tell t (inside c.args.scope.now)) ∙ ap (λ ps. not (is_empty ps)) (sym c.in_ok-places.ensures) ∙ search rules in
    (λ i. fault_if (not (any i)) (cond (list_any t (outside c.args.scope.now)) fault_kinds.CorrelatedColumn fault_kinds.UnknownColumn) c.args.at, c.in_ok-places.ensures)

pub returns : goal.returns
returns c =
    let t = is_of c.args.alias.now in
    let any : list_any t (inside c.args.scope.now) ≡ false = sym (places_tell t (inside c.args.scope.now)) ∙ ap (λ ps. not (is_empty ps)) (sym c.in_ok-places.ensures) ∙ search rules in
    λ i. fault_if (not (any i)) (sym c.in_ok-fault.ensures i) c.args.at
