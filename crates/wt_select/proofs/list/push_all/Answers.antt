use Rattle.std.proofs.Common.{arith, ◌≡◌, ◌++◌, ap, sym, ◌∙◌}
use Rattle.std.specs.Prelude.{flat_map}
use Rattle.std.proofs.lemmas.Grind.{common_steps}
use Rattle.wt_resolve.specs.declared.lookup.ScopeItem.{ScopeItem}
use Rattle.wt_select.proofs.Columns.{all_named}
use Rattle.wt_select.proofs.list.push_all.Goals as goal

pub returns : goal.returns
returns c =
    let whole : c.loop-item.out.items ≡ c.args.out.now.items ++ flat_map (λ (i : ScopeItem). i.names) c.args.items.now = grind (arith, common_steps) in
    whole ∙ ap (λ l. c.args.out.now.items ++ l) (sym (all_named c.args.items.now))
