use Rattle.std.proofs.Common.{arith, ◌≡◌, ◌++◌, [], cond, ap, sym, ◌∙◌}
use Rattle.std.specs.Prelude.{flat_map}
use Rattle.std.proofs.lemmas.Grind.{common_steps}
use Rattle.std.specs.Str.{bytes_eq}
use Rattle.wt_resolve.specs.declared.lookup.ScopeItem.{ScopeItem}
use Rattle.wt_select.proofs.Columns.{under_named}
use Rattle.wt_select.proofs.list.push_under.Goals as goal

pub returns : goal.returns
returns c =
    let whole : c.loop-item.out.items ≡ c.args.out.now.items ++ flat_map (λ (i : ScopeItem). cond (bytes_eq c.args.alias.now i.alias) i.names []) c.args.items.now = grind (arith, common_steps) in
    whole ∙ ap (λ l. c.args.out.now.items ++ l) (sym (under_named c.args.alias.now c.args.items.now))
