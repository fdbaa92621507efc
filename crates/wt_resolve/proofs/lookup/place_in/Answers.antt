use Rattle.std.proofs.Common.{rules, ◌≡◌, true, false, sym, ◌∙◌}
use Rattle.wt_query_rows.specs.Scopes.{alias_fits}
use Rattle.wt_resolve.proofs.Lookups.{place_item}
use Rattle.wt_resolve.proofs.lookup.place_in.Goals as goal

pub returns-then-alias_fits : goal.returns-then-alias_fits
returns-then-alias_fits c =
    let fit : alias_fits c.args.c.now.table c.args.item.now.alias ≡ true = search rules in
    c.first_named.ensures ∙ sym (place_item c.args.c.now c.args.item.now true fit)

pub returns-else-alias_fits : goal.returns-else-alias_fits
returns-else-alias_fits c =
    let fit : alias_fits c.args.c.now.table c.args.item.now.alias ≡ false = search rules in
    c.width.ensures ∙ sym (place_item c.args.c.now c.args.item.now false fit)
