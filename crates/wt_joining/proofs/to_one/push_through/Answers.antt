use Rattle.std.proofs.Common.{map, sym, ◌∙◌}
use Rattle.wt_facts.specs.Facts.{known_of}
use Rattle.wt_congruent.specs.Refs.{cond_behind, range_behind}
use Rattle.wt_joining.proofs.Lists.{on_ok}
use Rattle.wt_joining.proofs.OneLaws.{gained_through}
use Rattle.wt_joining.proofs.to_one.push_through.Goals as goal

pub returns-then-same_expr : goal.returns-then-same_expr
returns-then-same_expr c =
    on_ok c.push_one.result _ _
    (gained_through (known_of c.args.facts.now) c.args.ks.now (map range_behind c.args.ranges.now) (map cond_behind c.args.refs.now) c.args.term.now.pieces c.args.end c.args.other _ _ (sym c.same_expr.ensures ∙ c.if-same_expr.true)) c.push_one.ensures
