use Rattle.std.proofs.Common.{◌≡◌, true, false, Err, subst}
use Rattle.wt_symbol.specs.Sides.{pair_of}
use Rattle.wt_rule_text.specs.Trees.{rule_of}
use Rattle.wt_rule_line.specs.Sets.{FindsSet, IsSetOf}
use Rattle.wt_rule_line.proofs.LineLaws.{set_gives, weights_refused}
use Rattle.wt_rule_line.proofs.line.stated_set.Goals as goal

pub returns-in-Err : goal.returns-in-Err
returns-in-Err c =
    set_gives (rule_of c.args.parsed.now) (pair_of c.args.pair.now) c.in-Err.error c.requires.lawful c.requires.same
    (subst (λ l. FindsSet (pair_of c.args.pair.now) l (Err c.in-Err.error)) c.as_slice.ensures c.in-Err.ensures)

pub returns-else-has_weights : goal.returns-else-has_weights
returns-else-has_weights c =
    weights_refused (rule_of c.args.parsed.now) (pair_of c.args.pair.now) c.in-Ok.set c.requires.lawful c.requires.same
    (subst (λ l. IsSetOf (pair_of c.args.pair.now) c.in-Ok.set l) c.as_slice.ensures c.in-Ok.ensures)
    (λ h. let never : false ≡ true = c.if-has_weights.ensures.1 h in absurd (cc))
