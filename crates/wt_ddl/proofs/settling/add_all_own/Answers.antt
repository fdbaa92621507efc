use Rattle.std.proofs.Common.{◌∙◌, ◌++◌, ◌∷◌, [], sym, ap, arith, length, append_assoc}
use Rattle.std.specs.Vec.Iter.{into_iter_items}
use Rattle.wt_ddl.specs.Settling.{add_own}
use Rattle.wt_ddl.proofs.Settled.{add_own_columns}
use Rattle.wt_ddl.proofs.Turns.{more_goes, more_fails}
use Rattle.wt_ddl.proofs.settling.add_all_own.Goals as goal

pub add_own-requires : goal.add_own-requires
add_own-requires c = omega (arith, ap length c.loop-rule.invariant.columns)

pub loop-rule-preserved : goal.loop-rule-preserved
loop-rule-preserved c = record {
  exact = more_goes (add_own c.args.named.now) c.args.table.now c.loop-rule.table c.add_own.new.table c.loop-rule.yielded c.in-Some.rule c.loop-rule.invariant.exact c.in_ok-add_own.ensures;
  split = append_assoc c.loop-rule.yielded (c.in-Some.rule ∷ []) (into_iter_items c.next.new.self) ∙ ap (λ l. c.loop-rule.yielded ++ l) (sym c.in-Some.ensures.steps.0) ∙ c.loop-rule.invariant.split;
  columns = add_own_columns c.args.named.now c.loop-rule.table c.add_own.new.table c.in-Some.rule c.in_ok-add_own.ensures ∙ c.loop-rule.invariant.columns;
}

pub returns-in_err-add_own : goal.returns-in_err-add_own
returns-in_err-add_own c =
    more_fails (add_own c.args.named.now) c.args.table.now c.loop-rule.table c.add_own.new.table c.loop-rule.yielded c.args.rules.items (into_iter_items c.next.new.self) c.in-Some.rule c.in_err-add_own.field-0.0 c.from_residual.result
    c.loop-rule.invariant.exact (ap (λ l. c.loop-rule.yielded ++ l) (sym c.in-Some.ensures.steps.0) ∙ c.loop-rule.invariant.split) c.from_residual.ensures.1 c.in_err-add_own.ensures
