use Rattle.std.proofs.Common.{◌∙◌, ◌++◌, ◌∷◌, [], sym, ap, arith, length, append_assoc}
use Rattle.std.specs.Vec.Iter.{into_iter_items}
use Rattle.wt_ddl.specs.Settling.{add_element}
use Rattle.wt_ddl.proofs.Settled.{add_element_columns}
use Rattle.wt_ddl.proofs.Turns.{more_goes, more_fails}
use Rattle.wt_ddl.proofs.settling.add_elements.Goals as goal

pub add_element-requires : goal.add_element-requires
add_element-requires c = omega (arith, ap length c.loop-element.invariant.columns)

pub loop-element-preserved : goal.loop-element-preserved
loop-element-preserved c = record {
  exact = more_goes add_element c.args.table.now c.loop-element.table c.add_element.new.table c.loop-element.yielded c.in-Some.element c.loop-element.invariant.exact c.in_ok-add_element.ensures;
  split = append_assoc c.loop-element.yielded (c.in-Some.element ∷ []) (into_iter_items c.next.new.self) ∙ ap (λ l. c.loop-element.yielded ++ l) (sym c.in-Some.ensures.steps.0) ∙ c.loop-element.invariant.split;
  columns = add_element_columns c.loop-element.table c.add_element.new.table c.in-Some.element c.in_ok-add_element.ensures ∙ c.loop-element.invariant.columns;
}

pub returns-in_err-add_element : goal.returns-in_err-add_element
returns-in_err-add_element c =
    more_fails add_element c.args.table.now c.loop-element.table c.add_element.new.table c.loop-element.yielded c.args.elements.items (into_iter_items c.next.new.self) c.in-Some.element c.in_err-add_element.field-0.0 c.from_residual.result
    c.loop-element.invariant.exact (ap (λ l. c.loop-element.yielded ++ l) (sym c.in-Some.ensures.steps.0) ∙ c.loop-element.invariant.split) c.from_residual.ensures.1 c.in_err-add_element.ensures
