use Rattle.std.proofs.Common.{◌≡◌, take, map}
use Rattle.wt_value.specs.declared.value.Value.TheVariants.{Null}
use Rattle.wt_form_rows.proofs.values.nulls_for.Given as goal

abbrev pub invariant-loop-number : goal.invariant-loop-number
invariant-loop-number l = l.row ≡ map (λ n. Null) (take l._number-index l.numbers)
